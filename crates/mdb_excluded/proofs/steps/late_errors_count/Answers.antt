use Rattle.std.proofs.Common.{◌≡◌, true, false, refl, ap}
use Rattle.mdb_log.specs.declared.reply.Reply.TheVariants.{Changed}
use Rattle.mdb_excluded.proofs.steps.late_errors_count.Goals as goal

-- the error concerns the server no more
pub returns : goal.returns
returns c = ((refl, refl), refl, λ later w. let e : Changed true ≡ Changed false = ap (λ a. a.reply) (w.1.1.1.1.1.1.0.errors tt refl).answered in cc)
