use Rattle.std.proofs.Common.{sym, ap, ◌∙◌, refl}
use Rattle.mdb_tallies.specs.Changes.{done_now}
use Rattle.mdb_judging.proofs.Touches.{reaches_none, reaches_all}
use Rattle.mdb_judging.proofs.touched.Touched.touch_all.Goals as goal

pub returns-then-is_done : goal.returns-then-is_done
returns-then-is_done c = reaches_none c.args.how c.args.party c.args.tables.now c.args.self.now (ap (done_now c.args.how) (sym c.get-known.ensures) ∙ sym c.is_done.ensures ∙ c.if-is_done.true)
