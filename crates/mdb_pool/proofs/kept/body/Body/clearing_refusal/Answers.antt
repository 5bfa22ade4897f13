use Rattle.std.proofs.Common.{Some, if◌then◌else◌, nat_lt, ◌∙◌, ap}
use Rattle.mdb_log.specs.declared.reply.Refused.TheVariants.{TimeBack}
use Rattle.mdb_pool.proofs.kept.body.Body.clearing_refusal.Goals as goal

pub returns : goal.returns
returns c = λ pool error. c.refusal_at.ensures ∙ ap (λ row. if nat_lt c.args.moment c.args.self.now.last.now then Some (TimeBack c.args.self.now.last.now) else row) (c.clear_refusal.ensures pool error)
