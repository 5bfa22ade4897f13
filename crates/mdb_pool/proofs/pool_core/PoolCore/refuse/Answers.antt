use Rattle.std.proofs.Common.{◌++◌, ◌∷◌, [], ◌∙◌, ap}
use Rattle.mdb_log.specs.declared.reply.Reply.TheVariants.{Refused}
use Rattle.mdb_pool.proofs.Answered.Steps.{refuses-logs}
use Rattle.mdb_pool.proofs.pool_core.PoolCore.refuse.Goals as goal

pub returns-clause-logs : goal.returns-clause-logs
returns-clause-logs c = refuses-logs c.args.self.now c.args.log.now c.enter.new.self c.args.seat c.args.step.now c.args.why c.requires
    (c.in_ok-enter.ensures.entry ∙ ap (λ facts. c.args.log.now ++ record { seat = c.args.seat; step = c.args.step.now; reply = Refused c.args.why; facts = facts } ∷ []) c.new.ensures.items)
