use Rattle.std.proofs.Common.{◌∙◌, ap, sym}
use Rattle.mdb_pool_session.proofs.Stepping.{goes-on}
use Rattle.mdb_pool_session.proofs.pool_session.PoolSession.step.Goals as goal

pub invariant_of-self-2 : goal.invariant_of-self-2
invariant_of-self-2 c =
    goes-on c.self.inside.core c.step-done.new.self c.self.inside.past.value c.self.inside.last _ c.step-done.new.log c.args.seat (record { moment = c.args.moment; act = c.in_ok-act.act }) c.self.invariant
    c.in_ok-done.ensures.home c.new-log.ensures c.in_ok-done.ensures.logs c.of-past.result.value (c.of-past.ensures ∙ ap (λ l. l.entries) (sym c.self.view_is))
