use Rattle.std.proofs.Common.{◌∙◌, sym}
use Rattle.mdb_session.proofs.session.Session.act.Goals as goal
use Rattle.mdb_session.proofs.Kept.{still-keeps, goes-on}

pub invariant_of-self : goal.invariant_of-self
invariant_of-self c = still-keeps c.self.inside.core c.step.new.self c.self.inside.past.value c.self.inside.last c.self.invariant c.in_err-reply.ensures.err_core

pub invariant_of-self-2 : goal.invariant_of-self-2
invariant_of-self-2 c =
    goes-on c.self.inside.core c.step.new.self c.self.inside.past.value c.self.inside.last _ c.step.new.log c.args.seat c.args.step.now c.self.invariant
    c.in_ok-reply.ensures.options c.new-log.ensures c.in_ok-reply.ensures.logs c.requires c.of-past.result.value (c.of-past.ensures ∙ sym c.self.view_is)
