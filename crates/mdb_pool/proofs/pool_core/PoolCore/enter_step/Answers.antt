use Rattle.std.proofs.Common.{◌≡◌, None, subst, sym}
use Rattle.mdb_pool.specs.Core.{PoolCore}
use Rattle.mdb_pool.specs.Planning.{DoesLogged}
use Rattle.mdb_pool.specs.Refusing.{refusal_now}
use Rattle.mdb_pool.proofs.Answered.Steps.{logged-stands}
use Rattle.mdb_pool.proofs.SameAnswers.KeptTheSame.{logged_same, stands_same}
use Rattle.mdb_pool.proofs.pool_core.PoolCore.enter_step.Goals as goal

pub returns-in-Ok-clause-does : goal.returns-in-Ok-clause-does
returns-in-Ok-clause-does c =
    let before = c.args.log.now in let after = c.enter_step.new.log in let step = c.args.step.now in let reply = c.in-Ok.reply in
    subst (λ (p : PoolCore). DoesLogged p c.commit.new.self before after c.args.seat step reply) c.self.view_is
    (logged_same c.self.inside.draft c.enter_step.new.self c.commit.new.self before after c.args.seat step reply c.commit.ensures.same c.in-Ok.ensures.does)

pub invariant_of-self : goal.invariant_of-self
invariant_of-self c =
    let some = c.self.invariant.1 in
    let step = c.args.step.now in
    let stands = logged-stands c.self.inside.draft step (subst (λ (p : PoolCore). refusal_now p step ≡ None) (sym c.self.view_is) c.requires.passes) c.enter_step.new.self c.args.log.now c.enter_step.new.log c.args.seat c.in-Ok.reply c.in-Ok.ensures.does some in
    (c.commit.ensures.now, (_, stands_same c.enter_step.new.self c.commit.new.self _ c.commit.ensures.same stands.1))
