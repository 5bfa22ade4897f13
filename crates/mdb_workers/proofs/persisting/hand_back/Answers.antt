use Rattle.std.proofs.Common.{refl, subst, ◌∙◌}
use Rattle.mdb_log.specs.declared.pooled.PooledConnection.{PooledConnection}
use Rattle.mdb_log.specs.declared.step.Act.TheVariants.{Return}
use Rattle.mdb_log.specs.declared.reply.Reply.TheVariants.{Done, Refused}
use Rattle.mdb_workers.specs.Making.{OneMore}
use Rattle.mdb_workers.proofs.Adding.{made_none, made_saw, one_after}
use Rattle.mdb_workers.proofs.persisting.hand_back.Goals as goal

pub loop-init : goal.loop-init
loop-init g c = record { none = made_none g.C.Core.stands c.args.seat.now; connection = refl }

pub loop-preserved : goal.loop-preserved
loop-preserved g c = record {
  none = made_saw g.C.Core.stands c.args.seat.now c.try_back.new.seat c.pause.new.seat (made_saw g.C.Core.stands c.args.seat.now c.loop.seat c.try_back.new.seat c.loop.invariant.none c.in-Again.ensures.tried.1) c.pause.ensures;
  connection = c.in-Again.ensures.tried.0 ∙ c.loop.invariant.connection;
}

pub returns-in-Back-clause-ok : goal.returns-in-Back-clause-ok
returns-in-Back-clause-ok g c = one_after g.C.Core.stands c.args.seat.now c.loop.seat c.try_back.new.seat (Return c.args.connection.party c.args.used) Done c.loop.invariant.none
    (subst (λ (x : PooledConnection). OneMore g.C.Core.stands c.loop.seat c.try_back.new.seat (Return x.party c.args.used) Done) c.loop.invariant.connection c.in-Back.ensures.tried)

pub returns-in-Refused-clause-err : goal.returns-in-Refused-clause-err
returns-in-Refused-clause-err g c = (
  c.in-Refused.ensures.tried.0 ∙ c.loop.invariant.connection,
  one_after g.C.Core.stands c.args.seat.now c.loop.seat c.try_back.new.seat (Return c.args.connection.party c.args.used) (Refused c.in-Refused.unreturned.why) c.loop.invariant.none
      (subst (λ (x : PooledConnection). OneMore g.C.Core.stands c.loop.seat c.try_back.new.seat (Return x.party c.args.used) (Refused c.in-Refused.unreturned.why)) c.loop.invariant.connection c.in-Refused.ensures.tried.1),
)
