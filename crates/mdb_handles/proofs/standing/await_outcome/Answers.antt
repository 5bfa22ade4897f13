use Rattle.std.proofs.Common.{ℕ, refl, subst, ◌∙◌}
use Rattle.mdb_handles.specs.Standing.{MayBe}
use Rattle.mdb_workers.proofs.Adding.{made_none, made_saw}
use Rattle.mdb_handles.proofs.Waiting.{ended_any, not_open, given_up}
use Rattle.mdb_handles.proofs.standing.await_outcome.Goals as goal

pub loop-init : goal.loop-init
loop-init g c = record { none = made_none g.C.Core.stands c.args.seat.now; same = refl }

pub loop-preserved : goal.loop-preserved
loop-preserved g c = record { none = made_saw g.C.Core.stands c.args.seat.now c.loop.seat c.glance-outlook.new.seat c.loop.invariant.none c.glance-outlook.ensures.saw; same = c.glance-outlook.ensures.told.1 ∙ c.loop.invariant.same }

pub returns-in-Settled : goal.returns-in-Settled
returns-in-Settled g c = record { saw = made_saw g.C.Core.stands c.args.seat.now c.loop.seat c.glance-outlook.new.seat c.loop.invariant.none c.glance-outlook.ensures.saw; outlook = subst (λ (r : ℕ). MayBe r c.glance-outlook.new.seat.seen c.glance-outlook.result.state) c.loop.invariant.same c.glance-outlook.ensures.told.0; ended = not_open _ _ c.in-Settled.is; fits = c.glance-outlook.ensures.fits }

pub returns-in-GivenUp : goal.returns-in-GivenUp
returns-in-GivenUp g c = record { saw = made_saw g.C.Core.stands c.args.seat.now c.loop.seat c.glance-outlook.new.seat c.loop.invariant.none c.glance-outlook.ensures.saw; outlook = subst (λ (r : ℕ). MayBe r c.glance-outlook.new.seat.seen c.glance-outlook.result.state) c.loop.invariant.same c.glance-outlook.ensures.told.0; ended = given_up _ _ c.in-GivenUp.is; fits = c.glance-outlook.ensures.fits }

pub returns-in-None-left : goal.returns-in-None-left
returns-in-None-left g c = record { saw = made_saw g.C.Core.stands c.args.seat.now c.loop.seat c.glance-outlook.new.seat c.loop.invariant.none c.glance-outlook.ensures.saw; outlook = subst (λ (r : ℕ). MayBe r c.glance-outlook.new.seat.seen c.glance-outlook.result.state) c.loop.invariant.same c.glance-outlook.ensures.told.0; ended = ended_any _ _ c.in-None-left.ensures; fits = c.glance-outlook.ensures.fits }
