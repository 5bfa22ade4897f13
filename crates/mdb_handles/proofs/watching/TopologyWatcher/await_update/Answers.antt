use Rattle.std.proofs.Common.{◌≡◌, rules, arith, subst, ap, ◌∙◌, ◌<◌, false, []}
use Rattle.mdb_handles.specs.declared.watching.TopologyWatcher.{TopologyWatcher}
use Rattle.mdb_handles.specs.Watching.{with_mark, wanting, Retracted}
use Rattle.mdb_workers.proofs.Adding.{made_then, made_saw}
use Rattle.mdb_handles.proofs.Looking.{found_later}
use Rattle.mdb_handles.proofs.watching.TopologyWatcher.await_update.Goals as goal

pub returns-in_err-mark-clause-err : goal.returns-in_err-mark-clause-err
returns-in_err-mark-clause-err g c =
    let saw = made_saw g.C.Core.stands c.args.seat.now c.loop.seat c.glance-count.new.seat c.loop.invariant.none c.glance-count.ensures.saw in
    let none = made_then g.C.Core.stands c.args.seat.now c.glance-count.new.seat c.mark.new.seat [] [] saw c.in_err-mark.ensures.err.0 in
    let same = c.in_err-mark.ensures.err.1 ∙ c.loop.invariant.self in
    search rules

pub returns-then-published-self-clause-found : goal.returns-then-published-self-clause-found
returns-then-published-self-clause-found g c =
    let is = c.loop.invariant.self in
    -- the laws of the core, where this thread runs
    let laws = g.met.C.Core g.world.𝓛 g.world.𝓜 g.world.𝓡 ((λ s x. x), (λ x. x), (λ x. x), λ x. x) in
    found_later g.C.Core.stands g.C.Core.publications laws.publications_grow c.glance-count.result.1 c.args.seat.now c.glance-count.new.seat c.mark.new.seat c.args.self.now _
    (made_saw g.C.Core.stands c.args.seat.now c.loop.seat c.glance-count.new.seat c.loop.invariant.none c.glance-count.ensures.saw)
    c.glance-count.ensures.told.0
    (subst (λ (w : TopologyWatcher). w.seen < c.glance-count.result.1) is c.if-published-self.true)
    (subst (Retracted g.C.Core.stands c.glance-count.new.seat c.mark.new.seat) is c.in_ok-mark.ensures.ok.0)
    (c.in_ok-mark.ensures.ok.1 ∙ ap (λ (w : TopologyWatcher). with_mark (wanting w false) c.glance-count.result.1) is)

pub loop-preserved : goal.loop-preserved
loop-preserved g c = record {
  none = made_saw g.C.Core.stands c.args.seat.now c.loop.seat c.glance-count.new.seat c.loop.invariant.none c.glance-count.ensures.saw;
  self = c.loop.invariant.self;
}

pub returns-then-is_over-clause-found : goal.returns-then-is_over-clause-found
returns-then-is_over-clause-found g c =
    let same : c.loop.self.seen ≡ c.args.self.now.seen = ap (λ (w : TopologyWatcher). w.seen) c.loop.invariant.self in (
      c.glance-count.ensures.told.1 c.if-is_over.true,
      omega (arith, c.glance-count.ensures.told.0, c.if-published-self.false, same),
      c.loop.invariant.self,
      made_saw g.C.Core.stands c.args.seat.now c.loop.seat c.glance-count.new.seat c.loop.invariant.none c.glance-count.ensures.saw,
      c.glance-count.ensures.fits,
    )
