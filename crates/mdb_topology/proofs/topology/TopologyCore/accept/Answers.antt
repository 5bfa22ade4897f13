use Rattle.std.proofs.Common.{ℕ, ◌≡◌, ◌<◌, ◌+◌, ◌&&◌, ◌||◌, ◌++◌, Bool, true, nat_lt, List, [], ◌∷◌, length, Option, Some, None, is_some, refl, sym, ◌∙◌, ap, subst, arith}
use Rattle.std.specs.Prelude.{nat_le, unwrap_or}
use Rattle.mdb_intervals.specs.Spans.{SpanSet, has as is_within}
use Rattle.mdb_describe.specs.declared.description.ServerDescription.{ServerDescription}
use Rattle.mdb_describe.specs.declared.topology.TopologyDescription.{TopologyDescription}
use Rattle.mdb_describe.specs.Update.{stored}
use Rattle.mdb_log.specs.declared.log.Entry.{Entry}
use Rattle.mdb_log.specs.declared.step.Step.{Step}
use Rattle.mdb_log.specs.Connections.{has, one_if}
use Rattle.mdb_log.specs.Requests.{names_party}
use Rattle.mdb_monitor.specs.declared.monitor.MonitorCore.{MonitorCore}
use Rattle.mdb_pool.specs.Core.{PoolCore}
use Rattle.mdb_driver_pools.specs.declared.pools.Pools.{Pools}
use Rattle.mdb_topology.specs.declared.topology.TopologyCore.{TopologyCore}
use Rattle.mdb_topology.specs.declared.transition.Transition.{Transition}
use Rattle.mdb_topology.specs.Checking.{monitors_after, numbers_after, watchers_after}
use Rattle.mdb_driver_pools.specs.Living.{lives_at}
use Rattle.mdb_driver_pools.specs.Planned.{LeadsAll}
use Rattle.mdb_topology.specs.Standing.{IsSame}
use Rattle.mdb_topology.specs.Stepping.{placed, with_place}
use Rattle.mdb_topology.proofs.WholeSteps.OneMoreEntry.{IsTaken, taken-logs}
use Rattle.mdb_topology.proofs.topology.TopologyCore.accept.Goals as goal

-- Room is made in w, which is r then; the step is taken, which leads to t; its party is noted.
module _ (w r t : TopologyCore) (n : Transition) (step : Step) (noted : Pools) (count : ℕ) (halted : Bool) (same : IsSame w r)
    (led_to : (later : List PoolCore) → LeadsAll n.changes.items r.pools.cores.items later → later ≡ t.pools.cores.items)
    (known_is : t.pools.known ≡ r.pools.known)
    (kept_are : (p : ℕ) → lives_at t.pools.cores.items p ≡ true → has p r.monitors.kept || (nat_le (length r.monitors.items) p && nat_lt p (length t.monitors.items)) ≡ true → has p t.monitors.kept ≡ true)
    (last_is : t.pools.last ≡ step.moment)
    (monitors_are : t.monitors.items ≡ monitors_after n.monitoring r.monitors.items ++ n.monitors.items)
    (fresh_is : t.fresh ≡ numbers_after n.monitoring r.fresh)
    (watchers_are : t.watchers ≡ watchers_after n.monitoring r.watchers)
    (description_is : t.description ≡ unwrap_or n.description r.description)
    (others : t ≡ record r { pools = t.pools; monitors = t.monitors; description = t.description; fresh = t.fresh; watchers = t.watchers })
    (names : (q : ℕ) → is_within q noted.known.spans ≡ names_party step.act q || is_within q t.pools.known.spans)
    (alike : noted ≡ record t.pools { known = noted.known })
    (count_is : count ≡ w.published + one_if (is_some n.description))
    (halted_is : halted ≡ n.stops || t.stopped) where
  cores-same : noted.cores.items ≡ t.pools.cores.items
  cores-same = ap (λ (p : Pools). p.cores.items) alike

  taken : IsTaken w (record t { pools = noted; published = count; stopped = halted }) n step
  taken = record {
    options = ap (λ (x : TopologyCore). x.options) others ∙ same.options;
    led = λ later leads. led_to later (subst (λ (ps : List PoolCore). LeadsAll n.changes.items ps later) (sym same.cores) leads) ∙ sym cores-same;
    last = ap (λ (p : Pools). p.last) alike ∙ last_is;
    monitors = monitors_are ∙ ap (λ (ms : List MonitorCore). monitors_after n.monitoring ms ++ n.monitors.items) same.monitors;
    description = description_is ∙ ap (unwrap_or n.description) same.description;
    published = count_is;
    stopped = halted_is ∙ ap (λ (b : Bool). n.stops || b) (ap (λ (x : TopologyCore). x.stopped) others ∙ same.stopped);
    fresh = fresh_is ∙ ap (numbers_after n.monitoring) same.fresh;
    watchers = watchers_are ∙ ap (watchers_after n.monitoring) same.watchers;
    known = λ q. names q ∙ ap (λ (b : Bool). names_party step.act q || b) (ap (λ (k : SpanSet). is_within q k.spans) known_is ∙ ap (is_within q) same.known);
    kept = λ p lives cond.
        kept_are p (subst (λ (xs : List PoolCore). lives_at xs p ≡ true) cores-same lives)
        (subst (λ (ks : List ℕ). has p ks || (nat_le (length r.monitors.items) p && nat_lt p (length t.monitors.items)) ≡ true) (sym same.kept)
        (subst (λ (ms : List MonitorCore). has p w.monitors.kept || (nat_le (length ms) p && nat_lt p (length t.monitors.items)) ≡ true) (sym same.monitors) cond));
  }

-- and then a description takes its place
with-placed : (server : Option ServerDescription) (w v : TopologyCore) (n : Transition) (step : Step) (count : ℕ) → IsTaken w v n step → count ≡ w.published + one_if (is_some server || is_some n.description)
    → IsTaken w (record v { published = count; description = placed server v.description }) (with_place server w n) step
with-placed None w v n step count e many = record {
  options = e.options;
  led = e.led;
  last = e.last;
  monitors = e.monitors;
  description = e.description;
  published = many;
  stopped = e.stopped;
  fresh = e.fresh;
  watchers = e.watchers;
  known = e.known;
  kept = e.kept;
}
with-placed (Some s) w v n step count e many = record {
  options = e.options;
  led = e.led;
  last = e.last;
  monitors = e.monitors;
  description = ap (λ (t : TopologyDescription). stored t s) e.description;
  published = many;
  stopped = e.stopped;
  fresh = e.fresh;
  watchers = e.watchers;
  known = e.known;
  kept = e.kept;
}

-- its reply and its facts stay
entered-same : (server : Option ServerDescription) (w : TopologyCore) (n : Transition) (step : Step) (seat : ℕ) (log after : List Entry) → after ≡ log ++ record { seat = seat; step = step; reply = n.reply; facts = n.facts.items } ∷ []
    → after ≡ log ++ record { seat = seat; step = step; reply = (with_place server w n).reply; facts = (with_place server w n).facts.items } ∷ []
entered-same None w n step seat log after e = e
entered-same (Some s) w n step seat log after e = e

pub note-requires : goal.note-requires
note-requires c =
    let k = c.in-Ok.ensures.known in
    subst (λ (m : SpanSet). length m.spans < m.capacity) (sym c.take.ensures.known) (omega (arith, k))

pub returns-in-Ok-answer-clause-logs : goal.returns-in-Ok-answer-clause-logs
returns-in-Ok-answer-clause-logs c = λ h z f.
    let w = c.args.self.now in
    let n = c.args.next in
    let step = c.args.step.now in
    let t = c.take.ensures in
    let count : ℕ = w.published + one_if (is_some n.description) in
    let v : TopologyCore = record c.take.new.self { pools = c.note.new.self; published = count; stopped = c.is_stopped_then-self.result } in
    let is : IsTaken w v n step =
    taken w c.make_room.new.self c.take.new.self n step c.note.new.self count c.is_stopped_then-self.result c.in-Ok.ensures.same t.led t.known t.kept t.last t.monitors t.fresh t.watchers t.description t.others
    c.note.ensures.known c.note.ensures.others refl c.is_stopped_then-self.ensures in
    let many : c.in-Ok.published ≡ w.published + one_if (is_some c.args.server || is_some n.description) = c.in-Ok.ensures.published ∙ ap (λ (b : Bool). w.published + one_if (b || is_some n.description)) c.is_some.ensures in
    let then-placed = subst (λ (x : TopologyCore). IsTaken w x (with_place c.args.server w n) step) (sym c.place.ensures) (with-placed c.args.server w v n step c.in-Ok.published is many) in
    taken-logs w _ c.args.log.now c.answer.new.self c.args.seat step h (with_place c.args.server w n) z then-placed f (entered-same c.args.server w n step c.args.seat c.args.log.now c.answer.new.self c.in-Ok-answer.ensures.entry)
