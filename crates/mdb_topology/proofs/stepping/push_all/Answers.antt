use Rattle.std.proofs.Common.{ℕ, ◌≡◌, ◌≤◌, ◌<◌, ◌+◌, ◌&&◌, ◌||◌, Bool, true, false, nat_lt, List, [], ◌∷◌, ◌++◌, length, refl, sym, ◌∙◌, ap, subst, append-nil, append_assoc, map-id, arith, rules}
use Rattle.std.specs.Prelude.{nat_le}
use Rattle.std.proofs.lemmas.Bool.Decides.{nat_tests}
use Rattle.std.proofs.lemmas.List.{length-append}
use Rattle.std.proofs.lemmas.Iterator.Consumers.{YieldsList-turn, YieldsList-end}
use Rattle.std.proofs.lemmas.Iterator.Adapters.{YieldsList-from_vec}
use Rattle.mdb_log.specs.Connections.{has}
use Rattle.mdb_topology.proofs.InMemory.WatchedPools.{more-kept}
use Rattle.mdb_topology.proofs.stepping.push_all.Goals as goal

-- none came
same-kept : (kept : List ℕ) (n p : ℕ) → has p kept || (nat_le n p && nat_lt p n) ≡ true → has p kept ≡ true
same-kept kept n p e = on (has p kept) (nat_le n p) (nat_lt p n) refl refl e
  where
    on : (b d f : Bool) → nat_le n p ≡ d → nat_lt p n ≡ f → b || (d && f) ≡ true → b ≡ true
    on true d f g h k = refl
    on false true true g h k =
        let above : n ≤ p = grind (arith, nat_tests) in
        let below : p < n = grind (arith, nat_tests) in
        absurd (omega arith)
    on false true false g h k = cc
    on false false f g h k = cc

pub push_reserved-requires : goal.push_reserved-requires
push_reserved-requires c =
    let inv = c.loop-monitor.invariant in
    let turn = YieldsList-turn (YieldsList-from_vec {s = c.into_iter-monitor-iterator.result} c.args.more.items (search rules) (search rules))
    c.loop-monitor.yielded c.loop-monitor.monitor-iterator c.loop-monitor.yielded_by c.next.result c.next.new.self c.in-Some.monitor c.in-Some.is c.next.ensures.steps in
    let long : length c.loop-monitor.monitors.items ≡ _ = ap length inv.items ∙ length-append c.args.monitors.now.items c.loop-monitor.yielded in
    omega (arith, turn.0, long, inv.room, c.requires)

pub loop-monitor-init : goal.loop-monitor-init
loop-monitor-init c =
    let old = c.args.monitors.now in
    record {
      items = sym (append-nil old.items);
      kept = λ p e. same-kept old.kept (length old.items) p e;
      room = refl;
    }

pub loop-monitor-preserved : goal.loop-monitor-preserved
loop-monitor-preserved c =
    let inv = c.loop-monitor.invariant in
    let added = c.push_reserved.ensures in
    let m = c.in-Some.monitor in
    let old = c.args.monitors.now in
    let count : ℕ = length c.loop-monitor.monitors.items in
    let many : length c.push_reserved.new.self.items ≡ count + 1 = ap length added.items ∙ length-append c.loop-monitor.monitors.items (m ∷ []) in
    record {
      items = added.items ∙ (ap (λ xs. xs ++ m ∷ []) inv.items ∙ append_assoc old.items c.loop-monitor.yielded (m ∷ []));
      kept = λ p e.
          ap (has p) added.kept
          ∙ more-kept old.kept c.loop-monitor.monitors.kept (length old.items) count p inv.kept
          (subst (λ n. has p old.kept || (nat_le (length old.items) p && nat_lt p n) ≡ true) many e);
      room = added.room ∙ inv.room;
    }

pub returns-clause-items : goal.returns-clause-items
returns-clause-items c =
    let end = YieldsList-end (YieldsList-from_vec {s = c.into_iter-monitor-iterator.result} c.args.more.items (search rules) (search rules))
    c.loop-monitor.yielded c.loop-monitor.monitor-iterator c.loop-monitor.yielded_by c.next.result c.next.new.self c.in-None.is c.next.ensures.steps in
    rw (← end.0, map-id) c.loop-monitor.invariant.items

pub returns-clause-kept : goal.returns-clause-kept
returns-clause-kept c = c.loop-monitor.invariant.kept
