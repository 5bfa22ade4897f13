use Rattle.std.proofs.Common.{ℕ, ◌≡◌, ◌+◌, ◌<◌, ◌≤◌, ◌==◌, ◌||◌, Bool, true, false, nat_lt, List, [], ◌∷◌, ◌++◌, All, length, map, refl, sym, ◌∙◌, ap, subst, arith}
use Rattle.std.proofs.lemmas.Bool.Decides.{nat_tests}
use Rattle.std.proofs.lemmas.List.{length-append, map-append, take_all}
use Rattle.std.proofs.lemmas.List.Elements.{All-nil, All-push}
use Rattle.std.proofs.lemmas.Option.{get_or_from_slice_get}
use Rattle.mdb_log.specs.Connections.{has}
use Rattle.mdb_monitor.specs.declared.monitor.MonitorCore.{MonitorCore}
use Rattle.mdb_monitor.specs.declared.monitor.Setting.{Setting}
use Rattle.mdb_monitor.specs.Standing.{StandsFor as MonitorStands}
use Rattle.mdb_pool.specs.Core.{PoolCore}
use Rattle.mdb_driver_rules.specs.Monitors.{setting}
use Rattle.mdb_driver_pools.proofs.InMemory.LivingPools.{lives-within}
use Rattle.mdb_topology.proofs.InMemory.WatchedPools.{has-more}
use Rattle.mdb_topology.proofs.OfMonitors.MonitorsOfPools.{pools-more}
use Rattle.mdb_topology.proofs.opening_seeds.pool_monitors.Goals as goal

-- the places below a count are kept, and one more
kept-one : (kept : List ℕ) (n count : ℕ) → n ≡ count → ((q : ℕ) → q < count → has q kept ≡ true) → (p : ℕ) → p < count + 1 → has p (kept ++ n ∷ []) ≡ true
kept-one kept n count same f p l = has-more kept p n ∙ on (nat_lt p count) refl
  where
    or-true : (b : Bool) → (b || true) ≡ true
    or-true true = refl
    or-true false = refl

    on : (b : Bool) → nat_lt p count ≡ b → (has p kept || (n == p)) ≡ true
    on true e =
        let below : p < count = grind (arith, nat_tests) in
        let k : has p kept ≡ true = f p below in
        rw k refl
    on false e =
        let here : (n == p) ≡ true = grind (arith, nat_tests) in
        rw here (or-true (has p kept))

pub at-requires : goal.at-requires
at-requires c =
    let l : c.loop-place.place < length c.args.cores.now.items = omega (arith, c.loop-place-test.true, c.len-place-end.ensures) in
    let t : nat_lt c.loop-place.place (length c.args.cores.now.items) ≡ true = grind (arith, nat_tests, l) in
    sym (c.requires c.loop-place.place) ∙ t

pub push_reserved-requires : goal.push_reserved-requires
push_reserved-requires c = omega (arith, c.loop-place-test.true, c.len-place-end.ensures, c.loop-place.invariant.count, c.loop-place.invariant.room)

pub loop-place-init : goal.loop-place-init
loop-place-init c =
    let none : c.reserve.new.self.items ≡ [] = c.in_ok-reserve.ensures.items ∙ c.new-made.ensures.items in
    record {
      count = ap length none;
      room = omega (arith, c.in_ok-reserve.ensures.room, c.len.ensures);
      settings = ap (map (λ (m : MonitorCore). m.setting)) none;
      stand = subst (λ (ms : List MonitorCore). All (λ m. MonitorStands m []) ms) (sym none) (All-nil (λ (m : MonitorCore). MonitorStands m []));
      kept = λ p l. absurd (omega arith);
    }

pub loop-place-preserved : goal.loop-place-preserved
loop-place-preserved c =
    let o = c.args.options.now in
    let pools = c.args.cores.now.items in
    let i = c.loop-place.place in
    let s = c.at.result.now in
    let inv = c.loop-place.invariant in
    let old : List MonitorCore = c.loop-place.made.items in
    let m : MonitorCore = c.monitor_of.result in
    let now : List Setting = map (λ (x : MonitorCore). x.setting) old in
    let more : c.push_reserved.new.self.items ≡ old ++ m ∷ [] = c.push_reserved.ensures.items in
    let within : i < length pools = omega (arith, c.loop-place-test.true, c.len-place-end.ensures) in
    let address : c.in_ok-address.address ≡ s.address = c.in_ok-address.ensures.cases ∙ c.address.ensures in
    let its : m.setting ≡ setting o s.address = c.monitor_of.ensures.setting ∙ ap (setting o) address in
    let after : map (λ (x : MonitorCore). x.setting) c.push_reserved.new.self.items ≡ now ++ setting o s.address ∷ [] =
    ap (map (λ (x : MonitorCore). x.setting)) more ∙ (map-append (λ (x : MonitorCore). x.setting) old (m ∷ []) ∙ ap (λ (t : Setting). now ++ t ∷ []) its) in
    let long : length (old ++ m ∷ []) ≡ length old + 1 = length-append old (m ∷ []) in
    record {
      count = ap length more ∙ (long ∙ ap (λ n. n + 1) inv.count);
      room = omega (arith, inv.room, c.push_reserved.ensures.room);
      settings = pools-more o pools i s now (map (λ (x : MonitorCore). x.setting) c.push_reserved.new.self.items) within (sym (get_or_from_slice_get pools i s s c.at.ensures)) inv.settings after;
      stand = subst (λ (ms : List MonitorCore). All (λ x. MonitorStands x []) ms) (sym more) (All-push (λ (x : MonitorCore). MonitorStands x []) old m inv.stand c.monitor_of.ensures.stands);
      kept = λ p l. ap (has p) c.push_reserved.ensures.kept ∙ kept-one c.loop-place.made.kept (length old) i inv.count inv.kept p l;
    }

pub returns-clause-settings : goal.returns-clause-settings
returns-clause-settings c =
    let pools = c.args.cores.now.items in
    let all : length pools ≤ c.loop-place.place = omega (arith, c.loop-place-test.false, c.len-place-end.ensures) in
    c.loop-place.invariant.settings ∙ ap (map (λ (s : PoolCore). setting c.args.options.now s.address)) (take_all c.loop-place.place pools all)

pub returns-clause-kept : goal.returns-clause-kept
returns-clause-kept c = λ p lives.
    let within : p < length c.args.cores.now.items = lives-within c.args.cores.now.items p lives in
    c.loop-place.invariant.kept p (omega (arith, within, c.loop-place-test.false, c.len-place-end.ensures))
