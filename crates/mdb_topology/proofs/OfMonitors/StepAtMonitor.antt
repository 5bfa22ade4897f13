-- The monitor of a pool that is open at an address, and what a step at it comes to.
use Rattle.std.proofs.Common.{ℕ, ◌≡◌, ◌≢◌, ◌+◌, true, false, List, [], set, Option, Some, None, refl, sym, ◌∙◌, ap, subst, arith}
use Rattle.std.specs.Prelude.{slice_get, option_map}
use Rattle.std.proofs.lemmas.Option.{slice_get-map}
use Rattle.mdb_base.specs.declared.address.ServerAddress.{ServerAddress}
use Rattle.mdb_base.specs.declared.options.Options.{Options}
use Rattle.mdb_monitor.specs.declared.monitor.MonitorCore.{MonitorCore}
use Rattle.mdb_monitor.specs.Standing.{StandsFor as MonitorStands}
use Rattle.mdb_log.specs.declared.step.Step.{Step}
use Rattle.mdb_log.specs.Connections.{has, one_if}
use Rattle.mdb_log.specs.History.{Item, open_pool, is_number}
use Rattle.mdb_log.specs.Homes.{homes}
use Rattle.mdb_log.specs.Opening.{pool_options}
use Rattle.mdb_pool.specs.Core.{PoolCore}
use Rattle.mdb_topology.specs.declared.topology.TopologyCore.{TopologyCore}
use Rattle.mdb_topology.specs.declared.transition.Transition.{Transition}
use Rattle.mdb_topology.specs.declared.monitors.monitoring.Monitoring.TheVariants.{Same, Checked, Asked}
use Rattle.mdb_driver_rules.specs.Homes.{is_here}
use Rattle.mdb_topology.specs.Checking.{monitors_after}
use Rattle.mdb_driver_rules.specs.Monitors.{setting, monitor_items, connects, asking}
use Rattle.mdb_topology.specs.Standing.{StandsFor}
use Rattle.mdb_driver_pools.specs.Standing.{home}
use Rattle.mdb_driver_pools.proofs.OnePool.OpenAtOneAddress.{at-address, found, is-there}
use Rattle.mdb_driver_rules.proofs.General.OneElement.{map-set}
use Rattle.mdb_driver_pools.proofs.OnePool.FoundAt.{open-lives}
use Rattle.mdb_driver_rules.proofs.General.OnePosition.{Place, at_it, beside, place, some-same}
use Rattle.mdb_topology.proofs.OfMonitors.ChangesNoPool.{Watches, items_with}

pub number-is : (x : Option ℕ) (p : ℕ) → is_number x p ≡ true → x ≡ Some p
number-is None p e = cc
number-is (Some q) p e = let w : q ≡ p = grind arith in ap Some w

module _ (w : TopologyCore) (h : List Item) (z : StandsFor w h) where
  abbrev o : Options
  o = w.options

  abbrev pools : List PoolCore
  pools = w.pools.cores.items

  abbrev ms : List MonitorCore
  ms = w.monitors.items

  -- a step that leaves the monitors as they are
  pub same-watches : (step : Step) (n : Transition) → n.monitoring ≡ Same → connects h step.act ≡ false → asking step.act w.watchers ≡ w.watchers → ((p : ℕ) → items_with h step p ≡ monitor_items h p) → Watches w h step n
  same-watches step n e c a items = record {
    placed = rw e tt;
    numbers = rw (e, c) (let s : w.fresh ≡ w.fresh + 0 = omega arith in s);
    watchers = rw e (sym a);
    settings = rw e refl;
    each = λ p x at. subst (MonitorStands x) (sym (items p)) (z.monitors.each p x (subst (λ v. slice_get (monitors_after v ms) p ≡ Some x) e at));
    rest = λ p at. items p ∙ z.monitors.rest p (subst (λ v. slice_get (monitors_after v ms) p ≡ None) e at);
  }

  -- a step of a watcher
  pub asked-watches : (step : Step) (n : Transition) (ws : List ℕ) → n.monitoring ≡ Asked ws → connects h step.act ≡ false → ws ≡ asking step.act w.watchers → ((p : ℕ) → items_with h step p ≡ monitor_items h p) → Watches w h step n
  asked-watches step n ws e c a items = record {
    placed = rw e tt;
    numbers = rw (e, c) (let s : w.fresh ≡ w.fresh + 0 = omega arith in s);
    watchers = rw e a;
    settings = rw e refl;
    each = λ p x at. subst (MonitorStands x) (sym (items p)) (z.monitors.each p x (subst (λ v. slice_get (monitors_after v ms) p ≡ Some x) e at));
    rest = λ p at. items p ∙ z.monitors.rest p (subst (λ v. slice_get (monitors_after v ms) p ≡ None) e at);
  }

  -- one monitor takes a new state
  pub checked-watches : (step : Step) (n : Transition) (p numbers : ℕ) (x y : MonitorCore) → slice_get ms p ≡ Some x → y.setting ≡ x.setting → has p w.monitors.kept ≡ true → n.monitoring ≡ Checked p y numbers
      → numbers ≡ w.fresh + one_if (connects h step.act) → asking step.act w.watchers ≡ w.watchers
      → MonitorStands y (items_with h step p) → ((q : ℕ) → p ≢ q → items_with h step q ≡ monitor_items h q) → Watches w h step n
  checked-watches step n p numbers x y at_p set_same kept e fresh a stands others = record {
    placed = rw e kept;
    numbers = rw e fresh;
    watchers = rw e (sym a);
    settings = rw e (map-set (λ v. v.setting) ms p x y at_p set_same);
    each = λ q v at. each-at q v (subst (λ r. slice_get (monitors_after r ms) q ≡ Some v) e at) (place ms p x y at_p q);
    rest = λ q at. rest-at q (subst (λ r. slice_get (monitors_after r ms) q ≡ None) e at) (place ms p x y at_p q);
  }
    where
      each-at : (q : ℕ) (v : MonitorCore) → slice_get (set ms p y) q ≡ Some v → Place ms p y q → MonitorStands v (items_with h step q)
      each-at q v at (at_it same there) =
          let mine : y ≡ v = some-same y v (slice_get (set ms p y) q) there at in
          subst (λ r. MonitorStands r (items_with h step q)) mine (subst (λ r. MonitorStands y (items_with h step r)) same stands)
      each-at q v at (beside ne there) = subst (MonitorStands v) (sym (others q ne)) (z.monitors.each q v (sym there ∙ at))

      rest-at : (q : ℕ) → slice_get (set ms p y) q ≡ None → Place ms p y q → items_with h step q ≡ []
      rest-at q at (at_it same there) = let no : Some y ≡ None = sym there ∙ at in cc
      rest-at q at (beside ne there) = others q ne ∙ z.monitors.rest q (sym there ∙ at)

  -- the pool is the open one of the address
  module _ (a : ServerAddress) (p : ℕ) (here : is_here h a p ≡ true) where
    opened-at : open_pool h a ≡ Some p
    opened-at = number-is (open_pool h a) p here

    pub monitor-kept : has p w.monitors.kept ≡ true
    monitor-kept = z.watched p (open-lives pools a p (sym (z.pools.fit.open_are a) ∙ opened-at))

    -- its monitor is set up for the address
    pub monitor-setting : (x : MonitorCore) → slice_get ms p ≡ Some x → x.setting ≡ setting o a
    monitor-setting x at_p = on (slice_get pools p) refl
      where
        settings-are : option_map (λ (v : MonitorCore). v.setting) (slice_get ms p) ≡ option_map (λ (s : PoolCore). setting o s.address) (slice_get pools p)
        settings-are =
            sym (slice_get-map (λ (v : MonitorCore). v.setting) ms p)
            ∙ (ap (λ xs. slice_get xs p) z.monitors.settings
            ∙ (slice_get-map (λ v. setting o v.address) (homes h) p
            ∙ (ap (λ hs. option_map (λ v. setting o v.address) (slice_get hs p)) z.pools.fit.homes_are
            ∙ (ap (option_map (λ v. setting o v.address)) (slice_get-map home pools p) ∙ both (slice_get pools p)))))
          where
            both : (s : Option PoolCore) → option_map (λ v. setting o v.address) (option_map home s) ≡ option_map (λ (s : PoolCore). setting o s.address) s
            both None = refl
            both (Some s) = refl

        on : (s : Option PoolCore) → slice_get pools p ≡ s → x.setting ≡ setting o a
        on None e = absurd (is-there (pool_options o) pools h z.pools.fit a p opened-at e)
        on (Some s) e =
            let at_a : s.address ≡ a = at-address a s (found (pool_options o) pools h z.pools.fit a p s opened-at e) in
            let eq : Some x.setting ≡ Some (setting o s.address) = ap (option_map (λ (v : MonitorCore). v.setting)) (sym at_p) ∙ (settings-are ∙ ap (option_map (λ (s : PoolCore). setting o s.address)) e) in
            let mine : x.setting ≡ setting o s.address = cc in
            mine ∙ ap (setting o) at_a
