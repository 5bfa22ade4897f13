-- The monitor of the pool that is open at an address, and what follows its check.
use Rattle.std.proofs.Common.{ℕ, ◌≡◌, ◌<◌, ◌==◌, Bool, true, if◌then◌else◌, nat_lt, List, length, Option, Some, None, is_some, refl, sym, ◌∙◌, ap, subst, arith}
use Rattle.std.specs.Prelude.{slice_get}
use Rattle.std.proofs.lemmas.Bool.Decides.{nat_tests}
use Rattle.mdb_base.specs.declared.address.ServerAddress.{ServerAddress}
use Rattle.mdb_monitor.specs.declared.check.Next.{Next}
use Rattle.mdb_monitor.specs.declared.monitor.MonitorCore.{MonitorCore}
use Rattle.mdb_monitor.specs.declared.monitor.Setting.{Setting}
use Rattle.mdb_monitor.specs.Endings.{next_of}
use Rattle.mdb_monitor.specs.Standing.{StandsFor as MonitorStands}
use Rattle.mdb_log.specs.declared.checked.BeatenResult.{BeatenResult}
use Rattle.mdb_log.specs.Connections.{has}
use Rattle.mdb_log.specs.History.{Item, open_pool}
use Rattle.mdb_describe.specs.Topology.{server_at}
use Rattle.mdb_topology.specs.declared.topology.TopologyCore.{TopologyCore}
use Rattle.mdb_driver_rules.specs.Ahead.{is_available, next_after}
use Rattle.mdb_driver_rules.specs.Homes.{is_here}
use Rattle.mdb_driver_rules.specs.Monitors.{check_result, monitor_items, setting}
use Rattle.mdb_topology.specs.Standing.{StandsFor}
use Rattle.mdb_driver_pools.specs.Standing.{at_address}
use Rattle.mdb_driver_pools.proofs.InMemory.LivingPools.{lives-within}
use Rattle.mdb_driver_pools.proofs.OnePool.FoundAt.{open-lives}
use Rattle.mdb_topology.proofs.OnePool.JobsAreThere.{some-place}
use Rattle.mdb_topology.proofs.OfMonitors.StepAtMonitor.{monitor-setting}
use Rattle.mdb_topology.proofs.WholeSteps.OneMoreEntry.{as-many}

same-self : (p : ℕ) → (p == p) ≡ true
same-self p = grind (arith, nat_tests)

module _ (w : TopologyCore) (h : List Item) (z : StandsFor w h) (a : ServerAddress) where
  abbrev pools-at : Option ℕ
  pools-at = at_address w.pools.cores.items a

  -- the pool that is open there has the number p
  module _ (p : ℕ) (some : pools-at ≡ Some p) where
    opened : open_pool h a ≡ Some p
    opened = z.pools.fit.open_are a ∙ some

    here : is_here h a p ≡ true
    here = rw opened (same-self p)

    -- memory keeps its monitor
    kept : has p w.monitors.kept ≡ true
    kept = z.watched p (open-lives w.pools.cores.items a p some)

    pub opened-kept : slice_get w.monitors.items p ≡ (if has p w.monitors.kept then slice_get w.monitors.items p else None)
    opened-kept = rw kept refl

    pub opened-some : is_some (if has p w.monitors.kept then slice_get w.monitors.items p else None) ≡ is_some (open_pool h a)
    opened-some =
        let many : length w.monitors.items ≡ length w.pools.cores.items = as-many w.options w.pools.cores.items w.monitors.items h z.pools.fit z.monitors in
        let within : p < length w.pools.cores.items = lives-within w.pools.cores.items p (open-lives w.pools.cores.items a p some) in
        let there : nat_lt p (length w.monitors.items) ≡ true = grind (arith, nat_tests) in
        rw kept (some-place w.monitors.items p ∙ (there ∙ sym (ap is_some opened)))

    pub opened-stands : (q : ℕ) (m : MonitorCore) → open_pool h a ≡ Some q → slice_get w.monitors.items p ≡ Some m → MonitorStands m (monitor_items h q)
    opened-stands q m e at =
        let both : Some p ≡ Some q = sym opened ∙ e in
        let same : p ≡ q = cc in
        subst (λ n. MonitorStands m (monitor_items h n)) same (z.monitors.each p m at)

    pub opened-setting : (m : MonitorCore) → slice_get w.monitors.items p ≡ Some m → m.setting ≡ setting w.options a
    opened-setting m at = monitor-setting w h z a p here m at

  -- what follows a check
  pub follows-next : is_some (open_pool h a) ≡ true → (came : BeatenResult) (s : Setting) → s ≡ setting w.options a → (b : Bool) → b ≡ is_available (server_at a w.description.servers)
      → (n : Next) → n ≡ next_of (check_result a came) b s.allow_streaming → Some n ≡ next_after w.options h a came
  follows-next e came s set b available n next = rw e (ap Some (next
      ∙ ap (λ (x : Setting). next_of (check_result a came) b x.allow_streaming) set
      ∙ ap (λ x. next_of (check_result a came) x (setting w.options a).allow_streaming) (available ∙ ap (λ t. is_available (server_at a t.servers)) (sym z.described.known))))
