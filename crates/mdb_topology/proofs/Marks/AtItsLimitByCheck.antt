-- A check that ended: where it failed, and the mark of its server would take the generation of the pool past the limit, it is refused.
use Rattle.std.proofs.Common.{ℕ, ◌≡◌, ◌≤◌, ◌&&◌, Bool, true, false, not, if◌then◌else◌, Some, None, is_some, List, refl, sym, ◌∙◌, ap}
use Rattle.std.specs.Prelude.{slice_get}
use Rattle.mdb_base.specs.declared.address.ServerAddress.{ServerAddress}
use Rattle.mdb_base.specs.declared.error.Error.{Error}
use Rattle.mdb_describe.specs.Descriptions.{failed}
use Rattle.mdb_describe.specs.Differences.{difference}
use Rattle.mdb_describe.specs.Update.{updated}
use Rattle.mdb_log.specs.declared.checked.BeatenResult.{BeatenResult}
use Rattle.mdb_log.specs.declared.checked.BeatenResult.TheVariants.{Ok, Err, Cancelled}
use Rattle.mdb_log.specs.declared.reply.Refused.TheVariants.{Exhausted}
use Rattle.mdb_log.specs.declared.reply.What.TheVariants.{Generation}
use Rattle.mdb_log.specs.declared.step.Act.TheVariants.{Beaten}
use Rattle.mdb_log.specs.History.{Item}
use Rattle.mdb_pool.specs.Core.{PoolCore}
use Rattle.mdb_pool.specs.Now.{exhausted_now}
use Rattle.mdb_driver_pools.specs.declared.trouble.Asked.TheVariants.{Nothing}
use Rattle.mdb_topology.specs.declared.topology.TopologyCore.{TopologyCore}
use Rattle.mdb_topology.specs.Marking.{check_spends, MarkPasses}
use Rattle.mdb_driver_rules.specs.Monitors.{runs}
use Rattle.mdb_driver_rules.specs.Refusal.{may_want, refusal}
use Rattle.mdb_topology.specs.Standing.{StandsFor}
use Rattle.mdb_driver_pools.specs.Standing.{is_here_among}
use Rattle.mdb_topology.proofs.OfMonitors.CheckEnds.{ended-wants}
use Rattle.mdb_topology.proofs.OfMonitors.CheckFailed.{here-at, failure-of-pool, failure-spared, failure-spent, its_trouble}
use Rattle.mdb_topology.proofs.Marks.ComesTo.{mark-passes}
use Rattle.mdb_topology.proofs.WholeSteps.ComesBeforeMemory.{none-wants}

first-true : (b c : Bool) → not b && c ≡ true → b ≡ false
first-true true c e = cc
first-true false c e = refl

module _ (w : TopologyCore) (h : List Item) (z : StandsFor w h) (m : ℕ) (l : w.pools.last ≤ m) (a : ServerAddress) (p d : ℕ) (there : is_here_among w.pools.cores.items a p ≡ true) (running : runs h p ≡ true)
    (mode : w.options.load_balanced ≡ false) (s : PoolCore) (at_p : slice_get w.pools.cores.items p ≡ Some s) where
  -- what the mark of the error would pass
  passes-for : (e : Error) (b : Bool) → (is_some (difference w.description.servers (updated w.description (failed a e)).servers) && true) && exhausted_now s None ≡ b
      → MarkPasses w m (updated w.description (failed a e)) (its_trouble w h z m l a p d e there running mode) (if b then Some Generation else None)
  passes-for e b spends =
      mark-passes w (h, z) m l a e (its_trouble w h z m l a p d e there running mode) p (here-at w a p p refl there) _ refl true Nothing (failure-of-pool w h z m l a p d e there running mode) s at_p b spends

  pub check-spent : (came : BeatenResult) → check_spends w s a came ≡ true → refusal w.options h (record { moment = m; act = Beaten a p d came }) ≡ Some (Exhausted Generation)
  check-spent (Ok r more) e = cc
  check-spent (Cancelled error) e = cc
  check-spent (Err error) e =
      let spends : Bool = (is_some (difference w.description.servers (updated w.description (failed a error)).servers) && true) && exhausted_now s None in
      let going : w.stopped ≡ false = first-true w.stopped spends e in
      failure-spent w h z m l a p d error there running mode going (passes-for error true (sym (ap (λ b. not b && spends) going) ∙ e))

  pub check-wants : (came : BeatenResult) → check_spends w s a came ≡ false → may_want w.options h (record { moment = m; act = Beaten a p d came }) ≡ true
  check-wants (Ok r more) e = ended-wants w h z m l a p d there (Ok r more) running mode tt
  check-wants (Cancelled error) e = ended-wants w h z m l a p d there (Cancelled error) running mode tt
  check-wants (Err error) e =
      let spends : Bool = (is_some (difference w.description.servers (updated w.description (failed a error)).servers) && true) && exhausted_now s None in
      none-wants w.options h (record { moment = m; act = Beaten a p d (Err error) })
      (failure-spared w h z m l a p d error there running mode (λ going. passes-for error false (sym (ap (λ b. not b && spends) going) ∙ e)))
