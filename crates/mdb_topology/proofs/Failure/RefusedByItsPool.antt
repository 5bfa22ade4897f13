-- Which pool a failure concerns, and why it is refused, is what that pool says.
use Rattle.std.proofs.Common.{ℕ, ◌≡◌, ◌≢◌, ◌≤◌, ◌==◌, ◌&&◌, Bool, true, false, not, List, [], ◌∷◌, Some, None, nat_lt, refl, ◌∙◌, arith}
use Rattle.std.specs.Prelude.{slice_get}
use Rattle.std.proofs.lemmas.Bool.Decides.{nat_tests}
use Rattle.mdb_base.specs.declared.error.Error.{Error}
use Rattle.mdb_base.specs.declared.options.Options.{Options}
use Rattle.mdb_log.specs.declared.step.FailedAt.{FailedAt}
use Rattle.mdb_log.specs.declared.step.FailedAt.TheVariants.{Pre, Post}
use Rattle.mdb_log.specs.declared.step.Act.TheVariants as Do
use Rattle.mdb_log.specs.declared.reply.Refused.{Refused}
use Rattle.mdb_log.specs.declared.reply.Refused.TheVariants.{NotPending, WrongMode}
use Rattle.mdb_log.specs.History.{Item}
use Rattle.mdb_log.specs.Opening.{pool_options}
use Rattle.mdb_log.proofs.Numbers.{same-number}
use Rattle.mdb_log.proofs.Frame.{other-number}
use Rattle.mdb_pool.specs.Core.{PoolCore}
use Rattle.mdb_pool.specs.Now.{last_now}
use Rattle.mdb_pool_rules.specs.Refusal.{first_row}
use Rattle.mdb_pool.specs.Refusing.{is_pending_here, rows_now, refusal_now}
use Rattle.mdb_topology.specs.declared.topology.TopologyCore.{TopologyCore}
use Rattle.mdb_driver_pools.specs.Finding.{numbered}
use Rattle.mdb_driver_rules.specs.Homes.{home_at, home_of}
use Rattle.mdb_driver_rules.specs.Refusal.{rows_of, first_refusal, refusal}
use Rattle.mdb_topology.specs.Standing.{StandsFor}
use Rattle.mdb_driver_pools.specs.Standing.{home, PoolsFit}
use Rattle.mdb_driver_pools.proofs.Failure.PoolsStand.{failing}
use Rattle.mdb_topology.proofs.WholeSteps.TopologyStep.{early-later}
use Rattle.mdb_driver_rules.proofs.General.OneElement.{find-at}
use Rattle.mdb_driver_pools.proofs.OnePool.FoundAt.{number-at, placed-by-number}
use Rattle.mdb_driver_pools.proofs.OnePool.PlannedAct.{all-at}
use Rattle.mdb_driver_pools.proofs.OnePool.RefusedByItsRows.{no-pending, pending-here}
use Rattle.mdb_topology.proofs.Publications.WhichSteps.{in-time}

-- before the hello there is no service
no-second : (p b : Bool) (x y : Refused) → first_row ((p, x) ∷ []) ≡ first_row ((p, x) ∷ (b && false, y) ∷ [])
no-second true b x y = refl
no-second false true x y = refl
no-second false false x y = refl

module _ (o : Options) (pools : List PoolCore) (h : List Item) (z : PoolsFit (pool_options o) pools h) where
  -- of a pool in which nothing lives nothing is pending
  pub rows-nowhere : (q c : ℕ) (at : FailedAt) (error : Error) → numbered pools q ≡ None → first_row (rows_of o h (Do.Failed q c at error)) ≡ Some NotPending
  rows-nowhere q c Pre error e = rw (no-pending o pools h z q c e) refl
  rows-nowhere q c (Post service) error e = rw (no-pending o pools h z q c e) refl

  module _ (i : ℕ) (s : PoolCore) (at_i : slice_get pools i ≡ Some s) where
    pub rows-failed : (c : ℕ) (at : FailedAt) (error : Error) → first_row (rows_of o h (Do.Failed s.pool c at error)) ≡ first_row (rows_now s (Do.Failed s.pool c at error))
    rows-failed c Pre error = rw (pending-here o pools h z i s at_i s.pool c refl) (no-second (not (is_pending_here s s.pool c)) (not s.options.load_balanced) NotPending WrongMode)
    rows-failed c (Post service) error = rw (pending-here o pools h z i s at_i s.pool c refl, (z.each i s at_i).options) refl

    pub home-failed : (c : ℕ) (at : FailedAt) (error : Error) → home_of h (Do.Failed s.pool c at error) ≡ Some (home s)
    home-failed c at error = placed-by-number (pool_options o) pools h z s.pool i s at_i (number-at (pool_options o) pools h z i s at_i)

    pub home-numbered : home_at h s.pool ≡ Some (home s)
    home-numbered =
        rw z.homes_are
        (find-at home (λ x. x.number == s.pool) pools i s at_i (same-number s.pool)
        (λ j x f l. (let ne : x.pool ≢ s.pool = λ k. (let n : x.pool ≡ j = number-at (pool_options o) pools h z j x f in let v : s.pool ≡ i = number-at (pool_options o) pools h z i s at_i in omega arith) in other-number x.pool s.pool ne)))

module _ (w : TopologyCore) (h : List Item) (z : StandsFor w h) (m : ℕ) (l : w.pools.last ≤ m) where
  pub failed-nowhere : (q c : ℕ) (at : FailedAt) (error : Error) → numbered w.pools.cores.items q ≡ None → refusal w.options h (failing m q c at error) ≡ Some NotPending
  failed-nowhere q c at error e = rw (in-time w h z m l, rows-nowhere w.options w.pools.cores.items h z.pools.fit q c at error e) refl

  pub not-late : (i : ℕ) (s : PoolCore) → slice_get w.pools.cores.items i ≡ Some s → nat_lt m (last_now s) ≡ false
  not-late i s at_i = let early : last_now s ≤ m = all-at (λ (s : PoolCore). last_now s ≤ m) w.pools.cores.items i s (early-later w.pools.cores.items w.pools.last m l z.early) at_i in grind (arith, nat_tests)

  module _ (i : ℕ) (s : PoolCore) (at_i : slice_get w.pools.cores.items i ≡ Some s) (c : ℕ) (at : FailedAt) (error : Error) where
    pub failed-rows : first_refusal w.options h (failing m s.pool c at error) ≡ refusal_now s (failing m s.pool c at error)
    failed-rows = rw (in-time w h z m l, not-late i s at_i) (rows-failed w.options w.pools.cores.items h z.pools.fit i s at_i c at error)

    pub failed-refused : (why : Refused) → refusal_now s (failing m s.pool c at error) ≡ Some why → refusal w.options h (failing m s.pool c at error) ≡ Some why
    failed-refused why e = rw (failed-rows ∙ e) refl
