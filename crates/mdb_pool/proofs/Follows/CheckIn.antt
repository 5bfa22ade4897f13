-- What a connection does that comes back.
use Rattle.std.proofs.Common.{ℕ, ◌≡◌, Bool, true, false, List, ◌∷◌, Option, Some, None, refl, sym, ◌∙◌, ap}
use Rattle.mdb_events.specs.declared.reasons.ConnectionClosedReason.{ConnectionClosedReason}
use Rattle.mdb_pool.specs.declared.kept.connection.Connection.{Connection}
use Rattle.mdb_pool.specs.declared.kept.status.Status.{Status}
use Rattle.mdb_pool.specs.declared.kept.status.Status.TheVariants.{New, Ready, Paused, Closed}
use Rattle.mdb_pool.specs.Core.{PoolCore}
use Rattle.mdb_log.specs.History.{PoolItem, closed, checked_in, after_facts}
use Rattle.mdb_log.specs.State.{state_of, is_stale}
use Rattle.mdb_log.specs.Connections.{known_service, last_use, is_errored, is_dropped}
use Rattle.mdb_pool_rules.specs.Facts.{check_in, close_reason, closes, checked_in_fact}
use Rattle.mdb_pool.specs.Kept.Values.{state_in, is_shut, stale_for, reason_of, reason_now}
use Rattle.mdb_pool.specs.Acts.Changes.{back_facts}
use Rattle.mdb_log.specs.Legal.{AllFirstCome}
use Rattle.mdb_log.specs.Own.{AllOwn, shuts}
use Rattle.mdb_pool.specs.Standing.{Fits}
use Rattle.mdb_log.proofs.Numbers.{same-number}
use Rattle.mdb_pool.proofs.Follows.Fits.{skip-fits}
use Rattle.mdb_pool.proofs.Follows.Stale.{shut-status}

-- what a check-in says
module _ (s : PoolCore) (ys : List PoolItem) (x : Connection) (state : state_of s.options ys ≡ state_in s.kept.status) (known : known_service ys x.id ≡ x.service)
    (errored : is_errored ys x.id ≡ x.errored) (stale : is_stale s.options ys x.id ≡ stale_for s x.id x.service) (dropped : is_dropped (last_use ys x.id) ≡ is_dropped x.used) where
  reason : close_reason s.options ys x.id ≡ reason_of x.errored (stale_for s x.id x.service) (is_dropped x.used)
  reason = rw (errored, stale, dropped) refl

  open-back : is_shut s.kept.status ≡ false → (o : Option ConnectionClosedReason) → checked_in_fact s.pool s.address x.id ∷ closes s.pool s.address ys x.id o ≡ back_facts s x o
  open-back e None = refl
  open-back e (Some why) = rw (e, known) refl

  open-says : (t : Status) → state_of s.options ys ≡ state_in t → is_shut t ≡ false → check_in s.pool s.address s.options ys x.id ≡ checked_in_fact s.pool s.address x.id ∷ closes s.pool s.address ys x.id (close_reason s.options ys x.id)
  open-says New e f = rw e refl
  open-says Ready e f = rw e refl
  open-says (Paused error) e f = rw e refl
  open-says Closed e f = cc

  pub check-in-is : check_in s.pool s.address s.options ys x.id ≡ back_facts s x (reason_now s x)
  check-in-is = on (is_shut s.kept.status) refl
    where
      on : (b : Bool) → is_shut s.kept.status ≡ b → check_in s.pool s.address s.options ys x.id ≡ back_facts s x (reason_now s x)
      on true e = rw (state, shut-status s.kept.status e, known) refl
      on false e =
          let now : reason_now s x ≡ reason_of x.errored (stale_for s x.id x.service) (is_dropped x.used) = rw e refl in
          open-says s.kept.status state e ∙ (ap (λ o. checked_in_fact s.pool s.address x.id ∷ closes s.pool s.address ys x.id o) reason ∙ (open-back e (reason_of x.errored (stale_for s x.id x.service) (is_dropped x.used)) ∙ ap (back_facts s x) (sym now)))

-- the facts of a check-in are fair and the pool's own
pub back-fair : (s : PoolCore) (n : ℕ) (x : Connection) (o : Option ConnectionClosedReason) (ys : List PoolItem) → AllFirstCome s.pool n ys (back_facts s x o)
back-fair s n x None ys = (tt, tt)
back-fair s n x (Some why) ys = on (is_shut s.kept.status) refl
  where
    on : (b : Bool) → is_shut s.kept.status ≡ b → AllFirstCome s.pool n ys (back_facts s x (Some why))
    on true e = rw e (tt, tt)
    on false e = rw e (tt, (tt, tt))

pub back-own : (s : PoolCore) (n : ℕ) (x : Connection) (o : Option ConnectionClosedReason) (ys : List PoolItem) → AllOwn s.pool n ys (back_facts s x o)
back-own s n x None ys = (refl, tt)
back-own s n x (Some why) ys = on (is_shut s.kept.status) refl
  where
    on : (b : Bool) → is_shut s.kept.status ≡ b → AllOwn s.pool n ys (back_facts s x (Some why))
    on true e = rw e (refl, tt)
    on false e = rw e (refl, (refl, tt))

pub back-open : (s : PoolCore) (x : Connection) (o : Option ConnectionClosedReason) → shuts (back_facts s x o) ≡ false
back-open s x None = refl
back-open s x (Some why) = on (is_shut s.kept.status) refl
  where
    on : (b : Bool) → is_shut s.kept.status ≡ b → shuts (back_facts s x (Some why)) ≡ false
    on true e = rw e refl
    on false e = rw e refl

-- a state fits them that has the connection available, or closed where there is a reason
pub back-fits : (s u : PoolCore) (n : ℕ) (x : Connection) (o : Option ConnectionClosedReason) (ys : List PoolItem)
    → (o ≡ None → Fits u (checked_in x.id n ∷ ys))
    → ((why : ConnectionClosedReason) → o ≡ Some why → Fits u (closed x.id ∷ checked_in x.id n ∷ ys))
    → Fits u (after_facts s.pool n (back_facts s x o) ys)
back-fits s u n x None ys kept gone = rw (same-number s.pool) (kept refl)
back-fits s u n x (Some why) ys kept gone = on (is_shut s.kept.status) refl
  where
    on : (b : Bool) → is_shut s.kept.status ≡ b → Fits u (after_facts s.pool n (back_facts s x (Some why)) ys)
    on true e = rw (e, same-number s.pool) (skip-fits u ys x.id n (gone why refl))
    on false e = rw (e, same-number s.pool) (gone why refl)
