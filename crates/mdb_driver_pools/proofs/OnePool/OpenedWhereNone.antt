-- A pool is opened at an address where none is open.
use Rattle.std.proofs.Common.{◌≡◌, Bool, true, false, if◌then◌else◌, List, [], ◌∷◌, ◌++◌, length, Some, None, refl, sym, ◌∙◌, ap}
use Rattle.mdb_base.specs.Equality.{same_address}
use Rattle.mdb_base.specs.declared.address.ServerAddress.{ServerAddress}
use Rattle.mdb_describe.proofs.Addresses.{same-address}
use Rattle.mdb_pool.specs.Core.{PoolCore}
use Rattle.mdb_pool.specs.Now.{is_closed_now}
use Rattle.mdb_driver_pools.specs.Standing.{is_open_at, at_address, HasOpened}
use Rattle.mdb_driver_pools.proofs.Publications.OneMorePool.{push-old, push-new}

-- a pool that was opened at an address is the one there
pub has-opened : (pools : List PoolCore) (s : PoolCore) (a : ServerAddress) → s.address ≡ a → is_closed_now s ≡ false → at_address pools a ≡ None → HasOpened pools a (pools ++ s ∷ [])
has-opened pools s a at unshut none b = on (same_address a b) refl
  where
    here : is_open_at b s ≡ same_address a b
    here = rw (unshut, at) refl

    on : (k : Bool) → same_address a b ≡ k → at_address (pools ++ s ∷ []) b ≡ (if same_address a b then Some (length pools) else at_address pools b)
    on true e = rw e (push-new (is_open_at b) pools s (ap (at_address pools) (sym (same-address a b e)) ∙ none) (here ∙ e))
    on false e = rw e (push-old (is_open_at b) pools s (here ∙ e))
