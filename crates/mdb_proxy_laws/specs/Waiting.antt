-- Why a caller of a driver behind shares waits.
use Rattle.std.specs.Prelude.{◌≡◌, ◌≢◌, ℕ, ◌≤◌, ◌⊎◌, true, List, [], length}
use Rattle.mdb_log.specs.declared.options.PoolOptions.{PoolOptions}
use Rattle.mdb_log.specs.History.{Item, PoolItem, of_pool}
use Rattle.mdb_log.specs.Connections.{created_total, pending_list}
use Rattle.mdb_log.specs.Requests.{waiting}
use Rattle.mdb_log.specs.State.{ready, state_of, max_connecting}

-- as many connections are pending as may be established at once, or the ids of the pool are used up
abbrev pub IsBusy : PoolOptions → List PoolItem → Type 0
IsBusy o xs = (length (pending_list xs) ≡ max_connecting o) ⊎ (o.limit_id ≤ created_total xs)

-- Where a ready pool has a waiting caller, its pending connections are at their limit or its ids are used up: nobody waits because others hold connections.
abbrev pub WaitsForNone : PoolOptions → List Item → Type 0
WaitsForNone o h = (p : ℕ) → ready (state_of o (of_pool p h)) ≡ true → waiting (of_pool p h) ≢ [] → IsBusy o (of_pool p h)
