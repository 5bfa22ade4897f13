-- What a log tells of one pool of its driver, as numbers.
use Rattle.std.specs.Prelude.{ℕ, ◌<◌, Bool, not, List, length, None}
use Rattle.std.specs.List.{list_any}
use Rattle.mdb_driver_pools.specs.Standing.{IsGone}
use Rattle.mdb_driver_rules.specs.Lines.{options_of}
use Rattle.mdb_driver_rules.specs.Monitors.{check_count}
use Rattle.mdb_log.specs.Connections.{available_list, pending_list}
use Rattle.mdb_log.specs.History.{Item, history_of, of_pool}
use Rattle.mdb_log.specs.Homes.{homes}
use Rattle.mdb_log.specs.Opening.{pool_options}
use Rattle.mdb_log.specs.Requests.{is_claimed}
use Rattle.mdb_log.specs.State.{generation_of, state_of}
use Rattle.mdb_log.specs.declared.log.Entry.{Entry}
use Rattle.mdb_log.specs.declared.options.PoolOptions.{PoolOptions}
use Rattle.mdb_pool.specs.Now.{name_of}
use Rattle.mdb_pool.specs.declared.kept.status.PoolState.{PoolState}
use Rattle.mdb_pool.specs.declared.kept.status.PoolState.TheVariants as state
use Rattle.mdb_session.specs.Facts.{flag_number}
use Rattle.mdb_session.specs.declared.driver_pools.DriverPoolNumbers.{DriverPoolNumbers}

abbrev pub state_number : PoolState → ℕ
state_number state.New = 1
state_number state.Ready = 2
state_number state.Paused = 3
state_number state.Closed = 4

-- some pending connection of the pool p was told by no claim
abbrev pub has_job : List Item → ℕ → Bool
has_job h p = list_any (λ c. not (is_claimed h p c)) (pending_list (of_pool p h))

-- the numbers of the pool p of a driver whose pools have these options
abbrev pub pool_numbers_in : PoolOptions → List Item → ℕ → DriverPoolNumbers
pool_numbers_in o h p = record {
  generation = generation_of (of_pool p h) None;
  available = length (available_list (of_pool p h));
  state = state_number (name_of (state_of o (of_pool p h)));
  has_job = flag_number (has_job h p);
}

-- the numbers of the pool p after the log
abbrev pub driver_pool_numbers : List Entry → ℕ → DriverPoolNumbers
driver_pool_numbers log p = pool_numbers_in (pool_options (options_of log)) (history_of log) p

-- The log opened so many pools that one of them has the number p.
abbrev pub HasOpened : List Entry → ℕ → Type 0
HasOpened log p = p < length (homes (history_of log))

-- No pool with the number p is open after the log, nobody holds a connection of one, none of it lives, and no request that was made at it is open.
abbrev pub IsGoneAfter : List Entry → ℕ → Type 0
IsGoneAfter log p = IsGone (history_of log) p

-- how many watchers want the servers checked at once
abbrev pub watchers_after : List Entry → ℕ
watchers_after log = check_count (history_of log)
