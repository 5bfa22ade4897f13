-- What a pool that stands alone has, as numbers.
use Rattle.std.specs.Prelude.{ℕ, length, None}
use Rattle.mdb_log.specs.Connections.{available_list, pending_list}
use Rattle.mdb_log.specs.Requests.{waiting}
use Rattle.mdb_log.specs.State.{State, is_new, is_ready, is_paused, is_closed, generation_of, state_of}
use Rattle.mdb_pool.specs.Counted.{in_use_total}
use Rattle.mdb_pool_session.specs.PoolLogs.{PoolLog, items}
use Rattle.mdb_c.specs.declared.pool_state_numbers.PoolStateNumbers.{PoolStateNumbers}

abbrev pub state_number : State → ℕ
state_number is_new = 1
state_number is_ready = 2
state_number (is_paused error) = 3
state_number is_closed = 4

abbrev pub pool_state_numbers : PoolLog → PoolStateNumbers
pool_state_numbers l = record {
  generation = generation_of (items l) None;
  available = length (available_list (items l));
  in_use = in_use_total (items l);
  pending = length (pending_list (items l));
  waiting = length (waiting (items l));
  number = l.number;
  state = state_number (state_of l.options (items l));
}
