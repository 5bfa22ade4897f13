-- The number of a state is that of its name.
use Rattle.std.proofs.Common.{◌≡◌, refl}
use Rattle.mdb_log.specs.State.{State, is_new, is_ready, is_paused, is_closed}
use Rattle.mdb_pool.specs.Now.{name_of}
use Rattle.mdb_pool_rules.specs.Facts.{new_pool_error}
use Rattle.mdb_c.specs.PoolStates.{state_number}

pub as_new : (s : State) → name_of s ≡ name_of is_new → 1 ≡ state_number s
as_new is_new e = refl
as_new is_ready e = absurd (cc e)
as_new (is_paused error) e = absurd (cc e)
as_new is_closed e = absurd (cc e)

pub as_ready : (s : State) → name_of s ≡ name_of is_ready → 2 ≡ state_number s
as_ready is_new e = absurd (cc e)
as_ready is_ready e = refl
as_ready (is_paused error) e = absurd (cc e)
as_ready is_closed e = absurd (cc e)

pub as_paused : (s : State) → name_of s ≡ name_of (is_paused new_pool_error) → 3 ≡ state_number s
as_paused is_new e = absurd (cc e)
as_paused is_ready e = absurd (cc e)
as_paused (is_paused error) e = refl
as_paused is_closed e = absurd (cc e)

pub as_closed : (s : State) → name_of s ≡ name_of is_closed → 4 ≡ state_number s
as_closed is_new e = absurd (cc e)
as_closed is_ready e = absurd (cc e)
as_closed (is_paused error) e = absurd (cc e)
as_closed is_closed e = refl
