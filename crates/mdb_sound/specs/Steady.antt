-- What always holds of a connection, in numbers: how many were made, how often this one was created, closed, established and failed, whether it lives, its pins, and whether it is pending or available.
use Rattle.std.specs.Prelude.{ℕ, ◌≡◌, ◌+◌, ◌<◌, ◌≤◌, Bool, true, ◌&&◌, nat_lt, nat_le}
use Rattle.mdb_log.specs.Connections.{one_if}

pub record Steady (c made creations closings establishings failures live pins : ℕ) (is_pending is_available : Bool) : Type 0 where
  -- numbered from 1, each of the numbers once
  pub numbered : creations ≡ one_if (nat_lt 0 c && nat_le c made)
  pub balanced : live + closings ≡ creations
  pub decided : establishings + failures ≤ creations
  pub undecided : is_pending ≡ true → establishings + failures ≡ 0
  pub pending_lives : is_pending ≡ true → live ≡ 1
  pub available_lives : is_available ≡ true → live ≡ 1
  pub pinned_lives : 0 < pins → live ≡ 1
