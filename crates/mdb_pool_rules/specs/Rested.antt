-- What the items of a pool say where no answer is half told.
use Rattle.std.specs.Prelude.{ℕ, ◌≡◌, ◌<◌, true, false, List, [], Some, None, is_some}
use Rattle.mdb_log.specs.History.{PoolItem, given, has_asked}
use Rattle.mdb_log.specs.Connections.{has, live, pending_list, available_list, parties, pins, is_pinned, held, granted_to}
use Rattle.mdb_log.specs.Requests.{is_warm, end_of}

-- What the moments between the answers have in common: whoever was given a connection has a live one and has not ended; nobody has an available one, and it has no pin; a pending one has no
-- pin, and the party that it was granted to, until that one ended; a warm request is given pending ones alone; a connection with a pin that nobody holds is at its pin.
pub record Rested (xs : List PoolItem) : Type 0 where
  pub lives : (r c : ℕ) → given xs r ≡ Some c → live xs c ≡ 1
  pub unended : (r c : ℕ) → given xs r ≡ Some c → end_of xs r ≡ None
  pub free : (c : ℕ) → has c (available_list xs) ≡ true → parties xs c ≡ []
  pub loose : (c : ℕ) → has c (available_list xs) ≡ true → pins xs c ≡ 0
  pub pending_loose : (c : ℕ) → has c (pending_list xs) ≡ true → pins xs c ≡ 0
  pub apart : (c : ℕ) → has c (pending_list xs) ≡ true → has c (available_list xs) ≡ false
  pub background : (c : ℕ) → has c (pending_list xs) ≡ true → granted_to xs c ≡ None → parties xs c ≡ []
  pub left : (c r : ℕ) → has c (pending_list xs) ≡ true → granted_to xs c ≡ Some r → is_some (end_of xs r) ≡ true → parties xs c ≡ []
  pub waits : (c r : ℕ) → has c (pending_list xs) ≡ true → granted_to xs c ≡ Some r → end_of xs r ≡ None → given xs r ≡ Some c
  pub known : (c r : ℕ) → has c (pending_list xs) ≡ true → granted_to xs c ≡ Some r → has_asked xs r ≡ true
  pub warm : (r c : ℕ) → given xs r ≡ Some c → is_warm xs r ≡ true → has c (pending_list xs) ≡ true
  pub at_pin : (c : ℕ) → 0 < pins xs c → held xs c ≡ 0 → is_pinned xs c ≡ true
  pub pinned_free : (c : ℕ) → is_pinned xs c ≡ true → parties xs c ≡ []
