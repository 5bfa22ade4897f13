-- Lists of values, one for each number.
use Rattle.std.specs.Prelude.{ℕ, ◌+◌, ◌≡◌, Bool, true, false, zero, suc, ◌&&◌, ◌||◌, ◌==◌, if◌then◌else◌}
use Rattle.mdb_tallies.specs.declared.lists.Lists.{Lists}
use Rattle.mdb_tallies.specs.declared.connection.Place.{Place}
use Rattle.mdb_tallies.specs.Tables.{at, same_key}

abbrev pub nth : {V : Type 0} → Lists V → ℕ → ℕ → V
nth l k i = at l.items k i 0

abbrev pub len : {V : Type 0} → Lists V → ℕ → ℕ
len l k = at l.lengths k 0 0

-- the value is the last of its list now
pub record Pushes {V : Type 0} (k : ℕ) (v : V) (old new : Lists V) : Type 0 where
  pub items : (a b c : ℕ) → at new.items a b c ≡ (if same_key k (len old k) 0 a b c then v else at old.items a b c)
  pub lengths : (a b c : ℕ) → at new.lengths a b c ≡ (if same_key k 0 0 a b c then len old k + 1 else at old.lengths a b c)

-- the list is empty now
pub record Clears {V : Type 0} (k : ℕ) (old new : Lists V) : Type 0 where
  pub items : new.items ≡ old.items
  pub lengths : (a b c : ℕ) → at new.lengths a b c ≡ (if same_key k 0 0 a b c then 0 else at old.lengths a b c)

-- the place is the connection c of pool p
abbrev pub is_place : Place → ℕ → ℕ → Bool
is_place x p c = (x.pool == p) && (x.id == c)

-- one of the first n places is it
abbrev pub listed : ℕ → (ℕ → Place) → ℕ → ℕ → Bool
listed zero places p c = false
listed (suc n) places p c = is_place (places n) p c || listed n places p c

-- the value is the last of its list now, where the test holds; else the lists are the same
abbrev pub PushesIf : {V : Type 0} → Bool → ℕ → V → Lists V → Lists V → Type 0
PushesIf true k v old new = Pushes k v old new
PushesIf false k v old new = new ≡ old

-- the list has the connection c of pool p
abbrev pub in_list : Lists Place → ℕ → ℕ → ℕ → Bool
in_list l k p c = listed (len l k) (nth l k) p c
