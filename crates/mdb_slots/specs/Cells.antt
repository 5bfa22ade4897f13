-- Values in slots, with an index from numbers to slots.
use Rattle.std.specs.Prelude.{◌≡◌, ℕ, Bool, true, false, ◌==◌, Option, Some, None, List, [], ◌∷◌, slice_index_or, length}
use Rattle.mdb_slots.specs.Lists.{has}
use Rattle.mdb_slots.specs.Items.{Below}

module _ {T : Type 0} where
  abbrev pub cell_at : List (Option T) → ℕ → Option T
  cell_at cs k = slice_index_or cs k None

  abbrev pub after_cell : Option T → List T → List T
  after_cell None xs = xs
  after_cell (Some x) xs = x ∷ xs

  -- the values in the slots, in the order of the slots
  abbrev pub values : List (Option T) → List ℕ → List T
  values cs [] = []
  values cs (s ∷ ss) = after_cell (cell_at cs s) (values cs ss)

  -- the value in the slot, if there is one
  abbrev pub at_place : List (Option T) → Option ℕ → Option T
  at_place cs None = None
  at_place cs (Some s) = cell_at cs s

module _ {T : Type 0} (key : T → ℕ) where
  -- the cell has a value with the number
  abbrev pub keyed : ℕ → Option T → Bool
  keyed k None = false
  keyed k (Some x) = key x == k

  -- the index leads from the value of the cell to the slot
  abbrev pub Pointed : (ℕ → Option ℕ) → Option T → ℕ → Type 0
  Pointed m None s = ⊥
  Pointed m (Some x) s = m (key x) ≡ Some s

  abbrev pub Points : List (Option T) → (ℕ → Option ℕ) → List ℕ → Type 0
  Points cs m [] = Unit {0}
  Points cs m (s ∷ ss) = Pointed m (cell_at cs s) s × Points cs m ss

  -- the index leads from each value to its slot, and to nothing else
  pub record IsIndexed (cs : List (Option T)) (m : ℕ → Option ℕ) (us : List ℕ) : Type 0 where
    pub points : Points cs m us
    pub member : (k s : ℕ) → m k ≡ Some s → has s us ≡ true
    pub back : (k s : ℕ) → m k ≡ Some s → keyed k (cell_at cs s) ≡ true
    pub below : Below (length cs) us
