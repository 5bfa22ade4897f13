-- A list with changes that can be taken back.
use Rattle.std.specs.Prelude.{◌≡◌, ◌≤◌, ◌+◌, ℕ, List, length, Option, None, Some}
use Rattle.mdb_slots.specs.declared.edit.Edit.{Edit}
use Rattle.mdb_slots.specs.Edits.{rewound, grows}

-- the list as it is and as it was when it was last committed, the capacity that it had then, how long it becomes without memory, and how many changes may come without memory
pub record Open (T : Type 0) : Type 0 where
  pub now : List T
  pub base : List T
  pub capacity : ℕ
  pub reach : ℕ
  pub room : ℕ

-- the changes of a list, and the capacity of the storage that it moves to for them, if it does
pub record ListSteps (T : Type 0) : Type 0 where
  pub changes : List (Edit T)
  pub storage : Option ℕ

-- one value as it is and as it was when it was last committed
pub record OpenOne (T : Type 0) : Type 0 where
  pub now : T
  pub base : T

-- the value, or another where there is none
abbrev pub or_else : {T : Type 0} → Option T → T → T
or_else None y = y
or_else (Some x) y = x

module _ {T : Type 0} where
  -- what was changed between the two can be taken back
  abbrev pub GoesBack : Open T → Open T → Type 0
  GoesBack a b = (b.base ≡ a.base) × (b.capacity ≡ a.capacity)

  -- the list once the changes are made
  abbrev pub list_after : ListSteps T → List T → List T
  list_after p xs = rewound p.changes xs

  -- its capacity then
  abbrev pub room_after : ListSteps T → ℕ → ℕ
  room_after p capacity = or_else p.storage capacity

  -- the changes can be made without memory
  abbrev pub ListFits : ListSteps T → List T → ℕ → Type 0
  ListFits p xs capacity = grows p.changes + length xs ≤ room_after p capacity
