-- What is undone and done again.
use Rattle.std.specs.Prelude.{◌+◌, ◌-◌, ℕ, List, [], ◌∷◌, ◌++◌, length, take, slice_set}
use Rattle.mdb_slots.specs.declared.edit.Edit.{Edit}
use Rattle.mdb_slots.specs.declared.edit.Edit.TheVariants.{Grew, Grow, Put}

module _ {T : Type 0} where
  abbrev pub undo : Edit T → List T → List T
  undo Grew xs = take (length xs - 1) xs
  undo (Grow v) xs = xs
  undo (Put i v) xs = slice_set xs i v

  abbrev pub redo : Edit T → List T → List T
  redo Grew xs = xs
  redo (Grow v) xs = xs ++ v ∷ []
  redo (Put i v) xs = slice_set xs i v

  -- the newest change stands last, and is undone first
  abbrev pub unwound : List (Edit T) → List T → List T
  unwound [] xs = xs
  unwound (l ∷ ls) xs = undo l (unwound ls xs)

  -- and is done again last
  abbrev pub rewound : List (Edit T) → List T → List T
  rewound [] xs = xs
  rewound (l ∷ ls) xs = rewound ls (redo l xs)

  -- how many values a change pushes when it is done again
  abbrev pub pushes : Edit T → ℕ
  pushes Grew = 0
  pushes (Grow v) = 1
  pushes (Put i v) = 0

  abbrev pub grows : List (Edit T) → ℕ
  grows [] = 0
  grows (l ∷ ls) = pushes l + grows ls
