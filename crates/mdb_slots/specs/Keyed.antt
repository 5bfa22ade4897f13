-- Lists of values that are named by a number.
use Rattle.std.specs.Prelude.{ℕ, not, ◌==◌, if◌then◌else◌, List, [], ◌∷◌, ◌++◌, filter, find, map, Option, None, Some}

-- the value that came first of those in the list
abbrev pub first_of : {T : Type 0} → List T → Option T
first_of [] = None
first_of (x ∷ xs) = Some x

-- the value that came last, or p where there is none
abbrev pub last_after : {T : Type 0} → Option T → List T → Option T
last_after p [] = p
last_after p (x ∷ xs) = last_after (Some x) xs

abbrev pub last_of : {T : Type 0} → List T → Option T
last_of xs = last_after None xs

module _ {T : Type 0} (key : T → ℕ) where
  -- the value that has the number
  abbrev pub entry_at : ℕ → List T → Option T
  entry_at k xs = find (λ x. key x == k) xs

  -- the values that have other numbers
  abbrev pub others : ℕ → List T → List T
  others k xs = filter (λ x. not (key x == k)) xs

  -- the value comes last, in place of the one that had its number
  abbrev pub put : T → List T → List T
  put x xs = others (key x) xs ++ x ∷ []

  -- the value takes the place of the one that had its number
  abbrev pub swap : T → List T → List T
  swap x xs = map (λ y. if key y == key x then x else y) xs

  -- the value that follows the one that has the number
  abbrev pub entry_after : ℕ → List T → Option T
  entry_after k [] = None
  entry_after k (x ∷ xs) = if key x == k then first_of xs else entry_after k xs

  -- the value that precedes the one that has the number, where p stands before the list
  abbrev pub preceding : Option T → ℕ → List T → Option T
  preceding p k [] = None
  preceding p k (x ∷ xs) = if key x == k then p else preceding (Some x) k xs

  abbrev pub entry_before : ℕ → List T → Option T
  entry_before k xs = preceding None k xs

  -- the values that follow the one that has the number
  abbrev pub after_key : ℕ → List T → List T
  after_key k [] = []
  after_key k (x ∷ xs) = if key x == k then xs else after_key k xs

  -- what is left of a walk that is at the value
  abbrev pub rest_of : Option T → List T → List T
  rest_of None xs = []
  rest_of (Some x) xs = x ∷ after_key (key x) xs
