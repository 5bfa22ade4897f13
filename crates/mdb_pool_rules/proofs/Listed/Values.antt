-- Lists of values that are named by a number.
use Rattle.std.proofs.Common.{ℕ, ◌≡◌, ◌+◌, Bool, true, false, ◌==◌, List, [], ◌∷◌, ◌++◌, length, map, filter, find, Option, Some, None, is_some, refl, sym, ◌∙◌, ap, subst, ◌<◌, ◌≤◌, arith, if◌then◌else◌, not, ◌&&◌}
use Rattle.std.specs.Prelude.{count_by}
use Rattle.std.proofs.lemmas.Grind.{common_steps}
use Rattle.std.proofs.lemmas.List.Folds.{find-append}
use Rattle.mdb_slots.specs.Keyed.{entry_at, others, put, swap}
use Rattle.mdb_log.specs.History.{without}
use Rattle.mdb_log.specs.Connections.{has, one_if}

-- x is a member
pub data In {T : Type 0} : T → List T → Type 0 where
  here : {x : T} {xs : List T} → In x (x ∷ xs)
  there : {x y : T} {xs : List T} → In x xs → In x (y ∷ xs)

pub without-absent : (k : ℕ) (ks : List ℕ) → has k ks ≡ false → without k ks ≡ ks
without-absent k [] e = refl
without-absent k (j ∷ ks) e = grind (arith, common_steps, without-absent k ks)

module _ {T : Type 0} (key : T → ℕ) where
  pub entry_at-others : (k j : ℕ) (xs : List T) → entry_at key k (others key j xs) ≡ if j == k then None else entry_at key k xs
  entry_at-others k j [] = grind arith
  entry_at-others k j (x ∷ xs) = grind (arith, common_steps, entry_at-others k j xs)

  pub entry_at-append : (k : ℕ) (xs : List T) (y : T) → entry_at key k (xs ++ y ∷ []) ≡ if is_some (entry_at key k xs) then entry_at key k xs else (if key y == k then Some y else None)
  entry_at-append k [] y = refl
  entry_at-append k (x ∷ xs) y = grind (arith, common_steps, entry_at-append k xs y)

  pub filter-append : (p : T → Bool) (xs : List T) (y : T) → filter p (xs ++ y ∷ []) ≡ filter p xs ++ (if p y then (y ∷ []) else [])
  filter-append p [] y = refl
  filter-append p (x ∷ xs) y = grind (arith, common_steps, filter-append p xs y)

  pub map-filter-others : (p : T → Bool) (k : ℕ) (xs : List T) → map key (filter p (others key k xs)) ≡ without k (map key (filter p xs))
  map-filter-others p k [] = refl
  map-filter-others p k (x ∷ xs) = grind (arith, common_steps, map-filter-others p k xs)

  pub entry_at-put : (k : ℕ) (x : T) (xs : List T) → entry_at key k (put key x xs) ≡ if key x == k then Some x else entry_at key k xs
  entry_at-put k x xs = grind (arith, common_steps, entry_at-append k (others key (key x) xs) x, entry_at-others k (key x) xs)

  pub map-append : (xs : List T) (y : T) → map key (xs ++ y ∷ []) ≡ map key xs ++ key y ∷ []
  map-append [] y = refl
  map-append (x ∷ xs) y = ap (λ zs. key x ∷ zs) (map-append xs y)

  -- the numbers stay where a value takes the place of another
  pub map-swap : (x : T) (xs : List T) → map key (swap key x xs) ≡ map key xs
  map-swap x [] = refl
  map-swap x (y ∷ ys) = grind (arith, common_steps, map-swap x ys)

  pub others-absent : (k : ℕ) (xs : List T) → entry_at key k xs ≡ None → others key k xs ≡ xs
  others-absent k [] e = refl
  others-absent k (x ∷ xs) e = grind (arith, common_steps, others-absent k xs)

  others-twice : (k : ℕ) (xs : List T) → others key k (others key k xs) ≡ others key k xs
  others-twice k [] = refl
  others-twice k (x ∷ xs) = grind (arith, common_steps, others-twice k xs)

  pub where-put : (p : T → Bool) (x : T) (xs : List T) → map key (filter p (put key x xs)) ≡ without (key x) (map key (filter p xs)) ++ (if p x then (key x ∷ []) else [])
  where-put p x xs = on (p x) refl
    where
      on : (b : Bool) → p x ≡ b → map key (filter p (put key x xs)) ≡ without (key x) (map key (filter p xs)) ++ (if p x then (key x ∷ []) else [])
      on true e = grind (arith, common_steps, filter-append p (others key (key x) xs) x, map-filter-others p (key x) xs, map-append (filter p (others key (key x) xs)) x)
      on false e = grind (arith, common_steps, filter-append p (others key (key x) xs) x, map-filter-others p (key x) xs)

  -- how many have the number
  abbrev pub named : ℕ → List T → ℕ
  named k xs = count_by (λ x. key x == k) xs

  pub named-others : (k j : ℕ) (xs : List T) → named k (others key j xs) ≡ if j == k then 0 else named k xs
  named-others k j [] = grind arith
  named-others k j (x ∷ xs) = grind (arith, common_steps, named-others k j xs)

  pub named-append : (k : ℕ) (xs : List T) (y : T) → named k (xs ++ y ∷ []) ≡ named k xs + one_if (key y == k)
  named-append k [] y = grind (arith, common_steps)
  named-append k (x ∷ xs) y = grind (arith, common_steps, named-append k xs y)

  pub named-put : (k : ℕ) (x : T) (xs : List T) → named k (put key x xs) ≡ if key x == k then 1 else named k xs
  named-put k x xs = grind (arith, common_steps, named-append k (others key (key x) xs) x, named-others k (key x) xs)

  pub length-others : (k : ℕ) (xs : List T) → length (others key k xs) + named k xs ≡ length xs
  length-others k [] = refl
  length-others k (x ∷ xs) = grind (arith, common_steps, length-others k xs)

  pub length-put : (x : T) (xs : List T) → length (put key x xs) + named (key x) xs ≡ length xs + 1
  length-put x xs = grind (arith, common_steps, length-others (key x) xs)

  -- a number that none has is in no part of the list
  pub has-none : (p : T → Bool) (k : ℕ) (xs : List T) → named k xs ≡ 0 → has k (map key (filter p xs)) ≡ false
  has-none p k [] e = refl
  has-none p k (x ∷ xs) e = grind (arith, common_steps, has-none p k xs)

  abbrev pub passes : (T → Bool) → Option T → Bool
  passes p None = false
  passes p (Some x) = p x

  pub has-where : (p : T → Bool) (k : ℕ) (xs : List T) → named k xs ≡ one_if (is_some (entry_at key k xs)) → has k (map key (filter p xs)) ≡ passes p (entry_at key k xs)
  has-where p k [] e = refl
  has-where p k (x ∷ xs) e = grind (arith, common_steps, has-where p k xs, has-none p k xs)

  -- what is put fails the test: its number leaves the part, or was not there
  pub where-put_out : (p : T → Bool) (x : T) (xs : List T) → p x ≡ false → map key (filter p (put key x xs)) ≡ without (key x) (map key (filter p xs))
  where-put_out p x xs e = grind (arith, common_steps, where-put p x xs)

  pub where-put_stay : (p : T → Bool) (x : T) (xs : List T) → p x ≡ false → named (key x) xs ≡ one_if (is_some (entry_at key (key x) xs)) → passes p (entry_at key (key x) xs) ≡ false → map key (filter p (put key x xs)) ≡ map key (filter p xs)
  where-put_stay p x xs e single f = where-put_out p x xs e ∙ without-absent (key x) (map key (filter p xs)) (has-where p (key x) xs single ∙ f)

  -- what is put passes the test, and its number was not there
  pub where-put_in : (p : T → Bool) (x : T) (xs : List T) → p x ≡ true → named (key x) xs ≡ one_if (is_some (entry_at key (key x) xs)) → passes p (entry_at key (key x) xs) ≡ false → map key (filter p (put key x xs)) ≡ map key (filter p xs) ++ key x ∷ []
  where-put_in p x xs e single f =
      let g : without (key x) (map key (filter p xs)) ≡ map key (filter p xs) = without-absent (key x) (map key (filter p xs)) (has-where p (key x) xs single ∙ f) in
      grind (arith, where-put p x xs, g)

  pub length-where : (p : T → Bool) (xs : List T) → length (map key (filter p xs)) ≡ count_by p xs
  length-where p [] = refl
  length-where p (x ∷ xs) = grind (arith, common_steps, length-where p xs)

  -- a member of a list in which its number stands once is what the number finds
  pub named-member : (x : T) (xs : List T) → In x xs → 0 < named (key x) xs
  named-member x [] i = elim i [ ]
  named-member x (y ∷ ys) here = grind (arith, common_steps)
  named-member x (y ∷ ys) (there i) = let e : 0 < named (key x) ys = named-member x ys i in grind (arith, common_steps)

  pub member-at : (x : T) (xs : List T) → In x xs → named (key x) xs ≤ 1 → entry_at key (key x) xs ≡ Some x
  member-at x [] i l = elim i [ ]
  member-at x (y ∷ ys) here l = grind (arith, common_steps)
  member-at x (y ∷ ys) (there i) l = let e : 0 < named (key x) ys = named-member x ys i in let f : named (key x) ys ≤ 1 → entry_at key (key x) ys ≡ Some x = member-at x ys i in grind (arith, common_steps)

  -- a value in the place of another
  pub entry_at-swap_any : (k : ℕ) (x : T) (xs : List T) → entry_at key k (swap key x xs) ≡ if key x == k then (if is_some (entry_at key k xs) then Some x else None) else entry_at key k xs
  entry_at-swap_any k x [] = grind arith
  entry_at-swap_any k x (y ∷ ys) = grind (arith, common_steps, entry_at-swap_any k x ys)

  pub entry_at-swap : (k : ℕ) (x : T) (xs : List T) → is_some (entry_at key (key x) xs) ≡ true → entry_at key k (swap key x xs) ≡ if key x == k then Some x else entry_at key k xs
  entry_at-swap k x xs e = grind (arith, entry_at-swap_any k x xs)

  pub named-swap : (k : ℕ) (x : T) (xs : List T) → named k (swap key x xs) ≡ named k xs
  named-swap k x [] = refl
  named-swap k x (y ∷ ys) = grind (arith, common_steps, named-swap k x ys)

  pub length-swap : (x : T) (xs : List T) → length (swap key x xs) ≡ length xs
  length-swap x [] = refl
  length-swap x (y ∷ ys) = grind (arith, common_steps, length-swap x ys)

  pub where-swap : (p : T → Bool) (x : T) (xs : List T) → ((y : T) → In y xs → key y ≡ key x → p y ≡ p x) → map key (filter p (swap key x xs)) ≡ map key (filter p xs)
  where-swap p x [] same = refl
  where-swap p x (y ∷ ys) same = on (key y == key x) refl (where-swap p x ys (λ z i. same z (there i)))
    where
      on : (b : Bool) → (key y == key x) ≡ b → map key (filter p (swap key x ys)) ≡ map key (filter p ys) → map key (filter p (swap key x (y ∷ ys))) ≡ map key (filter p (y ∷ ys))
      on true e rest = let f : key y ≡ key x = grind arith in let g : p y ≡ p x = same y here f in grind (arith, common_steps)
      on false e rest = grind (arith, common_steps)

  -- the new value fails the test: its number leaves the part, or was not there
  pub where-swap_out : (p : T → Bool) (x : T) (xs : List T) → p x ≡ false → map key (filter p (swap key x xs)) ≡ without (key x) (map key (filter p xs))
  where-swap_out p x [] e = refl
  where-swap_out p x (y ∷ ys) e = grind (arith, common_steps, where-swap_out p x ys e)

  pub where-swap_stay : (p : T → Bool) (x : T) (xs : List T) → p x ≡ false → named (key x) xs ≡ one_if (is_some (entry_at key (key x) xs)) → passes p (entry_at key (key x) xs) ≡ false → map key (filter p (swap key x xs)) ≡ map key (filter p xs)
  where-swap_stay p x xs e single f = where-swap_out p x xs e ∙ without-absent (key x) (map key (filter p xs)) (has-where p (key x) xs single ∙ f)

  -- what was put last is taken out again
  pub others-put : (x : T) (xs : List T) → others key (key x) (put key x xs) ≡ others key (key x) xs
  others-put x xs = grind (arith, common_steps, filter-append (λ y. not (key y == key x)) (others key (key x) xs) x, others-twice (key x) xs)

  -- nor does it matter that another took its place before
  pub others-swap : (x : T) (xs : List T) → others key (key x) (swap key x xs) ≡ others key (key x) xs
  others-swap x [] = refl
  others-swap x (y ∷ ys) = grind (arith, common_steps, others-swap x ys)

  swap-absent : (x : T) (xs : List T) → swap key x (others key (key x) xs) ≡ others key (key x) xs
  swap-absent x [] = refl
  swap-absent x (y ∷ ys) = grind (arith, common_steps, swap-absent x ys)

  swap-append : (x y : T) (xs : List T) → swap key y (xs ++ x ∷ []) ≡ swap key y xs ++ (if key x == key y then y else x) ∷ []
  swap-append x y [] = refl
  swap-append x y (z ∷ zs) = grind (arith, common_steps, swap-append x y zs)

  -- a value takes the place of the one that was put last
  pub swap-put : (x y : T) (xs : List T) → key y ≡ key x → swap key y (put key x xs) ≡ put key y xs
  swap-put x y xs e = rw (← e) (grind (arith, common_steps, swap-append x y (others key (key y) xs), swap-absent y xs))

  -- what is put is found first where nothing else meets the test
  pub find-put : (p : T → Bool) (x : T) (xs : List T) → entry_at key (key x) xs ≡ None → find p xs ≡ None → find p (put key x xs) ≡ if p x then Some x else None
  find-put p x xs new none = rw (others-absent (key x) xs new) (find-append p xs (x ∷ []) ∙ rw none refl)

  -- a member that passes the test is in that part
  pub member-has : (p : T → Bool) (x : T) (xs : List T) → In x xs → p x ≡ true → has (key x) (map key (filter p xs)) ≡ true
  member-has p x [] i e = elim i [ ]
  member-has p x (y ∷ ys) here e = grind (arith, common_steps)
  member-has p x (y ∷ ys) (there i) e = let f : has (key x) (map key (filter p ys)) ≡ true = member-has p x ys i e in grind (arith, common_steps)

  -- where the old value passes the test as the new one does
  pub where-swap_same : (p : T → Bool) (x old : T) (xs : List T) → entry_at key (key x) xs ≡ Some old → named (key x) xs ≤ 1 → p old ≡ p x → map key (filter p (swap key x xs)) ≡ map key (filter p xs)
  where-swap_same p x old xs at_old single e = where-swap p x xs (λ y i f.
      let g : entry_at key (key y) xs ≡ Some y = member-at y xs i (subst (λ k. named k xs ≤ 1) (sym f) single) in
      let h : entry_at key (key x) xs ≡ Some y = subst (λ k. entry_at key k xs ≡ Some y) f g in
      let w : old ≡ y = cc in
      ap p (sym w) ∙ e)

pub one_if-le : (b : Bool) → one_if b ≤ 1
one_if-le true = omega arith
one_if-le false = omega arith

-- what meets two tests is not found where nothing meets the first
pub find-narrow : {T : Type 0} (p q : T → Bool) (xs : List T) → find p xs ≡ None → find (λ x. p x && q x) xs ≡ None
find-narrow p q [] e = refl
find-narrow p q (x ∷ xs) e = grind (arith, common_steps, find-narrow p q xs)

pub find-member : {T : Type 0} (p : T → Bool) (x : T) (xs : List T) → find p xs ≡ Some x → In x xs × (p x ≡ true)
find-member p x [] e = cc
find-member p x (y ∷ ys) e = on (p y) refl (find-member p x ys)
  where
    on : (b : Bool) → p y ≡ b → (find p ys ≡ Some x → In x ys × (p x ≡ true)) → In x (y ∷ ys) × (p x ≡ true)
    on true f rest = let g : y ≡ x = grind arith in subst (λ z. In x (z ∷ ys) × (p x ≡ true)) (sym g) (here, rw (← g) f)
    on false f rest = let g : find p ys ≡ Some x = grind arith in (there (rest g).0, (rest g).1)

pub length-without : (k : ℕ) (ks : List ℕ) → length (without k ks) ≤ length ks
length-without k [] = omega arith
length-without k (j ∷ ks) = grind (arith, common_steps, length-without k ks)

pub length-without_has : (k : ℕ) (ks : List ℕ) → has k ks ≡ true → length (without k ks) < length ks
length-without_has k [] e = cc
length-without_has k (j ∷ ks) e = grind (arith, common_steps, length-without_has k ks, length-without k ks)

pub entry_at-key : {T : Type 0} (key : T → ℕ) (k : ℕ) (x : T) (xs : List T) → entry_at key k xs ≡ Some x → key x ≡ k
entry_at-key key k x [] e = cc
entry_at-key key k x (y ∷ ys) e = grind (arith, entry_at-key key k x ys)
