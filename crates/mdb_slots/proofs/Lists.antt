-- Lists of numbers.
use Rattle.std.proofs.Common.{◌≡◌, ℕ, ◌+◌, ◌≤◌, Bool, true, false, ◌==◌, ◌||◌, ◌&&◌, if◌then◌else◌, not, Option, Some, List, [], ◌∷◌, ◌++◌, length, refl, ap, arith}
use Rattle.std.proofs.lemmas.Grind.{common_steps}
use Rattle.mdb_slots.specs.Lists.{has, apart, without, head_or, last_or}

pub has-append : (k : ℕ) (xs ys : List ℕ) → has k (xs ++ ys) ≡ (has k xs || has k ys)
has-append k [] ys = refl
has-append k (x ∷ xs) ys = grind (arith, common_steps, has-append k xs ys)

both-true : (a b : Bool) → (not a && b) ≡ true → (a ≡ false) × (b ≡ true)
both-true true b e = cc
both-true false b e = (refl, e)

pub apart-first : (x : ℕ) (xs : List ℕ) → apart (x ∷ xs) ≡ true → has x xs ≡ false
apart-first x xs e = (both-true (has x xs) (apart xs) e).0

pub apart-rest : (x : ℕ) (xs : List ℕ) → apart (x ∷ xs) ≡ true → apart xs ≡ true
apart-rest x xs e = (both-true (has x xs) (apart xs) e).1

-- a member stands between two lists
pub record Parts (k : ℕ) (xs : List ℕ) : Type 0 where
  pub front : List ℕ
  pub back : List ℕ
  pub is : xs ≡ front ++ k ∷ back
  pub not_before : has k front ≡ false

pub parts : (k : ℕ) (xs : List ℕ) → has k xs ≡ true → Parts k xs
parts k [] e = cc
parts k (x ∷ xs) e = on (parts k xs) (x == k) refl
  where
    on : (has k xs ≡ true → Parts k xs) → (b : Bool) → (x == k) ≡ b → Parts k (x ∷ xs)
    on more true w = record { front = []; back = xs; is = grind (arith, common_steps); not_before = refl }
    on more false w =
        let h : has k xs ≡ true = grind (arith, common_steps) in
        let p = more h in
        record { front = x ∷ p.front; back = p.back; is = ap (λ zs. x ∷ zs) p.is; not_before = grind (arith, common_steps, p.not_before) }

pub head_or-append : (q : Option ℕ) (xs ys : List ℕ) → head_or q (xs ++ ys) ≡ head_or (head_or q ys) xs
head_or-append q [] ys = refl
head_or-append q (x ∷ xs) ys = refl

pub last_or-append : (p : Option ℕ) (xs ys : List ℕ) → last_or p (xs ++ ys) ≡ last_or (last_or p xs) ys
last_or-append p [] ys = refl
last_or-append p (x ∷ xs) ys = last_or-append (Some x) xs ys

pub without-absent : (k : ℕ) (xs : List ℕ) → has k xs ≡ false → without k xs ≡ xs
without-absent k [] e = refl
without-absent k (x ∷ xs) e = grind (arith, common_steps, without-absent k xs)

pub without-at : (k : ℕ) (xs ys : List ℕ) → has k xs ≡ false → has k ys ≡ false → without k (xs ++ k ∷ ys) ≡ xs ++ ys
without-at k [] ys e f = grind (arith, common_steps, without-absent k ys)
without-at k (x ∷ xs) ys e f = grind (arith, common_steps, without-at k xs ys)

-- the parts of a list in which no number stands twice
pub record Apart (k : ℕ) (xs ys : List ℕ) : Type 0 where
  pub before : apart xs ≡ true
  pub after : apart ys ≡ true
  pub both : apart (xs ++ ys) ≡ true
  pub k_before : has k xs ≡ false
  pub k_after : has k ys ≡ false

pub apart-parts : (k : ℕ) (xs ys : List ℕ) → apart (xs ++ k ∷ ys) ≡ true → Apart k xs ys
apart-parts k [] ys e = record { before = refl; after = grind (arith, common_steps); both = grind (arith, common_steps); k_before = refl; k_after = grind (arith, common_steps) }
apart-parts k (x ∷ xs) ys e =
    let h : apart (xs ++ k ∷ ys) ≡ true = grind (arith, common_steps) in
    let i : has x (xs ++ k ∷ ys) ≡ false = grind (arith, common_steps) in
    let a = apart-parts k xs ys h in
    record {
      before = grind (arith, common_steps, i, a.before, has-append x xs (k ∷ ys));
      after = a.after;
      both = grind (arith, common_steps, i, a.both, has-append x xs (k ∷ ys), has-append x xs ys);
      k_before = grind (arith, common_steps, i, a.k_before, has-append x xs (k ∷ ys));
      k_after = a.k_after;
    }

-- x of the first part does not stand in the second
pub apart-across : (x : ℕ) (xs ys : List ℕ) → apart (xs ++ ys) ≡ true → has x xs ≡ true → has x ys ≡ false
apart-across x [] ys e h = cc
apart-across x (y ∷ xs) ys e h = grind (arith, common_steps, apart-across x xs ys, has-append y xs ys)

pub apart-append : (xs : List ℕ) (k : ℕ) → apart xs ≡ true → has k xs ≡ false → apart (xs ++ k ∷ []) ≡ true
apart-append [] k e h = refl
apart-append (x ∷ xs) k e h = grind (arith, common_steps, apart-append xs k, has-append x xs (k ∷ []))

pub length-without_le : (k : ℕ) (xs : List ℕ) → length (without k xs) ≤ length xs
length-without_le k [] = omega arith
length-without_le k (x ∷ xs) = grind (arith, common_steps, length-without_le k xs)

pub length-without : (k : ℕ) (xs : List ℕ) → has k xs ≡ true → length (without k xs) + 1 ≤ length xs
length-without k [] e = cc
length-without k (x ∷ xs) e = grind (arith, common_steps, length-without k xs, length-without_le k xs)

pub has-without : (s : ℕ) (us : List ℕ) → has s (without s us) ≡ false
has-without s [] = refl
has-without s (x ∷ xs) = on (has-without s xs) (x == s) refl
  where
    on : has s (without s xs) ≡ false → (v : Bool) → (x == s) ≡ v → has s (if x == s then without s xs else (x ∷ without s xs)) ≡ false
    on r true w = rw w r
    on r false w = rw (w, w) r
