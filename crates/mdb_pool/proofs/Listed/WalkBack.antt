-- A walk back through the values of a table, from the last one.
use Rattle.std.proofs.Common.{◌≡◌, ℕ, suc, ◌<◌, ◌+◌, ◌-◌, ◌==◌, Bool, true, false, cond, Option, Some, None, List, [], ◌∷◌, ◌++◌, map, filter, length, reverse, refl, sym, ◌∙◌, ap, subst, arith, append_assoc, append-nil, length-append}
use Rattle.std.proofs.lemmas.Grind.{common_steps}
use Rattle.std.proofs.lemmas.List.{reverse-append}
use Rattle.std.proofs.lemmas.List.Sums.{length-filter, sum_by-cons}
use Rattle.std.specs.List.{count_by}
use Rattle.mdb_slots.specs.Keyed.{after_key, entry_before, preceding, last_of, last_after}
use Rattle.mdb_slots.specs.Lists.{has, apart}
use Rattle.mdb_slots.proofs.Lists.{apart-first, apart-rest}
use Rattle.mdb_slots.proofs.Numbers.{is-same, same-number}

module _ {T : Type 0} where
  -- the values before the last one
  pub record EndsWith (x : T) (xs : List T) : Type 0 where
    pub front : List T
    pub is : xs ≡ front ++ x ∷ []

  ends-later : (x y : T) (xs : List T) → last_after (Some y) xs ≡ Some x → EndsWith x (y ∷ xs)
  ends-later x y [] e = let w : y ≡ x = cc in record { front = []; is = ap (λ z. z ∷ []) w }
  ends-later x y (z ∷ zs) e = let w = ends-later x z zs e in record { front = y ∷ w.front; is = ap (λ ks. y ∷ ks) w.is }

  pub ends-with : (x : T) (xs : List T) → last_of xs ≡ Some x → EndsWith x xs
  ends-with x [] e = cc
  ends-with x (y ∷ ys) e = ends-later x y ys e

  not-none : (x : T) (xs : List T) → last_after (Some x) xs ≡ None → x ∷ xs ≡ []
  not-none x [] e = cc
  not-none x (y ∷ ys) e = let w : y ∷ ys ≡ [] = not-none y ys e in cc

  pub ends-none : (xs : List T) → last_of xs ≡ None → xs ≡ []
  ends-none [] e = refl
  ends-none (x ∷ xs) e = not-none x xs e

  -- a value more
  pub count-more : (test : T → Bool) (x : T) (xs : List T) → count_by test (x ∷ xs) ≡ cond (test x) 1 0 + count_by test xs
  count-more test x xs = sum_by-cons (λ y. cond (test y) 1 0) x xs

  pub count-yes : (test : T → Bool) (x : T) (xs : List T) → test x ≡ true → count_by test (x ∷ xs) ≡ 1 + count_by test xs
  count-yes test x xs w = count-more test x xs ∙ ap (λ b. cond b 1 0 + count_by test xs) w

  pub count-no : (test : T → Bool) (x : T) (xs : List T) → test x ≡ false → count_by test (x ∷ xs) ≡ count_by test xs
  count-no test x xs w = let e : count_by test (x ∷ xs) ≡ 0 + count_by test xs = count-more test x xs ∙ ap (λ b. cond b 1 0 + count_by test xs) w in omega (arith, e)

  -- where so many values at the end of a list meet the test as in all of it, they are all that do
  pub filter-end : (test : T → Bool) (xs ys : List T) → count_by test ys ≡ count_by test (xs ++ ys) → filter test (xs ++ ys) ≡ filter test ys
  filter-end test [] ys e = refl
  filter-end test (x ∷ xs) ys e = on (test x) refl (filter-end test xs ys)
    where
      fewer : (zs : List T) → count_by test ys < suc (count_by test (zs ++ ys))
      fewer [] = omega arith
      fewer (z ∷ zs) = grind (arith, common_steps, fewer zs)

      on : (b : Bool) → test x ≡ b → (count_by test ys ≡ count_by test (xs ++ ys) → filter test (xs ++ ys) ≡ filter test ys) → filter test ((x ∷ xs) ++ ys) ≡ filter test ys
      on true w more =
          let f : count_by test ((x ∷ xs) ++ ys) ≡ 1 + count_by test (xs ++ ys) = count-yes test x (xs ++ ys) w in
          let g : count_by test ys < suc (count_by test (xs ++ ys)) = fewer xs in
          absurd (omega (arith, e, f, g))
      on false w more =
          let f : count_by test ((x ∷ xs) ++ ys) ≡ count_by test (xs ++ ys) = count-no test x (xs ++ ys) w in
          rw w (more (e ∙ f))

module _ {T : Type 0} (key : T → ℕ) where
  has-there : (xs : List T) (x : T) (ys : List T) → has (key x) (map key (xs ++ x ∷ ys)) ≡ true
  has-there [] x ys = rw (is-same (key x)) refl
  has-there (z ∷ zs) x ys = on (key z == key x) refl (has-there zs x ys)
    where
      on : (b : Bool) → (key z == key x) ≡ b → has (key x) (map key (zs ++ x ∷ ys)) ≡ true → has (key x) (map key ((z ∷ zs) ++ x ∷ ys)) ≡ true
      on true w more = rw w refl
      on false w more = rw w more

  -- no value before it has the number of the value
  front-apart : (xs : List T) (x : T) (ys : List T) → apart (map key (xs ++ x ∷ ys)) ≡ true → has (key x) (map key xs) ≡ false
  front-apart [] x ys a = refl
  front-apart (z ∷ zs) x ys a = on (key z == key x) refl (front-apart zs x ys (apart-rest (key z) (map key (zs ++ x ∷ ys)) a))
    where
      on : (b : Bool) → (key z == key x) ≡ b → has (key x) (map key zs) ≡ false → has (key x) (map key (z ∷ zs)) ≡ false
      on true w more =
          let f : has (key z) (map key (zs ++ x ∷ ys)) ≡ false = apart-first (key z) (map key (zs ++ x ∷ ys)) a in
          let g : has (key z) (map key (zs ++ x ∷ ys)) ≡ true = subst (λ k. has k (map key (zs ++ x ∷ ys)) ≡ true) (sym (same-number (key z) (key x) w)) (has-there zs x ys) in
          cc
      on false w more = rw w more

  preceding-at : (p : Option T) (xs : List T) (x : T) (ys : List T) → has (key x) (map key xs) ≡ false → preceding key p (key x) (xs ++ x ∷ ys) ≡ last_after p xs
  preceding-at p [] x ys e = rw (is-same (key x)) refl
  preceding-at p (z ∷ zs) x ys e = on (key z == key x) refl (preceding-at (Some z) zs x ys)
    where
      on : (b : Bool) → (key z == key x) ≡ b → (has (key x) (map key zs) ≡ false → preceding key (Some z) (key x) (zs ++ x ∷ ys) ≡ last_after (Some z) zs) → preceding key p (key x) ((z ∷ zs) ++ x ∷ ys) ≡ last_after p (z ∷ zs)
      on true w more = let f : has (key x) (map key (z ∷ zs)) ≡ true = rw w refl in cc
      on false w more = let f : has (key x) (map key (z ∷ zs)) ≡ has (key x) (map key zs) = rw w refl in rw w (more (sym f ∙ e))

  after-at : (xs : List T) (x : T) (ys : List T) → has (key x) (map key xs) ≡ false → after_key key (key x) (xs ++ x ∷ ys) ≡ ys
  after-at [] x ys e = rw (is-same (key x)) refl
  after-at (z ∷ zs) x ys e = on (key z == key x) refl (after-at zs x ys)
    where
      on : (b : Bool) → (key z == key x) ≡ b → (has (key x) (map key zs) ≡ false → after_key key (key x) (zs ++ x ∷ ys) ≡ ys) → after_key key (key x) ((z ∷ zs) ++ x ∷ ys) ≡ ys
      on true w more = let f : has (key x) (map key (z ∷ zs)) ≡ true = rw w refl in cc
      on false w more = let f : has (key x) (map key (z ∷ zs)) ≡ has (key x) (map key zs) = rw w refl in rw w (more (sym f ∙ e))

  -- how much of the walk is left
  abbrev pub back_left : List T → Option T → ℕ
  back_left xs None = 0
  back_left xs (Some x) = length xs - length (after_key key (key x) xs)

  back_left-at : (xs zs : List T) (x : T) (ys : List T) → apart (map key xs) ≡ true → xs ≡ zs ++ x ∷ ys → back_left xs (Some x) ≡ length zs + 1
  back_left-at xs zs x ys a e =
      let f : after_key key (key x) xs ≡ ys = ap (after_key key (key x)) e ∙ after-at zs x ys (front-apart zs x ys (ap (λ ks. apart (map key ks)) (sym e) ∙ a)) in
      let g : length xs ≡ length zs + suc (length ys) = ap length e ∙ length-append zs (x ∷ ys) in
      rw (f, g) (omega arith)

  module _ (test : T → Bool) where
    -- The walk is at the value, the last of those before. Of those after them, which were looked at, the numbers of those that meet the test were found, the last one first. So many of all are missing.
    pub record Back (xs : List T) (all missing : ℕ) (found : List ℕ) (at : Option T) : Type 0 where
      pub before : List T
      pub after : List T
      pub parts : xs ≡ before ++ after
      pub at_is : at ≡ last_of before
      pub found_are : reverse found ≡ map key (filter test after)
      pub missing_are : missing + count_by test after ≡ all

    pub back-starts : (xs : List T) (all : ℕ) (at : Option T) → at ≡ last_of xs → Back xs all all [] at
    back-starts xs all at e = record { before = xs; after = []; parts = sym (append-nil xs); at_is = e; found_are = refl; missing_are = omega arith }

    -- a step
    module _ (xs : List T) (all missing : ℕ) (found : List ℕ) (at : Option T) (b : Back xs all missing found at) (apart_are : apart (map key xs) ≡ true) (x : T) (is : at ≡ Some x) (next : Option T) (steps : next ≡ entry_before key (key x) xs) where
      stands : EndsWith x b.before
      stands = ends-with x b.before (sym b.at_is ∙ is)

      split : xs ≡ stands.front ++ x ∷ b.after
      split = b.parts ∙ (ap (λ ks. ks ++ b.after) stands.is ∙ append_assoc stands.front (x ∷ []) b.after)

      next-is : next ≡ last_of stands.front
      next-is = steps ∙ (ap (entry_before key (key x)) split ∙ preceding-at None stands.front x b.after (front-apart stands.front x b.after (ap (λ ks. apart (map key ks)) (sym split) ∙ apart_are)))

      pub back-less : back_left xs next < back_left xs at
      back-less = on next next-is
        where
          here : back_left xs at ≡ length stands.front + 1
          here = ap (back_left xs) is ∙ back_left-at xs stands.front x b.after apart_are split

          on : (o : Option T) → o ≡ last_of stands.front → back_left xs o < back_left xs at
          on None e = omega (arith, here)
          on (Some y) e =
              let w : EndsWith y stands.front = ends-with y stands.front (sym e) in
              let f : back_left xs (Some y) ≡ length w.front + 1 = back_left-at xs w.front y (x ∷ b.after) apart_are (split ∙ (ap (λ ks. ks ++ x ∷ b.after) w.is ∙ append_assoc w.front (y ∷ []) (x ∷ b.after))) in
              let g : length stands.front ≡ length w.front + 1 = ap length w.is ∙ length-append w.front (y ∷ []) in
              omega (arith, here, f, g)

      pub back-finds : test x ≡ true → 0 < missing → Back xs all (missing - 1) (found ++ key x ∷ []) next
      back-finds m l = record {
        before = stands.front;
        after = x ∷ b.after;
        parts = split;
        at_is = next-is;
        found_are = reverse-append found (key x ∷ []) ∙ (ap (λ ks. key x ∷ ks) b.found_are ∙ rw m refl);
        missing_are = let f : count_by test (x ∷ b.after) ≡ 1 + count_by test b.after = count-yes test x b.after m in omega (arith, f, l, b.missing_are);
      }

      pub back-passes : test x ≡ false → Back xs all missing found next
      back-passes m = record {
        before = stands.front;
        after = x ∷ b.after;
        parts = split;
        at_is = next-is;
        found_are = b.found_are ∙ rw m refl;
        missing_are = let f : count_by test (x ∷ b.after) ≡ count_by test b.after = count-no test x b.after m in omega (arith, f, b.missing_are);
      }

    -- the walk is over
    pub back-over : (xs : List T) (all missing : ℕ) (found : List ℕ) (at : Option T) → Back xs all missing found at → at ≡ None → reverse found ≡ map key (filter test xs)
    back-over xs all missing found at b e = b.found_are ∙ ap (λ ks. map key (filter test ks)) (sym (b.parts ∙ ap (λ ks. ks ++ b.after) (ends-none b.before (sym b.at_is ∙ e))))

    -- or nothing is missing
    pub back-enough : (xs : List T) (all missing : ℕ) (found : List ℕ) (at : Option T) → Back xs all missing found at → missing ≡ 0 → all ≡ length (filter test xs) → reverse found ≡ map key (filter test xs)
    back-enough xs all missing found at b e n =
        let f : count_by test b.after ≡ all = omega (arith, b.missing_are, e) in
        let g : count_by test b.after ≡ count_by test (b.before ++ b.after) = f ∙ (n ∙ (length-filter test xs ∙ ap (count_by test) b.parts)) in
        b.found_are ∙ (sym (ap (map key) (filter-end test b.before b.after g)) ∙ ap (λ ks. map key (filter test ks)) (sym b.parts))
