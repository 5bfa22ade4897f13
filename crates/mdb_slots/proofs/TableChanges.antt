-- What the index leads to after a change.
use Rattle.std.proofs.Common.{◌≡◌, ◌≢◌, ℕ, suc, ◌<◌, ◌≤◌, Bool, true, false, ◌==◌, if◌then◌else◌, Option, Some, None, List, [], ◌∷◌, length, refl, sym, ◌∙◌, ap, subst, arith, set, get_or-set_other, length-set}
use Rattle.std.proofs.lemmas.Grind.{common_steps}
use Rattle.mdb_slots.specs.Lists.{has, without}
use Rattle.mdb_slots.proofs.Items.{below-more, below-without, below-member}
use Rattle.mdb_slots.proofs.Numbers.{same-number, is-same, some-same}
use Rattle.mdb_slots.specs.Keyed.{entry_at, others}
use Rattle.mdb_slots.specs.Cells.{cell_at, after_cell, values, keyed, Pointed, Points, IsIndexed}
use Rattle.mdb_slots.proofs.Lists.{has-without}
use Rattle.mdb_slots.proofs.Pointing.{values-set, entry-none, entry-some, others-none, others-some}

pub has-apart : (s t : ℕ) (us : List ℕ) → has s us ≡ false → has t us ≡ true → t ≢ s
has-apart s t us e f h = let g : has s us ≡ true = subst (λ (j : ℕ). has j us ≡ true) h f in cc

has-kept : (s t : ℕ) (us : List ℕ) → t ≢ s → has t us ≡ true → has t (without s us) ≡ true
has-kept s t [] n e = e
has-kept s t (x ∷ xs) n e = grind (arith, common_steps, n, has-kept s t xs n)

module _ {T : Type 0} (key : T → ℕ) where
  pub length-values : (cs : List (Option T)) (m : ℕ → Option ℕ) (us : List ℕ) → Points key cs m us → length (values cs us) ≡ length us
  length-values cs m [] p = refl
  length-values cs m (x ∷ xs) p = on (cell_at cs x) p.0 (length-values cs m xs p.1)
    where
      on : (c : Option T) → Pointed key m c x → length (values cs xs) ≡ length xs → length (after_cell c (values cs xs)) ≡ length (x ∷ xs)
      on None q e = absurd q
      on (Some y) q e = ap (λ n. suc n) e

  pub length-items : {cs : List (Option T)} {m : ℕ → Option ℕ} {us : List ℕ} → IsIndexed key cs m us → length (values cs us) ≡ length us
  length-items {cs = cs} {m = m} {us = us} i = length-values cs m us i.points

  pub get-some : {cs : List (Option T)} {m : ℕ → Option ℕ} {us : List ℕ} → IsIndexed key cs m us → (k s : ℕ) → m k ≡ Some s → entry_at key k (values cs us) ≡ cell_at cs s
  get-some {cs = cs} {m = m} {us = us} i k s e = entry-some key cs m us k s i.points e (i.member k s e) (i.back k s e)

  pub get-none : {cs : List (Option T)} {m : ℕ → Option ℕ} {us : List ℕ} → IsIndexed key cs m us → (k : ℕ) → m k ≡ None → entry_at key k (values cs us) ≡ None
  get-none {cs = cs} {m = m} {us = us} i k e = entry-none key cs m us k i.points e

  pub slot-within : {cs : List (Option T)} {m : ℕ → Option ℕ} {us : List ℕ} → IsIndexed key cs m us → (k s : ℕ) → m k ≡ Some s → s < length cs
  slot-within {cs = cs} {us = us} i k s e = below-member (length cs) s us i.below (i.member k s e)

  -- the same cells and the same index, seen another way
  points-same : (cs ds : List (Option T)) (m n : ℕ → Option ℕ) (us : List ℕ) → ((k : ℕ) → cell_at ds k ≡ cell_at cs k) → ((k : ℕ) → n k ≡ m k) → Points key cs m us → Points key ds n us
  points-same cs ds m n [] f g p = tt
  points-same cs ds m n (x ∷ xs) f g p = (rw (f x) (on (cell_at cs x) p.0), points-same cs ds m n xs f g p.1)
    where
      on : (c : Option T) → Pointed key m c x → Pointed key n c x
      on None q = q
      on (Some y) q = g (key y) ∙ q

  pub indexed-same : {cs : List (Option T)} {m : ℕ → Option ℕ} {us : List ℕ} → IsIndexed key cs m us → (ds : List (Option T)) (n : ℕ → Option ℕ) → ((k : ℕ) → cell_at ds k ≡ cell_at cs k) → ((k : ℕ) → n k ≡ m k) → length cs ≤ length ds → IsIndexed key ds n us
  indexed-same {cs = cs} {m = m} {us = us} i ds n f g h =
      record {
        points = points-same cs ds m n us f g i.points;
        member = λ k s e. i.member k s (sym (g k) ∙ e);
        back = λ k s e. rw (f s) (i.back k s (sym (g k) ∙ e));
        below = below-more (length cs) (length ds) us h i.below;
      }

  pub values-same : (cs ds : List (Option T)) (us : List ℕ) → ((k : ℕ) → cell_at ds k ≡ cell_at cs k) → values ds us ≡ values cs us
  values-same cs ds [] f = refl
  values-same cs ds (x ∷ xs) f = rw (f x, values-same cs ds xs f) refl

  pub keyed-same : (c : Option T) (j k : ℕ) → keyed key j c ≡ true → keyed key k c ≡ true → j ≡ k
  keyed-same None j k e f = cc
  keyed-same (Some y) j k e f = sym (same-number (key y) j e) ∙ same-number (key y) k f

  -- a value goes
  points-remove : (cs : List (Option T)) (m n : ℕ → Option ℕ) (us : List ℕ) (k s : ℕ) → m k ≡ Some s → ((q : ℕ) → n q ≡ if k == q then None else m q) → Points key cs m us → Points key (set cs s None) n (without s us)
  points-remove cs m n [] k s e g p = tt
  points-remove cs m n (x ∷ xs) k s e g p = on (x == s) refl (points-remove cs m n xs k s e g p.1)
    where
      at : (c : Option T) → x ≢ s → Pointed key m c x → Pointed key n c x
      at None d q = q
      at (Some y) d q = g (key y) ∙ also (k == key y) refl
        where
          also : (v : Bool) → (k == key y) ≡ v → (if k == key y then None else m (key y)) ≡ Some x
          also true w = let f : m k ≡ Some x = subst (λ (j : ℕ). m j ≡ Some x) (sym (same-number k (key y) w)) q in absurd (d (some-same x s (sym f ∙ e)))
          also false w = rw w q

      on : (v : Bool) → (x == s) ≡ v → Points key (set cs s None) n (without s xs) → Points key (set cs s None) n (if x == s then without s xs else (x ∷ without s xs))
      on true w r = rw w r
      on false w r =
          let d : x ≢ s = λ h. let t : (x == s) ≡ true = subst (λ (j : ℕ). (x == j) ≡ true) h (is-same x) in cc in
          rw (w, get_or-set_other cs s x None None d) (at (cell_at cs x) d p.0, r)

  pub removed : {cs : List (Option T)} {m : ℕ → Option ℕ} {us : List ℕ} → IsIndexed key cs m us → (n : ℕ → Option ℕ) (k s : ℕ) → m k ≡ Some s → ((q : ℕ) → n q ≡ if k == q then None else m q) → IsIndexed key (set cs s None) n (without s us)
  removed {cs = cs} {m = m} {us = us} i n k s e g =
      record {
        points = points-remove cs m n us k s e g i.points;
        member = λ q t f. has-kept s t us (other q t f) (i.member q t (was q t f));
        back = λ q t f. rw (get_or-set_other cs s t None None (other q t f)) (i.back q t (was q t f));
        below = rw (length-set cs s None) (below-without (length cs) s us i.below);
      }
    where
      left : (q t : ℕ) (v : Bool) → (k == q) ≡ v → (if k == q then None else m q) ≡ Some t → (m q ≡ Some t) × ((k == q) ≡ false)
      left q t true w f = let h : None ≡ Some t = subst (λ (b : Bool). (if b then None else m q) ≡ Some t) w f in cc
      left q t false w f = (subst (λ (b : Bool). (if b then None else m q) ≡ Some t) w f, w)

      was : (q t : ℕ) → n q ≡ Some t → m q ≡ Some t
      was q t f = (left q t (k == q) refl (sym (g q) ∙ f)).0

      other : (q t : ℕ) → n q ≡ Some t → t ≢ s
      other q t f h =
          let l = left q t (k == q) refl (sym (g q) ∙ f) in
          let b : keyed key q (cell_at cs s) ≡ true = i.back q s (l.0 ∙ ap (λ j. Some j) h) in
          let j : k ≡ q = keyed-same (cell_at cs s) k q (i.back k s e) b in
          let t : (k == q) ≡ true = subst (λ (j : ℕ). (k == j) ≡ true) j (is-same k) in
          let z : (k == q) ≡ false = l.1 in
          cc

  pub removed-values : {cs : List (Option T)} {m : ℕ → Option ℕ} {us : List ℕ} → IsIndexed key cs m us → (k s : ℕ) → m k ≡ Some s → values (set cs s None) (without s us) ≡ others key k (values cs us)
  removed-values {cs = cs} {m = m} {us = us} i k s e =
      values-set cs s None (without s us) (has-without s us) ∙ sym (others-some key cs m us k s i.points e (i.back k s e))

  -- a list without values has none to take
  pub others-empty : (k : ℕ) (xs : List T) → length xs ≡ 0 → xs ≡ others key k xs
  others-empty k [] e = refl
  others-empty k (x ∷ xs) e = cc

  pub absent-values : {cs : List (Option T)} {m : ℕ → Option ℕ} {us : List ℕ} → IsIndexed key cs m us → (k : ℕ) → m k ≡ None → others key k (values cs us) ≡ values cs us
  absent-values {cs = cs} {m = m} {us = us} i k e = others-none key cs m us k i.points e
