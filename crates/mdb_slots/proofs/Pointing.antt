-- Values in slots, with an index from numbers to slots.
use Rattle.std.proofs.Common.{◌≡◌, ◌≢◌, ℕ, ◌<◌, Bool, true, false, ◌==◌, Option, Some, None, List, [], ◌∷◌, ◌++◌, length, refl, sym, ◌∙◌, ap, subst, arith, set, get_or-set_other, get_or-set_same}
use Rattle.std.proofs.lemmas.Grind.{common_steps}
use Rattle.mdb_slots.specs.Lists.{has, without}
use Rattle.mdb_slots.proofs.Chains.{ne-of, rest-of}
use Rattle.mdb_slots.proofs.Numbers.{same-number, is-same, some-same}
use Rattle.mdb_slots.specs.Keyed.{entry_at, others, swap}
use Rattle.mdb_slots.specs.Cells.{cell_at, after_cell, values, keyed, Pointed, Points}

module _ {T : Type 0} where
  pub values-set : (cs : List (Option T)) (s : ℕ) (c : Option T) (us : List ℕ) → has s us ≡ false → values (set cs s c) us ≡ values cs us
  values-set cs s c [] e = refl
  values-set cs s c (x ∷ xs) e = rw (get_or-set_other cs s x c None (ne-of x s xs e), values-set cs s c xs (rest-of x s xs e)) refl

  after-append : (c : Option T) (xs ys : List T) → after_cell c (xs ++ ys) ≡ after_cell c xs ++ ys
  after-append None xs ys = refl
  after-append (Some x) xs ys = refl

  pub values-append : (cs : List (Option T)) (s : ℕ) (us : List ℕ) → values cs (us ++ s ∷ []) ≡ values cs us ++ after_cell (cell_at cs s) []
  values-append cs s [] = refl
  values-append cs s (x ∷ xs) = ap (λ ys. after_cell (cell_at cs x) ys) (values-append cs s xs) ∙ after-append (cell_at cs x) (values cs xs) (after_cell (cell_at cs s) [])

module _ {T : Type 0} (key : T → ℕ) where
  -- a cell that has the number is pointed to by it
  pub points-at : (cs : List (Option T)) (m : ℕ → Option ℕ) (us : List ℕ) (s k : ℕ) → Points key cs m us → has s us ≡ true → keyed key k (cell_at cs s) ≡ true → m k ≡ Some s
  points-at cs m [] s k p h e = cc
  points-at cs m (x ∷ xs) s k p h e = on (x == s) refl (points-at cs m xs s k p.1)
    where
      at : (c : Option T) → Pointed key m c x → keyed key k c ≡ true → m k ≡ Some x
      at None q f = cc
      at (Some y) q f = subst (λ (j : ℕ). m j ≡ Some x) (same-number (key y) k f) q

      on : (v : Bool) → (x == s) ≡ v → (has s xs ≡ true → keyed key k (cell_at cs s) ≡ true → m k ≡ Some s) → m k ≡ Some s
      on true w more = subst (λ (j : ℕ). m k ≡ Some j) (same-number x s w) (at (cell_at cs x) p.0 (subst (λ (j : ℕ). keyed key k (cell_at cs j) ≡ true) (sym (same-number x s w)) e))
      on false w more = more (grind (arith, common_steps, w, h)) e

  -- no value has a number that leads nowhere
  pub entry-none : (cs : List (Option T)) (m : ℕ → Option ℕ) (us : List ℕ) (k : ℕ) → Points key cs m us → m k ≡ None → entry_at key k (values cs us) ≡ None
  entry-none cs m [] k p e = refl
  entry-none cs m (x ∷ xs) k p e = on (cell_at cs x) p.0 (entry-none cs m xs k p.1 e)
    where
      on : (c : Option T) → Pointed key m c x → entry_at key k (values cs xs) ≡ None → entry_at key k (after_cell c (values cs xs)) ≡ None
      on None q r = r
      on (Some y) q r = also (key y == k) refl
        where
          also : (v : Bool) → (key y == k) ≡ v → entry_at key k (y ∷ values cs xs) ≡ None
          also true w = let f : m k ≡ Some x = subst (λ (j : ℕ). m j ≡ Some x) (same-number (key y) k w) q in let g : None ≡ Some x = sym e ∙ f in cc
          also false w = rw w r

  pub others-none : (cs : List (Option T)) (m : ℕ → Option ℕ) (us : List ℕ) (k : ℕ) → Points key cs m us → m k ≡ None → others key k (values cs us) ≡ values cs us
  others-none cs m [] k p e = refl
  others-none cs m (x ∷ xs) k p e = on (cell_at cs x) p.0 (others-none cs m xs k p.1 e)
    where
      on : (c : Option T) → Pointed key m c x → others key k (values cs xs) ≡ values cs xs → others key k (after_cell c (values cs xs)) ≡ after_cell c (values cs xs)
      on None q r = r
      on (Some y) q r = also (key y == k) refl
        where
          also : (v : Bool) → (key y == k) ≡ v → others key k (y ∷ values cs xs) ≡ y ∷ values cs xs
          also true w = let f : m k ≡ Some x = subst (λ (j : ℕ). m j ≡ Some x) (same-number (key y) k w) q in let g : None ≡ Some x = sym e ∙ f in cc
          also false w = rw w (ap (λ zs. y ∷ zs) r)

  keyed-at : (m : ℕ → Option ℕ) (c : Option T) (x k : ℕ) → Pointed key m c x → keyed key k c ≡ true → m k ≡ Some x
  keyed-at m None x k q f = cc
  keyed-at m (Some y) x k q f = subst (λ (j : ℕ). m j ≡ Some x) (same-number (key y) k f) q

  -- another slot than the one that the number leads to has another number
  pub not-keyed : (m : ℕ → Option ℕ) (c : Option T) (x s k : ℕ) → Pointed key m c x → m k ≡ Some s → (x == s) ≡ false → keyed key k c ≡ false
  not-keyed m c x s k q e w = on (keyed key k c) refl
    where
      on : (v : Bool) → keyed key k c ≡ v → keyed key k c ≡ false
      on false f = f
      on true f =
          let g : x ≡ s = some-same x s (sym (keyed-at m c x k q f) ∙ e) in
          let h : (x == s) ≡ true = subst (λ (j : ℕ). (x == j) ≡ true) g (is-same x) in
          cc

  entry-hit : (c : Option T) (k : ℕ) (zs : List T) → keyed key k c ≡ true → entry_at key k (after_cell c zs) ≡ c
  entry-hit None k zs e = cc
  entry-hit (Some y) k zs e = rw e refl

  entry-miss : (c : Option T) (k : ℕ) (zs : List T) → keyed key k c ≡ false → entry_at key k (after_cell c zs) ≡ entry_at key k zs
  entry-miss None k zs e = refl
  entry-miss (Some y) k zs e = rw e refl

  -- the value with a number is in the slot that the number leads to
  pub entry-some : (cs : List (Option T)) (m : ℕ → Option ℕ) (us : List ℕ) (k s : ℕ) → Points key cs m us → m k ≡ Some s → has s us ≡ true → keyed key k (cell_at cs s) ≡ true → entry_at key k (values cs us) ≡ cell_at cs s
  entry-some cs m [] k s p e h f = cc
  entry-some cs m (x ∷ xs) k s p e h f = on (x == s) refl (λ g. entry-some cs m xs k s p.1 e g f)
    where
      on : (v : Bool) → (x == s) ≡ v → (has s xs ≡ true → entry_at key k (values cs xs) ≡ cell_at cs s) → entry_at key k (values cs (x ∷ xs)) ≡ cell_at cs s
      on true w more =
          let g : s ≡ x = sym (same-number x s w) in
          rw g (entry-hit (cell_at cs x) k (values cs xs) (subst (λ (j : ℕ). keyed key k (cell_at cs j) ≡ true) g f))
      on false w more = entry-miss (cell_at cs x) k (values cs xs) (not-keyed m (cell_at cs x) x s k p.0 e w) ∙ more (grind (arith, common_steps, w, h))

  others-hit : (c : Option T) (k : ℕ) (zs : List T) → keyed key k c ≡ true → others key k (after_cell c zs) ≡ others key k zs
  others-hit None k zs e = cc
  others-hit (Some y) k zs e = rw e refl

  others-miss : (c : Option T) (k : ℕ) (zs : List T) → keyed key k c ≡ false → others key k (after_cell c zs) ≡ after_cell c (others key k zs)
  others-miss None k zs e = refl
  others-miss (Some y) k zs e = rw e refl

  pub others-some : (cs : List (Option T)) (m : ℕ → Option ℕ) (us : List ℕ) (k s : ℕ) → Points key cs m us → m k ≡ Some s → keyed key k (cell_at cs s) ≡ true → others key k (values cs us) ≡ values cs (without s us)
  others-some cs m [] k s p e f = refl
  others-some cs m (x ∷ xs) k s p e f = on (x == s) refl (others-some cs m xs k s p.1 e f)
    where
      on : (v : Bool) → (x == s) ≡ v → others key k (values cs xs) ≡ values cs (without s xs) → others key k (values cs (x ∷ xs)) ≡ values cs (without s (x ∷ xs))
      on true w r = rw w (others-hit (cell_at cs x) k (values cs xs) (subst (λ (j : ℕ). keyed key k (cell_at cs j) ≡ true) (sym (same-number x s w)) f) ∙ r)
      on false w r = rw w (others-miss (cell_at cs x) k (values cs xs) (not-keyed m (cell_at cs x) x s k p.0 e w) ∙ ap (λ zs. after_cell (cell_at cs x) zs) r)

  swap-hit : (c : Option T) (v : T) (zs : List T) → keyed key (key v) c ≡ true → swap key v (after_cell c zs) ≡ v ∷ swap key v zs
  swap-hit None v zs e = cc
  swap-hit (Some y) v zs e = rw e refl

  swap-miss : (c : Option T) (v : T) (zs : List T) → keyed key (key v) c ≡ false → swap key v (after_cell c zs) ≡ after_cell c (swap key v zs)
  swap-miss None v zs e = refl
  swap-miss (Some y) v zs e = rw e refl

  pub swap-some : (cs : List (Option T)) (m : ℕ → Option ℕ) (us : List ℕ) (v : T) (s : ℕ) → Points key cs m us → m (key v) ≡ Some s → s < length cs → keyed key (key v) (cell_at cs s) ≡ true → values (set cs s (Some v)) us ≡ swap key v (values cs us)
  swap-some cs m [] v s p e b f = refl
  swap-some cs m (x ∷ xs) v s p e b f = on (x == s) refl (swap-some cs m xs v s p.1 e b f)
    where
      on : (u : Bool) → (x == s) ≡ u → values (set cs s (Some v)) xs ≡ swap key v (values cs xs) → values (set cs s (Some v)) (x ∷ xs) ≡ swap key v (values cs (x ∷ xs))
      on true w r =
          let g : x ≡ s = same-number x s w in
          let a : cell_at (set cs s (Some v)) x ≡ Some v = rw g (get_or-set_same cs s (Some v) None b) in
          rw (a, r) (sym (swap-hit (cell_at cs x) v (values cs xs) (rw g f)))
      on false w r =
          let n : x ≢ s = λ h. let t : (x == s) ≡ true = subst (λ (j : ℕ). (x == j) ≡ true) h (is-same x) in cc in
          rw (get_or-set_other cs s x (Some v) None n, r) (sym (swap-miss (cell_at cs x) v (values cs xs) (not-keyed m (cell_at cs x) x s (key v) p.0 e w)))

  pub swap-none : (cs : List (Option T)) (m : ℕ → Option ℕ) (us : List ℕ) (v : T) → Points key cs m us → m (key v) ≡ None → swap key v (values cs us) ≡ values cs us
  swap-none cs m [] v p e = refl
  swap-none cs m (x ∷ xs) v p e = swap-miss (cell_at cs x) v (values cs xs) (on (keyed key (key v) (cell_at cs x)) refl) ∙ ap (λ zs. after_cell (cell_at cs x) zs) (swap-none cs m xs v p.1 e)
    where
      on : (u : Bool) → keyed key (key v) (cell_at cs x) ≡ u → keyed key (key v) (cell_at cs x) ≡ false
      on false f = f
      on true f = let g : None ≡ Some x = sym e ∙ keyed-at m (cell_at cs x) x (key v) p.0 f in cc
