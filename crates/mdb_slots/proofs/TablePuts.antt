-- What the index leads to after a value came.
use Rattle.std.proofs.Common.{◌≡◌, ◌≢◌, ℕ, ◌<◌, Bool, true, false, ◌==◌, if◌then◌else◌, Option, Some, None, List, [], ◌∷◌, ◌++◌, length, refl, sym, ◌∙◌, ap, subst, arith, set, get_or-set_other, get_or-set_same, length-set}
use Rattle.std.proofs.lemmas.Grind.{common_steps}
use Rattle.mdb_slots.specs.Lists.{has}
use Rattle.mdb_slots.proofs.Lists.{has-append}
use Rattle.mdb_slots.proofs.Items.{below-append}
use Rattle.mdb_slots.proofs.Chains.{ne-of, rest-of}
use Rattle.mdb_slots.proofs.Numbers.{same-number, is-same, some-same}
use Rattle.mdb_slots.specs.Keyed.{entry_at, others, swap}
use Rattle.mdb_slots.specs.Cells.{cell_at, values, keyed, Pointed, Points, IsIndexed}
use Rattle.mdb_slots.proofs.Pointing.{values-set, values-append, swap-none, swap-some}
use Rattle.mdb_slots.proofs.TableChanges.{has-apart, keyed-same}

has-left : (t s : ℕ) (us : List ℕ) → has t us ≡ true → has t (us ++ s ∷ []) ≡ true
has-left t s us e = grind (arith, common_steps, e, has-append t us (s ∷ []))

has-last : (s : ℕ) (us : List ℕ) → has s (us ++ s ∷ []) ≡ true
has-last s us = grind (arith, common_steps, has-append s us (s ∷ []))

module _ {T : Type 0} (key : T → ℕ) where
  points-push : (cs : List (Option T)) (m n : ℕ → Option ℕ) (us : List ℕ) (v : T) (s : ℕ) → s < length cs → m (key v) ≡ None → ((q : ℕ) → n q ≡ if key v == q then Some s else m q) → has s us ≡ false → Points key cs m us → Points key (set cs s (Some v)) n (us ++ s ∷ [])
  points-push cs m n [] v s b e g h p = (rw (get_or-set_same cs s (Some v) None b) (g (key v) ∙ rw (is-same (key v)) refl), tt)
  points-push cs m n (x ∷ xs) v s b e g h p =
      (rw (get_or-set_other cs s x (Some v) None (ne-of x s xs h)) (at (cell_at cs x) p.0), points-push cs m n xs v s b e g (rest-of x s xs h) p.1)
    where
      at : (c : Option T) → Pointed key m c x → Pointed key n c x
      at None q = q
      at (Some y) q = g (key y) ∙ also (key v == key y) refl
        where
          also : (u : Bool) → (key v == key y) ≡ u → (if key v == key y then Some s else m (key y)) ≡ Some x
          also true w = let f : m (key v) ≡ Some x = subst (λ (j : ℕ). m j ≡ Some x) (sym (same-number (key v) (key y) w)) q in let z : None ≡ Some x = sym e ∙ f in cc
          also false w = rw w q

  pub pushed : {cs : List (Option T)} {m : ℕ → Option ℕ} {us : List ℕ} → IsIndexed key cs m us → (n : ℕ → Option ℕ) (v : T) (s : ℕ) → s < length cs → has s us ≡ false → m (key v) ≡ None → ((q : ℕ) → n q ≡ if key v == q then Some s else m q) → IsIndexed key (set cs s (Some v)) n (us ++ s ∷ [])
  pushed {cs = cs} {m = m} {us = us} i n v s b h e g =
      record {
        points = points-push cs m n us v s b e g h i.points;
        member = λ q t f. (at q t (key v == q) refl (sym (g q) ∙ f)).0;
        back = λ q t f. (at q t (key v == q) refl (sym (g q) ∙ f)).1;
        below = rw (length-set cs s (Some v)) (below-append (length cs) us s i.below b);
      }
    where
      at : (q t : ℕ) (u : Bool) → (key v == q) ≡ u → (if key v == q then Some s else m q) ≡ Some t → (has t (us ++ s ∷ []) ≡ true) × (keyed key q (cell_at (set cs s (Some v)) t) ≡ true)
      at q t true w f =
          let j : s ≡ t = some-same s t (subst (λ (b : Bool). (if b then Some s else m q) ≡ Some t) w f) in
          subst (λ (j : ℕ). (has j (us ++ s ∷ []) ≡ true) × (keyed key q (cell_at (set cs s (Some v)) j) ≡ true)) j (has-last s us, rw (get_or-set_same cs s (Some v) None b) w)
      at q t false w f =
          let o : m q ≡ Some t = subst (λ (b : Bool). (if b then Some s else m q) ≡ Some t) w f in
          let k : has t us ≡ true = i.member q t o in
          (has-left t s us k, rw (get_or-set_other cs s t (Some v) None (has-apart s t us h k)) (i.back q t o))

  pub pushed-values : (cs : List (Option T)) (us : List ℕ) (v : T) (s : ℕ) → s < length cs → has s us ≡ false → values (set cs s (Some v)) (us ++ s ∷ []) ≡ values cs us ++ v ∷ []
  pushed-values cs us v s b h =
      values-append (set cs s (Some v)) s us ∙ rw (values-set cs s (Some v) us h, get_or-set_same cs s (Some v) None b) refl

  points-replace : (cs : List (Option T)) (m : ℕ → Option ℕ) (us : List ℕ) (v : T) (s : ℕ) → s < length cs → m (key v) ≡ Some s → Points key cs m us → Points key (set cs s (Some v)) m us
  points-replace cs m [] v s b e p = tt
  points-replace cs m (x ∷ xs) v s b e p = (on (x == s) refl, points-replace cs m xs v s b e p.1)
    where
      on : (u : Bool) → (x == s) ≡ u → Pointed key m (cell_at (set cs s (Some v)) x) x
      on true w = rw (same-number x s w, get_or-set_same cs s (Some v) None b) e
      on false w =
          let d : x ≢ s = λ h. let t : (x == s) ≡ true = subst (λ (j : ℕ). (x == j) ≡ true) h (is-same x) in cc in
          rw (get_or-set_other cs s x (Some v) None d) p.0

  pub replaced : {cs : List (Option T)} {m : ℕ → Option ℕ} {us : List ℕ} → IsIndexed key cs m us → (v : T) (s : ℕ) → s < length cs → m (key v) ≡ Some s → IsIndexed key (set cs s (Some v)) m us
  replaced {cs = cs} {m = m} {us = us} i v s b e =
      record {
        points = points-replace cs m us v s b e i.points;
        member = i.member;
        back = λ q t f. at q t (t == s) refl f;
        below = rw (length-set cs s (Some v)) i.below;
      }
    where
      at : (q t : ℕ) (u : Bool) → (t == s) ≡ u → m q ≡ Some t → keyed key q (cell_at (set cs s (Some v)) t) ≡ true
      at q t true w f =
          let j : t ≡ s = same-number t s w in
          let k : q ≡ key v = keyed-same key (cell_at cs s) q (key v) (i.back q s (f ∙ ap (λ a. Some a) j)) (i.back (key v) s e) in
          rw (j, get_or-set_same cs s (Some v) None b) (subst (λ (a : ℕ). (key v == a) ≡ true) (sym k) (is-same (key v)))
      at q t false w f =
          let d : t ≢ s = λ h. let z : (t == s) ≡ true = subst (λ (a : ℕ). (t == a) ≡ true) h (is-same t) in cc in
          rw (get_or-set_other cs s t (Some v) None d) (i.back q t f)

  pub replaced-values : {cs : List (Option T)} {m : ℕ → Option ℕ} {us : List ℕ} → IsIndexed key cs m us → (v : T) (s : ℕ) → s < length cs → m (key v) ≡ Some s → values (set cs s (Some v)) us ≡ swap key v (values cs us)
  replaced-values {cs = cs} {m = m} {us = us} i v s b e = swap-some key cs m us v s i.points e b (i.back (key v) s e)

  pub same-values : {cs : List (Option T)} {m : ℕ → Option ℕ} {us : List ℕ} → IsIndexed key cs m us → (v : T) → m (key v) ≡ None → swap key v (values cs us) ≡ values cs us
  same-values {cs = cs} {m = m} {us = us} i v e = swap-none key cs m us v i.points e

  pub entry-others : (k : ℕ) (xs : List T) → entry_at key k (others key k xs) ≡ None
  entry-others k [] = refl
  entry-others k (x ∷ xs) = on (key x == k) refl (entry-others k xs)
    where
      on : (u : Bool) → (key x == k) ≡ u → entry_at key k (others key k xs) ≡ None → entry_at key k (others key k (x ∷ xs)) ≡ None
      on true w r = rw w r
      on false w r = rw (w, w) r

  -- a number that names no value leads nowhere
  pub leads-nowhere : {cs : List (Option T)} {m : ℕ → Option ℕ} {us : List ℕ} → IsIndexed key cs m us → (k : ℕ) → ((s : ℕ) → m k ≡ Some s → entry_at key k (values cs us) ≡ cell_at cs s) → entry_at key k (values cs us) ≡ None → m k ≡ None
  leads-nowhere {cs = cs} {m = m} i k g e = on (m k) refl
    where
      none : (c : Option T) → keyed key k c ≡ true → None ≡ c → ⊥
      none None a b = cc
      none (Some y) a b = cc

      on : (o : Option ℕ) → m k ≡ o → m k ≡ None
      on None f = f
      on (Some s) f = absurd (none (cell_at cs s) (i.back k s f) (sym e ∙ g s f))
