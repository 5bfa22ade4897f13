-- Chains of slots through the entries of an index.
use Rattle.std.proofs.Common.{◌≡◌, ◌≢◌, ℕ, zero, suc, ◌<◌, ◌≤◌, ◌==◌, Bool, true, false, Option, Some, None, List, [], ◌∷◌, ◌++◌, length, refl, sym, ◌∙◌, ap, subst, arith, set, get_or-set_other, get_or-set_same, length-set, length-append}
use Rattle.std.proofs.lemmas.Grind.{common_steps}
use Rattle.mdb_slots.specs.declared.index_entry.IndexEntry.{IndexEntry}
use Rattle.mdb_slots.specs.Lists.{has, apart, head_or, last_or, without}
use Rattle.mdb_slots.specs.Links.{where_none}
use Rattle.mdb_slots.specs.SlotIndex.{no_entry, place_at, Linked, trail, lead_same}
use Rattle.mdb_slots.proofs.Lists.{apart-first, apart-rest}
use Rattle.mdb_slots.proofs.Chains.{ne-of, rest-of, apart-ne, last-has}
use Rattle.mdb_slots.proofs.Layouts.{Outside}
use Rattle.mdb_slots.proofs.Moves.{where_none-last}

pub trail-short : (n : ℕ) (o : Option ℕ) (es : List IndexEntry) → length (trail n o es) ≤ n
trail-short zero o es = omega arith
trail-short (suc n) None es = omega arith
trail-short (suc n) (Some x) es = omega (arith, trail-short n (place_at es x).same es)

-- a list that is linked to the end is the trail from its start
pub linked-trail : (n : ℕ) (o : Option ℕ) (es : List IndexEntry) (xs : List ℕ) → Linked es o xs None → length xs ≤ n → trail n o es ≡ xs
linked-trail zero o es [] l h = refl
linked-trail zero o es (x ∷ xs) l h = absurd (omega (arith, h))
linked-trail (suc n) o es [] l h = rw l refl
linked-trail (suc n) o es (x ∷ xs) l h = rw l.0 (ap (λ zs. x ∷ zs) (linked-trail n (place_at es x).same es xs l.2 (omega (arith, h))))

pub linked-below : (es : List IndexEntry) (o : Option ℕ) (xs : List ℕ) (q : Option ℕ) (k : ℕ) → Linked es o xs q → has k xs ≡ true → k < length es
linked-below es o [] q k l h = cc
linked-below es o (x ∷ xs) q k l h = on (x == k) refl (linked-below es (place_at es x).same xs q k l.2)
  where
    on : (b : Bool) → (x == k) ≡ b → (has k xs ≡ true → k < length es) → k < length es
    on true w more = let e : x ≡ k = grind (arith, common_steps, w) in omega (arith, l.1, e)
    on false w more = more (grind (arith, common_steps, w, h))

-- a write to another slot
pub linked-set : (es : List IndexEntry) (t : ℕ) (e : IndexEntry) (o : Option ℕ) (xs : List ℕ) (q : Option ℕ) → has t xs ≡ false → Linked es o xs q → Linked (set es t e) o xs q
linked-set es t e o [] q h l = l
linked-set es t e o (x ∷ xs) q h l =
    (l.0, rw (length-set es t e) l.1, rw (get_or-set_other es t x e no_entry (ne-of x t xs h)) (linked-set es t e (place_at es x).same xs q (rest-of x t xs h) l.2))

pub linked-lead_same : (es : List IndexEntry) (p a o : Option ℕ) (xs : List ℕ) (q : Option ℕ) → Outside p xs → Linked es o xs q → Linked (lead_same p a es) o xs q
linked-lead_same es None a o xs q h l = l
linked-lead_same es (Some k) a o xs q h l = linked-set es k (record (place_at es k) { same = a }) o xs q h l

place-more : (es : List IndexEntry) (e : IndexEntry) (k : ℕ) → k < length es → place_at (es ++ e ∷ []) k ≡ place_at es k
place-more es e k h = grind (arith, common_steps)

-- one more entry
pub linked-grow : (es : List IndexEntry) (e : IndexEntry) (o : Option ℕ) (xs : List ℕ) (q : Option ℕ) → Linked es o xs q → Linked (es ++ e ∷ []) o xs q
linked-grow es e o [] q l = l
linked-grow es e o (x ∷ xs) q l = (l.0, omega (arith, length-append es (e ∷ []), l.1), rw (place-more es e x l.1) (linked-grow es e (place_at es x).same xs q l.2))

pub linked-join : (es : List IndexEntry) (o m : Option ℕ) (xs ys : List ℕ) (q : Option ℕ) → Linked es o xs m → Linked es m ys q → Linked es o (xs ++ ys) q
linked-join es o m [] ys q l k = rw l k
linked-join es o m (x ∷ xs) ys q l k = (l.0, l.1, linked-join es (place_at es x).same m xs ys q l.2 k)

linked-head : (es : List IndexEntry) (o : Option ℕ) (ys : List ℕ) (q : Option ℕ) → Linked es o ys q → o ≡ head_or q ys
linked-head es o [] q l = l
linked-head es o (y ∷ ys) q l = l.0

pub linked-front : (es : List IndexEntry) (o : Option ℕ) (xs ys : List ℕ) (q : Option ℕ) → Linked es o (xs ++ ys) q → Linked es o xs (head_or q ys)
linked-front es o [] ys q l = linked-head es o ys q l
linked-front es o (x ∷ xs) ys q l = (l.0, l.1, linked-front es (place_at es x).same xs ys q l.2)

pub linked-back : (es : List IndexEntry) (o : Option ℕ) (xs ys : List ℕ) (q : Option ℕ) → Linked es o (xs ++ ys) q → Linked es (head_or q ys) ys q
linked-back es o [] ys q l = subst (λ (z : Option ℕ). Linked es z ys q) (linked-head es o ys q l) l
linked-back es o (x ∷ xs) ys q l = linked-back es (place_at es x).same xs ys q l.2

-- the last slot of the list leads to q' from now on
linked-end : (es : List IndexEntry) (x : ℕ) (o : Option ℕ) (xs : List ℕ) (q q' : Option ℕ) → apart (x ∷ xs) ≡ true → Linked es o (x ∷ xs) q → Linked (lead_same (last_or (Some x) xs) q' es) o (x ∷ xs) q'
linked-end es x o [] q q' e l =
    (l.0, rw (length-set es x (record (place_at es x) { same = q' })) l.1, ap (λ (n : IndexEntry). n.same) (get_or-set_same es x (record (place_at es x) { same = q' }) no_entry l.1))
linked-end es x o (y ∷ ys) q q' e l =
    let h : apart (y ∷ ys) ≡ true = apart-rest x (y ∷ ys) e in
    let d = linked-end es y (place_at es x).same ys q q' h l.2 in
    first (apart-first x (y ∷ ys) e) (last_or (Some y) ys) (last-has y ys) d
  where
    first : has x (y ∷ ys) ≡ false → (p : Option ℕ) → ((k : ℕ) → p ≡ Some k → has k (y ∷ ys) ≡ true) → Linked (lead_same p q' es) (place_at es x).same (y ∷ ys) q' → Linked (lead_same p q' es) o (x ∷ y ∷ ys) q'
    first a None g d = (l.0, l.1, d)
    first a (Some k) g d =
        let m : has k (y ∷ ys) ≡ true = g k refl in
        let ne : x ≢ k = apart-ne x k (y ∷ ys) a m in
        (l.0, rw (length-set es k (record (place_at es k) { same = q' })) l.1, rw (get_or-set_other es k x (record (place_at es k) { same = q' }) no_entry ne) d)

-- a list leads elsewhere from now on
pub linked-on : (es : List IndexEntry) (o : Option ℕ) (xs : List ℕ) (q q' : Option ℕ) → apart xs ≡ true → Linked es o xs q → Linked (lead_same (last_or None xs) q' es) (where_none (last_or None xs) q' o) xs q'
linked-on es o [] q q' e l = refl
linked-on es o (x ∷ xs) q q' e l = rw (where_none-last x xs q' o) (linked-end es x o xs q q' e l)

-- one step along a trail
pub linked-step : (n : ℕ) (es : List IndexEntry) (o : Option ℕ) (s : ℕ) → o ≡ Some s → Linked es o (trail n o es) None → (s < length es) × (trail n o es ≡ s ∷ trail n (place_at es s).same es) × Linked es (place_at es s).same (trail n (place_at es s).same es) None
linked-step n es o s e l = on (trail n o es) refl (trail-short n o es) l
  where
    on : (ts : List ℕ) → trail n o es ≡ ts → length ts ≤ n → Linked es o ts None → (s < length es) × (ts ≡ s ∷ trail n (place_at es s).same es) × Linked es (place_at es s).same (trail n (place_at es s).same es) None
    on [] w h k = let z : Some s ≡ None = sym e ∙ k in cc
    on (x ∷ xs) w h k =
        let j : s ≡ x = grind (arith, common_steps, sym e ∙ k.0) in
        let t : trail n (place_at es x).same es ≡ xs = linked-trail n (place_at es x).same es xs k.2 (omega (arith, h)) in
        rw j (k.1, rw t refl, rw t k.2)

-- a list of distinct numbers below n is no longer than n
without-short : (k : ℕ) (xs : List ℕ) → apart xs ≡ true → length xs ≤ suc (length (without k xs))
without-short k [] e = omega arith
without-short k (x ∷ xs) e = on (x == k) refl (without-short k xs (apart-rest x xs e))
  where
    absent : (ys : List ℕ) → has k ys ≡ false → without k ys ≡ ys
    absent [] h = refl
    absent (y ∷ ys) h = grind (arith, common_steps, h, absent ys)

    on : (b : Bool) → (x == k) ≡ b → length xs ≤ suc (length (without k xs)) → length (x ∷ xs) ≤ suc (length (without k (x ∷ xs)))
    on true w r =
        let j : x ≡ k = grind (arith, common_steps, w) in
        let a : without k xs ≡ xs = absent xs (subst (λ (z : ℕ). has z xs ≡ false) j (apart-first x xs e)) in
        rw (w, a) (omega arith)
    on false w r = rw w (omega (arith, r))

has-less : (j k : ℕ) (xs : List ℕ) → has j (without k xs) ≡ true → (has j xs ≡ true) × (j ≢ k)
has-less j k [] e = cc
has-less j k (x ∷ xs) e = on (x == k) refl (x == j) refl (has-less j k xs)
  where
    on : (b : Bool) → (x == k) ≡ b → (d : Bool) → (x == j) ≡ d → (has j (without k xs) ≡ true → (has j xs ≡ true) × (j ≢ k)) → (has j (x ∷ xs) ≡ true) × (j ≢ k)
    on true w d v more =
        let f : has j (without k xs) ≡ true = grind (arith, common_steps, w, e) in
        let r = more f in
        (grind (arith, common_steps, r.0), r.1)
    on false w true v more =
        let a : x ≡ j = grind (arith, common_steps, v) in
        (grind (arith, common_steps, v), λ h. let z : (x == k) ≡ true = grind (arith, common_steps, a, h) in cc)
    on false w false v more =
        let f : has j (without k xs) ≡ true = grind (arith, common_steps, w, v, e) in
        let r = more f in
        (grind (arith, common_steps, r.0), r.1)

apart-without : (k : ℕ) (xs : List ℕ) → apart xs ≡ true → apart (without k xs) ≡ true
apart-without k [] e = refl
apart-without k (x ∷ xs) e = on (x == k) refl (apart-without k xs (apart-rest x xs e)) (has x (without k xs)) refl
  where
    on : (b : Bool) → (x == k) ≡ b → apart (without k xs) ≡ true → (d : Bool) → has x (without k xs) ≡ d → apart (without k (x ∷ xs)) ≡ true
    on true w r d v = rw w r
    on false w r true v = let f = (has-less x k xs v).0 in let g : has x xs ≡ false = apart-first x xs e in cc
    on false w r false v = rw (w, v) r

pub once-short : (n : ℕ) (xs : List ℕ) → apart xs ≡ true → ((k : ℕ) → has k xs ≡ true → k < n) → length xs ≤ n
once-short zero [] e h = omega arith
once-short zero (x ∷ xs) e h = let m : has x (x ∷ xs) ≡ true = grind (arith, common_steps) in absurd (omega (arith, h x m))
once-short (suc n) xs e h =
    omega (arith, without-short n xs e, once-short n (without n xs) (apart-without n xs e) (λ k m. let r = has-less k n xs m in let b : k < suc n = h k r.0 in let d : k ≢ n = r.1 in below k b d))
  where
    below : (k : ℕ) → k < suc n → k ≢ n → k < n
    below k b d = grind (arith, common_steps, b, d)
