-- What the buckets of an index lead to.
use Rattle.std.proofs.Common.{◌≡◌, ◌≢◌, ℕ, ◌<◌, ◌==◌, if◌then◌else◌, Bool, true, false, Option, Some, None, List, [], ◌∷◌, length, refl, sym, ◌∙◌, subst, arith}
use Rattle.std.proofs.lemmas.Grind.{common_steps}
use Rattle.mdb_slots.specs.declared.index_entry.IndexEntry.{IndexEntry}
use Rattle.mdb_slots.specs.Lists.{has}
use Rattle.mdb_slots.specs.SlotIndex.{head_at, place_at, number_at, is_number, slot_of, trail, seek, bucket_in, in_bucket, IsBucket, IsIndex}
use Rattle.mdb_slots.proofs.Trails.{linked-trail, linked-below, once-short}
use Rattle.mdb_slots.proofs.Numbers.{bucket_in-below, same-number, is-same, some-same, number-is, slot_of-at, slot_of-absent}

-- the list of a bucket is its trail
pub bucket-trail : {n b : ℕ} {o : Option ℕ} {es : List IndexEntry} {ns : List (Option ℕ)} {xs : List ℕ} → IsBucket n b o es ns xs → trail (length es) o es ≡ xs
bucket-trail {o = o} {es = es} {xs = xs} i =
    linked-trail (length es) o es xs i.linked (once-short (length es) xs i.once (λ k m. linked-below es o xs None k i.linked m))

pub bucket-keeps : {n b : ℕ} {o : Option ℕ} {es : List IndexEntry} {ns : List (Option ℕ)} {xs : List ℕ} → IsBucket n b o es ns xs → IsBucket n b o es ns (trail (length es) o es)
bucket-keeps {n = n} {b = b} {o = o} {es = es} {ns = ns} i = rw (bucket-trail i) i

-- a number belongs to one bucket
pub in_bucket-is : (n b : ℕ) (o : Option ℕ) → in_bucket n b o ≡ true → (k : ℕ) → o ≡ Some k → bucket_in k n ≡ b
in_bucket-is n b None e k h = cc
in_bucket-is n b (Some j) e k h = let w : j ≡ k = some-same j k h in subst (λ (i : ℕ). bucket_in i n ≡ b) w (same-number (bucket_in j n) b e)

pub in_bucket-some : (n b : ℕ) (o : Option ℕ) → in_bucket n b o ≡ true → o ≢ None
in_bucket-some n b None e h = cc
in_bucket-some n b (Some j) e h = cc

seek-has : (k : ℕ) (es : List IndexEntry) (xs : List ℕ) (t : ℕ) → seek k es xs ≡ Some t → (has t xs ≡ true) × (is_number k (place_at es t).number ≡ true)
seek-has k es [] t e = cc
seek-has k es (x ∷ xs) t e = on (is_number k (place_at es x).number) refl (seek-has k es xs t) e
  where
    on : (b : Bool) → is_number k (place_at es x).number ≡ b → (seek k es xs ≡ Some t → (has t xs ≡ true) × (is_number k (place_at es t).number ≡ true)) → (if b then Some x else seek k es xs) ≡ Some t → (has t (x ∷ xs) ≡ true) × (is_number k (place_at es t).number ≡ true)
    on true w more f =
        let j : x ≡ t = some-same x t f in
        (grind (arith, common_steps, j), subst (λ (i : ℕ). is_number k (place_at es i).number ≡ true) j w)
    on false w more f = let r = more f in (grind (arith, common_steps, r.0), r.1)

seek-none : (k : ℕ) (es : List IndexEntry) (xs : List ℕ) (t : ℕ) → seek k es xs ≡ None → has t xs ≡ true → is_number k (place_at es t).number ≡ false
seek-none k es [] t e h = cc
seek-none k es (x ∷ xs) t e h = on (is_number k (place_at es x).number) refl (x == t) refl (seek-none k es xs t) e
  where
    on : (b : Bool) → is_number k (place_at es x).number ≡ b → (d : Bool) → (x == t) ≡ d → (seek k es xs ≡ None → has t xs ≡ true → is_number k (place_at es t).number ≡ false) → (if b then Some x else seek k es xs) ≡ None → is_number k (place_at es t).number ≡ false
    on true w d v more f = cc
    on false w true v more f = subst (λ (i : ℕ). is_number k (place_at es i).number ≡ false) (same-number x t v) w
    on false w false v more f = more f (grind (arith, common_steps, v, h))

-- the bucket of a number has its slot
pub found : {hs : List (Option ℕ)} {es : List IndexEntry} {ns : List (Option ℕ)} → IsIndex hs es ns → (k : ℕ) → 0 < length hs → seek k es (trail (length es) (head_at hs (bucket_in k (length hs))) es) ≡ slot_of k ns
found {hs = hs} {es = es} {ns = ns} i k p = on (seek k es (trail (length es) (head_at hs (bucket_in k (length hs))) es)) refl
  where
    bucket : IsBucket (length hs) (bucket_in k (length hs)) (head_at hs (bucket_in k (length hs))) es ns (trail (length es) (head_at hs (bucket_in k (length hs))) es)
    bucket = i.buckets (bucket_in k (length hs)) (bucket_in-below k (length hs) p)

    named : (t : ℕ) (o : Option ℕ) → number_at ns t ≡ o → in_bucket (length hs) (bucket_in k (length hs)) o ≡ true → is_number k (place_at es t).number ≡ true → number_at ns t ≡ Some k
    named t None w b f = cc
    named t (Some j) w b f =
        let g : (place_at es t).number ≡ Some j = i.agrees t j w in
        let h : (place_at es t).number ≡ Some k = number-is k (place_at es t).number f in
        w ∙ sym g ∙ h

    on : (o : Option ℕ) → seek k es (trail (length es) (head_at hs (bucket_in k (length hs))) es) ≡ o → o ≡ slot_of k ns
    on None w = sym (slot_of-absent k ns (λ s e.
        let m : has s (trail (length es) (head_at hs (bucket_in k (length hs))) es) ≡ true = bucket.holds s ∙ rw e (is-same (bucket_in k (length hs))) in
        let f : is_number k (place_at es s).number ≡ false = seek-none k es (trail (length es) (head_at hs (bucket_in k (length hs))) es) s w m in
        let g : is_number k (place_at es s).number ≡ true = rw (i.agrees s k e) (is-same k) in
        cc))
    on (Some t) w =
        let r = seek-has k es (trail (length es) (head_at hs (bucket_in k (length hs))) es) t w in
        let b : in_bucket (length hs) (bucket_in k (length hs)) (number_at ns t) ≡ true = sym (bucket.holds t) ∙ r.0 in
        sym (slot_of-at k t ns i.single (named t (number_at ns t) refl b r.1))

pub not_headed : {hs : List (Option ℕ)} {es : List IndexEntry} {ns : List (Option ℕ)} → IsIndex hs es ns → (k : ℕ) → length hs ≡ 0 → slot_of k ns ≡ None
not_headed {hs = hs} {ns = ns} i k e = slot_of-absent k ns (λ s h. let p : 0 < length hs = i.headed s k h in let z : 0 < 0 = subst (λ (n : ℕ). 0 < n) e p in absurd (omega (arith, z)))
