-- A slot loses its number, and goes from its bucket.
use Rattle.std.proofs.Common.{◌≡◌, ◌≢◌, ℕ, zero, suc, ◌<◌, ◌==◌, if◌then◌else◌, Bool, true, false, Option, Some, None, IfSome, List, [], ◌∷◌, ◌++◌, length, refl, sym, ◌∙◌, ap, subst, arith, set, get_or-set_other, get_or-set_same, length-set}
use Rattle.std.proofs.lemmas.Grind.{common_steps}
use Rattle.mdb_slots.specs.declared.index_entry.IndexEntry.{IndexEntry}
use Rattle.mdb_slots.specs.Lists.{has, apart, last_or, previous}
use Rattle.mdb_slots.specs.Links.{where_none}
use Rattle.mdb_slots.specs.SlotIndex.{no_entry, head_at, place_at, number_at, slot_of, Linked, trail, bucket_in, in_bucket, lead_same, IsBucket, IsIndex}
use Rattle.mdb_slots.proofs.Lists.{has-append, parts, Apart, apart-parts, apart-across}
use Rattle.mdb_slots.proofs.Chains.{last-has}
use Rattle.mdb_slots.proofs.Layouts.{Outside, last-outside}
use Rattle.mdb_slots.proofs.Removes.{previous-at}
use Rattle.mdb_slots.proofs.Trails.{linked-set, linked-lead_same, linked-front, linked-back, linked-join, linked-on, linked-below}
use Rattle.mdb_slots.proofs.Numbers.{bucket_in-below, same-number, is-same, not-same, some-same, slot_of-some, slot_of-none, slot_of-at, slot_of-absent, number-set}
use Rattle.mdb_slots.proofs.IndexLaws.{bucket-keeps}

pub length-lead_same : (o a : Option ℕ) (es : List IndexEntry) → length (lead_same o a es) ≡ length es
length-lead_same None a es = refl
length-lead_same (Some b) a es = length-set es b (record (place_at es b) { same = a })

pub number-lead_same : (o a : Option ℕ) (es : List IndexEntry) (t : ℕ) → (place_at (lead_same o a es) t).number ≡ (place_at es t).number
number-lead_same None a es t = refl
number-lead_same (Some b) a es t = same es b t
  where
    same : (xs : List IndexEntry) (c u : ℕ) → (place_at (set xs c (record (place_at xs c) { same = a })) u).number ≡ (place_at xs u).number
    same [] c u = refl
    same (x ∷ xs) zero zero = refl
    same (x ∷ xs) zero (suc u) = refl
    same (x ∷ xs) (suc c) zero = refl
    same (x ∷ xs) (suc c) (suc u) = same xs c u

-- a bucket without one of its slots
rest-once : (s : ℕ) (xs ys : List ℕ) → apart (xs ++ s ∷ ys) ≡ true → apart (xs ++ ys) ≡ true
rest-once s xs ys e = (apart-parts s xs ys e).both

pub linked-remove : (es : List IndexEntry) (o : Option ℕ) (s : ℕ) (xs ys : List ℕ) → apart (xs ++ s ∷ ys) ≡ true → Linked es o (xs ++ s ∷ ys) None → Linked (set (lead_same (last_or None xs) (place_at es s).same es) s no_entry) (where_none (last_or None xs) (place_at es s).same o) (xs ++ ys) None
linked-remove es o s xs ys e l =
    linked-join _ _ (place_at es s).same xs ys None (linked-set _ s no_entry _ xs _ a.k_before front) (linked-set _ s no_entry _ ys None a.k_after (linked-lead_same es (last_or None xs) (place_at es s).same _ ys None out back))
  where
    a : Apart s xs ys
    a = apart-parts s xs ys e

    back : Linked es (place_at es s).same ys None
    back = (linked-back es o xs (s ∷ ys) None l).2

    front : Linked (lead_same (last_or None xs) (place_at es s).same es) (where_none (last_or None xs) (place_at es s).same o) xs (place_at es s).same
    front = linked-on es o xs (Some s) (place_at es s).same a.before (linked-front es o xs (s ∷ ys) None l)

    out : Outside (last_or None xs) ys
    out = last-outside xs ys (λ k m. apart-across k xs ys a.both m)

in_bucket-other : (n b c : ℕ) (o : Option ℕ) → in_bucket n b o ≡ true → (b == c) ≡ false → in_bucket n c o ≡ false
in_bucket-other n b c None e w = refl
in_bucket-other n b c (Some j) e w = subst (λ (d : ℕ). (d == c) ≡ false) (sym (same-number (bucket_in j n) b e)) w

has-part : (k s : ℕ) (xs ys : List ℕ) → has k xs ≡ true → has k (xs ++ s ∷ ys) ≡ true
has-part k s xs ys h = grind (arith, common_steps, h, has-append k xs (s ∷ ys))

has-rest : (t s : ℕ) (xs ys : List ℕ) → (s == t) ≡ false → has t (xs ++ ys) ≡ has t (xs ++ s ∷ ys)
has-rest t s xs ys w = grind (arith, common_steps, w, has-append t xs ys, has-append t xs (s ∷ ys))

module _ {hs : List (Option ℕ)} {es : List IndexEntry} {ns : List (Option ℕ)} (i : IsIndex hs es ns) (k s : ℕ) (e : number_at ns s ≡ Some k) where
  abbrev b₀ : ℕ
  b₀ = bucket_in k (length hs)

  abbrev list : ℕ → List ℕ
  list b = trail (length es) (head_at hs b) es

  abbrev ns' : List (Option ℕ)
  ns' = set ns s None

  pub b₀-below : b₀ < length hs
  b₀-below = bucket_in-below k (length hs) (i.headed s k e)

  pub member : has s (list b₀) ≡ true
  member = (i.buckets b₀ b₀-below).holds s ∙ rw e (is-same b₀)

  pub inside : s < length es
  inside = linked-below es (head_at hs b₀) (list b₀) None s (i.buckets b₀ b₀-below).linked member

  within : s < length ns
  within = rw i.long inside

  old-number : (t j : ℕ) → number_at ns' t ≡ Some j → ((s == t) ≡ false) × (number_at ns t ≡ Some j)
  old-number t j f = on (s == t) refl (sym (number-set ns s t None within) ∙ f)
    where
      on : (d : Bool) → (s == t) ≡ d → (if d then None else number_at ns t) ≡ Some j → ((s == t) ≡ false) × (number_at ns t ≡ Some j)
      on true w g = cc
      on false w g = (w, g)

  one : (t u j : ℕ) → number_at ns' t ≡ Some j → number_at ns' u ≡ Some j → t ≡ u
  one t u j f g = i.single t u j (old-number t j f).1 (old-number u j g).1

  elsewhere : (b : ℕ) → b < length hs → (b₀ == b) ≡ false → (t : ℕ) → has t (list b₀) ≡ true → has t (list b) ≡ false
  elsewhere b q w t m = (i.buckets b q).holds t ∙ in_bucket-other (length hs) b₀ b (number_at ns t) (sym ((i.buckets b₀ b₀-below).holds t) ∙ m) w

  module _ (xs ys : List ℕ) (is : list b₀ ≡ xs ++ s ∷ ys) where
    abbrev es' : List IndexEntry
    es' = set (lead_same (last_or None xs) (place_at es s).same es) s no_entry

    abbrev hs' : List (Option ℕ)
    hs' = set hs b₀ (where_none (last_or None xs) (place_at es s).same (head_at hs b₀))

    once : apart (xs ++ s ∷ ys) ≡ true
    once = subst (λ (zs : List ℕ). apart zs ≡ true) is (i.buckets b₀ b₀-below).once

    own : IsBucket (length hs) b₀ (where_none (last_or None xs) (place_at es s).same (head_at hs b₀)) es' ns' (xs ++ ys)
    own =
        let u = i.buckets b₀ b₀-below in
        record {
          linked = linked-remove es (head_at hs b₀) s xs ys once (subst (λ (zs : List ℕ). Linked es (head_at hs b₀) zs None) is u.linked);
          once = rest-once s xs ys once;
          holds = λ t. holds-own t (s == t) refl (sym (ap (λ (zs : List ℕ). has t zs) is) ∙ u.holds t);
        }
      where
        gone : has s (xs ++ ys) ≡ false
        gone = let a = apart-parts s xs ys once in grind (arith, common_steps, a.k_before, a.k_after, has-append s xs ys)

        holds-own : (t : ℕ) (d : Bool) → (s == t) ≡ d → has t (xs ++ s ∷ ys) ≡ in_bucket (length hs) b₀ (number_at ns t) → has t (xs ++ ys) ≡ in_bucket (length hs) b₀ (number_at ns' t)
        holds-own t true w f = rw (number-set ns s t None within, w) (subst (λ (j : ℕ). has j (xs ++ ys) ≡ false) (same-number s t w) gone)
        holds-own t false w f = rw (number-set ns s t None within, w) (has-rest t s xs ys w ∙ f)

    other : (b : ℕ) → b < length hs → (b₀ == b) ≡ false → IsBucket (length hs) b (head_at hs b) es' ns' (list b)
    other b q w =
        let u = i.buckets b q in
        record {
          linked = linked-set _ s no_entry (head_at hs b) (list b) None (elsewhere b q w s member) (linked-lead_same es (last_or None xs) (place_at es s).same (head_at hs b) (list b) None out u.linked);
          once = u.once;
          holds = λ t. holds-other t (s == t) refl (u.holds t);
        }
      where
        out : Outside (last_or None xs) (list b)
        out = last-outside xs (list b) (λ t m. elsewhere b q w t (rw is (has-part t s xs ys m)))

        holds-other : (t : ℕ) (c : Bool) → (s == t) ≡ c → has t (list b) ≡ in_bucket (length hs) b (number_at ns t) → has t (list b) ≡ in_bucket (length hs) b (number_at ns' t)
        holds-other t true v f =
            let g : has t (list b) ≡ false = subst (λ (j : ℕ). has j (list b) ≡ false) (same-number s t v) (elsewhere b q w s member) in
            rw (number-set ns s t None within, v) g
        holds-other t false v f = rw (number-set ns s t None within, v) f

    pick : (b : ℕ) → b < length hs → (d : Bool) → (b₀ == b) ≡ d → IsBucket (length hs) b (head_at hs' b) es' ns' (trail (length es') (head_at hs' b) es')
    pick b q true w =
        subst (λ (j : ℕ). IsBucket (length hs) j (head_at hs' j) es' ns' (trail (length es') (head_at hs' j) es')) (same-number b₀ b w) (bucket-keeps {xs = xs ++ ys} (rw (get_or-set_same hs b₀ (where_none (last_or None xs) (place_at es s).same (head_at hs b₀)) None b₀-below) own))
    pick b q false w =
        let ne : b ≢ b₀ = λ z. not-same b₀ b w (sym z) in
        bucket-keeps {xs = list b} (rw (get_or-set_other hs b₀ b (where_none (last_or None xs) (place_at es s).same (head_at hs b₀)) None ne) (other b q w))

    agree : (t j : ℕ) → number_at ns' t ≡ Some j → (place_at es' t).number ≡ Some j
    agree t j f =
        let o = old-number t j f in
        let ne : t ≢ s = λ z. not-same s t o.0 (sym z) in
        rw (get_or-set_other (lead_same (last_or None xs) (place_at es s).same es) s t no_entry no_entry ne) (number-lead_same (last_or None xs) (place_at es s).same es t ∙ i.agrees t j o.1)

    removed-index : IsIndex hs' es' ns'
    removed-index =
        record {
          buckets = λ b q. let n = length-set hs b₀ (where_none (last_or None xs) (place_at es s).same (head_at hs b₀)) in let r : b < length hs = rw (← n) q in rw n (pick b r (b₀ == b) refl);
          agrees = agree;
          single = one;
          headed = λ t j f. rw (length-set hs b₀ (where_none (last_or None xs) (place_at es s).same (head_at hs b₀))) (i.headed s k e);
          long = length-set ns s None ∙ i.long ∙ sym (length-set (lead_same (last_or None xs) (place_at es s).same es) s no_entry ∙ length-lead_same (last_or None xs) (place_at es s).same es);
        }

  pub index-remove : (p : Option ℕ) → p ≡ previous None s (list b₀) → IsIndex (set hs b₀ (where_none p (place_at es s).same (head_at hs b₀))) (set (lead_same p (place_at es s).same es) s no_entry) ns'
  index-remove p f =
      let r = parts s (list b₀) member in
      let g : p ≡ last_or None r.front = f ∙ ap (λ (zs : List ℕ). previous None s zs) r.is ∙ previous-at None s r.front r.back r.not_before in
      rw g (removed-index r.front r.back r.is)

  -- the slot before another in its bucket is in range
  pub before-inside : (p : Option ℕ) → p ≡ previous None s (list b₀) → IfSome p (λ j. j < length es)
  before-inside p f =
      let r = parts s (list b₀) member in
      let g : p ≡ last_or None r.front = f ∙ ap (λ (zs : List ℕ). previous None s zs) r.is ∙ previous-at None s r.front r.back r.not_before in
      rw g (on r.front (λ j m. linked-below es (head_at hs b₀) (list b₀) None j (i.buckets b₀ b₀-below).linked (rw r.is (has-part j s r.front r.back m))))
    where
      found : (o : Option ℕ) → ((j : ℕ) → o ≡ Some j → j < length es) → IfSome o (λ j. j < length es)
      found None h = tt
      found (Some j) h = h j refl

      on : (zs : List ℕ) → ((j : ℕ) → has j zs ≡ true → j < length es) → IfSome (last_or None zs) (λ j. j < length es)
      on [] h = tt
      on (z ∷ zs) h = found (last_or (Some z) zs) (λ j m. h j (last-has z zs j m))

  pub slot_of-remove : (q : ℕ) → slot_of q ns' ≡ if k == q then None else slot_of q ns
  slot_of-remove q = on (k == q) refl
    where
      on : (d : Bool) → (k == q) ≡ d → slot_of q ns' ≡ if k == q then None else slot_of q ns
      on true w = rw w (slot_of-absent q ns' (λ t f. let o = old-number t q f in let g : number_at ns s ≡ Some q = e ∙ ap (λ l. Some l) (same-number k q w) in not-same s t o.0 (i.single s t q g o.1)))
      on false w = rw w (also (slot_of q ns) refl)
        where
          also : (o : Option ℕ) → slot_of q ns ≡ o → slot_of q ns' ≡ o
          also (Some t) f =
              let g : number_at ns t ≡ Some q = slot_of-some q t ns f in
              let ne : t ≢ s = λ z. let h : k ≡ q = some-same k q (sym e ∙ ap (λ l. number_at ns l) (sym z) ∙ g) in not-same k q w h in
              slot_of-at q t ns' one (get_or-set_other ns s t None None ne ∙ g)
          also None f = slot_of-absent q ns' (λ t g. slot_of-none q t ns f (old-number t q g).1)
