-- A slot gets a number, and is the first of its bucket.
use Rattle.std.proofs.Common.{◌≡◌, ◌≢◌, ℕ, zero, suc, ◌+◌, ◌<◌, ◌==◌, if◌then◌else◌, Bool, true, false, Option, Some, None, List, [], ◌∷◌, ◌++◌, length, refl, sym, ◌∙◌, ap, subst, set, get_or-set_other, get_or-set_same, length-set, length-append}
use Rattle.mdb_slots.specs.declared.index_entry.IndexEntry.{IndexEntry}
use Rattle.mdb_slots.specs.Lists.{has}
use Rattle.mdb_slots.specs.SlotIndex.{entry, no_entry, head_at, place_at, number_at, slot_of, trail, bucket_in, in_bucket, IsBucket, IsIndex}
use Rattle.mdb_slots.proofs.Trails.{linked-set, linked-grow}
use Rattle.mdb_slots.proofs.Numbers.{bucket_in-below, same-number, is-same, not-same, some-same, number-set, slot_of-some, slot_of-none, slot_of-at, slot_of-absent, number-append}
use Rattle.mdb_slots.proofs.IndexLaws.{bucket-keeps}

module _ {hs : List (Option ℕ)} {es : List IndexEntry} {ns : List (Option ℕ)} (i : IsIndex hs es ns) (k s : ℕ) (p : 0 < length hs) (h : s < length es) (new : number_at ns s ≡ None) (absent : (t : ℕ) → number_at ns t ≢ Some k) where
  abbrev b₀ : ℕ
  b₀ = bucket_in k (length hs)

  within : s < length ns
  within = rw i.long h

  abbrev list : ℕ → List ℕ
  list b = trail (length es) (head_at hs b) es

  not-of : (b : ℕ) → b < length hs → has s (list b) ≡ false
  not-of b q = (i.buckets b q).holds s ∙ rw new refl

  abbrev es' : List IndexEntry
  es' = set es s (entry (Some k) (head_at hs b₀))

  abbrev ns' : List (Option ℕ)
  ns' = set ns s (Some k)

  abbrev hs' : List (Option ℕ)
  hs' = set hs b₀ (Some s)

  -- the bucket of the number
  own : IsBucket (length hs) b₀ (Some s) es' ns' (s ∷ list b₀)
  own =
      let q : b₀ < length hs = bucket_in-below k (length hs) p in
      let u = i.buckets b₀ q in
      record {
        linked = (refl, rw (length-set es s (entry (Some k) (head_at hs b₀))) h, rw (get_or-set_same es s (entry (Some k) (head_at hs b₀)) no_entry h) (linked-set es s (entry (Some k) (head_at hs b₀)) (head_at hs b₀) (list b₀) None (not-of b₀ q) u.linked));
        once = rw (not-of b₀ q) u.once;
        holds = λ t. holds-own t (s == t) refl (u.holds t);
      }
    where
      holds-own : (t : ℕ) (d : Bool) → (s == t) ≡ d → has t (list b₀) ≡ in_bucket (length hs) b₀ (number_at ns t) → has t (s ∷ list b₀) ≡ in_bucket (length hs) b₀ (number_at ns' t)
      holds-own t true w e = rw (number-set ns s t (Some k) within, w, is-same b₀) refl
      holds-own t false w e = rw (number-set ns s t (Some k) within, w) e

  -- another bucket
  other : (b : ℕ) → b < length hs → (b₀ == b) ≡ false → IsBucket (length hs) b (head_at hs b) es' ns' (list b)
  other b q d =
      let u = i.buckets b q in
      record {
        linked = linked-set es s (entry (Some k) (head_at hs b₀)) (head_at hs b) (list b) None (not-of b q) u.linked;
        once = u.once;
        holds = λ t. holds-other t (s == t) refl (u.holds t);
      }
    where
      holds-other : (t : ℕ) (c : Bool) → (s == t) ≡ c → has t (list b) ≡ in_bucket (length hs) b (number_at ns t) → has t (list b) ≡ in_bucket (length hs) b (number_at ns' t)
      holds-other t true w e =
          let f : has t (list b) ≡ false = subst (λ (j : ℕ). has j (list b) ≡ false) (same-number s t w) (not-of b q) in
          rw (number-set ns s t (Some k) within, w, d) f
      holds-other t false w e = rw (number-set ns s t (Some k) within, w) e

  pick : (b : ℕ) → b < length hs → (d : Bool) → (b₀ == b) ≡ d → IsBucket (length hs) b (head_at hs' b) es' ns' (trail (length es') (head_at hs' b) es')
  pick b q true w =
      subst (λ (j : ℕ). IsBucket (length hs) j (head_at hs' j) es' ns' (trail (length es') (head_at hs' j) es')) (same-number b₀ b w) (bucket-keeps {xs = s ∷ list b₀} (rw (get_or-set_same hs b₀ (Some s) None (bucket_in-below k (length hs) p)) own))
  pick b q false w =
      let ne : b ≢ b₀ = λ e. not-same b₀ b w (sym e) in
      bucket-keeps {xs = list b} (rw (get_or-set_other hs b₀ b (Some s) None ne) (other b q w))

  own-number : (t j : ℕ) → (s == t) ≡ true → number_at ns' t ≡ Some j → k ≡ j
  own-number t j w e = some-same k j (sym (number-set ns s t (Some k) within ∙ ap (λ b. if b then Some k else number_at ns t) w) ∙ e)

  old-number : (t j : ℕ) → (s == t) ≡ false → number_at ns' t ≡ Some j → number_at ns t ≡ Some j
  old-number t j w e = sym (number-set ns s t (Some k) within ∙ ap (λ b. if b then Some k else number_at ns t) w) ∙ e

  agree : (t j : ℕ) → number_at ns' t ≡ Some j → (d : Bool) → (s == t) ≡ d → (place_at es' t).number ≡ Some j
  agree t j e true w =
      let z : t ≡ s = sym (same-number s t w) in
      rw (z, get_or-set_same es s (entry (Some k) (head_at hs b₀)) no_entry h) (ap (λ l. Some l) (own-number t j w e))
  agree t j e false w =
      let ne : t ≢ s = λ z. not-same s t w (sym z) in
      rw (get_or-set_other es s t (entry (Some k) (head_at hs b₀)) no_entry ne) (i.agrees t j (old-number t j w e))

  one : (t u j : ℕ) → number_at ns' t ≡ Some j → number_at ns' u ≡ Some j → (d : Bool) → (s == t) ≡ d → (f : Bool) → (s == u) ≡ f → t ≡ u
  one t u j e g true w true v = sym (same-number s t w) ∙ same-number s u v
  one t u j e g true w false v = absurd (absent u (old-number u j v g ∙ ap (λ l. Some l) (sym (own-number t j w e))))
  one t u j e g false w true v = absurd (absent t (old-number t j w e ∙ ap (λ l. Some l) (sym (own-number u j v g))))
  one t u j e g false w false v = i.single t u j (old-number t j w e) (old-number u j v g)

  pub index-insert : IsIndex hs' es' ns'
  index-insert =
      record {
        buckets = λ b q. let r : b < length hs = rw (← length-set hs b₀ (Some s)) q in rw (length-set hs b₀ (Some s)) (pick b r (b₀ == b) refl);
        agrees = λ t j e. agree t j e (s == t) refl;
        single = λ t u j e g. one t u j e g (s == t) refl (s == u) refl;
        headed = λ t j e. rw (length-set hs b₀ (Some s)) p;
        long = length-set ns s (Some k) ∙ i.long ∙ sym (length-set es s (entry (Some k) (head_at hs b₀)));
      }

  pub slot_of-insert : (q : ℕ) → slot_of q ns' ≡ if k == q then Some s else slot_of q ns
  slot_of-insert q = on (k == q) refl
    where
      at : number_at ns' s ≡ Some k
      at = get_or-set_same ns s (Some k) None within

      on : (d : Bool) → (k == q) ≡ d → slot_of q ns' ≡ if k == q then Some s else slot_of q ns
      on true w = rw w (ap (λ l. slot_of l ns') (sym (same-number k q w)) ∙ slot_of-at k s ns' index-insert.single at)
      on false w = rw w (also (slot_of q ns) refl)
        where
          also : (o : Option ℕ) → slot_of q ns ≡ o → slot_of q ns' ≡ o
          also (Some t) f =
              let e : number_at ns t ≡ Some q = slot_of-some q t ns f in
              let ne : t ≢ s = λ z. let g : number_at ns s ≡ Some q = subst (λ (l : ℕ). number_at ns l ≡ Some q) z e in let y : None ≡ Some q = sym new ∙ g in cc in
              slot_of-at q t ns' index-insert.single (get_or-set_other ns s t (Some k) None ne ∙ e)
          also None f = slot_of-absent q ns' (λ t e. without t e (s == t) refl)
            where
              without : (t : ℕ) → number_at ns' t ≡ Some q → (d : Bool) → (s == t) ≡ d → ⊥
              without t e true v = not-same k q w (own-number t q v e)
              without t e false v = slot_of-none q t ns f (old-number t q v e)

-- one more entry, without a number
pub index-grow : {hs : List (Option ℕ)} {es : List IndexEntry} {ns : List (Option ℕ)} → IsIndex hs es ns → IsIndex hs (es ++ no_entry ∷ []) (ns ++ None ∷ [])
index-grow {hs = hs} {es = es} {ns = ns} i =
    record {
      buckets = λ b q. bucket-keeps (more b (i.buckets b q));
      agrees = λ s k e. let f : number_at ns s ≡ Some k = sym (number-append ns s) ∙ e in more-number s (i.agrees s k f);
      single = λ s t k e f. i.single s t k (sym (number-append ns s) ∙ e) (sym (number-append ns t) ∙ f);
      headed = λ s k e. i.headed s k (sym (number-append ns s) ∙ e);
      long = length-append ns (None ∷ []) ∙ ap (λ n. n + 1) i.long ∙ sym (length-append es (no_entry ∷ []));
    }
  where
    more : (b : ℕ) → IsBucket (length hs) b (head_at hs b) es ns (trail (length es) (head_at hs b) es) → IsBucket (length hs) b (head_at hs b) (es ++ no_entry ∷ []) (ns ++ None ∷ []) (trail (length es) (head_at hs b) es)
    more b u =
        record {
          linked = linked-grow es no_entry (head_at hs b) (trail (length es) (head_at hs b) es) None u.linked;
          once = u.once;
          holds = λ s. rw (number-append ns s) (u.holds s);
        }

    entries-more : (xs : List IndexEntry) (s : ℕ) → (place_at (xs ++ no_entry ∷ []) s).number ≡ (place_at xs s).number
    entries-more [] zero = refl
    entries-more [] (suc s) = refl
    entries-more (x ∷ xs) zero = refl
    entries-more (x ∷ xs) (suc s) = entries-more xs s

    more-number : (s : ℕ) {k : ℕ} → (place_at es s).number ≡ Some k → (place_at (es ++ no_entry ∷ []) s).number ≡ Some k
    more-number s e = entries-more es s ∙ e
