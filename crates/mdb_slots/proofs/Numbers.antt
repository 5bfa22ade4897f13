-- The numbers of slots, and the slot of a number.
use Rattle.std.proofs.Common.{◌≡◌, ◌≢◌, ℕ, zero, suc, ◌-◌, ◌<◌, ◌==◌, if◌then◌else◌, Bool, true, false, Option, Some, None, option_map, List, [], ◌∷◌, ◌++◌, length, refl, sym, ◌∙◌, ap, subst, arith, set, get_or-set_other, get_or-set_same}
use Rattle.std.proofs.lemmas.Grind.{common_steps}
use Rattle.std.proofs.lemmas.Nat.{and_le_r}
use Rattle.mdb_slots.specs.declared.index_entry.IndexEntry.{IndexEntry}
use Rattle.mdb_slots.specs.SlotIndex.{bucket_in, place_at, number_at, numbers_of, is_number, slot_of, lead_same, Single, masked}

pub bucket_in-below : (k n : ℕ) → 0 < n → bucket_in k n < n
unfolding bucket_in
bucket_in-below k n p = omega (arith, and_le_r k (n - 1))

pub same-number : (a b : ℕ) → (a == b) ≡ true → a ≡ b
same-number a b e = grind (arith, common_steps, e)

pub is-same : (a : ℕ) → (a == a) ≡ true
is-same a = grind (arith, common_steps)

pub not-same : (a b : ℕ) → (a == b) ≡ false → a ≢ b
not-same a b e h = grind (arith, common_steps, e, h)

pub some-same : (a b : ℕ) → Some a ≡ Some b → a ≡ b
some-same a b e = cc

pub number-is : (k : ℕ) (n : Option ℕ) → is_number k n ≡ true → n ≡ Some k
number-is k None e = cc
number-is k (Some j) e = ap (λ i. Some i) (same-number j k e)

pub slot_of-some : (k s : ℕ) (ns : List (Option ℕ)) → slot_of k ns ≡ Some s → number_at ns s ≡ Some k
slot_of-some k s [] e = cc
slot_of-some k s (n ∷ ns) e = on (is_number k n) refl (λ t. slot_of-some k t ns) e
  where
    later : (o : Option ℕ) → o ≡ slot_of k ns → ((t : ℕ) → slot_of k ns ≡ Some t → number_at ns t ≡ Some k) → (u : ℕ) → option_map suc o ≡ Some u → number_at (n ∷ ns) u ≡ Some k
    later None w more u f = cc
    later (Some t) w more u f = let j : suc t ≡ u = some-same (suc t) u f in subst (λ (v : ℕ). number_at (n ∷ ns) v ≡ Some k) j (more t (sym w))

    on : (b : Bool) → is_number k n ≡ b → ((t : ℕ) → slot_of k ns ≡ Some t → number_at ns t ≡ Some k) → (if b then Some 0 else option_map suc (slot_of k ns)) ≡ Some s → number_at (n ∷ ns) s ≡ Some k
    on true w more f = let j : zero ≡ s = some-same zero s f in subst (λ (v : ℕ). number_at (n ∷ ns) v ≡ Some k) j (number-is k n w)
    on false w more f = later (slot_of k ns) refl more s f

pub slot_of-none : (k s : ℕ) (ns : List (Option ℕ)) → slot_of k ns ≡ None → number_at ns s ≢ Some k
slot_of-none k s [] e h = cc
slot_of-none k zero (n ∷ ns) e h =
    let w : is_number k n ≡ true = rw h (is-same k) in
    let f : slot_of k (n ∷ ns) ≡ Some 0 = rw w refl in
    cc
slot_of-none k (suc s) (n ∷ ns) e h = on (is_number k n) refl (slot_of-none k s ns) e
  where
    none : (o : Option ℕ) → option_map suc o ≡ None → o ≡ None
    none None f = refl
    none (Some t) f = cc

    on : (b : Bool) → is_number k n ≡ b → (slot_of k ns ≡ None → number_at ns s ≢ Some k) → (if b then Some 0 else option_map suc (slot_of k ns)) ≡ None → ⊥
    on true w more f = cc
    on false w more f = more (none (slot_of k ns) f) h

-- where no two slots have a number, its slot is the one that has it
pub slot_of-at : (k s : ℕ) (ns : List (Option ℕ)) → Single ns → number_at ns s ≡ Some k → slot_of k ns ≡ Some s
slot_of-at k s ns one e = on (slot_of k ns) refl
  where
    on : (o : Option ℕ) → slot_of k ns ≡ o → slot_of k ns ≡ Some s
    on None w = absurd (slot_of-none k s ns w e)
    on (Some t) w = w ∙ ap (λ i. Some i) (one t s k (slot_of-some k t ns w) e)

pub slot_of-absent : (k : ℕ) (ns : List (Option ℕ)) → ((s : ℕ) → number_at ns s ≢ Some k) → slot_of k ns ≡ None
slot_of-absent k ns h = on (slot_of k ns) refl
  where
    on : (o : Option ℕ) → slot_of k ns ≡ o → slot_of k ns ≡ None
    on None w = w
    on (Some t) w = absurd (h t (slot_of-some k t ns w))

-- the numbers after a write of an entry
pub numbers-set : (es : List IndexEntry) (s : ℕ) (e : IndexEntry) → numbers_of (set es s e) ≡ set (numbers_of es) s e.number
numbers-set [] s e = refl
numbers-set (x ∷ es) zero e = refl
numbers-set (x ∷ es) (suc s) e = ap (λ zs. x.number ∷ zs) (numbers-set es s e)

pub numbers-at : (es : List IndexEntry) (s : ℕ) → number_at (numbers_of es) s ≡ (place_at es s).number
numbers-at [] s = refl
numbers-at (x ∷ es) zero = refl
numbers-at (x ∷ es) (suc s) = numbers-at es s

pub set-number : (ns : List (Option ℕ)) (s : ℕ) → set ns s (number_at ns s) ≡ ns
set-number [] s = refl
set-number (n ∷ ns) zero = refl
set-number (n ∷ ns) (suc s) = ap (λ zs. n ∷ zs) (set-number ns s)

pub numbers-lead_same : (p o : Option ℕ) (es : List IndexEntry) → numbers_of (lead_same p o es) ≡ numbers_of es
numbers-lead_same None o es = refl
numbers-lead_same (Some b) o es =
    numbers-set es b (record (place_at es b) { same = o }) ∙ ap (λ n. set (numbers_of es) b n) (sym (numbers-at es b)) ∙ set-number (numbers_of es) b

pub numbers-append : (es : List IndexEntry) (e : IndexEntry) → numbers_of (es ++ e ∷ []) ≡ numbers_of es ++ e.number ∷ []
numbers-append [] e = refl
numbers-append (x ∷ es) e = ap (λ zs. x.number ∷ zs) (numbers-append es e)

pub numbers-length : (es : List IndexEntry) → length (numbers_of es) ≡ length es
numbers-length [] = refl
numbers-length (x ∷ es) = ap (λ n. suc n) (numbers-length es)

pub number-within : (ns : List (Option ℕ)) (s k : ℕ) → number_at ns s ≡ Some k → s < length ns
number-within [] s k e = cc
number-within (n ∷ ns) zero k e = omega arith
number-within (n ∷ ns) (suc s) k e = omega (arith, number-within ns s k e)

pub number-append : (ns : List (Option ℕ)) (s : ℕ) → number_at (ns ++ None ∷ []) s ≡ number_at ns s
number-append [] zero = refl
number-append [] (suc s) = refl
number-append (n ∷ ns) zero = refl
number-append (n ∷ ns) (suc s) = number-append ns s

pub slot_of-append : (k : ℕ) (ns : List (Option ℕ)) → slot_of k (ns ++ None ∷ []) ≡ slot_of k ns
slot_of-append k [] = refl
slot_of-append k (n ∷ ns) = ap (λ o. if is_number k n then Some 0 else option_map suc o) (slot_of-append k ns)

-- the numbers after a write of a number
pub number-set : (ns : List (Option ℕ)) (s t : ℕ) (n : Option ℕ) → s < length ns → number_at (set ns s n) t ≡ if s == t then n else number_at ns t
number-set ns s t n h = on (s == t) refl
  where
    on : (b : Bool) → (s == t) ≡ b → number_at (set ns s n) t ≡ if s == t then n else number_at ns t
    on true w = let j : s ≡ t = same-number s t w in rw w (ap (λ i. number_at (set ns s n) i) (sym j) ∙ get_or-set_same ns s n None h)
    on false w = let j : t ≢ s = λ e. not-same s t w (sym e) in rw w (get_or-set_other ns s t n None j)

pub free-number : (s : ℕ) (ns : List (Option ℕ)) → Single ns → ((q : ℕ) → slot_of q ns ≢ Some s) → number_at ns s ≡ None
free-number s ns one h = on (number_at ns s) refl
  where
    on : (o : Option ℕ) → number_at ns s ≡ o → number_at ns s ≡ None
    on None e = e
    on (Some q) e = absurd (h q (slot_of-at q s ns one e))

-- the numbers of the first slots
pub masked-none : (ns : List (Option ℕ)) (s : ℕ) → number_at (masked zero ns) s ≡ None
masked-none [] s = refl
masked-none (n ∷ ns) zero = refl
masked-none (n ∷ ns) (suc s) = masked-none ns s

pub masked-all : (ns : List (Option ℕ)) → masked (length ns) ns ≡ ns
masked-all [] = refl
masked-all (n ∷ ns) = ap (λ zs. n ∷ zs) (masked-all ns)

pub masked-next : (i : ℕ) (ns : List (Option ℕ)) → i < length ns → masked (suc i) ns ≡ set (masked i ns) i (number_at ns i)
masked-next i [] h = refl
masked-next zero (n ∷ ns) h = refl
masked-next (suc i) (n ∷ ns) h = ap (λ zs. n ∷ zs) (masked-next i ns (omega (arith, h)))

pub masked-at : (i : ℕ) (ns : List (Option ℕ)) → number_at (masked i ns) i ≡ None
masked-at i [] = refl
masked-at zero (n ∷ ns) = refl
masked-at (suc i) (n ∷ ns) = masked-at i ns

pub masked-some : (i s k : ℕ) (ns : List (Option ℕ)) → number_at (masked i ns) s ≡ Some k → number_at ns s ≡ Some k
masked-some i s k [] e = cc
masked-some zero zero k (n ∷ ns) e = cc
masked-some zero (suc s) k (n ∷ ns) e = masked-some zero s k ns e
masked-some (suc i) zero k (n ∷ ns) e = e
masked-some (suc i) (suc s) k (n ∷ ns) e = masked-some i s k ns e

pub masked-length : (i : ℕ) (ns : List (Option ℕ)) → length (masked i ns) ≡ length ns
masked-length i [] = refl
masked-length zero (n ∷ ns) = ap (λ m. suc m) (masked-length zero ns)
masked-length (suc i) (n ∷ ns) = ap (λ m. suc m) (masked-length i ns)
