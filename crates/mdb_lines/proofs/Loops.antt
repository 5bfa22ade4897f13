-- What calls of a sink or a source come to, one after another, and how an input is cut into lines.
use Rattle.std.proofs.Common.{◌≡◌, ℕ, zero, suc, ◌+◌, ◌<◌, List, [], ◌∷◌, ◌++◌, length, take, drop, ◌≤◌, Option, Some, None, Ok, refl, sym, ap, ◌∙◌, arith, append_assoc, eqb, ltb, inl, inr, position, length-append, length-drop}
use Rattle.std.specs.List.{onto_first, position_or_len}
use Rattle.std.proofs.lemmas.Bool.{cases_Bool, eqb-true, eqb-false, ltb-true, ltb-false}
use Rattle.std.proofs.lemmas.Option.{cond_some}
use Rattle.std.proofs.lemmas.List.Sums.{fails_before_first, passes_at_first}
use Rattle.std.proofs.lemmas.List.{append-nil}
use Rattle.std.proofs.Math.Seq.{take-add}
use Rattle.std.specs.Io.KnownBytes.{Consumes, Keeps}
use Rattle.mdb_base.specs.AddressReading.{until, beyond}
use Rattle.mdb_base.proofs.Words.{until_found, until_missing}
use Rattle.mdb_base.specs.Outside.{Rose, Counts, Held, Took, WriteCause}
use Rattle.mdb_lines.specs.Script.{lines_of}
use Rattle.mdb_lines.specs.Loops.{CalledWithin, ReadsFew}

pub took_nothing : (a : Option Held) → Took a a []
took_nothing None = tt
took_nothing (Some h) = (sym (append-nil h.taken), omega arith)

pub took_more : (a b c : Option Held) (x y : List ℕ) → Took a b x → Took b c y → Took a c (x ++ y)
took_more None b c x y p q = tt
took_more (Some h) None c x y p q = absurd p
took_more (Some h) (Some k) None x y p q = absurd q
took_more (Some h) (Some k) (Some l) x y p q = (q.0 ∙ rw (p.0) (append_assoc h.taken x y), omega (arith, p.1, q.1))

pub took_no_more : (a b c : Option Held) (x : List ℕ) → Took a b x → Took b c [] → Took a c x
took_no_more a b c x p q = rw (append-nil x) at (took_more a b c x [] p q)

pub cause_none : (E : Type 0) (before now : ℕ) (piece : List ℕ) → 0 < length piece → WriteCause {E = E} before now piece (Ok 0) → Rose before now
cause_none E before now [] some h = absurd (omega arith)
cause_none E before now (b ∷ bs) some h = h

pub cause_some : (E : Type 0) (before now : ℕ) (piece : List ℕ) (n : ℕ) → 0 < n → WriteCause {E = E} before now piece (Ok n) → now ≡ before
cause_some E before now [] n some h = h
cause_some E before now (b ∷ bs) zero some h = absurd (omega arith)
cause_some E before now (b ∷ bs) (suc n) some h = h

pub took_next : (a b c : Option Held) (bytes piece : List ℕ) (m n : ℕ) → piece ≡ drop m bytes → Took a b (take m bytes) → Took b c (take n piece) → Took a c (take (m + n) bytes)
took_next a b c bytes piece m n e p q = rw (take-add m n bytes, ← e) (took_more a b c (take m bytes) (take n piece) p q)

-- reading

pub consumes_none : (a : Option (List ℕ)) → Consumes a a []
consumes_none None = tt
consumes_none (Some xs) = refl

pub consumes_more : (a b c : Option (List ℕ)) (x y : List ℕ) → Consumes a b x → Consumes b c y → Consumes a c (x ++ y)
consumes_more None b c x y p q = tt
consumes_more (Some xs) None c x y p q = absurd p
consumes_more (Some xs) (Some ys) None x y p q = absurd q
consumes_more (Some xs) (Some ys) (Some zs) x y p q = p ∙ ap (λ (l : List ℕ). x ++ l) q ∙ sym (append_assoc x y zs)

pub consumes_kept : (a b : Option (List ℕ)) → Keeps a b → Consumes a b []
consumes_kept None b h = tt
consumes_kept (Some xs) None h = absurd h
consumes_kept (Some xs) (Some ys) h = sym h

pub called_none : (a : Option ℕ) → CalledWithin a a 0
called_none None = tt
called_none (Some n) = omega arith

called_wider : (a b : Option ℕ) (k most : ℕ) → CalledWithin a b k → k ≤ most → CalledWithin a b most
called_wider None None k most p l = tt
called_wider None (Some m) k most p l = absurd p
called_wider (Some n) None k most p l = absurd p
called_wider (Some n) (Some m) k most p l = omega (arith, p, l)

pub called_more : (a b c : Option ℕ) (k : ℕ) → CalledWithin a b k → Counts b c → CalledWithin a c (k + 1)
called_more None None None k p q = tt
called_more None None (Some z) k p q = absurd q
called_more None (Some y) c k p q = absurd p
called_more (Some x) None c k p q = absurd p
called_more (Some x) (Some y) None k p q = absurd q
called_more (Some x) (Some y) (Some z) k p q = omega (arith, p, q)

-- reads that took a byte each
pub reads_so_far : (limit : ℕ) (a b : Option (List ℕ)) (p q : Option ℕ) (turn : ℕ) (x : List ℕ) → Consumes a b x → CalledWithin p q turn → turn ≤ length x → length x ≤ limit → ReadsFew limit a b p q
reads_so_far limit a b p q turn x h n each short = record {
  bytes = x;
  consumed = h;
  each = called_wider p q turn (1 + length x) n (omega (arith, each));
  few = called_wider p q turn (1 + limit) n (omega (arith, each, short));
}

-- reads that took a byte each, and one more
pub reads_few : (limit : ℕ) (a b c : Option (List ℕ)) (p q r : Option ℕ) (turn : ℕ) (x y : List ℕ) → Consumes a b x → Consumes b c y → CalledWithin p q turn → Counts q r → turn ≤ length x → length x ≤ limit → ReadsFew limit a c p r
reads_few limit a b c p q r turn x y h k n m each short = record {
  bytes = x ++ y;
  consumed = consumes_more a b c x y h k;
  each = called_wider p r (turn + 1) (1 + length (x ++ y)) (called_more p q r turn n m) (omega (arith, each, length-append x y));
  few = called_wider p r (turn + 1) (1 + limit) (called_more p q r turn n m) (omega (arith, each, short));
}

-- lines

lines_cut : (bs : List ℕ) → 0 < length (beyond 10 bs) → lines_of bs ≡ (until 10 bs ++ 10 ∷ []) ∷ lines_of (drop 1 (beyond 10 bs))
unfolding lines_of until beyond
lines_cut [] some = absurd (omega arith)
lines_cut (b ∷ bs) some = elim (cases_Bool (eqb b 10)) [
  | inl same ↦ rw same refl
  | inr other ↦ rw (other, lines_cut bs (rw other at some)) refl
]

lines_last : (b : ℕ) (bs : List ℕ) → beyond 10 (b ∷ bs) ≡ [] → lines_of (b ∷ bs) ≡ (b ∷ bs) ∷ []
unfolding lines_of beyond
lines_last b [] none = elim (cases_Bool (eqb b 10)) [
  | inl same ↦ absurd (let e : b ∷ [] ≡ [] = rw same at none in cc)
  | inr other ↦ rw other refl
]
lines_last b (c ∷ cs) none = elim (cases_Bool (eqb b 10)) [
  | inl same ↦ absurd (let e : b ∷ c ∷ cs ≡ [] = rw same at none in cc)
  | inr other ↦ rw other (ap (onto_first b) (lines_last c cs (rw other at none)))
]

pub newline_found : (bytes : List ℕ) (i : ℕ) → position (λ b. eqb b 10) bytes ≡ Some i → (i < length bytes) × (until 10 bytes ≡ take i bytes) × (beyond 10 bytes ≡ drop i bytes)
newline_found bytes i e =
    let p = λ (b : ℕ). eqb b 10 in
    let s = cond_some (ltb (position_or_len p bytes) (length bytes)) (position_or_len p bytes) i e in
    let lt : position_or_len p bytes < length bytes = ltb-true (position_or_len p bytes) (length bytes) s.0 in
    let found = until_found 10 bytes (position_or_len p bytes) lt (eqb-true _ 10 (passes_at_first p bytes 0 lt)) (λ k l. eqb-false _ 10 (fails_before_first p bytes k 0 l)) in
    rw (← s.1) (lt, found.0, found.1)

pub newline_missing : (bytes : List ℕ) → position (λ b. eqb b 10) bytes ≡ None → beyond 10 bytes ≡ []
newline_missing bytes e = (until_missing 10 bytes (λ k l. eqb-false _ 10 (fails_before_first (λ b. eqb b 10) bytes k 0 (past k l)))).1
  where
    past : (k : ℕ) → k < length bytes → k < position_or_len (λ (b : ℕ). eqb b 10) bytes
    past k l = elim (cases_Bool (ltb (position_or_len (λ (b : ℕ). eqb b 10) bytes) (length bytes))) [
      | inl inside ↦ absurd (let f : Some (position_or_len (λ (b : ℕ). eqb b 10) bytes) ≡ None = rw inside at e in cc)
      | inr outside ↦ omega (arith, ltb-false _ _ outside)
    ]

pub cuts_some : (bytes : List ℕ) (i : ℕ) → position (λ b. eqb b 10) bytes ≡ Some i → (lines_of bytes ≡ (take i bytes ++ 10 ∷ []) ∷ lines_of (drop 1 (drop i bytes))) × (length (drop 1 (drop i bytes)) < length bytes)
cuts_some bytes i e =
    let f = newline_found bytes i e in
    let some : 0 < length (beyond 10 bytes) = rw (f.2, length-drop i bytes) (omega (arith, f.0)) in
    let cut = lines_cut bytes some in
    (rw (← f.1, ← f.2) cut, omega (arith, f.0, length-drop i bytes, length-drop 1 (drop i bytes)))

pub cuts_none : (bytes : List ℕ) → 0 < length bytes → position (λ b. eqb b 10) bytes ≡ None → (lines_of bytes ≡ bytes ∷ []) × (beyond 10 bytes ≡ [])
cuts_none [] some e = absurd (omega arith)
cuts_none (b ∷ bs) some e = let none = newline_missing (b ∷ bs) e in (lines_last b bs none, none)

pub line_not_last : (xs : List ℕ) → beyond 10 (xs ++ 10 ∷ []) ≡ [] → ⊥
unfolding beyond
line_not_last [] h = let e : ◌≡◌ {A = List ℕ} (10 ∷ []) [] = h in cc
line_not_last (b ∷ bs) h = elim (cases_Bool (eqb b 10)) [
  | inl same ↦ (let e : b ∷ (bs ++ 10 ∷ []) ≡ [] = rw same at h in cc)
  | inr other ↦ line_not_last bs (rw other at h)
]
