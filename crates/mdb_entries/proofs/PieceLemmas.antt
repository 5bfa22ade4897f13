-- What stands round the bars of an entry's line.
use Rattle.std.proofs.Common.{◌≡◌, ℕ, ◌≤◌, ◌<◌, Bool, true, false, eqb, List, [], ◌∷◌, ◌++◌, length, drop, Some, None, Result, Ok, Err, IfOk, refl, sym, ap, ◌∙◌, arith, inl, inr, append_assoc, append-nil, length-append, ◌+◌, codes}
use Rattle.std.proofs.lemmas.Bool.{eqb-true, cases_Bool}
use Rattle.std.proofs.lemmas.List.{append_cancel_right}
use Rattle.mdb_base.specs.AddressReading.{until, beyond, after}
use Rattle.mdb_base.proofs.AddressAgain.{rest_nil, rest_cons, word_cut}
use Rattle.mdb_base.proofs.Words.{after_here}
use Rattle.mdb_base.proofs.AddressText.{cut_whole}
use Rattle.std.specs.Borrow.{Bor}
use Rattle.mdb_parts.specs.declared.line_error.LineError.{LineError}
use Rattle.mdb_parts.specs.Reading.{lacks}
use Rattle.mdb_parts.proofs.CommaLemmas.{lacks_append}
use Rattle.mdb_entries.specs.Pieces.{barred}

-- a word and the bar behind it

behind : (word : List ℕ) (t : List ℕ) (ts : List (List ℕ)) → lacks 124 word ≡ true
    → (until 124 (word ++ barred (t ∷ ts)) ≡ word ++ codes " ") × (beyond 124 (word ++ barred (t ∷ ts)) ≡ drop 1 (barred (t ∷ ts)))
behind word t ts l =
    let more = drop 1 (barred (t ∷ ts)) in
    let spaced : lacks 124 (word ++ codes " ") ≡ true = lacks_append 124 word (codes " ") l refl in
    let p = word_cut 124 (word ++ codes " ") more spaced (rest_cons 124 (drop 1 more)) in
    rw (append_assoc word (codes " ") more) at p

pub piece_alone : (text word rest : List ℕ) (more : List (List ℕ)) → rest ≡ beyond 124 text → rest ≡ [] → lacks 124 word ≡ true → text ≡ word ++ barred more
    → (text ≡ word) × ([] ≡ drop 1 (barred more))
piece_alone text word rest [] b e l same = (same ∙ append-nil word, refl)
piece_alone text word rest (t ∷ ts) b e l same =
    let p = behind word t ts l in
    let f = sym e ∙ b ∙ ap (beyond 124) same ∙ p.1 in absurd (cc)

pub piece_first : (text word rest front : List ℕ) (more : List (List ℕ)) → front ≡ until 124 text → rest ≡ beyond 124 text → (rest ≡ [] → ⊥) → lacks 124 word ≡ true → text ≡ word ++ barred more
    → (front ≡ word ++ codes " ") × (rest ≡ drop 1 (barred more))
piece_first text word rest front [] f b some l same =
    let p = word_cut 124 word [] l (rest_nil 124) in
    absurd (some (b ∙ ap (beyond 124) same ∙ p.1))
piece_first text word rest front (t ∷ ts) f b some l same =
    let p = behind word t ts l in
    (f ∙ ap (until 124) same ∙ p.0, b ∙ ap (beyond 124) same ∙ p.1)

pub word_before : (front word other : List ℕ) → front ≡ word ++ codes " " → front ≡ other ++ codes " " → word ≡ other
word_before front word other e f = append_cancel_right word other (codes " ") (sym e ∙ f)

pub rest_short : (text rest : List ℕ) → rest ≡ beyond 124 text → length rest ≤ length text
rest_short text rest b =
    let whole : length (until 124 text) + length (beyond 124 text) ≡ length text = sym (length-append (until 124 text) (beyond 124 text)) ∙ ap length (cut_whole 124 text) in
    let same = ap length b in omega (arith, whole, same)

pub none_left : (rest : List ℕ) → true ≡ eqb (length rest) 0 → rest ≡ []
none_left [] h = refl
none_left (b ∷ bs) h = let e = eqb-true (length (b ∷ bs)) 0 (sym h) in absurd (omega (arith, e))

pub some_left : (rest : List ℕ) → false ≡ eqb (length rest) 0 → rest ≡ [] → ⊥
some_left [] h e = cc
some_left (b ∷ bs) h e = cc

-- what stands behind a name

behind_name : (name text rest : List ℕ) → after name text ≡ Some rest → text ≡ name ++ rest
unfolding after
behind_name [] text rest h = let same : text ≡ rest = cc in same
behind_name (n ∷ ns) [] rest h = absurd (cc)
behind_name (n ∷ ns) (b ∷ bs) rest h = elim (cases_Bool (eqb b n)) [
  | inl same ↦ (let e = eqb-true b n same in let more = behind_name ns bs rest (rw same at h) in rw (e, more) refl)
  | inr other ↦ absurd (let f = rw other at h in cc)
]

pub shorter : (text rest : List ℕ) → Some rest ≡ after (codes "| ") text → length rest < length text
shorter text rest h = let e = ap length (behind_name (codes "| ") text rest (sym h)) in omega (arith, e)

pub name_there : (name text more : List ℕ) → None ≡ after name text → text ≡ name ++ more → ⊥
name_there name text more none e = let here : after name text ≡ Some more = rw e (after_here name more) in cc

pub name_left : (name text rest more : List ℕ) → Some rest ≡ after name text → text ≡ name ++ more → rest ≡ more
name_left name text rest more found e = let here : Some rest ≡ Some more = found ∙ ap (after name) e ∙ after_here name more in cc

pub still_shorter : (r : Result (Bor (List ℕ) × Bor (List ℕ)) LineError) (rest text : List ℕ) → length rest < length text
    → IfOk r (λ x. length x.1.now ≤ length rest) → IfOk r (λ x. length x.1.now < length text)
still_shorter (Ok x) rest text lt h = omega (arith, lt, h)
still_shorter (Err e) rest text lt h = tt

pub is_full : (rest : List ℕ) (b : Bool) → b ≡ eqb (length rest) 0 → b ≡ false → rest ≡ [] → ⊥
is_full rest b e h none = some_left rest (sym h ∙ e) none

pub is_gone : (rest : List ℕ) (b : Bool) → b ≡ eqb (length rest) 0 → b ≡ true → rest ≡ []
is_gone rest b e h = none_left rest (sym h ∙ e)
