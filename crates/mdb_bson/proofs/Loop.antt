-- Reading elements one after the other, as a loop does.
use Rattle.std.specs.Prelude.{◌==◌, if◌then◌else◌}
use Rattle.std.proofs.Common.{◌≡◌, Bool, true, false, ℕ, zero, suc, ◌+◌, ◌<◌, ◌≤◌, List, [], ◌∷◌, ◌++◌, length, drop, get_or, Result, Ok, Err, refl, sym, ap, ◌∙◌, append_assoc, add-one, drop-cons}
use Rattle.std.proofs.lemmas.List.{append-nil, drop_all}
use Rattle.mdb_base.specs.Document.{Field}
use Rattle.mdb_bson.specs.declared.fault.Fault.TheVariants as fault
use Rattle.mdb_bson.specs.declared.fault.Stop.{Stop}
use Rattle.mdb_bson.specs.declared.fault.Stop.TheVariants as stop
use Rattle.mdb_bson.specs.Reading.{◌>>=◌, Bad, Reading, Stops, element, elements, last}

-- what was read before, and what is still read
abbrev pub with_front : List Field → Result (List Field × List ℕ) Bad → Result (List Field × List ℕ) Bad
with_front front read = read >>= λ x. Ok (front ++ x.0, x.1)

regroup : (front first : List Field) (read : Result (List Field × List ℕ) Bad) → with_front front (read >>= λ x. Ok (first ++ x.0, x.1)) ≡ with_front (front ++ first) read
regroup front first (Ok x) = ap (λ (fs : List Field). Ok (fs, x.1)) (simp append_assoc)
regroup front first (Err f) = refl

-- one of the bytes that count the elements
one_more : (i : ℕ) (bytes : List ℕ) → i < length bytes → drop i bytes ≡ get_or bytes i 0 ∷ drop (i + 1) bytes
one_more i bytes lt = rw (add-one, drop-cons bytes i 0) refl

-- what is still read, where it begins with these bytes
begins : (read : Reading (List Field)) (end i : ℕ) (bytes old new : List ℕ) (front : List Field) (total : Result (List Field × List ℕ) Bad) → i < length bytes → old ≡ new
    → with_front front (elements read end (drop i bytes) old) ≡ total → total ≡ with_front front (elements read end (get_or bytes i 0 ∷ drop (i + 1) bytes) new)
begins read end i bytes old new front total lt e so_far = sym so_far ∙ λ j. with_front front (elements read end (one_more i bytes lt j) (e j))

pub goes_on : (read : Reading (List Field)) (end i n : ℕ) (bytes old rest after : List ℕ) (front first : List Field) (total : Result (List Field × List ℕ) Bad) → i < length bytes → (n ≡ 0 → ⊥)
    → old ≡ n ∷ rest → element read end n rest ≡ Ok (first, after) → with_front front (elements read end (drop i bytes) old) ≡ total
    → with_front (front ++ first) (elements read end (drop (i + 1) bytes) after) ≡ total
unfolding elements
goes_on read end i zero bytes old rest after front first total lt some e h so_far = absurd (some refl)
goes_on read end i (suc n) bytes old rest after front first total lt some e h so_far =
    sym (begins read end i bytes old (suc n ∷ rest) front total lt e so_far ∙ rw h (regroup front first (elements read end (drop (i + 1) bytes) after)))

pub stops : (stop : Stop) (read : Reading (List Field)) (end i n : ℕ) (bytes old rest : List ℕ) (front : List Field) (total : Result (List Field × List ℕ) Bad) → i < length bytes → (n ≡ 0 → ⊥)
    → old ≡ n ∷ rest → Stops stop (element read end n rest) → with_front front (elements read end (drop i bytes) old) ≡ total → Stops stop total
unfolding elements
stops stop.Memory read end i n bytes old rest front total lt some e h so_far = tt
stops (stop.Bad f left) read end i zero bytes old rest front total lt some e h so_far = absurd (some refl)
stops (stop.Bad f left) read end i (suc n) bytes old rest front total lt some e h so_far =
    begins read end i bytes old (suc n ∷ rest) front total lt e so_far ∙ rw h refl

with_front-last : (front : List Field) (end : ℕ) (rest : List ℕ) → with_front front (last [] end rest) ≡ last front end rest
unfolding last
with_front-last front end rest =
    elim (length rest == end) as (λ (b : Bool). with_front front (if b then Ok ([], rest) else Err (fault.Zero, suc (length rest))) ≡ (if b then Ok (front, rest) else Err (fault.Zero, suc (length rest)))) [
      | true ↦ ap (λ (fs : List Field). Ok (fs, rest)) (append-nil front)
      | false ↦ refl
    ]

pub ends : (read : Reading (List Field)) (end i n : ℕ) (bytes old rest : List ℕ) (front : List Field) (total : Result (List Field × List ℕ) Bad) → i < length bytes → n ≡ 0
    → old ≡ n ∷ rest → with_front front (elements read end (drop i bytes) old) ≡ total → total ≡ last front end rest
unfolding elements
ends read end i zero bytes old rest front total lt none e so_far = begins read end i bytes old (0 ∷ rest) front total lt e so_far ∙ with_front-last front end rest
ends read end i (suc n) bytes old rest front total lt none e so_far = absurd cc

pub empty : (read : Reading (List Field)) (end i : ℕ) (bytes old : List ℕ) (front : List Field) (total : Result (List Field × List ℕ) Bad) → i < length bytes → old ≡ []
    → with_front front (elements read end (drop i bytes) old) ≡ total → total ≡ Err (fault.Zero, 0)
unfolding elements
empty read end i bytes old front total lt e so_far = begins read end i bytes old [] front total lt e so_far

pub no_end : (read : Reading (List Field)) (end i : ℕ) (bytes rest : List ℕ) (front : List Field) (total : Result (List Field × List ℕ) Bad) → length bytes ≤ i
    → with_front front (elements read end (drop i bytes) rest) ≡ total → total ≡ Err (fault.Zero, length rest)
unfolding elements
no_end read end i bytes rest front total le so_far = sym so_far ∙ ap (λ (more : List ℕ). with_front front (elements read end more rest)) (drop_all i bytes le)
