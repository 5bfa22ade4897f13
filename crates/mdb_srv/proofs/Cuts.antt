-- Texts cut at a character.
use Rattle.std.proofs.Common.{◌≡◌, ◌≢◌, ℕ, ◌<◌, ◌==◌, true, false, List, [], ◌∷◌, ◌++◌, length, get_or, arith}
use Rattle.std.proofs.lemmas.Bool.Decides.{nat_tests}
use Rattle.std.proofs.lemmas.List.Elements.{All-from_get_or}
use Rattle.std.proofs.lemmas.List.Splits.{slice_split_none, slice_split_at}
use Rattle.std.specs.List.{All, slice_split}

-- no byte of the list is c
abbrev pub Lacks : ℕ → List ℕ → Type 0
Lacks c xs = (i : ℕ) → i < length xs → get_or xs i 0 ≢ c

none_is : (c : ℕ) (xs : List ℕ) → Lacks c xs → All (λ b. (b == c) ≡ false) xs
none_is c xs h = All-from_get_or (λ b. (b == c) ≡ false) xs 0 (λ i lt. let differs = h i lt in grind (arith, nat_tests))

-- a text that lacks the character is one part
pub uncut : (c : ℕ) (xs : List ℕ) → Lacks c xs → slice_split (λ b. b == c) xs ≡ xs ∷ []
uncut c xs h = slice_split_none (λ b. b == c) xs (none_is c xs h)

-- the first part ends at the first such character
pub cut_at : (c : ℕ) (xs ys : List ℕ) → Lacks c xs → slice_split (λ b. b == c) (xs ++ c ∷ ys) ≡ xs ∷ slice_split (λ b. b == c) ys
cut_at c xs ys h =
    let same : (c == c) ≡ true = grind (arith, nat_tests) in
    slice_split_at (λ b. b == c) xs c ys (none_is c xs h) same
