-- Pairs of a key and a value.
use Rattle.std.proofs.Common.{◌≡◌, ℕ, ◌<◌, ◌==◌, List, [], ◌∷◌, length, Option, Some, None, is_some, true, Err, Bor, refl, arith}
use Rattle.std.specs.List.{slice_split}
use Rattle.std.specs.Option.{option_map_or}
use Rattle.std.proofs.lemmas.List.Splits.{length-slice_split}
use Rattle.mdb_srv.specs.Refusals.{not_a_pair}
use Rattle.mdb_srv.specs.Txt.{option_of}

three_pieces : (part key value : List ℕ) (pieces : List (List ℕ)) → 0 < length pieces → slice_split (λ b. b == 61) part ≡ key ∷ value ∷ pieces
    → option_of part ≡ Err (not_a_pair part)
three_pieces part key value [] some e = absurd (omega (arith, some))
three_pieces part key value (x ∷ xs) some e = rw e refl

-- a part with two equals signs is no pair
pub two_signs : (part key rest value : List ℕ) (more : Option (Bor (List ℕ)))
    → slice_split (λ b. b == 61) part ≡ key ∷ slice_split (λ b. b == 61) rest
    → slice_split (λ b. b == 61) rest ≡ value ∷ option_map_or (λ t. slice_split (λ b. b == 61) t.now) more []
    → is_some more ≡ true → option_of part ≡ Err (not_a_pair part)
two_signs part key rest value None first second some = absurd (cc some)
two_signs part key rest value (Some t) first second some =
    let count = length-slice_split (λ b. b == 61) t.now in
    three_pieces part key value (slice_split (λ b. b == 61) t.now) (omega (arith, count)) (rw (first, second) refl)
