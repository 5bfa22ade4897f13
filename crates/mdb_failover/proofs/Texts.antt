-- The texts of members are addresses, in small letters.
use Rattle.std.proofs.Common.{◌≡◌, ℕ, zero, suc, ◌<◌, Bool, true, ◌&&◌, List, [], ◌∷◌, length, get_or, Some, refl, ◌∙◌, subst, arith, inl, zero-add}
use Rattle.std.specs.Prelude.{nat_eq}
use Rattle.std.specs.Fmt.{digits}
use Rattle.std.specs.List.{list_all, range_with_len}
use Rattle.std.specs.Cmp.Lexicographic.{pointwise}
use Rattle.std.proofs.lemmas.Bool.{and_parts}
use Rattle.std.proofs.lemmas.List.FromFn.{get_or-range_with_len}
use Rattle.mdb_base.specs.AddressRule.{is_address, is_name_host, is_v6_host}
use Rattle.mdb_base.specs.Spelling.{address}
use Rattle.mdb_describe.specs.Listed.{lower, parsed}
use Rattle.mdb_describe.proofs.Parsed.{same_bytes, parsed_some}
use Rattle.mdb_fleets.specs.MemberReplies.{address_of, address_text}

-- what is tried of each member's number
abbrev is_regular : ℕ → Bool
is_regular k = is_address (address_of k) && (pointwise nat_eq (address_text k) (address (address_of k)) && pointwise nat_eq (lower (address_text k)) (address_text k))

all-regular : list_all is_regular (range_with_len 0 50) ≡ true
unfolding is_name_host is_v6_host digits
all-regular = refl

-- what holds of all in a list holds of each
holds-at : (p : ℕ → Bool) (xs : List ℕ) (i : ℕ) → i < length xs → list_all p xs ≡ true → p (get_or xs i 0) ≡ true
holds-at p [] i there all = absurd (omega arith)
holds-at p (x ∷ xs) zero there all = (and_parts (p x) (list_all p xs) all).0
holds-at p (x ∷ xs) (suc i) there all = holds-at p xs i (omega arith) (and_parts (p x) (list_all p xs) all).1

regular : (k : ℕ) → k < 50 → is_regular k ≡ true
regular k few =
    let at = holds-at is_regular (range_with_len 0 50) k few all-regular in
    let e : get_or (range_with_len 0 50) k 0 ≡ k = get_or-range_with_len 0 50 k 0 few ∙ zero-add k in
    subst (λ j. is_regular j ≡ true) e at

pub is-address : (k : ℕ) → k < 50 → is_address (address_of k) ≡ true
is-address k few = (and_parts (is_address (address_of k)) _ (regular k few)).0

pub text-is : (k : ℕ) → k < 50 → address_text k ≡ address (address_of k)
text-is k few = same_bytes (address_text k) (address (address_of k)) (and_parts (pointwise nat_eq (address_text k) (address (address_of k))) _ (and_parts (is_address (address_of k)) _ (regular k few)).1).0

pub text-low : (k : ℕ) → k < 50 → lower (address_text k) ≡ address_text k
text-low k few = same_bytes (lower (address_text k)) (address_text k) (and_parts (pointwise nat_eq (address_text k) (address (address_of k))) _ (and_parts (is_address (address_of k)) _ (regular k few)).1).1

-- a member's text stands for its address
pub text-parsed : (k : ℕ) → k < 50 → parsed (address_text k) ≡ Some (address_of k)
text-parsed k few = parsed_some (address_text k) (address_of k) (record { rule = is-address k few; spelled = inl (text-low k few ∙ text-is k few) })
