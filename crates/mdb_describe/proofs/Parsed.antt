-- What reading a text as an address gives.
use Rattle.std.proofs.Common.{◌≡◌, ℕ, ◌&&◌, ◌||◌, ◌==◌, ◌⊎◌, Bool, true, false, nat_eq, List, Option, Some, None, Ok, Err, inl, inr, refl, sym, ap, subst, ◌∙◌, arith}
use Rattle.std.specs.Cmp.Lexicographic.{pointwise}
use Rattle.std.specs.Bool.{Decides}
use Rattle.std.proofs.lemmas.Slice.Eq.{slice_eq-Decides}
use Rattle.std.proofs.lemmas.Bool.Decides.{Decides-eqb}
use Rattle.std.proofs.lemmas.Bool.{and_parts, and_from, or_cases, or_left, or_right, cases_Bool, eqb-true, eq-eqb}
use Rattle.std.proofs.lemmas.Option.{same_Some}
use Rattle.mdb_base.specs.declared.address.ServerAddress.{ServerAddress}
use Rattle.mdb_base.specs.declared.address_parse.AddressError.{AddressError}
use Rattle.mdb_base.specs.declared.address_parse.AddressError.TheVariants.{BadAddress, OutOfMemory}
use Rattle.mdb_base.specs.AddressReading.{address_of}
use Rattle.mdb_base.specs.AddressRule.{is_address, host_text, IsSpelledAddress, IsAddressText}
use Rattle.mdb_base.specs.Spelling.{address}
use Rattle.mdb_base.proofs.AddressAgain.{spelled_again}
use Rattle.mdb_describe.specs.Listed.{lower, spells, kept_if_spelled, parsed}

pub same_bytes : (xs ys : List ℕ) → pointwise nat_eq xs ys ≡ true → xs ≡ ys
same_bytes xs ys e = let d : Decides (pointwise nat_eq xs ys) (xs ≡ ys) = slice_eq-Decides Decides-eqb xs ys (pointwise nat_eq xs ys) refl in grind (arith, d)

pub own_bytes : (xs ys : List ℕ) → xs ≡ ys → pointwise nat_eq xs ys ≡ true
own_bytes xs ys e = let d : Decides (pointwise nat_eq xs ys) (xs ≡ ys) = slice_eq-Decides Decides-eqb xs ys (pointwise nat_eq xs ys) refl in grind (arith, d)

abbrev pub differ : AddressError → Bool
differ BadAddress = true
differ OutOfMemory = false

-- what is read is the address that is spelled
read_as : (text : List ℕ) (a : ServerAddress) (o : Option ServerAddress) → address_of text ≡ o → IsSpelledAddress text a → o ≡ Some a
read_as text a (Some x) e h = ap Some (spelled_again text a (Ok x) e h)
read_as text a None e h = absurd (let bad : BadAddress ≡ OutOfMemory = spelled_again text a (Err BadAddress) e h in let no : true ≡ false = ap differ bad in cc)

to_spells : (text : List ℕ) (a : ServerAddress) → IsSpelledAddress text a → spells text a ≡ true
to_spells text a h = and_from (is_address a) _ h.rule (by h.spelled)
  where
    by : (text ≡ address a) ⊎ ((text ≡ host_text a.host) × (a.port ≡ 27017)) → pointwise nat_eq text (address a) || (pointwise nat_eq text (host_text a.host) && (a.port == 27017)) ≡ true
    by (inl e) = or_left _ _ (own_bytes text (address a) e)
    by (inr p) = or_right (pointwise nat_eq text (address a)) _ (and_from (pointwise nat_eq text (host_text a.host)) (a.port == 27017) (own_bytes text (host_text a.host) p.0) (eq-eqb a.port 27017 p.1))

from_spells : (text : List ℕ) (a : ServerAddress) → spells text a ≡ true → IsSpelledAddress text a
from_spells text a h =
    let p = and_parts (is_address a) (pointwise nat_eq text (address a) || (pointwise nat_eq text (host_text a.host) && (a.port == 27017))) h in
    record { rule = p.0; spelled = by (or_cases (pointwise nat_eq text (address a)) (pointwise nat_eq text (host_text a.host) && (a.port == 27017)) p.1) }
  where
    by : (pointwise nat_eq text (address a) ≡ true) ⊎ (pointwise nat_eq text (host_text a.host) && (a.port == 27017) ≡ true) → (text ≡ address a) ⊎ ((text ≡ host_text a.host) × (a.port ≡ 27017))
    by (inl e) = inl (same_bytes text (address a) e)
    by (inr e) = let q = and_parts (pointwise nat_eq text (host_text a.host)) (a.port == 27017) e in inr (same_bytes text (host_text a.host) q.0, eqb-true a.port 27017 q.1)

pub parsed_some : (text : List ℕ) (a : ServerAddress) → IsAddressText text a → parsed text ≡ Some a
unfolding parsed
parsed_some text a h = ap (kept_if_spelled (lower text)) (read_as (lower text) a (address_of (lower text)) refl h) ∙ rw (to_spells (lower text) a h) refl

pub parsed_none : (text : List ℕ) → ((a : ServerAddress) → IsAddressText text a → BadAddress ≡ OutOfMemory) → parsed text ≡ None
unfolding parsed
parsed_none text none = by (address_of (lower text))
  where
    by : (o : Option ServerAddress) → kept_if_spelled (lower text) o ≡ None
    by None = refl
    by (Some a) = elim (cases_Bool (spells (lower text) a)) [
      | inl spelled ↦ absurd (let bad : BadAddress ≡ OutOfMemory = none a (from_spells (lower text) a spelled) in let no : true ≡ false = ap differ bad in cc)
      | inr other ↦ rw other refl
    ]

-- What is read is an address by the rule. With `parsed_some`: exactly the texts of addresses are read.
pub parsed_rule : (text : List ℕ) (a : ServerAddress) → parsed text ≡ Some a → IsAddressText text a
unfolding parsed
parsed_rule text a h = by (address_of (lower text)) h
  where
    by : (o : Option ServerAddress) → kept_if_spelled (lower text) o ≡ Some a → IsSpelledAddress (lower text) a
    by None e = absurd (cc)
    by (Some x) e = elim (cases_Bool (spells (lower text) x)) [
      | inl spelled ↦
          let is : Some x ≡ Some a = sym (rw spelled refl) ∙ e in
          subst (λ (b : ServerAddress). IsSpelledAddress (lower text) b) (same_Some x a is) (from_spells (lower text) x spelled)
      | inr other ↦ absurd (let none : None ≡ Some a = sym (rw other refl) ∙ e in cc)
    ]
