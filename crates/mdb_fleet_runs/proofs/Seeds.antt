-- The options of a driver of 1 to 50 members keep their rules.
use Rattle.std.proofs.Common.{◌≡◌, ℕ, zero, suc, ◌+◌, ◌-◌, ◌<◌, ◌≤◌, ◌^◌, true, false, inl, inr, map, length, drop, None, refl, ap, ◌∙◌, arith}
use Rattle.std.specs.Prelude.{nat_le, nat_lt}
use Rattle.std.specs.List.{list_any, range_with_len}
use Rattle.std.proofs.lemmas.Bool.{cases_Bool}
use Rattle.std.proofs.lemmas.Fmt.{decimal_injective}
use Rattle.std.proofs.lemmas.List.{length-map}
use Rattle.std.proofs.lemmas.List.FromFn.{length-range_with_len}
use Rattle.mdb_base.specs.declared.address.ServerAddress.{ServerAddress}
use Rattle.mdb_base.specs.Equality.{same_address}
use Rattle.mdb_base.specs.OptionRules.{all_different, broken_rule}
use Rattle.mdb_describe.proofs.Addresses.{same-address}
use Rattle.mdb_fleets.specs.MemberReplies.{address_of, addresses_of}
use Rattle.mdb_fleet_runs.specs.Trials.{fleet_options}

-- members with one address are one
pub same-member : (k j : ℕ) → k < 2 ^ 64 → j < 2 ^ 64 → address_of k ≡ address_of j → k ≡ j
same-member k j h l same = decimal_injective k j h l (ap (λ (a : ServerAddress). drop 1 a.host) same)

apart-from : (n a k : ℕ) → k < a → a + n < 2 ^ 64 → list_any (λ b. same_address b (address_of k)) (map address_of (range_with_len a n)) ≡ false
apart-from zero a k below few = refl
apart-from (suc n) a k below few = elim (cases_Bool (same_address (address_of a) (address_of k))) [
  | inl same ↦ let one = same-member a k (omega arith) (omega arith) (same-address (address_of a) (address_of k) same) in absurd (omega arith)
  | inr other ↦ rw other (apart-from n (a + 1) k (omega arith) (omega arith))
]

different : (n a : ℕ) → a + n < 2 ^ 64 → all_different (map address_of (range_with_len a n)) ≡ true
different zero a few = refl
different (suc n) a few = rw (apart-from n (a + 1) a (omega arith) (omega arith), different n (a + 1) (omega arith)) refl

count-is : (n : ℕ) → length (addresses_of n) ≡ n
count-is n = length-map (range_with_len 0 n) address_of ∙ length-range_with_len 0 n

pub fleet-fits : (n : ℕ) → 1 ≤ n → n ≤ 50 → broken_rule (fleet_options n) ≡ None
fleet-fits n some few =
    let least : nat_le 1 n ≡ true = grind arith in
    let most : nat_le n 128 ≡ true = grind arith in
    let pools : nat_lt 4294967295 (n - 1) ≡ false = grind arith in
    rw (count-is n, least, most, different n 0 (omega arith), pools) refl
