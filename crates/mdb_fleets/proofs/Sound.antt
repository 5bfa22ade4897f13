-- Members stay sound when one of them changes.
use Rattle.std.proofs.Common.{◌≡◌, ℕ, suc, ◌+◌, ◌-◌, ◌*◌, ◌^◌, ◌<◌, ◌≤◌, List, [], ◌∷◌, length, get_or, max, true, false, refl, sym, ap, ◌∙◌, arith, subst}
use Rattle.std.specs.List.{All, fold, sum_by}
use Rattle.std.proofs.Math.ListN.{set}
use Rattle.std.proofs.lemmas.List.{length-set}
use Rattle.std.proofs.lemmas.List.Sums.{sum_by-set, sum_by-le}
use Rattle.std.proofs.lemmas.List.Elements.{All-set, All-get_or}
use Rattle.std.proofs.Math.Nat.{mul-le-mul_right}
use Rattle.mdb_fleets.specs.declared.member.Member.{Member}
use Rattle.mdb_fleets.specs.declared.member.Sent.{Sent}
use Rattle.mdb_fleets.specs.Members.{new_member, is_primary, greatest_version, CanChange, AreSound}
use Rattle.mdb_fleets.specs.ReplicaSet.{ReplicaSet, member_at, changed_primary}

-- numbers below 2^31
abbrev pub IsSmall : Member → Type 0
IsSmall m = (m.counter < 2 ^ 31) × (m.set_version < 2 ^ 31)

counters : (members : List Member) → All IsSmall members → All (λ m. m.counter ≤ 2 ^ 31) members
counters members small = λ k d there. let its : IsSmall (get_or members k d) = small k d there in omega arith

-- one election more can be counted
pub elections-fit : (members : List Member) (elections : ℕ) → AreSound members elections → elections < 50 * 2 ^ 31 + 1
elections-fit members elections sound =
    let most = sum_by-le (λ m. m.counter) (2 ^ 31) members (counters members sound.small) in
    let many : length members * 2 ^ 31 ≤ 50 * 2 ^ 31 = mul-le-mul_right (2 ^ 31) sound.few in
    omega (arith, most, many, sound.counted)

greatest-from : (members : List Member) (least : ℕ) → least < 2 ^ 31 → All CanChange members → fold (λ v m. max v m.set_version) least members < 2 ^ 31
greatest-from [] least small can = small
greatest-from (m ∷ members) least small can =
    let first : CanChange m = can 0 m (omega arith) in
    greatest-from members (max least m.set_version) (omega arith) (λ k d there. can (suc k) d (omega arith))

-- the greatest set version is below 2^31
pub greatest-small : (members : List Member) → All CanChange members → greatest_version members < 2 ^ 31
greatest-small members can = greatest-from members 0 (omega arith) can

-- a member took the place of one with one change less
pub changed-sound : (members : List Member) (elections held k : ℕ) (m : Member) → k < length members → AreSound members elections → held ≤ elections + 1
    → All CanChange members → m.counter ≡ (get_or members k new_member).counter + 1 → m.set_version < 2 ^ 31 → AreSound (set members k m) held
changed-sound members elections held k m there sound more can counted small =
    let its = All-get_or CanChange members k new_member there can in
    let size = length-set members k m in
    let total = sum_by-set (λ x. x.counter) members k m new_member there in
    record {
      some = omega (arith, size, sound.some);
      few = omega (arith, size, sound.few);
      small = All-set IsSmall members k m (omega (arith, its.0, counted), small) sound.small;
      counted = omega (arith, total, counted, sound.counted, more);
    }

-- a primary changes
pub changes : (change : Member → Member) (members : List Member) (elections : ℕ) (wire : List Sent) (k : ℕ) → is_primary (get_or members k new_member) ≡ true
    → record { members = set members k (change (get_or members k new_member)); elections = elections; wire = wire } ≡ changed_primary change (record { members = members; elections = elections; wire = wire }) k
changes change members elections wire k so = rw so refl

-- a secondary stays as it is
pub stays : (change : Member → Member) (members : List Member) (elections : ℕ) (wire : List Sent) (k : ℕ) → is_primary (get_or members k new_member) ≡ false
    → record { members = members; elections = elections; wire = wire } ≡ changed_primary change (record { members = members; elections = elections; wire = wire }) k
stays change members elections wire k so = rw so refl
