-- Members as numbers: what is known of one of them, and what a change of one makes of all.
use Rattle.std.proofs.Common.{◌≡◌, ◌<◌, ◌≤◌, ◌-◌, ◌^◌, ℕ, zero, suc, List, [], ◌∷◌, replicate, length, map, get_or, max, Bool, true, false, ◌&&◌, nat_le, nat_lt, refl, sym, ap, ◌∙◌, subst, arith}
use Rattle.std.specs.List.{list_all, fold}
use Rattle.std.proofs.Math.ListN.{set}
use Rattle.std.proofs.lemmas.Bool.{and_left, and_parts, and_right, le-leb, leb-true, ltb-true}
use Rattle.std.proofs.lemmas.List.{get_or-map, map-set}
use Rattle.std.proofs.lemmas.List.Folds.{list_all_at, fold-map}
use Rattle.mdb_fleets.specs.declared.member.Member.{Member}
use Rattle.mdb_fleets.specs.Members.{greatest_version, new_member}
use Rattle.mdb_fleet_session.specs.declared.member_numbers.MemberNumbers.{MemberNumbers}
use Rattle.mdb_fleets.specs.ReplicaSet.{ReplicaSet, new_set}
use Rattle.mdb_fleet_session.specs.Fleets.{are_members, can_change, member_of, set_of}

not_false : (b : Bool) → (b ≡ false → ⊥) → b ≡ true
not_false true never = refl
not_false false never = absurd (never refl)

-- each of some members can change once more
pub changes : (members : List MemberNumbers) (k : ℕ) (x : MemberNumbers) → are_members members ≡ true → k < length members → can_change (get_or members k x) ≡ true
changes members k x are there =
    let p = and_parts (nat_le 1 (length members) && nat_le (length members) 50) (list_all can_change members) are in
    not_false (can_change (get_or members k x)) (λ no. cc (p.1, list_all_at can_change members k x there no))

small : (x : MemberNumbers) → can_change x ≡ true → (x.counter < 2 ^ 31 - 1) × (x.set_version < 2 ^ 31 - 1)
small x can =
    let p = and_parts (nat_lt x.counter (2 ^ 31 - 1)) (nat_lt x.set_version (2 ^ 31 - 1)) can in
    (ltb-true x.counter (2 ^ 31 - 1) p.0, ltb-true x.set_version (2 ^ 31 - 1) p.1)

-- the member at a place has numbers below 2^31 - 1
pub counter_small : (members : List MemberNumbers) (k : ℕ) (x : MemberNumbers) → are_members members ≡ true → k < length members → x ≡ get_or members k x → x.counter < 2 ^ 31 - 1
counter_small members k x are there at = (small x (ap can_change at ∙ changes members k x are there)).0

pub version_small : (members : List MemberNumbers) (k : ℕ) (x : MemberNumbers) → are_members members ≡ true → k < length members → x ≡ get_or members k x → x.set_version < 2 ^ 31 - 1
version_small members k x are there at = (small x (ap can_change at ∙ changes members k x are there)).1

-- it is the member at this place
pub member_there : (members : List MemberNumbers) (k : ℕ) (x : MemberNumbers) → k < length members → x ≡ get_or members k x → member_of x ≡ get_or (map member_of members) k new_member
member_there members k x there at = sym (get_or-map member_of members k x new_member there ∙ ap member_of (sym at))

-- the member at the place is another one now
pub put_there : (members : List MemberNumbers) (k : ℕ) (x : MemberNumbers) (m : Member) → member_of x ≡ m → map member_of (set members k x) ≡ set (map member_of members) k m
put_there members k x m is = map-set member_of members k x ∙ ap (λ y. set (map member_of members) k y) is

-- the greatest set version by the numbers
pub greatest : (members : List MemberNumbers) → fold (λ v m. max v m.set_version) 0 members ≡ greatest_version (map member_of members)
greatest members = sym (fold-map (λ v m. max v m.set_version) member_of 0 members)

-- so many members at the start
replicated : (n : ℕ) (x : MemberNumbers) → map member_of (replicate n x) ≡ replicate n (member_of x)
replicated zero x = refl
replicated (suc n) x = ap (λ ms. member_of x ∷ ms) (replicated n x)

abbrev with_members : List Member → ReplicaSet
with_members members = record { members = members; elections = 0; wire = [] }

pub begun : (n : ℕ) (x : MemberNumbers) (members : List MemberNumbers) → members ≡ replicate n x → member_of x ≡ new_member → set_of members 0 ≡ new_set n
begun n x members is new = ap with_members (ap (map member_of) is ∙ replicated n x ∙ ap (replicate n) new)

-- between 1 and 50 members are members where each can change once more
pub counted : (members : List MemberNumbers) → 1 ≤ length members → length members ≤ 50 → list_all can_change members ≡ are_members members
counted members some few =
    let first : nat_le 1 (length members) ≡ true = le-leb 1 (length members) some in
    let second : nat_le (length members) 50 ≡ true = le-leb (length members) 50 few in
    rw first rw second refl

is_false : (b : Bool) → (b ≡ true → ⊥) → b ≡ false
is_false false never = refl
is_false true never = absurd (never refl)

-- no others are
pub none : (members : List MemberNumbers) → length members ≡ 0 → are_members members ≡ false
none members is =
    let few = nat_le (length members) 50 in
    let first : nat_le 1 (length members) ≡ false = is_false (nat_le 1 (length members)) (λ yes. let least : 1 ≤ length members = leb-true 1 (length members) yes in omega (arith, least, is)) in
    and_left (nat_le 1 (length members) && few) (list_all can_change members) (and_left (nat_le 1 (length members)) few first)

pub many : (members : List MemberNumbers) → 50 < length members → are_members members ≡ false
many members is =
    let some = nat_le 1 (length members) in
    let second : nat_le (length members) 50 ≡ false = is_false (nat_le (length members) 50) (λ yes. let most : length members ≤ 50 = leb-true (length members) 50 yes in omega (arith, most, is)) in
    and_left (some && nat_le (length members) 50) (list_all can_change members) (and_right some (nat_le (length members) 50) second)
