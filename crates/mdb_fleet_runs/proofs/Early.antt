-- The numbers of a replica set are below the number of the next line.
use Rattle.std.proofs.Common.{ℕ, suc, ◌+◌, ◌-◌, ◌<◌, ◌≤◌, inl, inr, List, [], ◌∷◌, length, get_or, max, Option, Some, None, arith, length-append}
use Rattle.std.specs.Prelude.{nat_lt, slice_get, if◌then◌else◌}
use Rattle.std.specs.List.{All, fold}
use Rattle.std.proofs.Math.ListN.{set}
use Rattle.std.proofs.lemmas.Bool.{cases_Bool, ltb-true}
use Rattle.std.proofs.lemmas.List.Elements.{All-set, All-get_or, All-replicate}
use Rattle.mdb_fleets.specs.declared.member.Member.{Member}
use Rattle.mdb_fleets.specs.declared.member.Sent.{Sent}
use Rattle.mdb_fleets.specs.Members.{new_member, is_primary, greatest_version, winner, stepped_down, reconfigured}
use Rattle.mdb_fleets.specs.ReplicaSet.{ReplicaSet, new_set, member_at, elected, demoted, reconfigured_at, asked, HasRoom}
use Rattle.mdb_fleet_runs.specs.declared.event.Event.{Event}
use Rattle.mdb_fleet_runs.specs.declared.event.FleetAct.{FleetAct}
use Rattle.mdb_fleet_runs.specs.declared.event.FleetAct.TheVariants as act
use Rattle.mdb_fleet_runs.specs.Harnesses.{IsEarly}
use Rattle.mdb_fleet_runs.specs.Trials.{Trial, Outcome, refuses, happens, outcome, by_member, by_primary, delivers}
use Rattle.mdb_fleet_runs.specs.declared.answers.FleetAnswer.TheVariants as answer

abbrev IsBelow : ℕ → Member → Type 0
IsBelow j m = (m.counter < j) × (m.set_version < j)

below-more : (j : ℕ) (members : List Member) → All (IsBelow j) members → All (IsBelow (j + 1)) members
below-more j members all = λ k d there. let its : IsBelow j (get_or members k d) = all k d there in (omega arith, omega arith)

later : (j : ℕ) (s : ReplicaSet) → IsEarly j s → IsEarly (j + 1) s
later j s e = record { members = below-more j s.members e.members; wire = omega (arith, e.wire) }

greatest-from : (j : ℕ) (members : List Member) (least : ℕ) → least < j → All (IsBelow j) members → fold (λ v m. max v m.set_version) least members < j
greatest-from j [] least small all = small
greatest-from j (m ∷ members) least small all =
    let first : IsBelow j m = all 0 m (omega arith) in
    greatest-from j members (max least m.set_version) (omega arith) (λ k d there. all (suc k) d (omega arith))

-- a member changes, which is there
changes : (j : ℕ) (s : ReplicaSet) (k : ℕ) (m : Member) (elections : ℕ) → IsEarly j s → IsBelow (j + 1) m → IsEarly (j + 1) (record s { members = set s.members k m; elections = elections })
changes j s k m elections e below = record { members = All-set (IsBelow (j + 1)) s.members k m below (below-more j s.members e.members); wire = omega (arith, e.wire) }

module _ (j : ℕ) (s : ReplicaSet) (e : IsEarly j s) (k : ℕ) (there : k < length s.members) where
  its : IsBelow j (member_at s k)
  its = All-get_or (IsBelow j) s.members k new_member there e.members

  elected-early : IsEarly (j + 1) (elected s k)
  elected-early =
      let most : greatest_version s.members < j = greatest-from j s.members 0 (omega (arith, its.0)) e.members in
      changes j s k (winner (s.elections + 1) (greatest_version s.members) (member_at s k)) (s.elections + 1) e (omega (arith, its.0), omega arith)

  demoted-early : IsEarly (j + 1) (demoted s k)
  demoted-early = elim (cases_Bool (is_primary (member_at s k))) [
    | inl primary ↦ rw primary (changes j s k (stepped_down (member_at s k)) s.elections e (omega (arith, its.0), omega (arith, its.1)))
    | inr other ↦ rw other (later j s e)
  ]

  reconfigured-early : IsEarly (j + 1) (reconfigured_at s k)
  reconfigured-early = elim (cases_Bool (is_primary (member_at s k))) [
    | inl primary ↦ rw primary (changes j s k (reconfigured (member_at s k)) s.elections e (omega (arith, its.0), omega (arith, its.1)))
    | inr other ↦ rw other (later j s e)
  ]

  asked-early : IsEarly (j + 1) (asked s k)
  asked-early = record { members = below-more j s.members e.members; wire = omega (arith, e.wire, length-append {A = Sent}) }

-- what only a member can do
by-member : (j : ℕ) (t : Trial) (k : ℕ) (o : Outcome) → IsEarly j t.set → (k < length t.set.members → IsEarly (j + 1) o.trial.set) → IsEarly (j + 1) (by_member t k o).trial.set
by-member j t k o e f = elim (cases_Bool (nat_lt k (length t.set.members))) [
  | inl there ↦ rw there (f (ltb-true k (length t.set.members) there))
  | inr none ↦ rw none (later j t.set e)
]

by-primary : (j : ℕ) (t : Trial) (k : ℕ) (o : Outcome) → IsEarly j t.set → (k < length t.set.members → IsEarly (j + 1) o.trial.set) → IsEarly (j + 1) (by_primary t k o).trial.set
by-primary j t k o e f = by-member j t k (if is_primary (member_at t.set k) then o else refuses answer.NotPrimary t) e (λ there. elim (cases_Bool (is_primary (member_at t.set k))) [
  | inl primary ↦ rw primary (f there)
  | inr other ↦ rw other (later j t.set e)
])

-- one line later the numbers are below the next
pub early-more : (n j : ℕ) (t : Trial) (e : Event) → IsEarly j t.set → IsEarly (j + 1) (outcome n t e).trial.set
early-more n j t e early = on e.act
  where
    sent : (o : Option Sent) → IsEarly (j + 1) (delivers n t e.moment o).trial.set
    sent None = later j t.set early
    sent (Some x) = later j t.set early

    on : (a : FleetAct) → IsEarly (j + 1) (happens n t e.moment a).trial.set
    on (act.Elect k) = by-member j t k _ early (λ there. elected-early j t.set early k there)
    on (act.StepDown k) = by-primary j t k _ early (λ there. demoted-early j t.set early k there)
    on (act.Reconf k) = by-primary j t k _ early (λ there. reconfigured-early j t.set early k there)
    on (act.Ask k) = by-member j t k _ early (λ there. asked-early j t.set early k there)
    on (act.Deliver i) = sent (slice_get t.set.wire i)
    on (act.Lose k) = by-member j t k _ early (λ there. later j t.set early)

-- so each of its members can change
pub early-room : (j : ℕ) (s : ReplicaSet) → j ≤ 131074 → IsEarly j s → HasRoom s
early-room j s few e = λ k d there. let its : IsBelow j (get_or s.members k d) = e.members k d there in (omega arith, omega arith)

-- a new set is early at the second line
pub new-early : (n : ℕ) → IsEarly 2 (new_set n)
new-early n = record { members = All-replicate (IsBelow 2) n new_member (omega arith, omega arith); wire = omega arith }
