-- What the events of a run come to for failover: who won which election, and the pairs of the replies that the driver applied.
use Rattle.std.specs.Prelude.{◌≡◌, ◌≤◌, ◌<◌, ◌^◌, ℕ, pos, int_lt, nat_lt, Bool, true, not, ◌&&◌, List, [], ◌∷◌, ◌++◌, length, slice_get, Option, Some, None, option_and_then, if◌then◌else◌}
use Rattle.mdb_base.specs.declared.topology_version.TopologyVersion.{TopologyVersion}
use Rattle.mdb_describe.specs.declared.topology.TopologyDescription.{TopologyDescription}
use Rattle.mdb_describe.specs.declared.description.ServerDescription.{ServerDescription}
use Rattle.mdb_describe.specs.Fields.{topology_version, election_id}
use Rattle.mdb_describe.specs.Servers.{is_primary_type}
use Rattle.mdb_describe.specs.Topology.{server_at}
use Rattle.mdb_log.specs.PlainLegal.{is_refused}
use Rattle.mdb_log.specs.declared.checked.HelloResult.TheVariants as hello
use Rattle.mdb_log.specs.declared.step.Step.{Step}
use Rattle.mdb_driver_rules.specs.Lines.{entry_after}
use Rattle.mdb_fleets.specs.declared.member.Member.{Member}
use Rattle.mdb_fleets.specs.declared.member.Sent.{Sent}
use Rattle.mdb_fleets.specs.MemberReplies.{address_of, election_id as id_of}
use Rattle.mdb_failover.specs.Elections.{Pair}
use Rattle.mdb_failover.specs.Followed.{pair_of, Follows}
use Rattle.mdb_fleet_runs.specs.declared.event.Event.{Event}
use Rattle.mdb_fleet_runs.specs.declared.event.FleetAct.{FleetAct}
use Rattle.mdb_fleet_runs.specs.declared.event.FleetAct.TheVariants as act
use Rattle.mdb_fleet_runs.specs.Trials.{Trial, log_in, description_in, hello_step, outcome, begun, trial_of}

-- the winner of an election that an event holds
abbrev pub won_by : Trial → FleetAct → List ℕ
won_by t (act.Elect k) = if nat_lt k (length t.set.members) then (k ∷ []) else []
won_by t _ = []

abbrev pub winners_from : ℕ → Trial → List Event → List ℕ
winners_from n t [] = []
winners_from n t (e ∷ es) = won_by t e.act ++ winners_from n (outcome n t e).trial es

-- the winners of the elections of a run, in order
abbrev pub winners : ℕ → List Event → List ℕ
winners n events = winners_from n (begun n) events

-- the driver does not refuse the step
abbrev pub accepts : ℕ → Trial → Step → Bool
accepts n t step = not (is_refused (entry_after 0 (log_in n t) step).reply)

-- there is no topology version, or its counter isn't above the one that the member named
abbrev pub is_not_above : Option TopologyVersion → Member → Bool
is_not_above None said = true
is_not_above (Some v) said = not (int_lt (pos said.counter) v.counter)

-- the topology version that is known of a member
abbrev pub version_of : TopologyDescription → ℕ → Option TopologyVersion
version_of d k = option_and_then topology_version (server_at (address_of k) d.servers)

-- a delivered reply is applied: the driver takes it, and knows no newer one
abbrev pub is_applied : ℕ → Trial → ℕ → Sent → Bool
is_applied n t m sent = accepts n t (hello_step n t m sent.member (hello.Ok 0 sent.response)) && is_not_above (version_of (description_in n t) sent.member) sent.said

-- the pair of a reply that is applied, where it is a primary's
abbrev pub applied_reply : ℕ → Trial → ℕ → Option Sent → List Pair
applied_reply n t m None = []
applied_reply n t m (Some sent) = if is_applied n t m sent then pair_of sent.said sent.said.election else []

abbrev pub applied_by : ℕ → Trial → ℕ → FleetAct → List Pair
applied_by n t m (act.Deliver i) = applied_reply n t m (slice_get t.set.wire i)
applied_by n t m _ = []

abbrev pub pairs_from : ℕ → Trial → List Event → List Pair
pairs_from n t [] = []
pairs_from n t (e ∷ es) = applied_by n t e.moment e.act ++ pairs_from n (outcome n t e).trial es

-- the pairs of a run's applied replies of primaries, in order
abbrev pub pairs : ℕ → List Event → List Pair
pairs n events = pairs_from n (begun n) events

-- what the driver describes after a run
abbrev pub described : ℕ → List Event → TopologyDescription
described n events = description_in n (trial_of n events)

-- After a run the description follows the replies that were applied.
abbrev pub FailsOver : ℕ → List Event → Type 0
FailsOver n events = Follows n (winners n events) (pairs n events) (described n events)

-- none of the pairs is of an election after this one
abbrev pub NoneAfter : ℕ → List Pair → Type 0
NoneAfter election [] = Unit {0}
NoneAfter election (p ∷ ps) = (p.election ≤ election) × NoneAfter election ps

-- a described primary names an election after which none was applied
abbrev pub IsLatest : List Pair → ServerDescription → Type 0
IsLatest applied s = is_primary_type s.server_type ≡ true → (e : ℕ) → e < 2 ^ 64 → election_id s ≡ Some (id_of e) → NoneAfter e applied
