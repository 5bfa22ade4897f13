-- What events come to: a replica set, and the log of a driver that has all of its members for seeds.
use Rattle.std.specs.Prelude.{ℕ, nat_lt, List, [], ◌∷◌, ◌++◌, codes, length, slice_get, replicate, Option, Some, None, unwrap_or, if◌then◌else◌}
use Rattle.mdb_base.specs.declared.error.Error.{Error}
use Rattle.mdb_base.specs.declared.error.ErrorKind.TheVariants.{Network}
use Rattle.mdb_base.specs.declared.options.Options.{Options}
use Rattle.mdb_describe.specs.declared.topology.TopologyDescription.{TopologyDescription}
use Rattle.mdb_log.specs.declared.checked.HelloResult.{HelloResult}
use Rattle.mdb_log.specs.declared.checked.HelloResult.TheVariants as hello
use Rattle.mdb_log.specs.declared.log.Entry.{Entry}
use Rattle.mdb_log.specs.declared.step.Act.TheVariants.{Hello}
use Rattle.mdb_log.specs.declared.step.Step.{Step}
use Rattle.mdb_log.specs.History.{Item, history_of, open_pool}
use Rattle.mdb_driver_rules.specs.Description.{description_of}
use Rattle.mdb_driver_rules.specs.Lines.{entry_after, no_options}
use Rattle.mdb_topology.specs.Logging.{opening_step}
use Rattle.mdb_fleets.specs.declared.member.Sent.{Sent}
use Rattle.mdb_fleets.specs.MemberReplies.{address_of, addresses_of}
use Rattle.mdb_fleets.specs.Members.{is_primary}
use Rattle.mdb_fleets.specs.ReplicaSet.{ReplicaSet, new_set, member_at, elected, demoted, reconfigured_at, asked}
use Rattle.mdb_fleet_runs.specs.declared.answers.FleetAnswer.{FleetAnswer}
use Rattle.mdb_fleet_runs.specs.declared.answers.FleetAnswer.TheVariants as answer
use Rattle.mdb_fleet_runs.specs.declared.event.Event.{Event}
use Rattle.mdb_fleet_runs.specs.declared.event.FleetAct.{FleetAct}
use Rattle.mdb_fleet_runs.specs.declared.event.FleetAct.TheVariants as act

-- the options of the driver: all n members are its seeds, and it knows the name of the set
abbrev pub fleet_options : ℕ → Options
fleet_options n = record no_options { seeds = addresses_of n; set_name = Some (codes "rs"); topology_id = record { 0 = replicate 12 0 } }

-- the entry by which the driver was opened
abbrev pub opened : ℕ → Entry
opened n = entry_after 0 [] (opening_step (fleet_options n))

-- The replica set, and the driver's entries after its opening.
pub record Trial : Type 0 where
  pub set : ReplicaSet
  pub entries : List Entry

-- nothing happened yet
abbrev pub begun : ℕ → Trial
begun n = record { set = new_set n; entries = [] }

-- the driver's log, its history, and what it describes
abbrev pub log_in : ℕ → Trial → List Entry
log_in n t = opened n ∷ t.entries

abbrev pub history_in : ℕ → Trial → List Item
history_in n t = history_of (log_in n t)

abbrev pub description_in : ℕ → Trial → TopologyDescription
description_in n t = description_of (fleet_options n) (history_in n t)

-- the open pool of a member's address
abbrev pub pool_of : ℕ → Trial → ℕ → ℕ
pool_of n t k = unwrap_or (open_pool (history_in n t) (address_of k)) 0

-- a hello to a member, by the monitor of its open pool
abbrev pub hello_step : ℕ → Trial → ℕ → ℕ → HelloResult → Step
hello_step n t m k came = record { moment = m; act = Hello (address_of k) (pool_of n t k) came }

-- the error of a hello that is lost
abbrev pub lost : Error
lost = record { kind = Network; labels = []; topology_version = None; message = codes "lost" }

-- What an event comes to: the answer, and the trial after it.
pub record Outcome : Type 0 where
  pub answer : FleetAnswer
  pub trial : Trial

-- a refused event changes nothing
abbrev pub refuses : FleetAnswer → Trial → Outcome
refuses why t = record { answer = why; trial = t }

-- the replica set changes, and the driver sees nothing of it
abbrev pub with_set : FleetAnswer → Trial → ReplicaSet → Outcome
with_set told t s = record { answer = told; trial = record t { set = s } }

-- the driver's answer to a step
abbrev pub steps : ℕ → Trial → Step → Outcome
steps n t step = let e : Entry = entry_after 0 (log_in n t) step in record { answer = answer.Told e.reply; trial = record t { entries = t.entries ++ e ∷ [] } }

abbrev pub delivers : ℕ → Trial → ℕ → Option Sent → Outcome
delivers n t m None = refuses answer.NoReply t
delivers n t m (Some sent) = steps n t (hello_step n t m sent.member (hello.Ok 0 sent.response))

-- what only a member can do
abbrev pub by_member : Trial → ℕ → Outcome → Outcome
by_member t k outcome = if nat_lt k (length t.set.members) then outcome else refuses answer.NoMember t

-- what only a member can do that believes to be the primary
abbrev pub by_primary : Trial → ℕ → Outcome → Outcome
by_primary t k outcome = by_member t k (if is_primary (member_at t.set k) then outcome else refuses answer.NotPrimary t)

abbrev pub happens : ℕ → Trial → ℕ → FleetAct → Outcome
happens n t m (act.Elect k) = by_member t k (with_set answer.Done t (elected t.set k))
happens n t m (act.StepDown k) = by_primary t k (with_set answer.Done t (demoted t.set k))
happens n t m (act.Reconf k) = by_primary t k (with_set answer.Done t (reconfigured_at t.set k))
happens n t m (act.Ask k) = by_member t k (with_set (answer.Sent (length t.set.wire)) t (asked t.set k))
happens n t m (act.Deliver i) = delivers n t m (slice_get t.set.wire i)
happens n t m (act.Lose k) = by_member t k (steps n t (hello_step n t m k (hello.Err lost)))

abbrev pub outcome : ℕ → Trial → Event → Outcome
outcome n t e = happens n t e.moment e.act

-- the trial after some events
abbrev pub after : ℕ → Trial → List Event → Trial
after n t [] = t
after n t (e ∷ es) = after n (outcome n t e).trial es

abbrev pub trial_of : ℕ → List Event → Trial
trial_of n events = after n (begun n) events
