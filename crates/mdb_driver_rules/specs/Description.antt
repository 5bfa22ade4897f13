-- What a history tells of the topology: each accepted step applies one rule of the description, or none.
use Rattle.std.specs.Prelude.{ℕ, ◌+◌, Bool, true, false, ◌||◌, if◌then◌else◌, is_some, List, [], ◌∷◌, Option, Some, None}
use Rattle.mdb_base.specs.declared.address.ServerAddress.{ServerAddress}
use Rattle.mdb_base.specs.declared.times.ClusterTime.{ClusterTime as Time}
use Rattle.mdb_base.specs.declared.options.Options.{Options}
use Rattle.mdb_srv.specs.declared.topology_type.TopologyType.{TopologyType}
use Rattle.mdb_srv.specs.declared.topology_type.TopologyType.TheVariants as Kind
use Rattle.mdb_describe.specs.declared.description.ServerDescription.{ServerDescription}
use Rattle.mdb_describe.specs.declared.topology.TopologyDescription.{TopologyDescription}
use Rattle.mdb_describe.specs.declared.diff.Diff.{Diff}
use Rattle.mdb_describe.specs.Descriptions.{load_balancer, failed, from_reply}
use Rattle.mdb_describe.specs.Differences.{difference}
use Rattle.mdb_describe.specs.Topology.{opened, stopped, synced, later_time}
use Rattle.mdb_describe.specs.Update.{updated}
use Rattle.mdb_log.specs.declared.step.Step.{Step}
use Rattle.mdb_log.specs.declared.step.Act.{Act}
use Rattle.mdb_log.specs.declared.step.Act.TheVariants as Do
use Rattle.mdb_log.specs.declared.checked.HelloResult.TheVariants as Hello
use Rattle.mdb_log.specs.declared.checked.BeatenResult.TheVariants as Beaten
use Rattle.mdb_log.specs.History.{Item, did, made}
use Rattle.mdb_log.specs.Connections.{one_if}
use Rattle.mdb_driver_rules.specs.Homes.{begun, is_here}
use Rattle.mdb_driver_rules.specs.Monitors.{hello_reply, average}
use Rattle.mdb_driver_rules.specs.Errors.{Trouble, marks, trouble_of}

-- The rules of the description.
pub data Rule : Type 0 where
  -- the driver is opened
  opens : Options → Rule
  -- a server has a new description
  updates : ServerDescription → Rule
  -- these are the servers
  syncs : List ServerAddress → Rule
  -- a reply told this time
  tells_time : Time → Rule
  -- the driver is stopped
  stops : Rule

-- The rule of an act at the moment m; k is the history with the act, and t what was known before it.

abbrev pub replied_rule : List Item → ServerAddress → ℕ → ServerDescription → Option Rule
replied_rule k a p s = if is_here k a p then Some (updates s) else None

abbrev pub marking_rule : Options → Option Trouble → Option Rule
marking_rule o None = None
marking_rule o (Some x) = if marks o.load_balanced x.row then Some (updates (failed x.address x.error)) else None

abbrev pub syncing_rule : TopologyType → List ServerAddress → Option Rule
syncing_rule Kind.Sharded hosts = Some (syncs hosts)
syncing_rule Kind.Unknown hosts = Some (syncs hosts)
syncing_rule _ hosts = None

abbrev pub rule_of : Options → List Item → TopologyDescription → ℕ → Act → Option Rule
rule_of o k t m (Do.Open q) = Some (opens q)
rule_of o k t m (Do.Hello a p (Hello.Ok rtt r)) = replied_rule k a p (from_reply a (hello_reply a r) rtt m)
rule_of o k t m (Do.Beaten a p duration (Beaten.Ok r more)) = replied_rule k a p (from_reply a (hello_reply a r) (average o k p) m)
rule_of o k t m (Do.Hosts hosts) = syncing_rule t.topology_type hosts
rule_of o k t m (Do.ClusterTime time) = Some (tells_time time)
rule_of o k t m Do.Stop = Some stops
rule_of o k t m act = marking_rule o (trouble_of o k t act)

-- The opening: what is known of the seeds, and a load balancer is one from the start.
abbrev pub with_balancers : List ServerAddress → TopologyDescription → TopologyDescription
with_balancers [] t = t
with_balancers (a ∷ more) t = with_balancers more (updated t (load_balancer a))

abbrev pub begins_with : Options → TopologyDescription
begins_with q = if q.load_balanced then with_balancers q.seeds (opened q) else opened q

-- before the opening there is no server
abbrev pub unopened : Options → TopologyDescription
unopened o = stopped (opened o)

abbrev pub applied : Option Rule → TopologyDescription → TopologyDescription
applied None t = t
applied (Some (opens q)) t = begins_with q
applied (Some (updates s)) t = updated t s
applied (Some (syncs hosts)) t = synced hosts t
applied (Some (tells_time time)) t = record t { cluster_time = later_time t.cluster_time time }
applied (Some stops) t = stopped t

abbrev pub is_stop : Act → Bool
is_stop Do.Stop = true
is_stop _ = false

-- the driver was stopped
abbrev pub is_stopped : List Item → Bool
is_stopped [] = false
is_stopped (did step reply ∷ h) = is_stop step.act || is_stopped h
is_stopped (made m fact ∷ h) = is_stopped h

-- the rule that a step applies after a history of which t is known, and none once the driver was stopped
abbrev pub step_rule : Options → List Item → TopologyDescription → Step → Option Rule
step_rule o h t step = if is_stopped h then None else rule_of o (begun h step) t step.moment step.act

-- What is known of the topology.
abbrev pub description_of : Options → List Item → TopologyDescription
description_of o [] = unopened o
description_of o (did step reply ∷ h) = let t : TopologyDescription = description_of o h in applied (step_rule o h t step) t
description_of o (made m fact ∷ h) = description_of o h

-- what is known after a rule, and nothing new where there is none
abbrev pub known_after : Option Rule → TopologyDescription → Option TopologyDescription
known_after None t = None
known_after (Some rule) t = Some (applied (Some rule) t)

-- the rule that an accepted step applies after a history
abbrev pub rule_after : Options → List Item → Step → Option Rule
rule_after o h step = step_rule o h (description_of o h) step

-- How often it was published: by each step that applied a rule.
abbrev pub published : Options → List Item → ℕ
published o [] = 0
published o (did step reply ∷ h) = published o h + one_if (is_some (rule_after o h step))
published o (made m fact ∷ h) = published o h

-- What a rule changes: the servers that differ, those that go and those that come.
abbrev pub change_by : Option Rule → TopologyDescription → Option Diff
change_by None t = None
change_by (Some rule) t = difference t.servers (applied (Some rule) t).servers

-- an accepted step changes some server
abbrev pub changed : Options → List Item → Step → Bool
changed o h step = is_some (change_by (rule_after o h step) (description_of o h))
