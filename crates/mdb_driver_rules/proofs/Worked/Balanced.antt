-- Worked examples of a load balancer, computed.
use Rattle.std.specs.Prelude.{◌≡◌, List, [], ◌∷◌, ◌++◌, Some, None, refl, pos, true, false, codes}
use Rattle.mdb_base.specs.declared.error.ErrorKind.TheVariants.{Network, Command}
use Rattle.mdb_describe.specs.Descriptions.{unknown, load_balancer}
use Rattle.mdb_describe.specs.Topology.{opened, stopped}
use Rattle.mdb_events.specs.declared.cmap.CmapEvent.TheVariants.{ConnectionCreated, ConnectionReady, ConnectionCheckoutStarted, ConnectionCheckedOut, ConnectionCheckedIn, ConnectionClosed, ConnectionCheckoutFailed, PoolCleared, PoolClosed}
use Rattle.mdb_events.specs.declared.sdam.SdamEvent.TheVariants.{ServerDescriptionChanged, ServerOpening, ServerClosed, TopologyDescriptionChanged, TopologyOpening, TopologyClosed}
use Rattle.mdb_events.specs.declared.fact.Fact.TheVariants.{Opened, Pool, Granted, Ended, Raised, Sdam}
use Rattle.mdb_events.specs.declared.reasons.ConnectionClosedReason.TheVariants.{Error as ErrorReason, PoolClosed as PoolClosedReason}
use Rattle.mdb_events.specs.declared.reasons.ConnectionCheckoutFailedReason.TheVariants.{ConnectionError}
use Rattle.mdb_events.specs.declared.end.End.TheVariants.{Failed as FailedEnd}
use Rattle.mdb_log.specs.declared.step.Step.{Step}
use Rattle.mdb_log.specs.declared.step.Act.TheVariants.{Open, Request, Established, Failed, Return, Stop, Error as ErrorAct}
use Rattle.mdb_log.specs.declared.step.FailedAt.TheVariants.{Post}
use Rattle.mdb_log.specs.declared.step.Use.TheVariants.{Ok}
use Rattle.mdb_log.specs.declared.reply.Reply.TheVariants.{Pooled, Establishing, Changed, Done}
use Rattle.mdb_driver_rules.specs.Description.{unopened, begins_with}
use Rattle.mdb_driver_rules.specs.Lines.{answer_after}
use Rattle.mdb_driver_rules.proofs.Worked.Scripts.{a, S, balanced, at_moment, final, error, how_of, created}

opens-all : answer_after [] (at_moment 0 (Open balanced)) ≡ record {
  reply = Done;
  facts =
      Sdam (TopologyOpening (record { topology_id = balanced.topology_id }))
      ∷ Sdam (TopologyDescriptionChanged (record { topology_id = balanced.topology_id; previous_description = unopened balanced; new_description = opened balanced }))
      ∷ Opened 0 a ∷ created a balanced 0
      ∷ Sdam (ServerOpening (record { address = a; topology_id = balanced.topology_id }))
      ∷ Sdam (ServerDescriptionChanged (record { address = a; topology_id = balanced.topology_id; previous_description = unknown a; new_description = load_balancer a }))
      ∷ Sdam (TopologyDescriptionChanged (record { topology_id = balanced.topology_id; previous_description = opened balanced; new_description = begins_with balanced }))
      ∷ [];
}
opens-all = refl

first-asks : final balanced [] 5 (Request 1 a) ≡ record { reply = Establishing 0 1; facts = Pool 0 (ConnectionCheckoutStarted (record { address = a })) ∷ Pool 0 (ConnectionCreated (record { address = a; connection_id = 1 })) ∷ Granted 1 0 1 ∷ [] }
first-asks = refl

-- a connection is established for the first caller, comes back, and goes to the second
abbrev used : List Step
used = at_moment 5 (Request 1 a) ∷ at_moment 7 (Established 0 1 (how_of S)) ∷ at_moment 9 (Return 1 Ok) ∷ at_moment 10 (Request 2 a) ∷ []

first-gets-it : final balanced (at_moment 5 (Request 1 a) ∷ []) 7 (Established 0 1 (how_of S)) ≡ record { reply = Done; facts = Pool 0 (ConnectionReady (record { address = a; connection_id = 1; duration = 2 })) ∷ Pool 0 (ConnectionCheckedOut (record { address = a; connection_id = 1; duration = 2 })) ∷ [] }
first-gets-it = refl

first-returns : final balanced (at_moment 5 (Request 1 a) ∷ at_moment 7 (Established 0 1 (how_of S)) ∷ []) 9 (Return 1 Ok) ≡ record { reply = Done; facts = Pool 0 (ConnectionCheckedIn (record { address = a; connection_id = 1 })) ∷ [] }
first-returns = refl

second-gets-it : final balanced (at_moment 5 (Request 1 a) ∷ at_moment 7 (Established 0 1 (how_of S)) ∷ at_moment 9 (Return 1 Ok) ∷ []) 10 (Request 2 a) ≡ record { reply = Pooled 0 1; facts = Pool 0 (ConnectionCheckoutStarted (record { address = a })) ∷ Granted 2 0 1 ∷ Pool 0 (ConnectionCheckedOut (record { address = a; connection_id = 1; duration = 0 })) ∷ [] }
second-gets-it = refl

-- the driver is stopped, and what is out comes back; a second stop does nothing
stops-all : final balanced used 11 Stop ≡ record {
  reply = Done;
  facts =
      Sdam (ServerClosed (record { address = a; topology_id = balanced.topology_id }))
      ∷ Pool 0 (PoolClosed (record { address = a }))
      ∷ Sdam (TopologyDescriptionChanged (record { topology_id = balanced.topology_id; previous_description = begins_with balanced; new_description = stopped (begins_with balanced) }))
      ∷ Sdam (TopologyClosed (record { topology_id = balanced.topology_id }))
      ∷ [];
}
stops-all = refl

returns-after-stop : final balanced (used ++ at_moment 11 Stop ∷ []) 12 (Return 2 Ok) ≡ record { reply = Done; facts = Pool 0 (ConnectionClosed (record { address = a; connection_id = 1; reason = PoolClosedReason; service_id = Some S })) ∷ [] }
returns-after-stop = refl

stops-once : final balanced (used ++ at_moment 11 Stop ∷ at_moment 12 (Return 2 Ok) ∷ []) 13 Stop ≡ record { reply = Done; facts = [] }
stops-once = refl

-- an error of the only connection clears its service, and once it is stale nothing more
abbrev held : List Step
held = at_moment 0 (Request 1 a) ∷ at_moment 1 (Established 0 1 (how_of S)) ∷ []

clears-its-service : final balanced held 2 (ErrorAct 1 (error (Command (pos 91)) (codes "n"))) ≡ record { reply = Changed true; facts = Raised 0 (Some S) (error (Command (pos 91)) (codes "n")) ∷ Pool 0 (PoolCleared (record { address = a; service_id = Some S; interrupt_in_use_connections = false })) ∷ [] }
clears-its-service = refl

clears-it-once : final balanced (held ++ at_moment 2 (ErrorAct 1 (error (Command (pos 91)) (codes "n"))) ∷ []) 3 (ErrorAct 1 (error (Command (pos 91)) (codes "n"))) ≡ record { reply = Changed false; facts = [] }
clears-it-once = refl

-- a connection that fails after the hello clears its service, and its close tells none
fails-after-hello : final balanced (at_moment 0 (Request 1 a) ∷ []) 2 (Failed 0 1 (Post (Some S)) (error Network (codes "x"))) ≡ record {
  reply = Done;
  facts =
      Raised 0 (Some S) (error Network (codes "x"))
      ∷ Pool 0 (PoolCleared (record { address = a; service_id = Some S; interrupt_in_use_connections = false }))
      ∷ Pool 0 (ConnectionClosed (record { address = a; connection_id = 1; reason = ErrorReason; service_id = None }))
      ∷ Ended 1 (FailedEnd (error Network (codes "x")))
      ∷ Pool 0 (ConnectionCheckoutFailed (record { address = a; reason = ConnectionError; duration = 2 }))
      ∷ [];
}
fails-after-hello = refl
