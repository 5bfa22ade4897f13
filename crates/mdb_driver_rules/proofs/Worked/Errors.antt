-- Worked examples of errors at a server alone, computed.
use Rattle.std.specs.Prelude.{ℕ, ◌≡◌, List, [], ◌∷◌, ◌++◌, None, refl, pos, true, false, codes}
use Rattle.mdb_base.specs.declared.error.Error.{Error}
use Rattle.mdb_base.specs.declared.error.ErrorKind.TheVariants.{Network, Auth, Command, Other}
use Rattle.mdb_base.specs.declared.options.Options.{Options}
use Rattle.mdb_describe.specs.declared.description.ServerDescription.{ServerDescription}
use Rattle.mdb_describe.specs.declared.topology.TopologyDescription.{TopologyDescription}
use Rattle.mdb_describe.specs.Descriptions.{unknown, failed, from_reply}
use Rattle.mdb_describe.specs.Topology.{opened}
use Rattle.mdb_describe.specs.Update.{updated}
use Rattle.mdb_events.specs.declared.cmap.CmapEvent.TheVariants.{PoolReady, PoolCleared, ConnectionClosed, ConnectionCheckoutFailed, ConnectionCheckedIn}
use Rattle.mdb_events.specs.declared.reasons.ConnectionClosedReason.TheVariants.{Stale, Error as ErrorReason}
use Rattle.mdb_events.specs.declared.reasons.ConnectionCheckoutFailedReason.TheVariants.{ConnectionError}
use Rattle.mdb_events.specs.declared.sdam.SdamEvent.TheVariants.{ServerDescriptionChanged, TopologyDescriptionChanged}
use Rattle.mdb_events.specs.declared.fact.Fact.{Fact}
use Rattle.mdb_events.specs.declared.fact.Fact.TheVariants.{Pool, Ended, Raised, Sdam, CheckNow, Cancel}
use Rattle.mdb_events.specs.declared.end.End.TheVariants.{Failed as FailedEnd}
use Rattle.mdb_log.specs.declared.checked.HelloResult.TheVariants.{Ok, Err}
use Rattle.mdb_log.specs.declared.step.Step.{Step}
use Rattle.mdb_log.specs.declared.step.Act.TheVariants.{Request, Established, Failed, Return, Hello, Error as ErrorAct}
use Rattle.mdb_log.specs.declared.step.FailedAt.TheVariants.{Pre}
use Rattle.mdb_log.specs.declared.step.Use.TheVariants as Used
use Rattle.mdb_log.specs.declared.reply.Reply.TheVariants.{Changed, Done}
use Rattle.mdb_driver_rules.specs.Monitors.{hello_reply}
use Rattle.mdb_driver_rules.proofs.Worked.Scripts.{a, plain, at_moment, final, speaks, error, how}

abbrev one : Options
one = plain (a ∷ [])

abbrev single : ServerDescription
single = from_reply a (hello_reply a (speaks 21)) 5 1

abbrev alone : TopologyDescription
alone = updated (opened one) single

-- what is told of a server that changed
abbrev told : ServerDescription → ServerDescription → TopologyDescription → List Fact
told old new t =
    Sdam (ServerDescriptionChanged (record { address = a; topology_id = one.topology_id; previous_description = old; new_description = new }))
    ∷ Sdam (TopologyDescriptionChanged (record { topology_id = one.topology_id; previous_description = t; new_description = updated t new }))
    ∷ []

abbrev hello : ℕ → Step
hello m = at_moment m (Hello a 0 (Ok 5 (speaks 21)))

abbrev cleared : Error → List Fact
cleared e = Raised 0 None e ∷ Pool 0 (PoolCleared (record { address = a; service_id = None; interrupt_in_use_connections = false })) ∷ []

-- the server is alone, and the caller holds a connection that speaks the wire version 21
abbrev held : List Step
held = hello 1 ∷ at_moment 2 (Request 1 a) ∷ at_moment 3 (Established 0 1 (how 21)) ∷ []

abbrev lost : List Step
lost = held ++ at_moment 4 (Hello a 0 (Err (error Network (codes "x")))) ∷ hello 5 ∷ []

reply-readies : final one [] 1 (Hello a 0 (Ok 5 (speaks 21))) ≡ record { reply = Changed true; facts = Pool 0 (PoolReady (record { address = a })) ∷ told (unknown a) single (opened one) }
reply-readies = refl

failure-clears : final one held 4 (Hello a 0 (Err (error Network (codes "x")))) ≡ record { reply = Changed true; facts = told single (failed a (error Network (codes "x"))) alone ++ cleared (error Network (codes "x")) }
failure-clears = refl

reply-readies-again : (final one (held ++ at_moment 4 (Hello a 0 (Err (error Network (codes "x")))) ∷ []) 5 (Hello a 0 (Ok 5 (speaks 21)))).reply ≡ Changed true
reply-readies-again = refl

stale-one-returns : final one lost 7 (Return 1 Used.Ok) ≡ record { reply = Done; facts = Pool 0 (ConnectionCheckedIn (record { address = a; connection_id = 1 })) ∷ Pool 0 (ConnectionClosed (record { address = a; connection_id = 1; reason = Stale; service_id = None })) ∷ [] }
stale-one-returns = refl

-- an error of a stale connection changes nothing
stale-one-errs : final one lost 6 (ErrorAct 1 (error Network (codes "late"))) ≡ record { reply = Changed false; facts = [] }
stale-one-errs = refl

-- the server says that it is no primary: it is checked now, and the pool is cleared where it shuts down or speaks an old wire version
abbrev marked : Error → List Fact
marked e = told single (failed a e) alone

no-longer-primary : final one held 4 (ErrorAct 1 (error (Command (pos 10107)) (codes "n"))) ≡ record { reply = Changed true; facts = marked (error (Command (pos 10107)) (codes "n")) ++ CheckNow a ∷ [] }
no-longer-primary = refl

shuts-down : final one held 4 (ErrorAct 1 (error (Command (pos 91)) (codes "n"))) ≡ record { reply = Changed true; facts = marked (error (Command (pos 91)) (codes "n")) ++ cleared (error (Command (pos 91)) (codes "n")) ++ CheckNow a ∷ [] }
shuts-down = refl

older-server : final one (hello 1 ∷ at_moment 2 (Request 1 a) ∷ at_moment 3 (Established 0 1 (how 7)) ∷ []) 4 (ErrorAct 1 (error (Command (pos 10107)) (codes "n"))) ≡ record { reply = Changed true; facts = marked (error (Command (pos 10107)) (codes "n")) ++ cleared (error (Command (pos 10107)) (codes "n")) ++ CheckNow a ∷ [] }
older-server = refl

-- also where nothing changed
checked-in-any-case : final one (held ++ at_moment 4 (ErrorAct 1 (error (Command (pos 10107)) (codes "n"))) ∷ []) 5 (ErrorAct 1 (error (Command (pos 10107)) (codes "n"))) ≡ record { reply = Changed false; facts = CheckNow a ∷ [] }
checked-in-any-case = refl

-- an overloaded server, and any other error, change nothing
overloaded : final one held 4 (ErrorAct 1 (record (error Network (codes "o")) { labels = codes "SystemOverloadedError" ∷ [] })) ≡ record { reply = Changed false; facts = [] }
overloaded = refl

any-other : final one held 5 (ErrorAct 1 (error Other (codes "o"))) ≡ record { reply = Changed false; facts = [] }
any-other = refl

-- a lost connection clears, and then the check that runs is cancelled
cancels : final one held 4 (ErrorAct 1 (error Network (codes "x"))) ≡ record { reply = Changed true; facts = marked (error Network (codes "x")) ++ cleared (error Network (codes "x")) ++ Cancel a ∷ [] }
cancels = refl

-- a connection that fails: the server is marked, its pool cleared, and then the connection is closed; an authentication cancels no check
fails : final one (hello 1 ∷ at_moment 2 (Request 1 a) ∷ []) 4 (Failed 0 1 Pre (error Auth (codes "x"))) ≡ record {
  reply = Done;
  facts =
      marked (error Auth (codes "x"))
      ++ cleared (error Auth (codes "x"))
      ++ Pool 0 (ConnectionClosed (record { address = a; connection_id = 1; reason = ErrorReason; service_id = None }))
      ∷ Ended 1 (FailedEnd (error Auth (codes "x")))
      ∷ Pool 0 (ConnectionCheckoutFailed (record { address = a; reason = ConnectionError; duration = 2 }))
      ∷ [];
}
fails = refl
