-- Worked examples of a replica set whose primary lists its members, computed.
use Rattle.std.specs.Prelude.{ℕ, ◌≡◌, List, [], ◌∷◌, ◌++◌, Some, None, refl, true, false, codes}
use Rattle.mdb_base.specs.declared.address.ServerAddress.{ServerAddress}
use Rattle.mdb_base.specs.declared.error.ErrorKind.TheVariants.{Network}
use Rattle.mdb_base.specs.declared.options.Options.{Options}
use Rattle.mdb_hello.specs.declared.response.HelloCommandResponse.{HelloCommandResponse}
use Rattle.mdb_describe.specs.declared.description.ServerDescription.{ServerDescription}
use Rattle.mdb_describe.specs.declared.topology.TopologyDescription.{TopologyDescription}
use Rattle.mdb_describe.specs.Descriptions.{unknown, from_reply}
use Rattle.mdb_describe.specs.Topology.{opened}
use Rattle.mdb_describe.specs.Update.{updated}
use Rattle.mdb_events.specs.declared.cmap.CmapEvent.TheVariants.{PoolReady, PoolClosed, ConnectionClosed, ConnectionCheckoutFailed}
use Rattle.mdb_events.specs.declared.reasons.ConnectionClosedReason.TheVariants.{PoolClosed as PoolClosedReason}
use Rattle.mdb_events.specs.declared.reasons.ConnectionCheckoutFailedReason.TheVariants.{ConnectionError}
use Rattle.mdb_events.specs.declared.sdam.SdamEvent.TheVariants.{ServerDescriptionChanged, ServerOpening, ServerClosed, TopologyDescriptionChanged}
use Rattle.mdb_events.specs.declared.fact.Fact.TheVariants.{Opened, Pool, Ended, Sdam}
use Rattle.mdb_events.specs.declared.end.End.TheVariants.{Closed}
use Rattle.mdb_log.specs.declared.checked.HelloResult.TheVariants.{Ok}
use Rattle.mdb_log.specs.declared.step.Step.{Step}
use Rattle.mdb_log.specs.declared.step.Act.TheVariants.{Request, Collect, Established, Return, Hello, Error as ErrorAct}
use Rattle.mdb_log.specs.declared.step.Use.TheVariants as Used
use Rattle.mdb_log.specs.declared.reply.Refused.TheVariants.{NotPending}
use Rattle.mdb_log.specs.declared.reply.Reply.TheVariants.{Establishing, Waiting, Changed, Done, Ended as EndedReply, Refused}
use Rattle.mdb_driver_rules.specs.Monitors.{hello_reply}
use Rattle.mdb_driver_rules.proofs.Worked.Scripts.{plain, at_moment, final, speaks, error, how, created, on_listed_hosts}

abbrev x : ServerAddress
x = record { host = codes "localhost"; port = 49152 }

abbrev y : ServerAddress
y = record { host = codes "localhost"; port = 49153 }

abbrev z : ServerAddress
z = record { host = codes "localhost"; port = 49154 }

abbrev set : Options
set = record (plain (x ∷ y ∷ z ∷ [])) { set_name = Some (codes "foo"); max_pool_size = Some 1 }

abbrev two_hosts : List (List ℕ)
two_hosts = codes "localhost:49152" ∷ codes "localhost:49153" ∷ []

abbrev three_hosts : List (List ℕ)
three_hosts = codes "localhost:49152" ∷ codes "localhost:49153" ∷ codes "localhost:49154" ∷ []

abbrev secondary : HelloCommandResponse
secondary = record (speaks 13) { hosts = Some three_hosts; set_name = Some (codes "foo"); secondary = Some true }

abbrev primary : List (List ℕ) → HelloCommandResponse
primary hosts = record (speaks 13) { is_writable_primary = Some true; hosts = Some hosts; me = Some (codes "localhost:49152"); set_name = Some (codes "foo") }

abbrev followed : TopologyDescription
followed = updated (opened set) (from_reply z (hello_reply z secondary) 5 1)

-- what the primary says that lists these hosts at the moment m
abbrev leader : ℕ → List (List ℕ) → ServerDescription
leader m hosts = from_reply x (hello_reply x (primary hosts)) 10000000 m

-- one caller waits for its connection to the third server, and another behind it
abbrev waiting : List Step
waiting = at_moment 1 (Hello z 2 (Ok 5 secondary)) ∷ at_moment 2 (Request 1 z) ∷ at_moment 3 (Request 2 z) ∷ []

first-is-pending : (final set (at_moment 1 (Hello z 2 (Ok 5 secondary)) ∷ []) 2 (Request 1 z)).reply ≡ Establishing 2 1
unfolding on_listed_hosts
first-is-pending = refl

second-waits : (final set (at_moment 1 (Hello z 2 (Ok 5 secondary)) ∷ at_moment 2 (Request 1 z) ∷ []) 3 (Request 2 z)).reply ≡ Waiting
unfolding on_listed_hosts
second-waits = refl

-- the primary does not list the third server, which is closed, and its pool with all that is pending
third-server-goes : final set waiting 4 (Hello x 0 (Ok 10000000 (primary two_hosts))) ≡ record {
  reply = Changed true;
  facts =
      Pool 0 (PoolReady (record { address = x }))
      ∷ Sdam (ServerDescriptionChanged (record { address = x; topology_id = set.topology_id; previous_description = unknown x; new_description = leader 4 two_hosts }))
      ∷ Sdam (ServerClosed (record { address = z; topology_id = set.topology_id }))
      ∷ Pool 2 (ConnectionClosed (record { address = z; connection_id = 1; reason = PoolClosedReason; service_id = None }))
      ∷ Ended 1 Closed
      ∷ Pool 2 (ConnectionCheckoutFailed (record { address = z; reason = ConnectionError; duration = 2 }))
      ∷ Ended 2 Closed
      ∷ Pool 2 (ConnectionCheckoutFailed (record { address = z; reason = ConnectionError; duration = 1 }))
      ∷ Pool 2 (PoolClosed (record { address = z }))
      ∷ Sdam (TopologyDescriptionChanged (record { topology_id = set.topology_id; previous_description = followed; new_description = updated followed (leader 4 two_hosts) }))
      ∷ [];
}
unfolding on_listed_hosts
third-server-goes = refl

abbrev removed : List Step
removed = waiting ++ at_moment 4 (Hello x 0 (Ok 10000000 (primary two_hosts))) ∷ []

pending-no-more : final set removed 5 (Established 2 1 (how 13)) ≡ record { reply = Refused NotPending; facts = [] }
unfolding on_listed_hosts
pending-no-more = refl

end-is-told : final set removed 6 (Collect 1) ≡ record { reply = EndedReply Closed; facts = [] }
unfolding on_listed_hosts
end-is-told = refl

-- a connection of the removed server is held, and the server comes back with a new pool
abbrev held : List Step
held = at_moment 1 (Hello z 2 (Ok 5 secondary)) ∷ at_moment 2 (Request 1 z) ∷ at_moment 3 (Established 2 1 (how 13)) ∷ at_moment 4 (Hello x 0 (Ok 10000000 (primary two_hosts))) ∷ []

abbrev led : TopologyDescription
led = updated followed (leader 4 two_hosts)

third-server-comes-back : final set held 7 (Hello x 0 (Ok 10000000 (primary three_hosts))) ≡ record {
  reply = Changed true;
  facts =
      Sdam (ServerDescriptionChanged (record { address = x; topology_id = set.topology_id; previous_description = leader 4 two_hosts; new_description = leader 7 three_hosts }))
      ∷ Sdam (TopologyDescriptionChanged (record { topology_id = set.topology_id; previous_description = led; new_description = updated led (leader 7 three_hosts) }))
      ∷ Opened 3 z ∷ created z set 3
      ∷ Sdam (ServerOpening (record { address = z; topology_id = set.topology_id }))
      ∷ [];
}
unfolding on_listed_hosts
third-server-comes-back = refl

abbrev back : List Step
back = held ++ at_moment 7 (Hello x 0 (Ok 10000000 (primary three_hosts))) ∷ []

-- nothing of the old pool concerns the new one
old-pool-errs : final set back 8 (ErrorAct 1 (error Network (codes "x"))) ≡ record { reply = Changed false; facts = [] }
unfolding on_listed_hosts
old-pool-errs = refl

old-pool-returns : final set (back ++ at_moment 8 (ErrorAct 1 (error Network (codes "x"))) ∷ []) 9 (Return 1 Used.Ok) ≡ record { reply = Done; facts = Pool 2 (ConnectionClosed (record { address = z; connection_id = 1; reason = PoolClosedReason; service_id = None })) ∷ [] }
unfolding on_listed_hosts
old-pool-returns = refl
