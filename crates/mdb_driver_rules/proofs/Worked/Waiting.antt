-- Worked examples of callers that wait: their pool is cleared, or they wait for too long. Computed.
use Rattle.std.specs.Prelude.{ℕ, ◌≡◌, List, [], ◌∷◌, ◌++◌, Some, None, refl, true, false, codes}
use Rattle.mdb_base.specs.declared.error.Error.{Error}
use Rattle.mdb_base.specs.declared.error.ErrorKind.TheVariants.{Network, NetworkTimeout}
use Rattle.mdb_base.specs.declared.options.Options.{Options}
use Rattle.mdb_describe.specs.Descriptions.{failed, from_reply}
use Rattle.mdb_describe.specs.Topology.{opened}
use Rattle.mdb_describe.specs.Update.{updated}
use Rattle.mdb_describe.specs.declared.description.ServerDescription.{ServerDescription}
use Rattle.mdb_describe.specs.declared.topology.TopologyDescription.{TopologyDescription}
use Rattle.mdb_events.specs.declared.cmap.CmapEvent.TheVariants.{PoolCleared, ConnectionCheckoutFailed}
use Rattle.mdb_events.specs.declared.reasons.ConnectionCheckoutFailedReason.TheVariants.{Timeout, ConnectionError}
use Rattle.mdb_events.specs.declared.sdam.SdamEvent.TheVariants.{ServerDescriptionChanged, TopologyDescriptionChanged}
use Rattle.mdb_events.specs.declared.fact.Fact.{Fact}
use Rattle.mdb_events.specs.declared.fact.Fact.TheVariants.{Pool, Ended, Raised, Sdam}
use Rattle.mdb_events.specs.declared.end.End.TheVariants.{Cleared, TimedOut}
use Rattle.mdb_log.specs.declared.checked.HelloResult.TheVariants.{Ok, Err}
use Rattle.mdb_log.specs.declared.step.Step.{Step}
use Rattle.mdb_log.specs.declared.step.Act.TheVariants.{Request, Established, Hello, Expire}
use Rattle.mdb_log.specs.declared.reply.Reply.TheVariants.{Changed, Ended as EndedReply, Done}
use Rattle.mdb_driver_rules.specs.Monitors.{hello_reply}
use Rattle.mdb_driver_rules.proofs.Worked.Scripts.{a, plain, at_moment, final, speaks, error, how}

-- one connection at most, which the first caller holds; two more wait for it
abbrev options : Options
options = record (plain (a ∷ [])) { max_pool_size = Some 1 }

abbrev waiting : List Step
waiting = at_moment 1 (Hello a 0 (Ok 5 (speaks 21))) ∷ at_moment 2 (Request 1 a) ∷ at_moment 2 (Established 0 1 (how 21)) ∷ at_moment 3 (Request 2 a) ∷ at_moment 4 (Request 3 a) ∷ []

abbrev t : Error
t = error NetworkTimeout (codes "t")

abbrev u : Error
u = error Network (codes "u")

abbrev alone : TopologyDescription
alone = updated (opened options) (from_reply a (hello_reply a (speaks 21)) 5 1)

abbrev told : ServerDescription → ServerDescription → TopologyDescription → List Fact
told old new known =
    Sdam (ServerDescriptionChanged (record { address = a; topology_id = options.topology_id; previous_description = old; new_description = new }))
    ∷ Sdam (TopologyDescriptionChanged (record { topology_id = options.topology_id; previous_description = known; new_description = updated known new }))
    ∷ []

abbrev ended : ℕ → ℕ → List Fact
ended r waited = Ended r (Cleared t) ∷ Pool 0 (ConnectionCheckoutFailed (record { address = a; reason = ConnectionError; duration = waited })) ∷ []

queue-ends : final options waiting 5 (Hello a 0 (Err t)) ≡ record {
  reply = Changed true;
  facts =
      told (from_reply a (hello_reply a (speaks 21)) 5 1) (failed a t) alone
      ++ Raised 0 None t
      ∷ Pool 0 (PoolCleared (record { address = a; service_id = None; interrupt_in_use_connections = true }))
      ∷ ended 2 2 ++ ended 3 1;
}
queue-ends = refl

-- another error of a paused pool is the cause from then on, and the same one changes nothing
abbrev cleared : List Step
cleared = waiting ++ at_moment 5 (Hello a 0 (Err t)) ∷ []

later-cause : final options cleared 6 (Hello a 0 (Err u)) ≡ record { reply = Changed true; facts = told (failed a t) (failed a u) (updated alone (failed a t)) ++ Raised 0 None u ∷ [] }
later-cause = refl

later-cause-is-told : (final options (cleared ++ at_moment 6 (Hello a 0 (Err u)) ∷ []) 7 (Request 4 a)).reply ≡ EndedReply (Cleared u)
later-cause-is-told = refl

same-cause : final options (cleared ++ at_moment 6 (Hello a 0 (Err u)) ∷ at_moment 7 (Request 4 a) ∷ []) 8 (Hello a 0 (Err u)) ≡ record { reply = Changed false; facts = [] }
same-cause = refl

-- who waited for the limit ends, and who came later waits on; without a limit nobody ends
abbrev limited : Options
limited = record options { max_wait = Some 2 }

wait-ends : final limited waiting 5 (Expire a) ≡ record { reply = Done; facts = Ended 2 TimedOut ∷ Pool 0 (ConnectionCheckoutFailed (record { address = a; reason = Timeout; duration = 2 })) ∷ [] }
wait-ends = refl

later-one-ends : final limited (waiting ++ at_moment 5 (Expire a) ∷ []) 6 (Expire a) ≡ record { reply = Done; facts = Ended 3 TimedOut ∷ Pool 0 (ConnectionCheckoutFailed (record { address = a; reason = Timeout; duration = 2 })) ∷ [] }
later-one-ends = refl

nobody-ends : final options waiting 50 (Expire a) ≡ record { reply = Done; facts = [] }
nobody-ends = refl
