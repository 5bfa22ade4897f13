-- Worked examples of servers that come and go, of limits and of watchers, computed.
use Rattle.std.specs.Prelude.{◌≡◌, [], ◌∷◌, Some, refl, true}
use Rattle.mdb_base.specs.declared.options.Options.{Options}
use Rattle.mdb_describe.specs.Topology.{opened, synced}
use Rattle.mdb_events.specs.declared.cmap.CmapEvent.TheVariants.{ConnectionCheckoutStarted, ConnectionCheckoutFailed, PoolClosed}
use Rattle.mdb_events.specs.declared.reasons.ConnectionCheckoutFailedReason.TheVariants.{ConnectionError}
use Rattle.mdb_events.specs.declared.sdam.SdamEvent.TheVariants.{ServerOpening, ServerClosed, TopologyDescriptionChanged}
use Rattle.mdb_events.specs.declared.fact.Fact.TheVariants.{Opened, Pool, Ended, Sdam}
use Rattle.mdb_events.specs.declared.end.End.TheVariants.{Cleared}
use Rattle.mdb_log.specs.declared.step.Act.TheVariants.{Request, Hosts, Want, Unwant}
use Rattle.mdb_log.specs.declared.reply.What.TheVariants as What
use Rattle.mdb_log.specs.declared.reply.Refused.TheVariants.{Exhausted}
use Rattle.mdb_log.specs.declared.reply.Reply.TheVariants.{Changed, Count, Ended as EndedReply, Refused}
use Rattle.mdb_pool_rules.specs.Facts.{new_pool_error}
use Rattle.mdb_driver_rules.proofs.Worked.Scripts.{a, b, c, plain, at_moment, final, created}

abbrev two : Options
two = plain (a ∷ b ∷ [])

-- the hosts that DNS gives take the place of those before
hosts-change : final two [] 1 (Hosts (b ∷ c ∷ [])) ≡ record {
  reply = Changed true;
  facts =
      Sdam (ServerClosed (record { address = a; topology_id = two.topology_id }))
      ∷ Pool 0 (PoolClosed (record { address = a }))
      ∷ Sdam (TopologyDescriptionChanged (record { topology_id = two.topology_id; previous_description = opened two; new_description = synced (b ∷ c ∷ []) (opened two) }))
      ∷ Opened 2 c ∷ created c two 2
      ∷ Sdam (ServerOpening (record { address = c; topology_id = two.topology_id }))
      ∷ [];
}
hosts-change = refl

-- a line that is refused for a limit leaves all as it was
abbrev last_pool : Options
last_pool = record two { limit_pool = Some 1 }

no-pool-left : final last_pool [] 1 (Hosts (b ∷ c ∷ [])) ≡ record { reply = Refused (Exhausted What.Pool); facts = [] }
no-pool-left = refl

all-as-before : final last_pool (at_moment 1 (Hosts (b ∷ c ∷ [])) ∷ []) 1 (Request 1 a) ≡ record {
  reply = EndedReply (Cleared new_pool_error);
  facts = Pool 0 (ConnectionCheckoutStarted (record { address = a })) ∷ Ended 1 (Cleared new_pool_error) ∷ Pool 0 (ConnectionCheckoutFailed (record { address = a; reason = ConnectionError; duration = 0 })) ∷ [];
}
all-as-before = refl

fewer-hosts : (final last_pool (at_moment 1 (Hosts (b ∷ c ∷ [])) ∷ at_moment 1 (Request 1 a) ∷ []) 2 (Hosts (b ∷ []))).reply ≡ Changed true
fewer-hosts = refl

-- a watcher asks once however often it asks
wants-once : final two (at_moment 1 (Want 7) ∷ []) 2 (Want 7) ≡ record { reply = Count 1; facts = [] }
wants-once = refl

wants-no-more : final two (at_moment 1 (Want 7) ∷ at_moment 2 (Want 7) ∷ []) 3 (Unwant 7) ≡ record { reply = Count 0; facts = [] }
wants-no-more = refl
