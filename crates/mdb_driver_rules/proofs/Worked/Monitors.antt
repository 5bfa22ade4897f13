-- Worked examples of monitors, computed.
use Rattle.std.specs.Prelude.{ℕ, ◌≡◌, List, [], ◌∷◌, ◌++◌, Bool, true, false, Option, Some, None, refl, ℤ, pos, codes}
use Rattle.mdb_base.specs.declared.error.Error.{Error}
use Rattle.mdb_base.specs.declared.error.ErrorKind.TheVariants.{Network, Other}
use Rattle.mdb_base.specs.declared.options.Options.{Options}
use Rattle.mdb_hello.specs.declared.response.HelloCommandResponse.{HelloCommandResponse}
use Rattle.mdb_describe.specs.declared.description.ServerDescription.{ServerDescription}
use Rattle.mdb_describe.specs.Descriptions.{unknown, from_reply}
use Rattle.mdb_describe.specs.Topology.{opened}
use Rattle.mdb_describe.specs.Update.{updated}
use Rattle.mdb_events.specs.declared.cmap.CmapEvent.TheVariants.{PoolReady}
use Rattle.mdb_events.specs.declared.sdam.SdamEvent.TheVariants.{ServerDescriptionChanged, TopologyDescriptionChanged, ServerHeartbeatStarted, ServerHeartbeatSucceeded, ServerHeartbeatFailed}
use Rattle.mdb_events.specs.declared.fact.Fact.{Fact}
use Rattle.mdb_events.specs.declared.fact.Fact.TheVariants.{Pool, Sdam}
use Rattle.mdb_log.specs.declared.step.Step.{Step}
use Rattle.mdb_log.specs.declared.step.Act.TheVariants.{Beat, Beaten, Rtt}
use Rattle.mdb_log.specs.declared.checked.BeatenResult.TheVariants.{Ok, Err, Cancelled}
use Rattle.mdb_log.specs.declared.reply.What.TheVariants as What
use Rattle.mdb_log.specs.declared.reply.Refused.TheVariants.{CheckRunning, NotChecking, WrongMode, Exhausted}
use Rattle.mdb_log.specs.declared.reply.Reply.TheVariants.{Changed, Count, Done, Refused}
use Rattle.mdb_driver_rules.specs.Monitors.{hello_reply}
use Rattle.mdb_driver_rules.proofs.Worked.Scripts.{a, b, S, plain, balanced, at_moment, final, speaks, error}

abbrev one : Options
one = plain (a ∷ [])

-- round trips alone
first-sample : final one [] 1 (Rtt a 0 7) ≡ record { reply = Count 7; facts = [] }
first-sample = refl

second-sample : final one (at_moment 1 (Rtt a 0 7) ∷ []) 2 (Rtt a 0 4) ≡ record { reply = Count 5; facts = [] }
second-sample = refl

long-samples : final one (at_moment 1 (Rtt a 0 100000000) ∷ []) 2 (Rtt a 0 200000000) ≡ record { reply = Count 120000000; facts = [] }
long-samples = refl

-- a check connects, tells the version, and the next one waits for news over the same connection
abbrev versioned : HelloCommandResponse
versioned = record (speaks 21) { topology_version = Some (record { process_id = S; counter = pos 1 }); connection_id = Some (pos 7) }

abbrev replied : ServerDescription
replied = from_reply a (hello_reply a versioned) 10 3

abbrev started : Bool → ℕ → Option ℤ → Fact
started awaited driver server = Sdam (ServerHeartbeatStarted (record { server_address = a; awaited = awaited; driver_connection_id = driver; server_connection_id = server }))

abbrev beats : List Step
beats = at_moment 1 (Beat a 0) ∷ at_moment 3 (Beaten a 0 10 (Ok versioned false)) ∷ []

check-connects : final one [] 1 (Beat a 0) ≡ record { reply = Done; facts = started false 0 None ∷ [] }
check-connects = refl

check-succeeds : final one (at_moment 1 (Beat a 0) ∷ []) 3 (Beaten a 0 10 (Ok versioned false)) ≡ record {
  reply = Changed true;
  facts =
      Sdam (ServerHeartbeatSucceeded (record { duration = 10; reply = []; server_address = a; awaited = false; driver_connection_id = 0; server_connection_id = Some (pos 7) }))
      ∷ Pool 0 (PoolReady (record { address = a }))
      ∷ Sdam (ServerDescriptionChanged (record { address = a; topology_id = one.topology_id; previous_description = unknown a; new_description = replied }))
      ∷ Sdam (TopologyDescriptionChanged (record { topology_id = one.topology_id; previous_description = opened one; new_description = updated (opened one) replied }))
      ∷ [];
}
check-succeeds = refl

next-one-awaits : final one beats 4 (Beat a 0) ≡ record { reply = Done; facts = started true 0 (Some (pos 7)) ∷ [] }
next-one-awaits = refl

one-at-a-time : final one (beats ++ at_moment 4 (Beat a 0) ∷ []) 5 (Beat a 0) ≡ record { reply = Refused CheckRunning; facts = [] }
one-at-a-time = refl

check-is-cancelled : final one (beats ++ at_moment 4 (Beat a 0) ∷ []) 6 (Beaten a 0 20 (Cancelled (error Network (codes "c")))) ≡ record {
  reply = Changed false;
  facts = Sdam (ServerHeartbeatFailed (record { duration = 20; failure = error Network (codes "c"); server_address = a; awaited = true; driver_connection_id = 0; server_connection_id = Some (pos 7) })) ∷ [];
}
check-is-cancelled = refl

connects-again : final one (beats ++ at_moment 4 (Beat a 0) ∷ at_moment 6 (Beaten a 0 20 (Cancelled (error Network (codes "c")))) ∷ []) 7 (Beat a 0) ≡ record { reply = Done; facts = started false 1 None ∷ [] }
connects-again = refl

-- checks that do not go with the mode, and of pools that are not open
abbrev broke : Error
broke = error Other (codes "e")

none-when-balanced : final balanced [] 0 (Beat a 0) ≡ record { reply = Refused WrongMode; facts = [] }
none-when-balanced = refl

none-runs : final one [] 0 (Beaten a 0 1 (Err broke)) ≡ record { reply = Refused NotChecking; facts = [] }
none-runs = refl

abbrev two : Options
two = plain (a ∷ b ∷ [])

of-another-pool : final two (at_moment 1 (Beat a 0) ∷ []) 2 (Beaten b 0 5 (Err broke)) ≡ record { reply = Changed false; facts = [] }
of-another-pool = refl

runs-beside-it : final two (at_moment 1 (Beat a 0) ∷ at_moment 2 (Beaten b 0 5 (Err broke)) ∷ []) 3 (Beat a 0) ≡ record { reply = Refused CheckRunning; facts = [] }
runs-beside-it = refl

-- where the options say so no check waits for news
abbrev polling : Options
polling = record one { streaming = Some false }

polled-reply : (final polling (at_moment 1 (Beat a 0) ∷ []) 2 (Beaten a 0 9 (Ok (record versioned { connection_id = None }) false))).reply ≡ Changed true
polled-reply = refl

polls-again : final polling (at_moment 1 (Beat a 0) ∷ at_moment 2 (Beaten a 0 9 (Ok (record versioned { connection_id = None }) false)) ∷ []) 3 (Beat a 0) ≡ record { reply = Done; facts = started false 0 None ∷ [] }
polls-again = refl

-- the numbers of monitors' connections run out
abbrev single_use : Options
single_use = record one { limit_monitor = Some 0 }

fails-once : (final single_use (at_moment 1 (Beat a 0) ∷ []) 2 (Beaten a 0 5 (Err broke))).reply ≡ Changed true
fails-once = refl

no-number-left : final single_use (at_moment 1 (Beat a 0) ∷ at_moment 2 (Beaten a 0 5 (Err broke)) ∷ []) 3 (Beat a 0) ≡ record { reply = Refused (Exhausted What.Monitor); facts = [] }
no-number-left = refl
