-- The opening of a driver with all members as seeds is taken.
use Rattle.std.proofs.Common.{◌≡◌, ℕ, ◌≤◌, false, List, [], ◌∷◌, length, Option, Some, None, arith}
use Rattle.std.specs.Prelude.{IsPermutation}
use Rattle.std.proofs.lemmas.List.FromFn.{length-map-range_with_len}
use Rattle.std.proofs.lemmas.List.Sorted.{length_permutation}
use Rattle.mdb_base.specs.declared.address.ServerAddress.{ServerAddress}
use Rattle.mdb_base.specs.declared.options.Options.{Options}
use Rattle.mdb_describe.specs.Topology.{opened as opened_by}
use Rattle.mdb_log.specs.History.{did, history_of, with_answer}
use Rattle.mdb_log.specs.LegalLog.{OpensSeeds, numbered}
use Rattle.mdb_log.specs.declared.reply.Refused.{Refused}
use Rattle.mdb_log.specs.declared.reply.Reply.TheVariants.{Done}
use Rattle.mdb_log.specs.declared.step.Step.{Step}
use Rattle.mdb_log.specs.Answer.{Answer}
use Rattle.mdb_driver_rules.specs.Answer.{answered}
use Rattle.mdb_driver_rules.specs.Description.{description_of, is_stopped}
use Rattle.mdb_driver_rules.specs.Facts.{step_facts}
use Rattle.mdb_topology.specs.Logging.{opening_step}
use Rattle.mdb_driver_rules.specs.Refusal.{refusal}
use Rattle.mdb_fleets.specs.MemberReplies.{address_of}
use Rattle.mdb_fleet_runs.specs.Trials.{fleet_options, opened}
use Rattle.mdb_fleet_laws.proofs.Steps.{facts-described, facts-stopped}

module _ (n : ℕ) (some : 1 ≤ n) where
  abbrev o : Options
  o = fleet_options n

  abbrev step : Step
  step = opening_step o

  -- a refused opening opens no seeds
  no-seeds : OpensSeeds o [] → ⊥
  no-seeds opens = on opens.list opens.opened opens.same
    where
      on : (list : List ServerAddress) → [] ≡ numbered 0 list → IsPermutation o.seeds list → ⊥
      on [] e same = let size = length_permutation o.seeds [] same in let own = length-map-range_with_len address_of 0 n in omega (arith, size, own, some)
      on (a ∷ more) e same = cc

  by-refusal : (r : Option Refused) → let x : Answer = answered o [] step r (step_facts o [] step) in OpensSeeds o (with_answer step x.reply x.facts [])
      → (description_of o (with_answer step x.reply x.facts []) ≡ opened_by o) × (is_stopped (with_answer step x.reply x.facts []) ≡ false)
  by-refusal None opens = (facts-described o 0 (step_facts o [] step) (did step Done ∷ []), facts-stopped 0 (step_facts o [] step) (did step Done ∷ []))
  by-refusal (Some why) opens = absurd (no-seeds opens)

  -- it describes the seeds, and nothing stopped the driver
  pub opening-taken : OpensSeeds o (history_of (opened n ∷ [])) → (description_of o (history_of (opened n ∷ [])) ≡ opened_by o) × (is_stopped (history_of (opened n ∷ [])) ≡ false)
  opening-taken opens = by-refusal (refusal o [] step) opens
