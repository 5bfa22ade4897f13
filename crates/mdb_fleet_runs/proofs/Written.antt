-- The line of an event that happened.
use Rattle.std.proofs.Common.{◌≡◌, ℕ, List, ◌++◌, codes, ap, ◌∙◌}
use Rattle.mdb_describe.specs.declared.topology.TopologyDescription.{TopologyDescription}
use Rattle.mdb_log.specs.declared.log.Entry.{Entry}
use Rattle.mdb_fleet_runs.specs.declared.answers.FleetAnswer.{FleetAnswer}
use Rattle.mdb_fleet_runs.specs.declared.event.Event.{Event}
use Rattle.mdb_fleet_runs.specs.declared.harness.Harness.{Harness}
use Rattle.mdb_fleet_runs.specs.Events.{event_text}
use Rattle.mdb_fleet_runs.specs.FleetText.{answer_text, shown}
use Rattle.mdb_fleet_runs.specs.Harnesses.{trial_in, Watches, Comes, HasLine}
use Rattle.mdb_fleet_runs.specs.Trials.{Trial, Outcome, description_in, outcome}

-- an event with its answer, and a description
abbrev pub told_line : Event → FleetAnswer → TopologyDescription → List ℕ
told_line e a d = event_text e ++ (codes " | " ++ (answer_text a ++ (codes " | " ++ (shown d ++ codes "\n"))))

pub line-so : (n : ℕ) (e : Event) (t : Trial) (g : Harness) (after : List Entry) (a : FleetAnswer) (d : TopologyDescription) (text : List ℕ) → Comes n g after a (outcome n t e) → ((k : ℕ) (log : List Entry) → Watches k g log → d ≡ description_in k (trial_in g log))
    → text ≡ told_line e a d → HasLine n e t g after text
line-so n e t g after a d text h is line =
    let o : Outcome = outcome n t e in
    let known : d ≡ description_in n o.trial = is n after h.watches ∙ ap (λ (u : Trial). description_in n u) h.trial in
    record {
      line = line ∙ ap (λ (x : FleetAnswer). told_line e x d) h.answered ∙ ap (λ (x : TopologyDescription). told_line e o.answer x) known;
      trial = h.trial;
      watches = h.watches;
    }
