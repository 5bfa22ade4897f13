-- When a harness watches: its driver was opened with all members as seeds, and stands for the log.
use Rattle.std.specs.Prelude.{◌≡◌, ◌<◌, ℕ, List, [], ◌∷◌, length, All}
use Rattle.mdb_fleets.specs.ReplicaSet.{ReplicaSet}
use Rattle.mdb_fleet_runs.specs.declared.event.Event.{Event}
use Rattle.mdb_fleet_runs.specs.FleetText.{line_text}
use Rattle.mdb_log.specs.declared.log.Entry.{Entry}
use Rattle.mdb_topology.specs.Logging.{IsDriverOf}
use Rattle.mdb_fleet_runs.specs.declared.answers.FleetAnswer.{FleetAnswer}
use Rattle.mdb_fleet_runs.specs.declared.harness.Harness.{Harness}
use Rattle.mdb_fleet_runs.specs.Trials.{Trial, Outcome, fleet_options, log_in, outcome}

-- the entries after the first
abbrev pub behind : List Entry → List Entry
behind [] = []
behind (e ∷ es) = es

-- the trial that a harness and the driver's log are
abbrev pub trial_in : Harness → List Entry → Trial
trial_in f log = record { set = f.fleet; entries = behind log }

pub record Watches (n : ℕ) (f : Harness) (log : List Entry) : Type 0 where
  pub size : length f.fleet.members ≡ n
  pub own : f.core.options ≡ fleet_options n
  pub stands : IsDriverOf f.core log
  pub begins : log ≡ log_in n (trial_in f log)

-- it watches so many members
abbrev pub WatchesSome : Harness → List Entry → Type 0
WatchesSome f log = (n : ℕ) × Watches n f log

-- An event came to this outcome, and the harness goes on watching.
pub record Comes (n : ℕ) (f : Harness) (log : List Entry) (answer : FleetAnswer) (outcome : Outcome) : Type 0 where
  pub answered : answer ≡ outcome.answer
  pub trial : trial_in f log ≡ outcome.trial
  pub watches : Watches n f log

-- An event happened, and this is its line.
pub record HasLine (n : ℕ) (e : Event) (t : Trial) (f : Harness) (log : List Entry) (text : List ℕ) : Type 0 where
  pub line : text ≡ line_text n e (outcome n t e)
  pub trial : trial_in f log ≡ (outcome n t e).trial
  pub watches : Watches n f log

-- Before the line of this number, the numbers of a replica set are below it.
pub record IsEarly (number : ℕ) (s : ReplicaSet) : Type 0 where
  pub members : All (λ m. (m.counter < number) × (m.set_version < number)) s.members
  pub wire : length s.wire < number
