-- What the lines of a script are answered: the first opens the driver, and each later one is a step of it.
use Rattle.std.specs.Prelude.{ℕ, false, List, [], ◌∷◌, ◌++◌, map, None}
use Rattle.mdb_base.specs.declared.options.Options.{Options}
use Rattle.mdb_describe.specs.declared.topology.TopologyDescription.{TopologyDescription}
use Rattle.mdb_log.specs.declared.step.Step.{Step}
use Rattle.mdb_log.specs.declared.step.Act.{Act}
use Rattle.mdb_log.specs.declared.step.Act.TheVariants.{Open}
use Rattle.mdb_log.specs.declared.log.Entry.{Entry}
use Rattle.mdb_log.specs.History.{last_moment, history_of}
use Rattle.mdb_log.specs.Answer.{Answer}
use Rattle.mdb_driver_rules.specs.Description.{description_of, published}
use Rattle.mdb_driver_rules.specs.Answer.{answer}

-- the options of a driver that nobody opened
abbrev pub no_options : Options
no_options = record {
  seeds = [];
  set_name = None;
  direct = false;
  load_balanced = false;
  max_pool_size = None;
  min_pool_size = None;
  max_connecting = None;
  max_idle_time = None;
  max_wait = None;
  heartbeat = None;
  connect = None;
  streaming = None;
  limit_id = None;
  limit_generation = None;
  limit_pool = None;
  limit_monitor = None;
  topology_id = record { 0 = [] };
}

-- The options are read off the act that opens.
abbrev pub options_in : Act → Options
options_in (Open o) = o
options_in _ = no_options

abbrev pub options_of : List Entry → Options
options_of [] = no_options
options_of (first ∷ log) = options_in first.step.act

-- the answer to a step after a log
abbrev pub answer_after : List Entry → Step → Answer
answer_after [] step = answer (options_in step.act) [] step
answer_after (first ∷ log) step = answer (options_in first.step.act) (history_of (first ∷ log)) step

-- the entry that a step of a seat adds to a log
abbrev pub entry_after : ℕ → List Entry → Step → Entry
entry_after seat log step = let got : Answer = answer_after log step in record { seat = seat; step = step; reply = got.reply; facts = got.facts }

-- the log of the steps, each answered after those before it, by seat 0
abbrev pub log_after : List Entry → List Step → List Entry
log_after log [] = log
log_after log (s ∷ ss) = log_after (log ++ entry_after 0 log s ∷ []) ss

abbrev pub log_of : List Step → List Entry
log_of steps = log_after [] steps

abbrev pub steps_of : List Entry → List Step
steps_of log = map (λ e. e.step) log

-- What a log tells: the moment of the last accepted step, the topology, and how often it was published.
abbrev pub last_of : List Entry → ℕ
last_of log = last_moment (history_of log)

abbrev pub described : List Entry → TopologyDescription
described log = description_of (options_of log) (history_of log)

abbrev pub publications : List Entry → ℕ
publications log = published (options_of log) (history_of log)
