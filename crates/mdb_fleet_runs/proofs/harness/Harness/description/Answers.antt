use Rattle.std.proofs.Common.{List, ap, ◌∙◌}
use Rattle.mdb_base.specs.declared.options.Options.{Options}
use Rattle.mdb_log.specs.History.{history_of}
use Rattle.mdb_log.specs.declared.log.Entry.{Entry}
use Rattle.mdb_driver_rules.specs.Description.{description_of}
use Rattle.mdb_fleet_runs.specs.Trials.{fleet_options}
use Rattle.mdb_fleet_runs.proofs.harness.Harness.description.Goals as goal

pub returns : goal.returns
returns c = λ n log watches. c.description.ensures (history_of log) watches.stands.stands
    ∙ ap (λ (q : Options). description_of q (history_of log)) watches.own
    ∙ ap (λ (l : List Entry). description_of (fleet_options n) (history_of l)) watches.begins
