use Rattle.mdb_fleet_runs.specs.declared.harness.Harness.{Harness}
use Rattle.mdb_fleet_runs.proofs.Seeds.{fleet-fits}
use Rattle.mdb_fleet_runs.proofs.Watching.{opens-so}
use Rattle.mdb_fleet_runs.proofs.harness.Harness.open.Goals as goal

pub open_seeds-requires-clause-fits : goal.open_seeds-requires-clause-fits
open_seeds-requires-clause-fits c = rw c.in_ok-options.ensures (fleet-fits c.args.count c.requires.some c.requires.few)

pub returns-clause-log : goal.returns-clause-log
returns-clause-log c =
    let f : Harness = record { fleet = c.in_ok-fleet.fleet; core = c.in_ok-core.core } in
    (opens-so c.args.count f c.in_ok-options.options c.open_seeds.new.log c.in_ok-fleet.ensures c.in_ok-core.ensures.options c.in_ok-options.ensures c.in_ok-core.ensures.entry c.in_ok-core.ensures.opened).0

pub returns-clause-watches : goal.returns-clause-watches
returns-clause-watches c =
    let f : Harness = record { fleet = c.in_ok-fleet.fleet; core = c.in_ok-core.core } in
    (opens-so c.args.count f c.in_ok-options.options c.open_seeds.new.log c.in_ok-fleet.ensures c.in_ok-core.ensures.options c.in_ok-options.ensures c.in_ok-core.ensures.entry c.in_ok-core.ensures.opened).1
