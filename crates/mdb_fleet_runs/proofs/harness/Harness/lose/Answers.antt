use Rattle.std.proofs.Common.{◌<◌, length, arith}
use Rattle.mdb_log.specs.declared.checked.HelloResult.TheVariants as hello
use Rattle.mdb_fleet_runs.specs.Harnesses.{trial_in}
use Rattle.mdb_fleet_runs.specs.Trials.{hello_step, lost, steps}
use Rattle.mdb_fleet_runs.proofs.Watching.{if-ok-map, member-comes}
use Rattle.mdb_fleet_runs.proofs.harness.Harness.lose.Goals as goal

pub returns : goal.returns
returns c =
    let there : c.args.member < length c.args.self.now.fleet.members = omega (arith, c.count.ensures.count) in
    let t = trial_in c.args.self.now c.args.log.now in
    if-ok-map c.misses.result _ _ (λ answer h n w.
    member-comes n c.args.self.now c.misses.new.self c.args.log.now c.misses.new.log answer c.args.member (steps n t (hello_step n t c.args.moment c.args.member (hello.Err lost))) there (h n w))
    c.misses.ensures
