use Rattle.mdb_fleet_runs.specs.Harnesses.{trial_in}
use Rattle.mdb_fleet_runs.specs.declared.event.FleetAct.TheVariants as act
use Rattle.mdb_fleet_runs.proofs.Watching.{if-ok-map, acts-so}
use Rattle.mdb_fleet_runs.proofs.harness.Harness.step.Goals as goal

pub returns-in-Elect : goal.returns-in-Elect
returns-in-Elect c = λ n w.
    acts-so n c.args.event.moment c.elect.new.self (trial_in c.args.self.now c.args.log.now) c.args.log.now c.elect.result c.args.event.act (act.Elect c.in-Elect.member) c.in-Elect.is (c.elect.ensures n c.args.event.moment c.args.log.now w)

pub returns-in-StepDown : goal.returns-in-StepDown
returns-in-StepDown c = λ n w.
    acts-so n c.args.event.moment c.step_down.new.self (trial_in c.args.self.now c.args.log.now) c.args.log.now c.step_down.result c.args.event.act (act.StepDown c.in-StepDown.member) c.in-StepDown.is (c.step_down.ensures n c.args.event.moment c.args.log.now w)

pub returns-in-Reconf : goal.returns-in-Reconf
returns-in-Reconf c = λ n w.
    acts-so n c.args.event.moment c.reconf.new.self (trial_in c.args.self.now c.args.log.now) c.args.log.now c.reconf.result c.args.event.act (act.Reconf c.in-Reconf.member) c.in-Reconf.is (c.reconf.ensures n c.args.event.moment c.args.log.now w)

pub returns-in-Ask : goal.returns-in-Ask
returns-in-Ask c =
    if-ok-map c.ask.result _ _ (λ answer h n w.
    acts-so n c.args.event.moment c.ask.new.self (trial_in c.args.self.now c.args.log.now) c.args.log.now answer c.args.event.act (act.Ask c.in-Ask.member) c.in-Ask.is (h n c.args.event.moment c.args.log.now w))
    c.ask.ensures

pub returns-in-Lose : goal.returns-in-Lose
returns-in-Lose c =
    if-ok-map c.lose.result _ _ (λ answer h n w.
    acts-so n c.args.event.moment c.lose.new.self (trial_in c.args.self.now c.args.log.now) c.lose.new.log answer c.args.event.act (act.Lose c.in-Lose.member) c.in-Lose.is (h n w))
    c.lose.ensures

pub returns-in-Deliver : goal.returns-in-Deliver
returns-in-Deliver c =
    if-ok-map c.deliver.result _ _ (λ answer h n w.
    acts-so n c.args.event.moment c.deliver.new.self (trial_in c.args.self.now c.args.log.now) c.deliver.new.log answer c.args.event.act (act.Deliver c.in-Deliver.number) c.in-Deliver.is (h n w))
    c.deliver.ensures
