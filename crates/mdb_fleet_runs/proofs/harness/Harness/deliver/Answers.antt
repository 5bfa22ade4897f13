use Rattle.std.proofs.Common.{sym}
use Rattle.std.specs.Prelude.{slice_get}
use Rattle.mdb_fleet_runs.proofs.Watching.{if-ok-map, delivers-so}
use Rattle.mdb_fleet_runs.proofs.harness.Harness.deliver.Goals as goal

pub returns-in_ok-reply-in-Some : goal.returns-in_ok-reply-in-Some
returns-in_ok-reply-in-Some c =
    if-ok-map c.comes.result _ _ (λ answer h n w.
    delivers-so n c.args.moment c.args.self.now c.comes.new.self c.args.log.now c.comes.new.log answer c.in-Some.sent.now (slice_get c.args.self.now.fleet.wire c.args.number) c.in_ok-reply-in-Some.reply (sym c.in-Some.ensures) c.in_ok-reply-in-Some.ensures.cases (h n w))
    c.comes.ensures
