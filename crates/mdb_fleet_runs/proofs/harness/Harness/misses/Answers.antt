use Rattle.std.proofs.Common.{ap, ◌∙◌}
use Rattle.std.specs.Prelude.{unwrap_or}
use Rattle.mdb_log.specs.History.{history_of}
use Rattle.mdb_log.specs.declared.checked.HelloResult.TheVariants as hello
use Rattle.mdb_fleet_runs.proofs.Watching.{hello-so}
use Rattle.mdb_fleet_runs.proofs.harness.Harness.misses.Goals as goal

pub returns : goal.returns
returns c = λ n w.
    let h = history_of c.args.log.now in
    let pool = c.unwrap_or-pool.ensures ∙ ap (λ o. unwrap_or o 0) (c.open_pool.ensures h w.stands.stands) in
    rw (← c.in_ok-error.ensures)
    (hello-so n c.args.self.now c.handle_monitor_error.new.self c.args.log.now c.handle_monitor_error.new.log c.args.moment c.args.member c.in_ok-address.address c.unwrap_or-pool.result (hello.Err c.in_ok-error.error) c.in_ok-told.told
    w c.in_ok-address.ensures pool c.in_ok-told.ensures.options c.in_ok-told.ensures.logs (c.in_ok-told.ensures.reply h w.stands.stands))
