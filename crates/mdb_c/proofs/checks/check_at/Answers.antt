use Rattle.std.proofs.Common.{◌≡◌, ◌∙◌, Some, ap}
use Rattle.std.specs.Prelude.{option_map}
use Rattle.mdb_describe.specs.Topology.{server_at}
use Rattle.mdb_driver_rules.specs.Lines.{described}
use Rattle.mdb_session.specs.Ahead.{check_after}
use Rattle.mdb_c.specs.Checks.{check_with}
use Rattle.mdb_c.proofs.checks.check_at.Goals as goal

pub returns-in-Some : goal.returns-in-Some
returns-in-Some c =
    let is = c.in-Some.is in
    let told = c.in_ok-check.ensures in
    let found : Some c.in-Some.check ≡ check_after c.args.session.now c.args.address.now = cc in
    ap (λ n. Some n) (c.numbers_of_check-numbers.ensures
    ∙ ap (λ s. check_with s c.in-Some.check) (c.server.ensures ∙ ap (λ t. server_at c.args.address.now t.servers) c.described.ensures))
    ∙ ap (option_map (check_with (server_at c.args.address.now (described c.args.session.now).servers))) found
