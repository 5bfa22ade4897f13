use Rattle.std.proofs.Common.{true, sym, ◌∙◌, ap}
use Rattle.mdb_log.specs.declared.step.FailedAt.TheVariants.{Post}
use Rattle.mdb_topology.specs.Failing.{is_timely, is_uncleared}
use Rattle.mdb_topology.proofs.errors.failing.is_kept.Goals as goal

pub returns-in-Some : goal.returns-in-Some
returns-in-Some c live =
    let p = c.args.pool.now in
    c.is_uncleared.ensures live ∙ (ap (is_uncleared p c.args.id) c.in-Some.is ∙ sym (ap (λ t. is_timely true p c.args.id (Post t)) c.in-Some.is))
