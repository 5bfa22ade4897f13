use Rattle.std.proofs.Common.{◌∙◌, ap, ◌∷◌, []}
use Rattle.mdb_driver_rules.specs.Lines.{entry_after}
use Rattle.mdb_topology.proofs.DriverOpened.ScriptsLog.{first-step-is}
use Rattle.mdb_shared_runs.proofs.opening.open.Goals as goal

pub returns-clause-entry : goal.returns-clause-entry
returns-clause-entry c =
    c.in_ok-core.ensures.entry ∙ ap (λ s. entry_after 0 [] s ∷ []) (first-step-is c.args.first.now c.in-Open.options c.in_ok-options.options c.requires.opens c.in-Open.is (c.in_ok-options.ensures.cases ∙ c.get.ensures))
