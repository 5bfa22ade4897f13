use Rattle.std.proofs.Common.{◌∙◌, ap, ◌∷◌, []}
use Rattle.mdb_driver_rules.specs.Lines.{entry_after}
use Rattle.mdb_topology.proofs.driver.Driver.open.Goals as goal
use Rattle.mdb_topology.proofs.DriverOpened.ScriptsLog.{first-step-is}

pub returns-clause-ok : goal.returns-clause-ok
returns-clause-ok c =
    c.in_ok-core.ensures.entry ∙ ap (λ s. entry_after 0 [] s ∷ []) (first-step-is c.args.step.now c.in-Open.options c.in_ok-options.options c.requires.opens c.in-Open.is (c.in_ok-options.ensures.cases ∙ c.get.ensures))
