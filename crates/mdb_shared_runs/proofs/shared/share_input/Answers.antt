use Rattle.std.proofs.Common.{List, ◌∙◌, ap, subst}
use Rattle.mdb_log.specs.declared.step.Step.{Step}
use Rattle.mdb_lines.specs.LogText.{text_of}
use Rattle.mdb_shared_runs.specs.Scripts.{Shared}
use Rattle.mdb_shared_runs.proofs.shared.share_input.Goals as goal

pub returns : goal.returns
returns g c =
    let shared = subst (λ (ss : List Step). Shared c.args.k ss c.in_ok-log.log) c.as_slice.ensures.value c.in_ok-log.ensures.shared in
    record { share = (c.in-Ok.steps.items, c.in-Ok.ensures.steps, shared, c.in_ok-text.ensures ∙ ap text_of c.entries.ensures); none = tt }
