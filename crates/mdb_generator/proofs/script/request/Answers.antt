use Rattle.std.proofs.Common.{◌++◌, List, ℕ, sym, ap, ◌∙◌}
use Rattle.mdb_generator.proofs.Scripts.{requested_line}
use Rattle.mdb_generator.proofs.script.request.Goals as goal

pub returns : goal.returns
returns c = c.in_ok-extend_from_slice.ensures.items ∙ ap (λ (l : List ℕ). c.args.out.now.items ++ l) (c.as_bytes.ensures.value ∙ (c.in_ok-line.ensures.ok ∙ sym (requested_line c.args.round)))
