use Rattle.std.proofs.Common.{◌++◌, List, ℕ, sym, ap, ◌∙◌}
use Rattle.mdb_generator.proofs.Scripts.{established_line}
use Rattle.mdb_generator.proofs.script.establish.Goals as goal

pub returns : goal.returns
returns c = c.in_ok-extend_from_slice.ensures.items ∙ ap (λ (l : List ℕ). c.args.out.now.items ++ l) (c.as_bytes.ensures.value ∙ (c.in_ok-line.ensures.ok ∙ sym (established_line c.args.round c.args.id)))
