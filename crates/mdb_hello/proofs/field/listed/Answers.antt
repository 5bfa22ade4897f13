use Rattle.std.proofs.Common.{ap, sym, ◌∙◌, Some, map}
use Rattle.mdb_base.specs.Document.{value_content}
use Rattle.mdb_base.proofs.Documents.{contents_listed, list_content}
use Rattle.mdb_hello.specs.Kinds.{list_in}
use Rattle.mdb_hello.proofs.field.listed.Goals as goal

pub returns-in-List : goal.returns-in-List
returns-in-List c =
    let values = c.in-List.values in
    let within = ap list_in (ap value_content c.in-List.is ∙ list_content values) ∙ ap Some (contents_listed (map value_content values.items)) in
    ap (λ vs. Some (map value_content vs)) c.as_slice.ensures.value ∙ sym within
