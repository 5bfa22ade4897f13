use Rattle.std.proofs.Common.{ap, sym, ◌∙◌, Some}
use Rattle.mdb_base.specs.Document.{value_content, doc_content}
use Rattle.mdb_base.proofs.Documents.{fields_listed, nested_content}
use Rattle.mdb_hello.specs.Kinds.{document_in}
use Rattle.mdb_hello.proofs.field.nested.Goals as goal

pub returns-in-Nested : goal.returns-in-Nested
returns-in-Nested c =
    let doc = c.in-Nested.doc in
    sym (ap document_in (ap value_content c.in-Nested.is ∙ nested_content doc) ∙ ap Some (fields_listed (doc_content doc)))
