use Rattle.std.proofs.Common.{ap, sym, ◌∙◌, map}
use Rattle.mdb_base.specs.Document.{named_content}
use Rattle.mdb_base.proofs.Documents.{doc_content_out}
use Rattle.mdb_hello.specs.Kinds.{named}
use Rattle.mdb_hello.proofs.field.field.Goals as goal

pub returns : goal.returns
returns c =
    c.first.ensures ∙ ap (λ fs. named c.args.name.now (map named_content fs)) c.as_slice.ensures.value ∙ ap (named c.args.name.now) (sym (doc_content_out c.args.doc.now))
