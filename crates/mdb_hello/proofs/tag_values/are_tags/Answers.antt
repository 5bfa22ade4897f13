use Rattle.std.proofs.Common.{ap, sym, ◌∙◌, [], map, is_some}
use Rattle.mdb_base.specs.Document.{named_content}
use Rattle.mdb_base.proofs.Documents.{doc_content_out}
use Rattle.mdb_hello.specs.Kinds.{put_tags}
use Rattle.mdb_hello.proofs.tag_values.are_tags.Goals as goal

pub returns : goal.returns
returns c =
    c.hold_texts.ensures ∙ ap (λ fs. is_some (put_tags [] (map named_content fs))) c.as_slice.ensures.value
    ∙ ap (λ fs. is_some (put_tags [] fs)) (sym (doc_content_out c.args.doc.now))
