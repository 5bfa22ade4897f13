use Rattle.std.proofs.Common.{ap, sym, ◌∙◌, [], map}
use Rattle.mdb_base.specs.Document.{named_content}
use Rattle.mdb_base.proofs.Documents.{doc_content_out}
use Rattle.mdb_hello.specs.Kinds.{put_tags}
use Rattle.mdb_hello.proofs.tag_values.tags_of.Goals as goal

pub returns : goal.returns
returns c =
    let same = ap (λ fs. put_tags [] (map named_content fs)) c.as_slice.ensures.value ∙ ap (put_tags []) (sym (doc_content_out c.args.doc.now)) in
    rw (← same) c.tags_of_fields.ensures
