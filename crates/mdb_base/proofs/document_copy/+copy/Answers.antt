use Rattle.std.proofs.Common.{sym, ◌∙◌}
use Rattle.mdb_base.proofs.Documents.{doc_content_out, doc_content_roll}
use Rattle.mdb_base.proofs.document_copy.+copy.Goals as goal

pub copy_doc-returns : goal.copy_doc-returns
copy_doc-returns t c =
    doc_content_roll c.in_ok-fields.fields ∙ c.in_ok-fields.ensures ∙ sym (doc_content_out c.args.doc.now)
