use Rattle.std.proofs.Common.{rules, map, not, refl, sym, ap, ◌∙◌}
use Rattle.std.proofs.lemmas.Fn.{filter_same}
use Rattle.mdb_base.specs.Document.{Field, named_content}
use Rattle.mdb_base.specs.declared.document.Doc.{out-Doc}
use Rattle.mdb_base.proofs.Documents.{doc_content_out, doc_content_roll}
use Rattle.mdb_monitor.specs.RawReply.{is_authentication, without_authentication}
use Rattle.mdb_monitor.proofs.Told.{left_named}
use Rattle.mdb_monitor.proofs.raw_reply.without_authentication.Goals as goal

pub returns : goal.returns
returns c =
    c.new.ensures
    ∙ doc_content_roll c.retain.new.self
    ∙ ap (map named_content) (filter_same _ (λ f. not (is_authentication (named_content f))) _ (λ x b f' k. search rules) _ _ c.retain.ensures.filtered)
    ∙ left_named named_content (λ f. not (is_authentication (named_content f))) (λ (f : Field). not (is_authentication f)) (λ x. refl) (out-Doc c.in_ok-doc.doc).fields.items
    ∙ ap without_authentication (sym (doc_content_out c.in_ok-doc.doc) ∙ c.in_ok-doc.ensures.cases ∙ c.as_doc.ensures)
