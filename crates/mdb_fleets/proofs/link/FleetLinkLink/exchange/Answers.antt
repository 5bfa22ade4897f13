use Rattle.std.proofs.Common.{refl, ap, ◌∙◌}
use Rattle.mdb_base.specs.Document.{doc_content}
use Rattle.mdb_hello.specs.Reply.{written}
use Rattle.mdb_fleets.specs.FleetLinks.{link_reply}
use Rattle.mdb_fleets.proofs.GivenBack.{given-back}
use Rattle.mdb_fleets.proofs.link.FleetLinkLink.exchange.Goals as goal

pub returns-in-Ok-to_doc-clause-answer : goal.returns-in-Ok-to_doc-clause-answer
returns-in-Ok-to_doc-clause-answer c = (refl, c.in-Ok-to_doc.ensures.written ∙ ap written c.in-Ok.ensures)

pub returns-in-Ok-to_doc-clause-exchanged : goal.returns-in-Ok-to_doc-clause-exchanged
returns-in-Ok-to_doc-clause-exchanged c =
    (refl, given-back c.in-Ok.reply (link_reply c.args.self.now) (doc_content c.in-Ok-to_doc.doc) c.in-Ok.ensures refl c.in-Ok-to_doc.ensures.written c.in-Ok-to_doc.ensures.back)
