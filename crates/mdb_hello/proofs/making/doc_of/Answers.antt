use Rattle.mdb_base.proofs.Documents.{doc_content_roll}
use Rattle.mdb_hello.proofs.making.doc_of.Goals as goal

pub returns : goal.returns
returns c = doc_content_roll c.args.fields
