use Rattle.mdb_base.specs.Document.{doc_content}
use Rattle.mdb_hello.proofs.Checks.{good_is_read, bad_is_refused}
use Rattle.mdb_hello.proofs.TagRule.{answer_tags}
use Rattle.mdb_hello.proofs.Tables.{whole}
use Rattle.mdb_hello.proofs.response.HelloCommandResponse.from_doc.Goals as goal

pub returns-in-Ok-clause-read : goal.returns-in-Ok-clause-read
returns-in-Ok-clause-read c =
    let doc = doc_content c.args.doc.now in
    whole c.read_reply.result _ (good_is_read doc c.in-Ok.ensures) c.read_reply.ensures

pub returns-in-Err-clause-read : goal.returns-in-Err-clause-read
returns-in-Err-clause-read c = bad_is_refused (doc_content c.args.doc.now) _ c.in-Err.ensures

pub returns-in-Ok-clause-tags : goal.returns-in-Ok-clause-tags
returns-in-Ok-clause-tags c = answer_tags (doc_content c.args.doc.now) c.read_reply.result c.read_reply.ensures
