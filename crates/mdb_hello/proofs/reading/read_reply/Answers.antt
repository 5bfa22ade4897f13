use Rattle.std.proofs.Common.{sym, ap, ◌∙◌, Ok}
use Rattle.mdb_base.specs.Document.{doc_content}
use Rattle.mdb_hello.specs.Groups.{reply_of_halves, read_front, read_back}
use Rattle.mdb_hello.specs.Table.{on_ok, beside}
use Rattle.mdb_hello.proofs.Tables.{read_in_halves, handed_on}
use Rattle.mdb_hello.proofs.reading.read_reply.Goals as goal

pub returns-in-Ok : goal.returns-in-Ok
returns-in-Ok c = read_in_halves (doc_content c.args.doc.now) ∙ ap (on_ok reply_of_halves) c.in-Ok.ensures ∙ ap Ok (sym c.reply_of.ensures)

pub returns-in-Err : goal.returns-in-Err
returns-in-Err c =
    let doc = doc_content c.args.doc.now in
    handed_on reply_of_halves c.in-Err.e (beside (read_front doc) (read_back doc)) _ (read_in_halves doc) c.in-Err.ensures
