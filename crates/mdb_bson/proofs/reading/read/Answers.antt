use Rattle.std.proofs.Common.{ap, sym, ◌∙◌, Ok}
use Rattle.mdb_base.proofs.Documents.{doc_content_roll}
use Rattle.mdb_bson.specs.Bson.{placed}
use Rattle.mdb_bson.proofs.reading.read.Goals as goal

pub returns-in-Ok : goal.returns-in-Ok
returns-in-Ok c = ap (placed c.args.bytes.now) c.in-Ok.ensures ∙ ap Ok (sym (doc_content_roll c.in-Ok.fields))
