use Rattle.mdb_base.proofs.Documents.{list_content}
use Rattle.mdb_hello.proofs.making.list_of.Goals as goal

pub returns : goal.returns
returns c = list_content c.args.values
