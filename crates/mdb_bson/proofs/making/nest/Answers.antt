use Rattle.mdb_base.proofs.Documents.{nested_roll}
use Rattle.mdb_bson.proofs.making.nest.Goals as goal

pub returns : goal.returns
returns c = nested_roll c.args.fields
