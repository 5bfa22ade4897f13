use Rattle.mdb_laws.proofs.OfRefusals.{refuses}
use Rattle.mdb_laws.proofs.refusals.steps_are_refused_by_the_table.Goals as goal

pub returns : goal.returns
returns c = refuses
