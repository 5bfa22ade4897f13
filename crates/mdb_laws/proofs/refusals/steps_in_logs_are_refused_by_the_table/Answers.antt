use Rattle.mdb_laws.proofs.WholeHeadline.{log-refuses}
use Rattle.mdb_laws.proofs.refusals.steps_in_logs_are_refused_by_the_table.Goals as goal

pub returns : goal.returns
returns c = log-refuses
