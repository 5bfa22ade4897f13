use Rattle.mdb_audit.proofs.OneVerdict.{one-verdict}
use Rattle.mdb_audit.proofs.laws.texts_have_one_verdict.Goals as goal

pub returns : goal.returns
returns c = one-verdict
