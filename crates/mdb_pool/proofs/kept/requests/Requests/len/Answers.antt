use Rattle.std.proofs.Common.{◌∙◌, ap, length}
use Rattle.mdb_pool.proofs.kept.requests.Requests.len.Goals as goal

pub returns-clause-value : goal.returns-clause-value
returns-clause-value c = c.len.ensures.value ∙ rw (← c.self.view_is) (ap length c.self.invariant.0.kept_is)

pub returns-clause-apart : goal.returns-clause-apart
returns-clause-apart c = rw (← c.self.view_is) c.self.invariant.0.single
