use Rattle.std.proofs.Common.{◌∙◌, ap}
use Rattle.mdb_slots.specs.Keyed.{last_of}
use Rattle.mdb_pool.proofs.kept.requests.Requests.last.Goals as goal

pub returns : goal.returns
returns c = c.last.ensures ∙ rw (← c.self.view_is) (ap last_of c.self.invariant.0.kept_is)
