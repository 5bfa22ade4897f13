use Rattle.std.proofs.Common.{◌∙◌, ap}
use Rattle.mdb_slots.specs.Keyed.{entry_before}
use Rattle.mdb_pool.proofs.kept.requests.Requests.previous.Goals as goal

pub returns : goal.returns
returns c = c.previous.ensures ∙ rw (← c.self.view_is) (ap (entry_before (λ q. q.number) c.args.number) c.self.invariant.0.kept_is)
