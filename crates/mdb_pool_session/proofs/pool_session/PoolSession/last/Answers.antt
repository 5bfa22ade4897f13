use Rattle.std.proofs.Common.{◌∙◌, ap}
use Rattle.std.specs.Prelude.{slice_get}
use Rattle.mdb_pool_session.specs.PoolLogs.{last_entry}
use Rattle.mdb_pool_session.proofs.Ends.{end_is}
use Rattle.mdb_pool_session.proofs.pool_session.PoolSession.last.Goals as goal

pub returns : goal.returns
returns c =
    c.first.ensures.value ∙ (ap (λ es. slice_get es 0) c.entries.ensures ∙ (end_is c.self.inside.past.value c.self.inside.last c.self.invariant.end ∙ ap (λ l. last_entry l.entries) c.self.view_is))
