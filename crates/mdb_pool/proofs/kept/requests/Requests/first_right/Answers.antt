use Rattle.std.proofs.Common.{filter, find, ◌∙◌, ap}
use Rattle.mdb_pool.specs.declared.kept.request.Request.{Request}
use Rattle.mdb_pool.specs.Kept.Places.{is_queued}
use Rattle.mdb_pool.proofs.KeptInLittle.RequestsThatStay.{first-kept, queued-kept, queued-open}
use Rattle.mdb_pool.proofs.kept.requests.Requests.first_right.Goals as goal

pub returns-clause-value : goal.returns-clause-value
returns-clause-value c = c.first_right.ensures.value ∙ rw (← c.self.view_is) (ap (find (λ q. is_queued q.phase)) c.self.invariant.0.kept_is ∙ first-kept (λ q. is_queued q.phase) c.self.inside.parts.settled.value c.self.inside.parts.all.value queued-open)

pub returns-clause-rest : goal.returns-clause-rest
returns-clause-rest c = rw (← c.self.view_is, ← (ap (filter (λ (q : Request). is_queued q.phase)) c.self.invariant.0.kept_is ∙ queued-kept (λ q. is_queued q.phase) c.self.inside.parts.settled.value c.self.inside.parts.all.value queued-open)) c.first_right.ensures.rest
