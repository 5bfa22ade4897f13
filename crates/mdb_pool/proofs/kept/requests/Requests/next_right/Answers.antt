use Rattle.std.proofs.Common.{filter, ◌∙◌, ap}
use Rattle.mdb_pool.specs.declared.kept.request.Request.{Request}
use Rattle.mdb_pool.specs.Kept.Places.{is_queued}
use Rattle.mdb_pool.proofs.KeptInLittle.RequestsThatStay.{queued-kept, queued-open}
use Rattle.mdb_pool.proofs.kept.requests.Requests.next_right.Goals as goal

pub returns : goal.returns
returns c = rw (← c.self.view_is, ← (ap (filter (λ (q : Request). is_queued q.phase)) c.self.invariant.0.kept_is ∙ queued-kept (λ q. is_queued q.phase) c.self.inside.parts.settled.value c.self.inside.parts.all.value queued-open)) c.next_right.ensures
