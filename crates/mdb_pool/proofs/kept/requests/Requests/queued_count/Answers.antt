use Rattle.std.proofs.Common.{filter, length, sym, ◌∙◌, ap}
use Rattle.std.proofs.lemmas.List.Sums.{length-filter}
use Rattle.mdb_pool.specs.declared.kept.request.Request.{Request}
use Rattle.mdb_pool.specs.Kept.Places.{is_queued}
use Rattle.mdb_pool.proofs.KeptInLittle.RequestsThatStay.{queued-kept, queued-open}
use Rattle.mdb_pool.proofs.Listed.Beside.{numbered_length}
use Rattle.mdb_pool.proofs.kept.requests.Requests.queued_count.Goals as goal

pub returns : goal.returns
returns c =
    let kept = c.self.inside.parts.kept.now in
    let same = ap (filter (λ (q : Request). is_queued q.phase)) c.self.invariant.0.kept_is ∙ queued-kept (λ q. is_queued q.phase) c.self.inside.parts.settled.value c.self.inside.parts.all.value queued-open in
    c.len.ensures ∙ (ap length c.right.ensures ∙ (numbered_length (λ q. q.number) (λ q. is_queued q.phase) kept ∙ (sym (length-filter (λ q. is_queued q.phase) kept) ∙ (ap length same ∙ rw (← c.self.view_is) (length-filter (λ q. is_queued q.phase) c.self.inside.parts.all.value)))))
