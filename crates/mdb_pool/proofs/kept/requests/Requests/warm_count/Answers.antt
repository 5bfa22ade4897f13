use Rattle.std.proofs.Common.{◌&&◌, None, filter, length, sym, ◌∙◌, ap}
use Rattle.std.proofs.lemmas.List.Sums.{length-filter}
use Rattle.mdb_pool.specs.declared.kept.request.Request.{Request}
use Rattle.mdb_pool.specs.Kept.Places.{is_queued}
use Rattle.mdb_pool.proofs.KeptInLittle.RequestsThatStay.{queued-kept, warm-open}
use Rattle.mdb_pool.proofs.Listed.Beside.{listed_length}
use Rattle.mdb_pool.proofs.kept.requests.Requests.warm_count.Goals as goal

pub returns : goal.returns
returns c =
    let kept = c.self.inside.parts.kept.now in
    let same = ap (filter (λ (q : Request). is_queued q.phase && q.warm)) c.self.invariant.0.kept_is ∙ queued-kept (λ q. is_queued q.phase && q.warm) c.self.inside.parts.settled.value c.self.inside.parts.all.value warm-open in
    c.len.ensures ∙ (ap length c.left.ensures ∙ (listed_length (λ q. q.number) (λ q. None) (λ q. q.asked_at) (λ q. is_queued q.phase && q.warm) kept ∙ (sym (length-filter (λ q. is_queued q.phase && q.warm) kept) ∙ (ap length same ∙ rw (← c.self.view_is) (length-filter (λ q. is_queued q.phase && q.warm) c.self.inside.parts.all.value)))))
