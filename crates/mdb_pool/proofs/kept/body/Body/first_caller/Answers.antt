use Rattle.std.proofs.Common.{not, List, filter, find, sym, ◌∙◌, ap}
use Rattle.std.specs.Prelude.{option_copied}
use Rattle.mdb_pool.specs.Kept.Places.{is_queued}
use Rattle.mdb_pool.specs.declared.kept.request.Request.{Request}
use Rattle.mdb_pool.proofs.Listed.Beside.{find_among, none_else}
use Rattle.mdb_pool.proofs.Listed.WalksForth.{walk-shorter, walk-miss, walk-hit, walk-none}
use Rattle.mdb_pool.proofs.kept.body.Body.first_caller.Goals as goal

pub returns-then-warm_count-queued_count : goal.returns-then-warm_count-queued_count
returns-then-warm_count-queued_count c =
    let rs : List Request = c.args.self.now.requests.now in
    sym (none_else (λ q. is_queued q.phase) (λ q. q.warm) rs (sym c.warm_count.ensures ∙ (c.if-warm_count-queued_count.true ∙ c.queued_count.ensures)))

pub loop-next-init : goal.loop-next-init
loop-next-init c = ap (find (λ q. not q.warm)) c.first_right-next.ensures.rest

pub loop-next-smaller : goal.loop-next-smaller
loop-next-smaller c = walk-shorter (λ q. q.number) (filter (λ q. is_queued q.phase) c.args.self.now.requests.now) c.in-Some.q.now (option_copied c.loop-next.next) _ (ap option_copied c.in-Some.is) c.next_right-next.ensures

pub loop-next-preserved : goal.loop-next-preserved
loop-next-preserved c = walk-miss (λ q. q.number) (λ q. not q.warm) (filter (λ q. is_queued q.phase) c.args.self.now.requests.now) c.in-Some.q.now (option_copied c.loop-next.next) _ (ap option_copied c.in-Some.is) c.next_right-next.ensures (ap not c.if-not-q.false) c.loop-next.invariant

pub returns-then-not-q : goal.returns-then-not-q
returns-then-not-q c = walk-hit (λ q. q.number) (λ q. not q.warm) (filter (λ q. is_queued q.phase) c.args.self.now.requests.now) c.in-Some.q.now (option_copied c.loop-next.next) (ap option_copied c.in-Some.is) (ap not c.if-not-q.true) c.loop-next.invariant ∙ sym (find_among (λ q. is_queued q.phase) (λ q. not q.warm) c.args.self.now.requests.now)

pub returns : goal.returns
returns c = walk-none (λ q. q.number) (λ q. not q.warm) (filter (λ q. is_queued q.phase) c.args.self.now.requests.now) (option_copied c.loop-next.next) (ap option_copied c.in_default.is) c.loop-next.invariant ∙ sym (find_among (λ q. is_queued q.phase) (λ q. not q.warm) c.args.self.now.requests.now)
