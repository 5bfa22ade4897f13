use Rattle.std.proofs.Common.{◌&&◌, not, filter, find, sym, ◌∙◌, ap}
use Rattle.std.specs.Prelude.{option_copied}
use Rattle.mdb_pool.specs.Kept.Places.{is_queued}
use Rattle.mdb_pool.specs.Kept.Values.{overdue_since}
use Rattle.mdb_pool.proofs.Listed.Beside.{find_among}
use Rattle.mdb_pool.proofs.Listed.WalksForth.{walk-shorter, walk-miss, walk-hit, walk-none}
use Rattle.mdb_pool.proofs.kept.body.Body.first_overdue.Goals as goal

pub loop-next-init : goal.loop-next-init
loop-next-init c = ap (find (λ q. not q.warm && overdue_since c.args.self.now.options.max_wait c.args.moment q.asked_at)) c.first_right-next.ensures.rest

pub loop-next-smaller : goal.loop-next-smaller
loop-next-smaller c = walk-shorter (λ q. q.number) (filter (λ q. is_queued q.phase) c.args.self.now.requests.now) c.in-Some.q.now (option_copied c.loop-next.next) _ (ap option_copied c.in-Some.is) c.next_right-next.ensures

pub loop-next-preserved : goal.loop-next-preserved
loop-next-preserved c = walk-miss (λ q. q.number) (λ q. not q.warm && overdue_since c.args.self.now.options.max_wait c.args.moment q.asked_at) (filter (λ q. is_queued q.phase) c.args.self.now.requests.now) c.in-Some.q.now (option_copied c.loop-next.next) _ (ap option_copied c.in-Some.is) c.next_right-next.ensures (sym c.is_overdue.ensures ∙ c.if-is_overdue.false) c.loop-next.invariant

pub returns-then-is_overdue : goal.returns-then-is_overdue
returns-then-is_overdue c = walk-hit (λ q. q.number) (λ q. not q.warm && overdue_since c.args.self.now.options.max_wait c.args.moment q.asked_at) (filter (λ q. is_queued q.phase) c.args.self.now.requests.now) c.in-Some.q.now (option_copied c.loop-next.next) (ap option_copied c.in-Some.is) (sym c.is_overdue.ensures ∙ c.if-is_overdue.true) c.loop-next.invariant ∙ sym (find_among (λ q. is_queued q.phase) (λ q. not q.warm && overdue_since c.args.self.now.options.max_wait c.args.moment q.asked_at) c.args.self.now.requests.now)

pub returns : goal.returns
returns c = walk-none (λ q. q.number) (λ q. not q.warm && overdue_since c.args.self.now.options.max_wait c.args.moment q.asked_at) (filter (λ q. is_queued q.phase) c.args.self.now.requests.now) (option_copied c.loop-next.next) (ap option_copied c.in_default.is) c.loop-next.invariant ∙ sym (find_among (λ q. is_queued q.phase) (λ q. not q.warm && overdue_since c.args.self.now.options.max_wait c.args.moment q.asked_at) c.args.self.now.requests.now)
