use Rattle.std.proofs.Common.{filter, find, ap, arith}
use Rattle.std.proofs.lemmas.Bool.Decides.{nat_tests}
use Rattle.std.specs.Prelude.{nat_lt, option_copied}
use Rattle.mdb_pool.specs.Kept.Places.{is_pending}
use Rattle.mdb_pool.proofs.Listed.WalksForth.{walk-shorter, walk-miss, walk-hit, walk-none}
use Rattle.mdb_pool.proofs.kept.connections.first_after.Goals as goal

pub loop-next-init : goal.loop-next-init
loop-next-init c = ap (find (λ x. nat_lt c.args.last x.id)) c.first_right-next.ensures.rest

pub loop-next-smaller : goal.loop-next-smaller
loop-next-smaller c = walk-shorter (λ x. x.id) (filter (λ x. is_pending x.place) c.args.live.now.now) c.in-Some.x.now (option_copied c.loop-next.next) _ (ap option_copied c.in-Some.is) c.next_right-next.ensures

pub loop-next-preserved : goal.loop-next-preserved
loop-next-preserved c = walk-miss (λ x. x.id) (λ x. nat_lt c.args.last x.id) (filter (λ x. is_pending x.place) c.args.live.now.now) c.in-Some.x.now (option_copied c.loop-next.next) _ (ap option_copied c.in-Some.is) c.next_right-next.ensures (grind (arith, nat_tests, c.if-last-x.false)) c.loop-next.invariant

pub returns-then-last-x : goal.returns-then-last-x
returns-then-last-x c = walk-hit (λ x. x.id) (λ x. nat_lt c.args.last x.id) (filter (λ x. is_pending x.place) c.args.live.now.now) c.in-Some.x.now (option_copied c.loop-next.next) (ap option_copied c.in-Some.is) (grind (arith, nat_tests, c.if-last-x.true)) c.loop-next.invariant

pub returns : goal.returns
returns c = walk-none (λ x. x.id) (λ x. nat_lt c.args.last x.id) (filter (λ x. is_pending x.place) c.args.live.now.now) (option_copied c.loop-next.next) (ap option_copied c.in_default.is) c.loop-next.invariant
