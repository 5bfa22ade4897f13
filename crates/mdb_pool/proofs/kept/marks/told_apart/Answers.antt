use Rattle.std.proofs.Common.{is_some, find, sym, ◌∙◌, ap}
use Rattle.std.specs.Prelude.{option_copied}
use Rattle.mdb_pool.specs.Kept.Clearing.{parts_at}
use Rattle.mdb_pool.proofs.Listed.WalksForth.{walk-shorter, walk-miss, walk-hit, walk-none}
use Rattle.mdb_pool.proofs.kept.marks.told_apart.Goals as goal

pub loop-next-init : goal.loop-next-init
loop-next-init c = ap (find (λ x. parts_at c.args.a c.args.b x.id)) c.first-next.ensures.rest

pub loop-next-smaller : goal.loop-next-smaller
loop-next-smaller c = walk-shorter (λ x. x.id) c.args.live.now.now c.in-Some.x.now (option_copied c.loop-next.next) _ (ap option_copied c.in-Some.is) c.next-next.ensures.rest

pub loop-next-preserved : goal.loop-next-preserved
loop-next-preserved c = walk-miss (λ x. x.id) (λ x. parts_at c.args.a c.args.b x.id) c.args.live.now.now c.in-Some.x.now (option_copied c.loop-next.next) _ (ap option_copied c.in-Some.is) c.next-next.ensures.rest (sym c.parts.ensures ∙ c.if-parts.false) c.loop-next.invariant

pub returns-then-parts : goal.returns-then-parts
returns-then-parts c = ap is_some (walk-hit (λ x. x.id) (λ x. parts_at c.args.a c.args.b x.id) c.args.live.now.now c.in-Some.x.now (option_copied c.loop-next.next) (ap option_copied c.in-Some.is) (sym c.parts.ensures ∙ c.if-parts.true) c.loop-next.invariant)

pub returns : goal.returns
returns c = ap is_some (walk-none (λ x. x.id) (λ x. parts_at c.args.a c.args.b x.id) c.args.live.now.now (option_copied c.loop-next.next) (ap option_copied c.in_default.is) c.loop-next.invariant)
