use Rattle.std.proofs.Common.{◌++◌, sym, ◌∙◌, ap, append-nil}
use Rattle.mdb_slots.specs.Keyed.{rest_of}
use Rattle.mdb_pool.specs.Acts.Changes.{shut_facts, available_ones}
use Rattle.mdb_pool.proofs.Listed.WalksForth.{walk-shorter}
use Rattle.mdb_pool.proofs.Turns.EndUnserved.{shut-on}
use Rattle.mdb_pool.proofs.kept.draft.Draft.push_available.Goals as goal

pub loop-next-init : goal.loop-next-init
loop-next-init c = ap (λ xs. c.args.facts.now.items ++ shut_facts c.args.self.now xs) c.first_available-next.ensures

pub loop-next-smaller : goal.loop-next-smaller
loop-next-smaller c = walk-shorter (λ x. x.id) (available_ones c.args.self.now) c.in-Some.x c.loop-next.next c.next_available-next.result c.in-Some.is c.next_available-next.ensures

pub loop-next-preserved : goal.loop-next-preserved
loop-next-preserved c = shut-on c.args.self.now (available_ones c.args.self.now) c.loop-next.facts.items c.push_close.new.facts.items c.in-Some.x c.loop-next.next c.next_available-next.result c.in-Some.is c.next_available-next.ensures c.in_ok-push_close.ensures ∙ c.loop-next.invariant

pub returns : goal.returns
returns c = sym (append-nil c.loop-next.facts.items) ∙ (sym (ap (λ o. c.loop-next.facts.items ++ shut_facts c.args.self.now (rest_of (λ x. x.id) o (available_ones c.args.self.now))) c.in_default.is) ∙ c.loop-next.invariant)
