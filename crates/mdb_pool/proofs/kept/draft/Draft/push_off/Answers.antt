use Rattle.std.proofs.Common.{◌++◌, sym, ◌∙◌, ap}
use Rattle.mdb_events.specs.declared.end.End.TheVariants.{Closed}
use Rattle.mdb_pool.specs.Acts.Changes.{over_facts}
use Rattle.mdb_pool.proofs.Turns.EndUnserved.{off-one, off-none}
use Rattle.mdb_pool.proofs.kept.draft.Draft.push_off.Goals as goal

pub returns-then-not-is_unserved : goal.returns-then-not-is_unserved
returns-then-not-is_unserved c = off-none c.args.self.now c.args.moment c.args.facts.now.items c.args.request.now (sym c.is_unserved.ensures ∙ c.if-not-is_unserved.true)

pub returns : goal.returns
returns c = c.in_ok-push_end.ensures ∙ ap (λ k. c.args.facts.now.items ++ k) (ap (λ w. over_facts c.args.self.now c.args.request.now.number c.args.request.now.warm w Closed) c.saturating_sub-waited.ensures ∙ off-one c.args.self.now c.args.moment c.args.request.now (sym c.is_unserved.ensures ∙ c.if-not-is_unserved.false))
