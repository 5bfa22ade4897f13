use Rattle.std.proofs.Common.{sym, ◌∙◌, subst, None, ◌≡◌, ap}
use Rattle.mdb_pool.specs.Kept.Values.{is_ready_now}
use Rattle.mdb_pool.specs.Acts.Doing.{Clears}
use Rattle.mdb_pool.proofs.Answered.Clear.{clears-named, clears-paused}
use Rattle.mdb_pool_rules.proofs.ClearFacts.{no-service}
use Rattle.mdb_pool.proofs.kept.draft.Draft.clear_open.Goals as goal

pub returns-then-is_some-clause-moves : goal.returns-then-is_some-clause-moves
returns-then-is_some-clause-moves c = λ xs z. clears-named c.args.self.now xs z c.args.moment c.args.cause.now c.raise.new.self c.args.facts.now.items c.raise.new.facts.items c.push_cleared.new.facts.items c.args.service (sym c.is_some.ensures ∙ c.if-is_some.true) c.requires c.in_ok-raise.ensures.core c.in_ok-raise.ensures.facts c.in_ok-push_cleared.ensures

pub returns-then-is_ready-clause-moves : goal.returns-then-is_ready-clause-moves
returns-then-is_ready-clause-moves c =
    let none : c.args.service ≡ None = no-service c.args.service (sym c.is_some.ensures ∙ c.if-is_some.false) in
    λ xs z. subst (λ k. Clears c.args.self.now c.clear_ready.new.self c.args.moment k c.args.cause.now c.args.facts.now.items c.clear_ready.new.facts.items xs) (sym none) (c.in_ok-clear_ready.ensures.moves xs z)

pub returns-clause-moves : goal.returns-clause-moves
returns-clause-moves c =
    let none : c.args.service ≡ None = no-service c.args.service (sym c.is_some.ensures ∙ c.if-is_some.false) in
    λ xs z. subst (λ k. Clears c.args.self.now c.raise-2.new.self c.args.moment k c.args.cause.now c.args.facts.now.items c.raise-2.new.facts.items xs) (sym none) (clears-paused c.args.self.now xs z c.args.moment c.args.cause.now c.raise-2.new.self c.args.facts.now.items c.raise-2.new.facts.items c.requires (sym (c.is_ready.ensures ∙ ap is_ready_now c.status.ensures) ∙ c.if-is_ready.false) c.in_ok-raise-2.ensures.core c.in_ok-raise-2.ensures.facts)
