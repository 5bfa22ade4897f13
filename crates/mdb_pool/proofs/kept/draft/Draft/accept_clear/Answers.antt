use Rattle.std.proofs.Common.{sym, ◌∙◌, ap}
use Rattle.mdb_pool.specs.Kept.Values.{is_shut}
use Rattle.mdb_pool.proofs.Answered.Clear.{clear-accepts, shut-accepts}
use Rattle.mdb_pool.proofs.kept.draft.Draft.accept_clear.Goals as goal

pub returns-then-is_closed-clause-accepts : goal.returns-then-is_closed-clause-accepts
returns-then-is_closed-clause-accepts c = λ xs z. shut-accepts c.args.self.now c.set_last.new.self c.serve.new.self c.args.facts.now.items c.serve.new.facts.items c.args.moment c.args.pool c.args.service c.args.cause.now xs z (sym (c.is_closed.ensures ∙ ap is_shut c.status.ensures) ∙ c.if-is_closed.true) c.set_last.ensures.core c.in_ok-serve.ensures.home c.in_ok-serve.ensures.notes c.in_ok-serve.ensures.serves

pub returns-clause-accepts : goal.returns-clause-accepts
returns-clause-accepts c = λ xs z. clear-accepts c.args.self.now c.clear_open.new.self c.serve-2.new.self c.args.facts.now.items c.clear_open.new.facts.items c.serve-2.new.facts.items c.args.moment c.args.pool c.args.service c.args.cause.now xs z c.in_ok-clear_open.ensures.home (sym (c.is_closed.ensures ∙ ap is_shut c.status.ensures) ∙ c.if-is_closed.false) (c.in_ok-clear_open.ensures.moves xs z) c.in_ok-serve-2.ensures.home c.in_ok-serve-2.ensures.notes c.in_ok-serve-2.ensures.serves
