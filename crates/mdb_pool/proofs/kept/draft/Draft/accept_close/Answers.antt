use Rattle.std.proofs.Common.{sym, ◌∙◌, ap}
use Rattle.mdb_pool.specs.Kept.Values.{is_shut}
use Rattle.mdb_pool.proofs.Answered.Close.{close-accepts, closed-accepts}
use Rattle.mdb_pool.proofs.kept.draft.Draft.accept_close.Goals as goal

pub returns-then-is_closed-clause-accepts : goal.returns-then-is_closed-clause-accepts
returns-then-is_closed-clause-accepts c = λ xs z. closed-accepts c.args.self.now c.set_last.new.self c.serve.new.self c.args.facts.now.items c.serve.new.facts.items c.args.moment c.args.pool xs z (sym (c.is_closed.ensures ∙ ap is_shut c.status.ensures) ∙ c.if-is_closed.true) c.set_last.ensures.core c.in_ok-serve.ensures.home c.in_ok-serve.ensures.notes c.in_ok-serve.ensures.serves

pub returns-clause-accepts : goal.returns-clause-accepts
returns-clause-accepts c = λ xs z. close-accepts c.args.self.now c.close_open.new.self c.serve-2.new.self c.args.facts.now.items c.close_open.new.facts.items c.serve-2.new.facts.items c.args.moment c.args.pool xs z (sym (c.is_closed.ensures ∙ ap is_shut c.status.ensures) ∙ c.if-is_closed.false) (c.in_ok-close_open.ensures.core xs z) (c.in_ok-close_open.ensures.facts xs z) c.in_ok-serve-2.ensures.home c.in_ok-serve-2.ensures.notes c.in_ok-serve-2.ensures.serves

pub returns-clause-home : goal.returns-clause-home
returns-clause-home c = record {
  pool = c.in_ok-serve-2.ensures.home.pool ∙ c.in_ok-close_open.ensures.home.pool;
  address = c.in_ok-serve-2.ensures.home.address ∙ c.in_ok-close_open.ensures.home.address;
  options = c.in_ok-serve-2.ensures.home.options ∙ c.in_ok-close_open.ensures.home.options;
  alone = c.in_ok-serve-2.ensures.home.alone ∙ c.in_ok-close_open.ensures.home.alone;
}
