use Rattle.std.proofs.Common.{List, subst, sym}
use Rattle.mdb_events.specs.declared.fact.Fact.{Fact}
use Rattle.mdb_log.specs.declared.reply.Reply.{Reply}
use Rattle.mdb_pool.specs.Now.{queries}
use Rattle.mdb_pool.specs.Planning.{Does, DoesLogged}
use Rattle.mdb_pool.proofs.kept.draft.Draft.enter_step.Goals as goal

pub returns-clause-does : goal.returns-clause-does
unfolding queries
returns-clause-does c =
    let s = c.args.self.now in let t = c.accept.new.self in let step = c.args.step.now in let reply = c.in_ok-reply.reply in let facts = c.accept.new.facts.items in
    subst (λ (r : Reply). DoesLogged s t c.args.log.now c.answer.new.self c.args.seat step r) (sym c.in_ok-told.ensures.reply) (
      facts,
      record {
        home = c.in_ok-reply.ensures.home;
        last = c.in_ok-reply.ensures.last;
        does = subst (λ (before : List Fact). Does s t before facts step reply) c.in_ok-facts.ensures.items c.in_ok-reply.ensures.does;
      },
      c.in_ok-told.ensures.entry,
    )
