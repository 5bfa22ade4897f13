use Rattle.std.proofs.Common.{Some, refl, sym, ◌∙◌, ap}
use Rattle.mdb_events.specs.declared.end.End.TheVariants.{Cleared}
use Rattle.mdb_pool.specs.Now.{queries}
use Rattle.mdb_pool.proofs.Turns.End.{ends-start, ends-more, ends-done, ends-smaller}
use Rattle.mdb_pool.proofs.KeptInLittle.AskedOfThoseThatStay.{first-there}
use Rattle.mdb_pool.proofs.SameAnswers.StaysHome.{stays-home}
use Rattle.mdb_pool.proofs.kept.draft.Draft.end_queue.Goals as goal

pub loop-request-init : goal.loop-request-init
loop-request-init c = record {
  last = refl;
  inner = refl;
  home = stays-home refl refl refl refl;
  notes = record { settled = refl; claimed = refl; status = refl };
  ends = λ h z. ends-start c.args.self.now c.args.moment (Cleared c.args.cause.now) c.args.facts.now.items h z;
}

pub loop-request-smaller : goal.loop-request-smaller
loop-request-smaller c = ends-smaller c.loop-request.self c.end_cleared.new.self c.in_ok-request.request (Cleared c.args.cause.now) (sym c.in-Some.ensures ∙ ap Some (sym c.in_ok-request.ensures)) c.in_ok-end_cleared.ensures.core

pub loop-request-preserved : goal.loop-request-preserved
unfolding queries
loop-request-preserved c = record {
  last = rw c.in_ok-end_cleared.ensures.core c.loop-request.invariant.last;
  inner = c.end_cleared.ensures.inner ∙ c.loop-request.invariant.inner;
  home = rw c.in_ok-end_cleared.ensures.core (record { pool = c.loop-request.invariant.home.pool; address = c.loop-request.invariant.home.address; options = c.loop-request.invariant.home.options; alone = c.loop-request.invariant.home.alone });
  notes = rw c.in_ok-end_cleared.ensures.core (record { settled = c.loop-request.invariant.notes.settled; claimed = c.loop-request.invariant.notes.claimed; status = c.loop-request.invariant.notes.status });
  ends = λ h z. ends-more c.args.self.now c.loop-request.self c.end_cleared.new.self c.loop-request.invariant.home c.args.moment (Cleared c.args.cause.now) c.args.facts.now.items c.loop-request.facts.items c.end_cleared.new.facts.items h c.in_ok-request.request z (c.loop-request.invariant.ends h z) (sym c.in-Some.ensures ∙ ap Some (sym c.in_ok-request.ensures)) c.in_ok-end_cleared.ensures.core c.in_ok-end_cleared.ensures.facts;
}

pub returns-clause-ends : goal.returns-clause-ends
returns-clause-ends c = λ h z. ends-done c.args.self.now c.loop-request.self c.args.moment (Cleared c.args.cause.now) c.args.facts.now.items c.loop-request.facts.items h (c.loop-request.invariant.ends h z) (sym c.in_default.ensures)

pub end_cleared-requires : goal.end_cleared-requires
end_cleared-requires c = record { there = first-there c.loop-request.self c.asked-requests.ensures.apart c.in_ok-request.request (sym c.in-Some.ensures ∙ ap Some (sym c.in_ok-request.ensures)) }
