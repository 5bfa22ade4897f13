use Rattle.std.proofs.Common.{Some, refl, sym, ◌∙◌, ap}
use Rattle.mdb_pool.specs.Now.{queries}
use Rattle.mdb_pool.proofs.Turns.ExpireMany.{expire-start, expire-more, expire-done, expire-smaller}
use Rattle.mdb_pool.proofs.KeptInLittle.AskedOfThoseThatStay.{overdue-there}
use Rattle.mdb_pool.proofs.SameAnswers.StaysHome.{stays-home}
use Rattle.mdb_pool.proofs.kept.draft.Draft.end_all_overdue.Goals as goal

pub loop-request-init : goal.loop-request-init
loop-request-init c = record {
  last = refl;
  inner = refl;
  home = stays-home refl refl refl refl;
  notes = record { settled = refl; claimed = refl; status = refl };
  expires = λ h z. expire-start c.args.self.now c.args.moment c.args.facts.now.items h z;
}

pub loop-request-smaller : goal.loop-request-smaller
loop-request-smaller c = expire-smaller c.loop-request.self c.end_overdue.new.self c.args.moment c.in_ok-request.request (sym c.in-Some.ensures ∙ ap Some (sym c.in_ok-request.ensures)) c.in_ok-end_overdue.ensures.core

pub loop-request-preserved : goal.loop-request-preserved
unfolding queries
loop-request-preserved c = record {
  last = rw c.in_ok-end_overdue.ensures.core c.loop-request.invariant.last;
  inner = c.end_overdue.ensures.inner ∙ c.loop-request.invariant.inner;
  home = rw c.in_ok-end_overdue.ensures.core (record { pool = c.loop-request.invariant.home.pool; address = c.loop-request.invariant.home.address; options = c.loop-request.invariant.home.options; alone = c.loop-request.invariant.home.alone });
  notes = rw c.in_ok-end_overdue.ensures.core (record { settled = c.loop-request.invariant.notes.settled; claimed = c.loop-request.invariant.notes.claimed; status = c.loop-request.invariant.notes.status });
  expires = λ h z. expire-more c.args.self.now c.loop-request.self c.loop-request.invariant.home c.args.moment c.args.facts.now.items c.loop-request.facts.items h (c.loop-request.invariant.expires h z) c.end_overdue.new.self c.end_overdue.new.facts.items c.in_ok-request.request (sym c.in-Some.ensures ∙ ap Some (sym c.in_ok-request.ensures)) c.in_ok-end_overdue.ensures.core c.in_ok-end_overdue.ensures.facts;
}

pub returns-clause-expires : goal.returns-clause-expires
returns-clause-expires c = λ h z. expire-done c.args.self.now c.loop-request.self c.loop-request.invariant.home c.args.moment c.args.facts.now.items c.loop-request.facts.items h (c.loop-request.invariant.expires h z) (sym c.in_default.ensures)

pub end_overdue-requires : goal.end_overdue-requires
end_overdue-requires c = record { there = overdue-there c.loop-request.self c.asked-requests.ensures.apart c.args.moment c.in_ok-request.request (sym c.in-Some.ensures ∙ ap Some (sym c.in_ok-request.ensures)) }
