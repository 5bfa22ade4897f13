use Rattle.std.proofs.Common.{Some, refl, sym, ◌∙◌, ap}
use Rattle.mdb_pool.specs.Now.{queries}
use Rattle.mdb_pool.proofs.Turns.Serve.{starts, ends-full, ends-empty, serves-nothing, turn-meet-to, turn-create-to, turn-warm-to, smaller-meet, smaller-create, smaller-warm, meeting-keeps, warming-keeps}
use Rattle.mdb_pool.specs.Kept.Values.{is_ready_now}
use Rattle.mdb_pool.proofs.Follows.Stale.{ready-status}
use Rattle.mdb_pool.proofs.KeptInLittle.AskedOfThoseThatStay.{candidate-there}
use Rattle.mdb_pool.proofs.SameAnswers.StaysHome.{stays-home}
use Rattle.mdb_pool.proofs.kept.draft.Draft.serve.Goals as goal

pub loop-request-init : goal.loop-request-init
loop-request-init c = record {
  last = refl;
  inner = refl;
  home = stays-home refl refl refl refl;
  notes = record { settled = refl; claimed = refl; status = refl };
  ready = sym (c.is_ready.ensures ∙ ap is_ready_now c.status.ensures) ∙ c.if-not-is_ready.false;
  serves = λ h z. starts c.args.self.now c.args.moment c.args.facts.now.items h z;
}

pub loop-request-smaller-in-Continue-branch-3 : goal.loop-request-smaller-in-Continue-branch-3
loop-request-smaller-in-Continue-branch-3 c = smaller-meet c.loop-request.self c.meet.new.self c.args.moment c.in_ok-request.request c.in-Some-last_available.connection (sym c.in-Some.ensures ∙ ap Some (sym c.in_ok-request.ensures)) (sym c.in-Some-last_available.ensures) c.in_ok-meet.ensures.core

pub loop-request-preserved-in-Continue-branch-3 : goal.loop-request-preserved-in-Continue-branch-3
loop-request-preserved-in-Continue-branch-3 c =
    let kept = meeting-keeps c.loop-request.self c.meet.new.self c.args.moment c.in-Some-last_available.connection c.in_ok-request.request c.in_ok-meet.ensures.core in
    record {
      last = kept.0 ∙ c.loop-request.invariant.last;
      inner = c.meet.ensures.inner ∙ c.loop-request.invariant.inner;
      home = record { pool = kept.1.pool ∙ c.loop-request.invariant.home.pool; address = kept.1.address ∙ c.loop-request.invariant.home.address; options = kept.1.options ∙ c.loop-request.invariant.home.options; alone = kept.1.alone ∙ c.loop-request.invariant.home.alone };
      notes = record { settled = kept.2.settled ∙ c.loop-request.invariant.notes.settled; claimed = kept.2.claimed ∙ c.loop-request.invariant.notes.claimed; status = kept.2.status ∙ c.loop-request.invariant.notes.status };
      ready = ap is_ready_now kept.2.status ∙ c.loop-request.invariant.ready;
      serves = λ h z. turn-meet-to c.args.self.now c.loop-request.self c.meet.new.self c.loop-request.invariant.home c.args.moment c.args.facts.now.items c.loop-request.facts.items c.meet.new.facts.items h c.in_ok-request.request c.in-Some-last_available.connection (c.loop-request.invariant.serves h z) c.loop-request.invariant.ready (sym c.in-Some.ensures ∙ ap Some (sym c.in_ok-request.ensures)) c.if-request.false (sym c.in-Some-last_available.ensures) c.in_ok-meet.ensures.core c.in_ok-meet.ensures.facts;
    }

pub loop-request-smaller : goal.loop-request-smaller
loop-request-smaller c = smaller-create c.loop-request.self c.create.new.self c.args.moment c.in_ok-request.request (sym c.in-Some.ensures ∙ ap Some (sym c.in_ok-request.ensures)) c.in_ok-create.ensures.core

pub loop-request-preserved : goal.loop-request-preserved
unfolding queries
loop-request-preserved c = record {
  last = rw c.in_ok-create.ensures.core c.loop-request.invariant.last;
  inner = c.create.ensures.inner ∙ c.loop-request.invariant.inner;
  home = rw c.in_ok-create.ensures.core (record { pool = c.loop-request.invariant.home.pool; address = c.loop-request.invariant.home.address; options = c.loop-request.invariant.home.options; alone = c.loop-request.invariant.home.alone });
  notes = rw c.in_ok-create.ensures.core (record { settled = c.loop-request.invariant.notes.settled; claimed = c.loop-request.invariant.notes.claimed; status = c.loop-request.invariant.notes.status });
  ready = rw c.in_ok-create.ensures.core c.loop-request.invariant.ready;
  serves = λ h z. turn-create-to c.args.self.now c.loop-request.self c.create.new.self c.loop-request.invariant.home c.args.moment c.args.facts.now.items c.loop-request.facts.items c.create.new.facts.items h c.in_ok-request.request (c.loop-request.invariant.serves h z) c.loop-request.invariant.ready (sym c.in-Some.ensures ∙ ap Some (sym c.in_ok-request.ensures)) c.if-request.false (sym c.in_default-last_available.ensures) (sym c.has_room.ensures ∙ c.if-has_room.true) c.in_ok-create.ensures.core c.in_ok-create.ensures.facts;
}

pub returns-else-has_room-clause-serves : goal.returns-else-has_room-clause-serves
returns-else-has_room-clause-serves c = λ h z. ends-full c.args.self.now c.loop-request.self c.loop-request.invariant.home c.args.moment c.args.facts.now.items c.loop-request.facts.items h (c.loop-request.invariant.serves h z) c.in_ok-request.request (ready-status c.loop-request.self.kept.status c.loop-request.invariant.ready) (sym c.in-Some.ensures ∙ ap Some (sym c.in_ok-request.ensures)) c.if-request.false (sym c.in_default-last_available.ensures) (sym c.has_room.ensures ∙ c.if-has_room.false)

pub returns-in_default-clause-serves : goal.returns-in_default-clause-serves
returns-in_default-clause-serves c = λ h z. ends-empty c.args.self.now c.loop-request.self c.loop-request.invariant.home c.args.moment c.args.facts.now.items c.loop-request.facts.items h (c.loop-request.invariant.serves h z) (ready-status c.loop-request.self.kept.status c.loop-request.invariant.ready) (sym c.in_default.ensures)

pub returns-then-not-is_ready-clause-serves : goal.returns-then-not-is_ready-clause-serves
returns-then-not-is_ready-clause-serves c = λ h z. serves-nothing c.args.self.now c.args.moment c.args.facts.now.items h z (sym (c.is_ready.ensures ∙ ap is_ready_now c.status.ensures) ∙ c.if-not-is_ready.true)

pub loop-request-smaller-in-Continue-branch-2 : goal.loop-request-smaller-in-Continue-branch-2
loop-request-smaller-in-Continue-branch-2 c = smaller-warm c.loop-request.self c.warm_up.new.self c.args.moment c.in_ok-request.request (sym c.in-Some.ensures ∙ ap Some (sym c.in_ok-request.ensures)) c.in_ok-warm_up.ensures.core

pub loop-request-preserved-in-Continue-branch-2 : goal.loop-request-preserved-in-Continue-branch-2
loop-request-preserved-in-Continue-branch-2 c =
    let kept = warming-keeps c.loop-request.self c.warm_up.new.self c.args.moment c.in_ok-request.request c.in_ok-warm_up.ensures.core in
    record {
      last = kept.0 ∙ c.loop-request.invariant.last;
      inner = c.warm_up.ensures.inner ∙ c.loop-request.invariant.inner;
      home = record { pool = kept.1.pool ∙ c.loop-request.invariant.home.pool; address = kept.1.address ∙ c.loop-request.invariant.home.address; options = kept.1.options ∙ c.loop-request.invariant.home.options; alone = kept.1.alone ∙ c.loop-request.invariant.home.alone };
      notes = record { settled = kept.2.settled ∙ c.loop-request.invariant.notes.settled; claimed = kept.2.claimed ∙ c.loop-request.invariant.notes.claimed; status = kept.2.status ∙ c.loop-request.invariant.notes.status };
      ready = ap is_ready_now kept.2.status ∙ c.loop-request.invariant.ready;
      serves = λ h z. turn-warm-to c.args.self.now c.loop-request.self c.warm_up.new.self c.loop-request.invariant.home c.args.moment c.args.facts.now.items c.loop-request.facts.items c.warm_up.new.facts.items h c.in_ok-request.request (c.loop-request.invariant.serves h z) c.loop-request.invariant.ready (sym c.in-Some.ensures ∙ ap Some (sym c.in_ok-request.ensures)) c.if-request.true c.in_ok-warm_up.ensures.core c.in_ok-warm_up.ensures.facts;
    }

pub warm_up-requires : goal.warm_up-requires
warm_up-requires c = record { there = candidate-there c.loop-request.self c.asked-requests.ensures.apart c.in_ok-request.request (sym c.in-Some.ensures ∙ ap Some (sym c.in_ok-request.ensures)) }

pub meet-requires-clause-there : goal.meet-requires-clause-there
meet-requires-clause-there c = candidate-there c.loop-request.self c.asked-requests.ensures.apart c.in_ok-request.request (sym c.in-Some.ensures ∙ ap Some (sym c.in_ok-request.ensures))

pub create-requires-clause-there : goal.create-requires-clause-there
create-requires-clause-there c = candidate-there c.loop-request.self c.asked-requests.ensures.apart c.in_ok-request.request (sym c.in-Some.ensures ∙ ap Some (sym c.in_ok-request.ensures))
