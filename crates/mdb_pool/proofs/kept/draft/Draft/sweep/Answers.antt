use Rattle.std.proofs.Common.{◌∙◌, ◌≡◌, true, false, is_some, refl, sym, ap}
use Rattle.mdb_pool.specs.Now.{queries}
use Rattle.mdb_pool.specs.Kept.Values.{perished_now}
use Rattle.mdb_pool.proofs.Turns.MaintainMany.{sweep-start, sweep-more, sweep-done, sweep-smaller, has-perished}
use Rattle.mdb_pool.proofs.SameAnswers.StaysHome.{stays-home}
use Rattle.mdb_pool.proofs.kept.draft.Draft.sweep.Goals as goal

pub loop-connection-init : goal.loop-connection-init
loop-connection-init c = record {
  last = refl;
  inner = refl;
  home = stays-home refl refl refl refl;
  notes = record { settled = refl; claimed = refl; status = refl };
  sweeps = λ h z. sweep-start c.args.self.now c.args.moment c.args.facts.now.items h z;
}

pub loop-connection-smaller : goal.loop-connection-smaller
loop-connection-smaller c = sweep-smaller c.loop-connection.self c.discard.new.self c.args.moment c.in-Some.connection (sym c.in-Some.ensures) c.in_ok-discard.ensures.core

pub loop-connection-preserved : goal.loop-connection-preserved
unfolding queries
loop-connection-preserved c = record {
  last = rw c.in_ok-discard.ensures.core c.loop-connection.invariant.last;
  inner = c.discard.ensures.inner ∙ c.loop-connection.invariant.inner;
  home = rw c.in_ok-discard.ensures.core (record { pool = c.loop-connection.invariant.home.pool; address = c.loop-connection.invariant.home.address; options = c.loop-connection.invariant.home.options; alone = c.loop-connection.invariant.home.alone });
  notes = rw c.in_ok-discard.ensures.core (record { settled = c.loop-connection.invariant.notes.settled; claimed = c.loop-connection.invariant.notes.claimed; status = c.loop-connection.invariant.notes.status });
  sweeps = λ h z. sweep-more c.args.self.now c.loop-connection.self c.loop-connection.invariant.home c.args.moment c.args.facts.now.items c.loop-connection.facts.items h (c.loop-connection.invariant.sweeps h z) c.discard.new.self c.discard.new.facts.items c.in-Some.connection c.in-Some-perished.reason (sym c.in-Some.ensures) (sym c.in-Some-perished.ensures) c.in_ok-discard.ensures.core c.in_ok-discard.ensures.facts;
}

pub returns-clause-sweeps : goal.returns-clause-sweeps
returns-clause-sweeps c = λ h z. sweep-done c.args.self.now c.loop-connection.self c.loop-connection.invariant.home c.args.moment c.args.facts.now.items c.loop-connection.facts.items h (c.loop-connection.invariant.sweeps h z) (sym c.in_default.ensures)

pub unreachable-requires : goal.unreachable-requires
unreachable-requires c =
    let some : is_some (perished_now c.loop-connection.self c.args.moment c.in-Some.connection) ≡ true = has-perished c.loop-connection.self c.args.moment c.in-Some.connection (sym c.in-Some.ensures) in
    let none : is_some (perished_now c.loop-connection.self c.args.moment c.in-Some.connection) ≡ false = ap is_some (sym c.in_default-perished.ensures) in
    cc
