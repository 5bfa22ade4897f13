use Rattle.std.proofs.Common.{refl, sym, ◌∙◌}
use Rattle.mdb_pool.specs.Now.{queries}
use Rattle.mdb_pool.proofs.Turns.MaintainMany.{fill-start, fill-more, fill-done, fills-below, spawn-smaller}
use Rattle.mdb_pool.proofs.SameAnswers.StaysHome.{stays-home}
use Rattle.mdb_pool.proofs.kept.draft.Draft.fill.Goals as goal

pub loop-alloc-init : goal.loop-alloc-init
loop-alloc-init c = record {
  last = refl;
  inner = refl;
  home = stays-home refl refl refl refl;
  notes = record { settled = refl; claimed = refl; status = refl };
  fills = λ h z. fill-start c.args.self.now c.args.moment c.args.facts.now.items h z;
}

pub loop-alloc-smaller : goal.loop-alloc-smaller
loop-alloc-smaller c = spawn-smaller c.loop-alloc.self c.spawn.new.self c.args.moment (sym c.wants_filling.ensures ∙ c.loop-alloc-test.true) c.in_ok-spawn.ensures.core

pub loop-alloc-preserved : goal.loop-alloc-preserved
unfolding queries
loop-alloc-preserved c = record {
  last = rw c.in_ok-spawn.ensures.core c.loop-alloc.invariant.last;
  inner = c.spawn.ensures.inner ∙ c.loop-alloc.invariant.inner;
  home = rw c.in_ok-spawn.ensures.core (record { pool = c.loop-alloc.invariant.home.pool; address = c.loop-alloc.invariant.home.address; options = c.loop-alloc.invariant.home.options; alone = c.loop-alloc.invariant.home.alone });
  notes = rw c.in_ok-spawn.ensures.core (record { settled = c.loop-alloc.invariant.notes.settled; claimed = c.loop-alloc.invariant.notes.claimed; status = c.loop-alloc.invariant.notes.status });
  fills = λ h z. fill-more c.args.self.now c.loop-alloc.self c.loop-alloc.invariant.home c.args.moment c.args.facts.now.items c.loop-alloc.facts.items h (c.loop-alloc.invariant.fills h z) c.spawn.new.self c.spawn.new.facts.items (sym c.wants_filling.ensures ∙ c.loop-alloc-test.true) c.in_ok-spawn.ensures.core c.in_ok-spawn.ensures.facts;
}

pub spawn-requires : goal.spawn-requires
spawn-requires c = fills-below c.loop-alloc.self (sym c.wants_filling.ensures ∙ c.loop-alloc-test.true)

pub returns-clause-fills : goal.returns-clause-fills
returns-clause-fills c = λ h z. fill-done c.args.self.now c.loop-alloc.self c.loop-alloc.invariant.home c.args.moment c.args.facts.now.items c.loop-alloc.facts.items h (c.loop-alloc.invariant.fills h z) (sym c.wants_filling.ensures ∙ c.loop-alloc-test.false)
