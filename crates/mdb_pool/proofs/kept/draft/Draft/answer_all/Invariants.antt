use Rattle.std.proofs.Common.{◌≡◌, List, take, drop}
use Rattle.mdb_log.specs.History.{Item}
use Rattle.mdb_pool.specs.Standing.{StandsFor, SameHome}
use Rattle.mdb_pool.specs.Planning.{DoesAll, IsPrepared}
use Rattle.mdb_pool.specs.Refusing.{TellsNew}
use Rattle.mdb_pool.proofs.kept.draft.Draft.answer_all.Given as goal

abbrev pub invariant-loop-step : goal.invariant-loop-step
invariant-loop-step l = record {
  home : SameHome l.initial.self l.self;
  inner : l.self.kept.inner ≡ l.initial.self.kept.inner;
  new : TellsNew l.self (drop l.step-index l.steps);
  does : DoesAll l.initial.self l.self (take l.step-index l.steps) l.answers.items;
  prepared : (h : List Item) → StandsFor l.initial.self h → IsPrepared l.initial.self l.self (take l.step-index l.steps) l.answers.items h;
}
