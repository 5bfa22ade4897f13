-- Facts that are made one after another.
use Rattle.std.specs.Prelude.{ℕ, List, [], ◌∷◌, ◌++◌}
use Rattle.mdb_events.specs.declared.fact.Fact.{Fact}
use Rattle.mdb_log.specs.History.{Item, with_facts}

-- each in its turn makes its facts, after a history in which those of the ones before it have come
abbrev pub in_turn : ℕ → List (List Item → List Fact) → List Item → List Fact
in_turn m [] k = []
in_turn m (make ∷ more) k = let facts : List Fact = make k in facts ++ in_turn m more (with_facts m facts k)
