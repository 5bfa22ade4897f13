use Rattle.std.proofs.Common.{◌≡◌, List, length}
use denote.Text.{Utf8}
use denote.Shadow.{shadow}
use Rattle.std.specs.List.{AllByRecursion}
use Rattle.mdb_entries.specs.declared.shown.ShownFact.{ShownFact}
use Rattle.mdb_entries.specs.Facts.{IsFact}
use Rattle.mdb_entries.proofs.ShowLemmas.{facts_line, Leaves}
use Rattle.mdb_entries.proofs.entry_reading.read_facts.Given as goal

abbrev pub invariant-loop-rest : goal.invariant-loop-rest
invariant-loop-rest l =
    shadow (Utf8 l.rest)
    × AllByRecursion IsFact l.found.items
    × ((facts : List ShownFact) → AllByRecursion IsFact facts → l.text ≡ facts_line facts → Leaves facts l.found.items l.rest)

abbrev pub decreases-loop-rest : goal.decreases-loop-rest
decreases-loop-rest l = length l.rest
