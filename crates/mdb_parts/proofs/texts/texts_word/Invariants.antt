use Rattle.std.proofs.Common.{◌≡◌, ◌<◌, ℕ, List, length, true}
use denote.Text.{Utf8}
use denote.Shadow.{shadow}
use Rattle.std.specs.List.{list_all}
use Rattle.mdb_parts.specs.Parts.{texts}
use Rattle.mdb_parts.specs.Reading.{lacks}
use Rattle.mdb_parts.proofs.CommaLemmas.{Leaves}
use Rattle.mdb_parts.proofs.texts.texts_word.Given as goal

abbrev pub invariant-loop-first : goal.invariant-loop-first
invariant-loop-first l =
    shadow (Utf8 l.rest)
    × ((all : List (List ℕ)) → 0 < length all → list_all (lacks 44) all ≡ true → l.word ≡ texts all → Leaves (λ t. t) (lacks 44) all l.found.items l.rest)

abbrev pub decreases-loop-first : goal.decreases-loop-first
decreases-loop-first l = length l.rest
