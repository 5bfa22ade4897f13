use Rattle.std.proofs.Common.{◌≡◌, ◌<◌, List, length, true}
use denote.Text.{Utf8}
use denote.Shadow.{shadow}
use Rattle.std.specs.List.{list_all}
use Rattle.mdb_base.specs.Tags.{Tag}
use Rattle.mdb_parts.proofs.CommaLemmas.{Leaves}
use Rattle.mdb_replies.specs.Values.{tag_text, tags_text, is_tag}
use Rattle.mdb_replies.proofs.tags.pairs.Given as goal

abbrev pub invariant-loop-first : goal.invariant-loop-first
invariant-loop-first l =
    shadow (Utf8 l.rest)
    × ((all : List Tag) → 0 < length all → list_all is_tag all ≡ true → l.word ≡ tags_text all → Leaves tag_text is_tag all l.found.items l.rest)

abbrev pub decreases-loop-first : goal.decreases-loop-first
decreases-loop-first l = length l.rest
