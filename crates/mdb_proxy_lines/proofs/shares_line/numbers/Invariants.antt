use Rattle.std.proofs.Common.{◌≡◌, ℕ, ◌<◌, List, length, true}
use denote.Text.{Utf8}
use denote.Shadow.{shadow}
use Rattle.std.specs.Prelude.{decimal}
use Rattle.std.specs.List.{list_all}
use Rattle.mdb_parts.specs.Parts.{commas}
use Rattle.mdb_parts.proofs.CommaLemmas.{Leaves}
use Rattle.mdb_proxy_lines.specs.ProxyLines.{is_share}
use Rattle.mdb_proxy_lines.proofs.shares_line.numbers.Given as goal

abbrev pub invariant-loop-first : goal.invariant-loop-first
invariant-loop-first l =
    shadow (Utf8 l.rest)
    × ((shares : List ℕ) → 0 < length shares → list_all is_share shares ≡ true → l.text ≡ commas decimal shares → Leaves decimal is_share shares l.found.items l.rest)

abbrev pub decreases-loop-first : goal.decreases-loop-first
decreases-loop-first l = length l.rest
