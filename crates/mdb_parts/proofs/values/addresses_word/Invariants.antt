use Rattle.std.proofs.Common.{◌≡◌, ◌<◌, List, length, true}
use denote.Text.{Utf8}
use denote.Shadow.{shadow}
use Rattle.std.specs.List.{list_all}
use Rattle.mdb_base.specs.AddressRule.{is_address}
use Rattle.mdb_base.specs.Spelling.{address}
use Rattle.mdb_base.specs.declared.address.ServerAddress.{ServerAddress}
use Rattle.mdb_parts.specs.Parts.{addresses}
use Rattle.mdb_parts.proofs.CommaLemmas.{Leaves}
use Rattle.mdb_parts.proofs.values.addresses_word.Given as goal

abbrev pub invariant-loop-first : goal.invariant-loop-first
invariant-loop-first l =
    shadow (Utf8 l.rest)
    × ((seeds : List ServerAddress) → 0 < length seeds → list_all is_address seeds ≡ true → l.word ≡ addresses seeds → Leaves address is_address seeds l.found.items l.rest)

abbrev pub decreases-loop-first : goal.decreases-loop-first
decreases-loop-first l = length l.rest
