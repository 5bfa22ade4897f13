use Rattle.std.proofs.Common.{◌≡◌, take, true}
use Rattle.mdb_describe.specs.Listed.{are_addresses}
use Rattle.mdb_describe.proofs.listed.are_addresses.Given as goal

abbrev pub invariant-loop-text : goal.invariant-loop-text
invariant-loop-text l = are_addresses (take l.text-index l.texts) ≡ true
