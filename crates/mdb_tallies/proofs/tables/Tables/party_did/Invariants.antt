use Rattle.mdb_tallies.specs.Kept.{SoFar, Covers}
use Rattle.mdb_tallies.proofs.tables.Tables.party_did.Given as goal

abbrev pub invariant-loop-index : goal.invariant-loop-index
invariant-loop-index l = Covers l.initial.self → SoFar l.how l.party l.index l.initial.self l.self
