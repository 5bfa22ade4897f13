use Rattle.std.proofs.Common.{◌≡◌, length}
use Rattle.mdb_judging.specs.Taking.{all_in_place}
use Rattle.mdb_judging.proofs.leftovers.are_in_place.Given as goal

abbrev pub invariant-loop-rest : goal.invariant-loop-rest
invariant-loop-rest l = all_in_place l.tables l.pins l.places ≡ all_in_place l.tables l.pins l.rest

abbrev pub decreases-loop-rest : goal.decreases-loop-rest
decreases-loop-rest l = length l.rest
