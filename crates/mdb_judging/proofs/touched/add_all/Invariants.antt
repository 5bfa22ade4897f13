use Rattle.std.proofs.Common.{ℕ, ◌≡◌, ◌||◌}
use Rattle.mdb_tallies.specs.Lists.{nth, listed}
use Rattle.mdb_judging.specs.Touching.{has_place}
use Rattle.mdb_judging.proofs.touched.add_all.Given as goal

abbrev pub invariant-loop-index : goal.invariant-loop-index
invariant-loop-index l = (p c : ℕ) → has_place l.places.items p c ≡ has_place l.initial.places.items p c || listed l.index (nth l.list l.party) p c
