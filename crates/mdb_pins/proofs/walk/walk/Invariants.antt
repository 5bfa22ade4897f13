use Rattle.mdb_pins.specs.Numbered.{of_number}
use Rattle.mdb_pins.specs.Following.{EachOnce, WalkedFar}
use Rattle.mdb_pins.proofs.walk.walk.Given as goal

abbrev pub invariant-loop-index : goal.invariant-loop-index
invariant-loop-index l = EachOnce l.list l.party → WalkedFar l.how l.tables (of_number l.doings) l.list l.party l.index l.initial.pins l.pins
