-- What an establisher in memory tells of itself.
use Rattle.std.specs.Prelude.{ℕ, List}
use Rattle.mdb_workers.specs.declared.establishing.Call.{Call}
use Rattle.mdb_workers.specs.declared.memory_establisher.MemEstablisher.{MemEstablisher}

abbrev pub made_so_far : MemEstablisher → List Call
made_so_far m = m.calls.items

abbrev pub refusals : MemEstablisher → ℕ
refusals m = m.refused

abbrev pub times_without : MemEstablisher → ℕ
times_without m = m.wanted
