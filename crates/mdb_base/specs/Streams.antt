-- What sources and sinks over streams tell.
use Rattle.std.specs.Prelude.{ℕ}
use Rattle.mdb_base.specs.declared.streams.Reading.{Reading}
use Rattle.mdb_base.specs.declared.streams.Writing.{Writing}

-- how often the reader failed
abbrev pub reading_faults : {R : Type 0} → Reading R → ℕ
reading_faults s = s.faults

-- how often the writer failed
abbrev pub writing_faults : {W : Type 0} → Writing W → ℕ
writing_faults s = s.faults
