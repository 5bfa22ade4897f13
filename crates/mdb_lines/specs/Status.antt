-- Statuses, and what is told of the end of a run.
use Rattle.std.specs.Prelude.{◌≡◌, ℕ, ◌++◌, List, codes, decimal, Option, ◌⊎◌}
use Rattle.mdb_base.specs.Outside.{Rose, Held, Took}
use Rattle.mdb_lines.specs.declared.run_error.RunError.{RunError}
use Rattle.mdb_lines.specs.declared.run_error.RunError.TheVariants as errors
use Rattle.mdb_lines.specs.Loops.{TookFront}

abbrev pub status : RunError → ℕ
status errors.OutOfMemory = 1
status errors.ReadFault = 3
status errors.WriteFault = 4
status (errors.Malformed n) = 5
status errors.TooLong = 6

abbrev pub message : RunError → List ℕ
message errors.OutOfMemory = codes "out of memory\n"
message errors.ReadFault = codes "read fault\n"
message errors.WriteFault = codes "write fault\n"
message (errors.Malformed n) = codes "line " ++ (decimal n ++ codes " is malformed\n")
message errors.TooLong = codes "input is too long\n"

-- What the sink for errors took: the text, or where its count rose the front of it.
pub record Told : Type 0 where
  pub held : Option Held
  pub faults : ℕ

abbrev pub Tells : Told → Told → List ℕ → Type 0
Tells old new text = (Took old.held new.held text × (new.faults ≡ old.faults)) ⊎ (TookFront old.held new.held text × Rose old.faults new.faults)
