use Rattle.std.proofs.Common.{[], length}
use Rattle.mdb_recordings.specs.declared.standard.Standard.{Standard}
use Rattle.mdb_recording_runs.specs.Keeping.{Keeps}
use Rattle.mdb_recording_runs.specs.Report.{nothing}
use Rattle.mdb_recording_runs.proofs.Lines.{LinesLeft}
use Rattle.mdb_recording_runs.proofs.text.take_lines.Given as goal

abbrev pub invariant-loop-rest : goal.invariant-loop-rest
invariant-loop-rest l = (standard : Standard) → Keeps standard nothing [] l.initial.reader → LinesLeft standard l.text l.rest l.read l.reader

abbrev pub decreases-loop-rest : goal.decreases-loop-rest
decreases-loop-rest l = length l.rest
