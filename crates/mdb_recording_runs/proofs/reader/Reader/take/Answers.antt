use Rattle.std.proofs.Common.{◌++◌, subst}
use Rattle.mdb_recording_runs.specs.Keeping.{Keeps}
use Rattle.mdb_recording_runs.specs.Report.{after_said, said_text}
use Rattle.mdb_recording_runs.proofs.reader.Reader.take.Goals as goal

pub returns : goal.returns
returns c = λ standard s text keeps. subst (λ x. Keeps standard (after_said standard c.args.number s x) (text ++ said_text standard c.args.number s x) c.take_line.new.self) c.in_ok-told.ensures (c.in_ok-take_line.ensures standard s text keeps)
