use Rattle.mdb_recording_runs.proofs.Lines.{cuts-last, cuts-next}
use Rattle.mdb_recording_runs.proofs.text.first_line.Goals as goal

pub returns-in-None : goal.returns-in-None
returns-in-None c = cuts-last c.args.text.now c.in-None.ensures.0 c.in-None.ensures.1 c.requires

pub returns-in-Some : goal.returns-in-Some
returns-in-Some c = cuts-next c.args.text.now c.in-Some.line.now c.in-Some.behind.now c.in-Some.ensures.0 c.in-Some.ensures.1
