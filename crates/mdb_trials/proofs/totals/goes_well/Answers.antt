use denote.Param.Send.{sendable}
use Rattle.mdb_trials.proofs.TotalCrossing.{total}
use Rattle.mdb_trials.proofs.totals.goes_well.Goals as goal

pub play-requires-send-C : goal.play-requires-send-C
play-requires-send-C g c κs = search (total, sendable)
