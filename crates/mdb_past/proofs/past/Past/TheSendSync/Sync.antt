use denote.RattleType.{RattleType}
use denote.Param.Send.{IsSync}
use Rattle.mdb_past.proofs.Sent as sent
use Rattle.mdb_past.specs.contracts.past.Past.{the_row}

pub sync : (Y : RattleType) → IsSync (the_row Y)
sync = sent.past_sync
