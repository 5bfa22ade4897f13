use denote.RattleType.{RattleType}
use denote.Param.Send.{IsSend}
use Rattle.mdb_past.proofs.Sent as sent
use Rattle.mdb_past.specs.contracts.past.Past.{the_row}

pub send : (Y : RattleType) → IsSend (the_row Y)
send = sent.past_send
