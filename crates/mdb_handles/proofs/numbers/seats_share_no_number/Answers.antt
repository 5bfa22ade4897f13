use Rattle.mdb_handles.proofs.Numbering.{one_seat}
use Rattle.mdb_handles.proofs.numbers.seats_share_no_number.Goals as goal

pub returns : goal.returns
returns c = one_seat
