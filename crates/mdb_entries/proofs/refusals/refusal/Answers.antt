use Rattle.mdb_entries.proofs.ReplyLemmas.{refusal_read}
use Rattle.mdb_entries.proofs.refusals.refusal.Goals as goal

pub returns : goal.returns
returns c = λ why types same. refusal_read why c.read_refusal.result types (rw same at c.read_refusal.ensures)
