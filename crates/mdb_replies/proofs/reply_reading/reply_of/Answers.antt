use Rattle.mdb_replies.proofs.ReplyLemmas.{others, none_else}
use Rattle.mdb_replies.proofs.reply_reading.reply_of.Goals as goal

pub returns : goal.returns
returns c = λ r named sizes roles members names marks wires ids.
    rw (roles, members, names, marks, wires, ids) (none_else r (others r named sizes))
