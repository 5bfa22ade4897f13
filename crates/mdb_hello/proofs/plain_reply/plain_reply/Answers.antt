use Rattle.mdb_hello.proofs.PlainReply.{plain_reply}
use Rattle.mdb_hello.proofs.plain_reply.plain_reply.Goals as goal

pub returns : goal.returns
returns c = λ short. plain_reply c.args.reply.now short c.small.ensures c.small-2.ensures c.small-3.ensures c.tagged.ensures c.size.ensures
