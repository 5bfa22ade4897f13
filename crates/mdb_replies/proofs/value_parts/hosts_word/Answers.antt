use Rattle.mdb_replies.proofs.ValueLemmas.{host_rules}
use Rattle.mdb_replies.proofs.value_parts.hosts_word.Goals as goal

pub returns : goal.returns
returns c = λ hosts rule e. let r = host_rules hosts rule in c.texts_word.ensures hosts r.some r.commas e
