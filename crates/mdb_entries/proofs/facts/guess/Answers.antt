use Rattle.mdb_entries.proofs.FactLemmas.{fact_read}
use Rattle.mdb_entries.proofs.facts.guess.Goals as goal

pub returns : goal.returns
returns c = λ f own same. fact_read f c.read_named.result own (rw same at c.read_named.ensures)
