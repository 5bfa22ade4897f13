use Rattle.mdb_parts.proofs.ErrorLemmas.{labels_given}
use Rattle.mdb_parts.proofs.error_reading.labels.Goals as goal

pub returns-in-Some : goal.returns-in-Some
returns-in-Some c = λ all rule e. labels_given all c.in-Some.word.now c.texts_word.result rule (rw c.in-Some.is at e) c.texts_word.ensures
