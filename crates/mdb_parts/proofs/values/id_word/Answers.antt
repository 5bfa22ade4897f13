use Rattle.std.proofs.Common.{◌∙◌}
use Rattle.mdb_parts.proofs.AddressLemmas.{id_again}
use Rattle.mdb_parts.proofs.values.id_word.Goals as goal

pub returns : goal.returns
returns c = λ id types e. c.from_hex.ensures ∙ id_again id c.args.word.now types e
