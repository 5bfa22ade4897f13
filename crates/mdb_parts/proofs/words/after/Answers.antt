use Rattle.mdb_base.proofs.Words.{after_stripped}
use Rattle.mdb_parts.proofs.words.after.Goals as goal

pub returns : goal.returns
returns c = after_stripped c.args.name.now c.args.text.now c.strip_prefix.result c.strip_prefix.ensures.cases
