use Rattle.mdb_commands.proofs.Numbers.{no-make}
use Rattle.mdb_commands.proofs.reading.number_of_make.Goals as goal

pub returns-in-Script : goal.returns-in-Script
returns-in-Script c = no-make c.args.digits.now c.read_words.result c.read_words.ensures c.in-Script.is
