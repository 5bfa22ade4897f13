use Rattle.std.proofs.Common.{sym}
use Rattle.mdb_base.proofs.Words.{number_read, number_missing}
use Rattle.mdb_base.proofs.address_text.number16.Goals as goal

pub returns-in-Ok : goal.returns-in-Ok
returns-in-Ok c = let h = c.in-Ok.ensures.value.0 in sym (number_read 16 c.args.word.now c.in-Ok.number h.0 h.1)

pub returns-in-Err : goal.returns-in-Err
returns-in-Err c = sym (number_missing 16 c.args.word.now c.in-Err.ensures.value.0)
