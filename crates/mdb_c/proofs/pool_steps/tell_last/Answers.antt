use Rattle.std.proofs.Common.{◌≡◌}
use Rattle.mdb_c.proofs.PoolTells.{tells, there}
use Rattle.mdb_c.proofs.pool_steps.tell_last.Goals as goal

pub returns : goal.returns
returns c = λ l seat step is. tells c.args.session.now l seat step is c.in-Some.entry.now c.args.told.now c.tell_entry.new.told c.in-Some.ensures c.tell_entry.ensures

pub returns-in_default : goal.returns-in_default
returns-in_default c = λ l seat step is. absurd (there c.args.session.now l seat step is c.in_default.ensures)
