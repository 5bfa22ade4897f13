use Rattle.mdb_judging.specs.Shown.{entry_of}
use Rattle.mdb_judging.proofs.TakenEntry.{faulted}
use Rattle.mdb_judging.proofs.auditor.Auditor.fault.Goals as goal

pub returns : goal.returns
returns c = faulted c.args.options.now (entry_of c.args.shown.now) c.in_ok-is_fair.is_fair c.in_ok-why.why c.args.self.now c.take_entry.new.self c.judge.new.self c.in_ok-is_fair.ensures c.in_ok-why.ensures
