use Rattle.std.proofs.Common.{sym, subst}
use Rattle.mdb_workers.specs.Persisting.{TriedBack}
use Rattle.mdb_workers.proofs.Adding.{tried}
use Rattle.mdb_workers.proofs.persisting.try_back.Goals as goal

pub returns-in-Err-clause-tried : goal.returns-in-Err-clause-tried
returns-in-Err-clause-tried g c = subst (TriedBack g.C.Core.stands c.args.seat.now c.give_back.new.seat c.args.connection c.args.used) (sym c.tried_of.ensures)
    (tried g.C.Core.stands c.args.seat.now c.give_back.new.seat c.args.connection c.in-Err.back.connection c.args.used c.in-Err.back.why c.in-Err.ensures.connection c.in-Err.ensures.why)
