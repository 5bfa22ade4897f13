use Rattle.std.specs.Prelude.{⊤}
use Rattle.mdb_handles.specs.CheckingOut.{Requests}
use Rattle.mdb_handles.proofs.Questions.{settled_same}
use Rattle.mdb_handles.proofs.asking.check_out_within.Goals as goal

pub returns-clause-same : goal.returns-clause-same
returns-clause-same g c = settled_same g.C.Core.stands ⊤ c.args.request (Requests ⊤ c.args.request c.args.address) c.args.seat.now c.check_out_by.new.seat c.check_out_by.result c.check_out_by.ensures.answer
