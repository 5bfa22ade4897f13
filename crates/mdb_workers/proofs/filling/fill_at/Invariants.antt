use Rattle.mdb_workers.proofs.Adding.{SoFar}
use Rattle.mdb_workers.proofs.filling.fill_at.Given as goal

abbrev pub invariant-loop-made : goal.invariant-loop-made
invariant-loop-made g l = record { so_far : SoFar g.C.Core.stands l.address l.first l.made l.initial.seat l.seat l.last }
