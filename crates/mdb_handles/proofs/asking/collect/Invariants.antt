use Rattle.std.proofs.Common.{◌≡◌}
use Rattle.mdb_handles.proofs.Questions.{Asked}
use Rattle.mdb_handles.proofs.asking.collect.Given as goal

abbrev pub invariant-loop : goal.invariant-loop
invariant-loop g l = record { asked : Asked g.C.Core.stands (g.L.Limit.ends l.limit) l.fn.standing.request l.initial.seat l.seat; same : l.standing.request ≡ l.fn.standing.request; request : l.request ≡ l.fn.standing.request }
