use Rattle.mdb_bench.proofs.sharing.greet.Given as goal

abbrev pub invariant-loop-server : goal.invariant-loop-server
invariant-loop-server g l = record { stands : g.C.Core.stands l.core l.journal.all }
