use Rattle.std.proofs.Common.{◌≡◌, drop}
use Rattle.mdb_srv.specs.Memory.{srv_in, txt_in}
use Rattle.mdb_srv.proofs.memory_resolver.MemResolver.entry.Given as goal

abbrev pub invariant-loop-held : goal.invariant-loop-held
invariant-loop-held l =
    (srv_in l.held-items l.query ≡ srv_in (drop l.held-index l.held-items) l.query)
    × (txt_in l.held-items l.query ≡ txt_in (drop l.held-index l.held-items) l.query)
