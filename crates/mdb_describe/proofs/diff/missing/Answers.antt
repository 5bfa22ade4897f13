use Rattle.std.proofs.Common.{not, ap, arith}
use Rattle.mdb_describe.specs.declared.description.ServerDescription.{ServerDescription}
use Rattle.mdb_describe.specs.Servers.{is_known}
use Rattle.mdb_describe.proofs.Parts.{placed_on}
use Rattle.mdb_describe.proofs.diff.missing.Goals as goal

pub loop-server-preserved : goal.loop-server-preserved
loop-server-preserved c = placed_on (λ (s : ServerDescription). not (is_known s.address c.args.others.now)) c.args.servers.now c.loop-server.server-index c.server-item.result (not c.is_known.result) c.loop-server.found.items _ (omega arith) c.server-item.is (ap not c.is_known.ensures) c.loop-server.invariant c.in_ok-add_if.ensures
