use Rattle.std.proofs.Common.{◌∙◌, if◌then◌else◌, arith}
use Rattle.mdb_base.specs.Equality.{same_address}
use Rattle.mdb_describe.specs.declared.description.ServerDescription.{ServerDescription}
use Rattle.mdb_describe.specs.Descriptions.{unknown}
use Rattle.mdb_describe.proofs.Walks.{mapped_on, mapped_all}
use Rattle.mdb_describe.proofs.servers.forget.Goals as goal

pub loop-server-preserved : goal.loop-server-preserved
loop-server-preserved c = mapped_on (λ (s : ServerDescription). if same_address s.address c.args.address.now then unknown s.address else s) c.args.servers.now c.loop-server.servers c.loop-server.server-index c.server-item.result c.forget_if.new.self (omega arith) c.loop-server.invariant c.server-item.is (cc)

pub returns : goal.returns
returns c = c.loop-server.invariant ∙ mapped_all (λ (s : ServerDescription). if same_address s.address c.args.address.now then unknown s.address else s) c.args.servers.now c.loop-server.server-index (omega arith)
