use Rattle.std.proofs.Common.{◌≡◌, Some, sym, ap, ◌∙◌}
use Rattle.std.specs.Prelude.{option_copied}
use Rattle.mdb_describe.specs.Topology.{server_at}
use Rattle.mdb_describe.proofs.Stored.{stored-alike}
use Rattle.mdb_describe.proofs.topology.TopologyDescription.is_repeated.Goals as goal

pub returns-in_ok-only_stores-in-Some : goal.returns-in_ok-only_stores-in-Some
returns-in_ok-only_stores-in-Some c = λ again.
    let at : server_at c.args.server.now.address c.args.self.now.servers ≡ Some c.in-Some.known.now = sym (sym (ap option_copied c.in-Some.is) ∙ (c.server_at.ensures ∙ ap (server_at c.args.server.now.address) c.servers.ensures.servers)) in
    record {
      alone = c.in_ok-only_stores-in-Some.ensures again;
      alike = stored-alike c.args.server.now c.args.self.now.servers c.in-Some.known.now c.servers.ensures.ordered at (sym c.same.ensures ∙ c.if-same.true);
    }
