use Rattle.std.proofs.Common.{◌≡◌, true, List, sym, ap, subst, ◌∙◌}
use Rattle.mdb_describe.specs.declared.description.ServerDescription.{ServerDescription}
use Rattle.mdb_describe.specs.Servers.{in_order, store}
use Rattle.mdb_describe.proofs.InOrder.{stored_in_order}
use Rattle.mdb_describe.proofs.topology.TopologyDescription.store.Goals as goal

pub invariant_of-self : goal.invariant_of-self
invariant_of-self c =
    let is : c.new-2.result ≡ store c.args.server c.self.inside.servers = c.new-2.ensures ∙ (c.put_in.ensures.items ∙ ap (store c.args.server) (c.into_inner-servers.ensures ∙ c.replace.ensures.value)) in
    subst (λ (xs : List ServerDescription). in_order xs ≡ true) (sym is) (stored_in_order c.args.server c.self.inside.servers c.self.invariant)
