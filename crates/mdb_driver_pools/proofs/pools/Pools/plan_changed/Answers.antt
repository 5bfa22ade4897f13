use Rattle.std.proofs.Common.{ℕ, ◌≡◌, Bool, List, [], length, Some, None, if◌then◌else◌, refl, sym, ◌∙◌, ap, subst}
use Rattle.mdb_base.specs.declared.address.ServerAddress.{ServerAddress}
use Rattle.mdb_base.specs.declared.options.Options.{Options}
use Rattle.mdb_describe.specs.declared.description.ServerDescription.{ServerDescription}
use Rattle.mdb_describe.specs.declared.topology.TopologyDescription.{TopologyDescription}
use Rattle.mdb_describe.specs.Topology.{server_at}
use Rattle.mdb_log.specs.History.{Item}
use Rattle.mdb_driver_pools.specs.Acting.{readying, PlansAt}
use Rattle.mdb_driver_rules.specs.Publishing.{server_changed}
use Rattle.mdb_driver_rules.specs.Ready.{is_ready_type}
use Rattle.mdb_driver_pools.specs.Standing.{at_address}
use Rattle.mdb_driver_pools.proofs.Publications.PlannedOfServer.{plans-unknown, plans-changed}
use Rattle.mdb_driver_pools.proofs.pools.Pools.plan_changed.Goals as goal

-- nothing is told of a server that was not known, or is not
silent-before : (o : Options) (m : ℕ) (t u : TopologyDescription) (a : ServerAddress) → server_at a t.servers ≡ None → (k : List Item) → server_changed o m t u a k ≡ []
silent-before o m t u a e k = rw e refl

silent-after : (o : Options) (m : ℕ) (t u : TopologyDescription) (a : ServerAddress) (old : ServerDescription) → server_at a t.servers ≡ Some old → server_at a u.servers ≡ None → (k : List Item) → server_changed o m t u a k ≡ []
silent-after o m t u a old e f k = rw (e, f) refl

pub returns-in_default-clause-planned : goal.returns-in_default-clause-planned
returns-in_default-clause-planned c =
    let o = c.args.change.now.options.now in
    let pools = c.args.self.now.cores.items in
    plans-unknown o c.args.change.now.moment pools (length pools) c.args.changes.now.items c.args.changes.now.items c.args.address.now c.args.change.now.earlier.now c.args.change.now.later.now c.args.facts.now.items refl
    (silent-before o c.args.change.now.moment c.args.change.now.earlier.now c.args.change.now.later.now c.args.address.now (sym c.in_default.ensures))

pub returns-in_default-server-clause-planned : goal.returns-in_default-server-clause-planned
returns-in_default-server-clause-planned c =
    let o = c.args.change.now.options.now in
    let pools = c.args.self.now.cores.items in
    plans-unknown o c.args.change.now.moment pools (length pools) c.args.changes.now.items c.args.changes.now.items c.args.address.now c.args.change.now.earlier.now c.args.change.now.later.now c.args.facts.now.items refl
    (silent-after o c.args.change.now.moment c.args.change.now.earlier.now c.args.change.now.later.now c.args.address.now c.in-Some.old.now (sym c.in-Some.ensures) (sym c.in_default-server.ensures))

pub returns-clause-planned : goal.returns-clause-planned
returns-clause-planned c =
    let o = c.args.change.now.options.now in
    let pools = c.args.self.now.cores.items in
    let a = c.args.address.now in
    let u = c.args.change.now.later.now in
    let new = c.in-Some-server.new.now in
    let wanted : c.is_ready_type-wanted.result ≡ is_ready_type u.topology_type new.server_type = c.is_ready_type-wanted.ensures ∙ ap (λ kind. is_ready_type kind new.server_type) c.topology_type.ensures in
    plans-changed o c.args.change.now.moment pools (length pools) c.args.changes.now.items c.plan_ready.new.changes.items a c.args.change.now.earlier.now u c.in-Some.old.now new c.args.facts.now.items c.plan_ready.new.facts.items c.tell_changed.new.facts.items
    (sym c.in-Some.ensures) (sym c.in-Some-server.ensures) c.in_ok-tell_changed.ensures
    (subst (λ (b : Bool). PlansAt pools (if b then at_address pools a else None) c.args.change.now.moment readying c.args.changes.now.items c.plan_ready.new.changes.items c.args.facts.now.items c.plan_ready.new.facts.items) wanted c.in_ok-plan_ready.ensures.planned)
