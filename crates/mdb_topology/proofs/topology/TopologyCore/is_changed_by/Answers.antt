use Rattle.std.proofs.Common.{◌≡◌, ◌&&◌, false, true, not, Some, sym, ◌∙◌, ap}
use Rattle.mdb_describe.specs.Descriptions.{failed}
use Rattle.mdb_describe.specs.Fields.{topology_version}
use Rattle.mdb_describe.specs.Same.{same}
use Rattle.mdb_describe.specs.Topology.{server_at}
use Rattle.mdb_describe.specs.Update.{is_older}
use Rattle.mdb_driver_rules.proofs.ChangesKnown.{found-is, known-differs, unknown-same}
use Rattle.mdb_topology.proofs.topology.TopologyCore.is_changed_by.Goals as goal

pub returns-in-None : goal.returns-in-None
returns-in-None c =
    let w = c.args.self.now in
    sym (unknown-same c.args.address.now c.args.error.now w.description c.requires.stands.1.described.ordered (sym c.in-None.ensures))

pub returns-then-is_older : goal.returns-then-is_older
returns-then-is_older c =
    let w = c.args.self.now in
    let a = c.args.address.now in
    let e = c.args.error.now in
    let known = c.in-Some.known.now in
    let here : server_at a w.description.servers ≡ Some known = sym c.in-Some.ensures in
    let old : is_older e.topology_version (topology_version known) ≡ true = ap (is_older e.topology_version) (sym c.topology_version.ensures) ∙ (sym c.is_older.ensures ∙ c.if-is_older.true) in
    sym (known-differs a e w.description c.requires.stands.1.described.ordered known here (found-is a known w.description.servers here).1
    ∙ ap (λ b. not b && not (same known (failed a e))) old)

pub returns-else-is_older : goal.returns-else-is_older
returns-else-is_older c =
    let w = c.args.self.now in
    let a = c.args.address.now in
    let e = c.args.error.now in
    let known = c.in-Some.known.now in
    let here : server_at a w.description.servers ≡ Some known = sym c.in-Some.ensures in
    let new : is_older e.topology_version (topology_version known) ≡ false = ap (is_older e.topology_version) (sym c.topology_version.ensures) ∙ (sym c.is_older.ensures ∙ c.if-is_older.false) in
    ap not (c.met_already.ensures ∙ ap (λ b. same known (failed b e)) (found-is a known w.description.servers here).0)
    ∙ sym (known-differs a e w.description c.requires.stands.1.described.ordered known here (found-is a known w.description.servers here).1
    ∙ ap (λ b. not b && not (same known (failed a e))) new)
