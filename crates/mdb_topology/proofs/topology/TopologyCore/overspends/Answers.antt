use Rattle.std.proofs.Common.{◌≡◌, ◌&&◌, true, is_some, sym, ◌∙◌, ap, Bool, false, None}
use Rattle.mdb_describe.specs.Descriptions.{failed}
use Rattle.mdb_describe.specs.Differences.{difference}
use Rattle.mdb_describe.specs.Update.{updated}
use Rattle.mdb_pool.specs.Now.{exhausted_now}
use Rattle.mdb_driver_rules.proofs.General.Truth.{and-false, and-true}
use Rattle.mdb_topology.proofs.topology.TopologyCore.overspends.Goals as goal

pub returns-then-not-clears : goal.returns-then-not-clears
returns-then-not-clears c s there =
    let w = c.args.self.now in
    let b : Bool = is_some (difference w.description.servers (updated w.description (failed c.args.address.now c.args.error.now)).servers) in
    sym (ap (λ d. (b && d) && exhausted_now s None) c.if-not-clears.true ∙ ap (λ d. d && exhausted_now s None) (and-false b))

pub returns-then-not-is_spent : goal.returns-then-not-is_spent
returns-then-not-is_spent c s there =
    let w = c.args.self.now in
    let b : Bool = is_some (difference w.description.servers (updated w.description (failed c.args.address.now c.args.error.now)).servers) && c.args.clears in
    let e : exhausted_now s None ≡ false = sym (c.is_spent.ensures s there) ∙ c.if-not-is_spent.true in
    sym (ap (λ d. b && d) e ∙ and-false b)

pub returns : goal.returns
returns c s there =
    let w = c.args.self.now in
    let b : Bool = is_some (difference w.description.servers (updated w.description (failed c.args.address.now c.args.error.now)).servers) in
    let e : exhausted_now s None ≡ true = sym (c.is_spent.ensures s there) ∙ c.if-not-is_spent.false in
    c.is_changed_by.ensures ∙ sym (ap (λ d. (b && d) && exhausted_now s None) c.if-not-clears.false ∙ (ap (λ d. (b && true) && d) e ∙ (and-true (b && true) ∙ and-true b)))
