use Rattle.std.proofs.Common.{◌≡◌, ◌&&◌, false, true, not, is_some, sym, ◌∙◌, ap}
use Rattle.mdb_pool.specs.Now.{exhausted_now}
use Rattle.mdb_topology.proofs.topology.TopologyCore.overspends_service.Goals as goal

pub returns-then-is_none : goal.returns-then-is_none
returns-then-is_none c s there =
    let e : is_some c.args.service ≡ false = c.is_none.ensures ∙ ap not c.if-is_none.true in
    sym (ap (λ b. b && exhausted_now s c.args.service) e)

pub returns : goal.returns
returns c s there =
    let e : is_some c.args.service ≡ true = c.is_none.ensures ∙ ap not c.if-is_none.false in
    c.is_spent.ensures s there ∙ sym (ap (λ b. b && exhausted_now s c.args.service) e)
