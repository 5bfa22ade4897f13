use Rattle.std.proofs.Common.{◌&&◌, not, sym, ◌∙◌, ap}
use Rattle.mdb_describe.specs.Same.{same_error}
use Rattle.mdb_driver_rules.proofs.ChangesKnown.{same-failed, same-unfailed}
use Rattle.mdb_topology.proofs.errors.spending.met_already.Goals as goal

pub returns-in-None : goal.returns-in-None
returns-in-None c = sym (same-unfailed c.args.known.now c.args.error.now (sym c.in-None.ensures))

pub returns-then-is_available : goal.returns-then-is_available
returns-then-is_available c =
    let own = c.in-Some.own.now in
    sym (same-failed c.args.known.now own c.args.error.now (sym c.in-Some.ensures) ∙ ap (λ b. not b && same_error own c.args.error.now) (sym c.is_available.ensures ∙ c.if-is_available.true))

pub returns-else-is_available : goal.returns-else-is_available
returns-else-is_available c =
    let own = c.in-Some.own.now in
    c.same_error.ensures ∙ sym (same-failed c.args.known.now own c.args.error.now (sym c.in-Some.ensures) ∙ ap (λ b. not b && same_error own c.args.error.now) (sym c.is_available.ensures ∙ c.if-is_available.false))
