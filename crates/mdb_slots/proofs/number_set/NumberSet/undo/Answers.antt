use Rattle.std.proofs.Common.{sym, subst, ◌∙◌, arith}
use Rattle.mdb_slots.specs.NumberSet.{Spanned, NumberSteps, NumbersFit}
use Rattle.mdb_slots.proofs.number_set.NumberSet.undo.Goals as goal

pub invariant_of-self : goal.invariant_of-self
invariant_of-self c =
    let i = c.self.inside in
    let base : Spanned = record { numbers = i.order.value; spans = i.settled.spans } in (
      subst (λ (p : NumberSteps). NumbersFit p base i.settled.capacity) (sym (c.replace.ensures.after ∙ c.none.ensures)) (omega (arith, c.self.invariant.1)),
      c.self.invariant.1,
      c.self.invariant.2,
    )
