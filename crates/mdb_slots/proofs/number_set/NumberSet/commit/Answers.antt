use Rattle.std.proofs.Common.{◌≡◌, ◌++◌, ◌||◌, List, ℕ, sym, subst, ◌∙◌, ap, arith}
use Rattle.mdb_slots.specs.Lists.{has}
use Rattle.mdb_slots.specs.NumberSet.{Spanned, OpenNumbers, NumberSteps, NumbersFit}
use Rattle.mdb_slots.proofs.Lists.{has-append}
use Rattle.mdb_slots.proofs.number_set.NumberSet.commit.Goals as goal

pub invariant_of-self : goal.invariant_of-self
invariant_of-self c =
    let before = c.self.inside in let after = c.settle_all.new.settled in let more = before.fresh.numbers in
    let is : c.of-order.result.value ≡ before.order.value ++ more = c.of-order.ensures ∙ ap (λ (v : OpenNumbers). v.now) (sym c.self.view_is) in
    let base : Spanned = record { numbers = c.of-order.result.value; spans = after.spans } in (
      subst (λ (p : NumberSteps). NumbersFit p base after.capacity) (sym c.settle_all.ensures.none) (omega (arith, c.settle_all.ensures.within)),
      c.settle_all.ensures.within,
      (λ n. c.settle_all.ensures.has n ∙ (ap (λ b. b || has n more) (c.self.invariant.2 n) ∙ (sym (has-append n before.order.value more) ∙ ap (has n) (sym is)))),
    )
