use Rattle.std.proofs.Common.{◌≡◌, ◌||◌, true, false, sym, ◌∙◌, ap}
use Rattle.mdb_slots.specs.Lists.{has}
use Rattle.mdb_slots.specs.NumberSet.{OpenNumbers}
use Rattle.mdb_slots.proofs.Lists.{has-append}
use Rattle.mdb_slots.proofs.number_set.NumberSet.contains.Goals as goal

pub returns-then-contains : goal.returns-then-contains
returns-then-contains c =
    let n = c.args.number in let settled = c.self.inside.order.value in let fresh = c.self.inside.fresh.numbers in
    let there : has n settled ≡ true = sym (c.contains.ensures ∙ c.self.invariant.2 n) ∙ c.if-contains.true in
    c.if-contains.true ∙ (sym (has-append n settled fresh ∙ ap (λ b. b || has n fresh) there) ∙ ap (λ (v : OpenNumbers). has n v.now) c.self.view_is)

pub returns-else-contains : goal.returns-else-contains
returns-else-contains c =
    let n = c.args.number in let settled = c.self.inside.order.value in let fresh = c.self.inside.fresh.numbers in
    let there : has n settled ≡ false = sym (c.contains.ensures ∙ c.self.invariant.2 n) ∙ c.if-contains.false in
    c.contains-else-contains.ensures ∙ (sym (has-append n settled fresh ∙ ap (λ b. b || has n fresh) there) ∙ ap (λ (v : OpenNumbers). has n v.now) c.self.view_is)
