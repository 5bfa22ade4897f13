use Rattle.std.proofs.Common.{◌≡◌, ◌||◌, ◌==◌, ℕ, List, [], ◌∷◌, refl, sym, ◌∙◌, ap}
use Rattle.std.specs.List.{list_any}
use Rattle.mdb_slots.specs.Lists.{has}
use Rattle.mdb_slots.specs.NumberSet.{NumberSteps}
use Rattle.mdb_slots.proofs.number_steps.NumberSetRedo.contains.Goals as goal

has-any : (n : ℕ) (ms : List ℕ) → list_any (λ m. m == n) ms ≡ has n ms
has-any n [] = refl
has-any n (m ∷ ms) = ap (λ b. m == n || b) (has-any n ms)

pub returns : goal.returns
returns c = c.contains.ensures.value ∙ (ap (list_any (λ m. m == c.args.number)) c.deref.ensures.value ∙ (has-any c.args.number c.self.inside.numbers.items ∙ ap (λ (t : NumberSteps). has c.args.number t.numbers) c.self.view_is))
