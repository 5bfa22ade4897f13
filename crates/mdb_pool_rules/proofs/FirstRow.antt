-- No row of a table of refusals holds.
use Rattle.std.proofs.Common.{◌≡◌, Bool, true, false, List, [], ◌∷◌, None, refl}
use Rattle.mdb_log.specs.declared.reply.Refused.{Refused}
use Rattle.mdb_pool_rules.specs.Refusal.{first_row}

-- where no row holds, the first does not, nor one of the others
pub first-passes : (b : Bool) (why : Refused) (rows : List (Bool × Refused)) → first_row ((b, why) ∷ rows) ≡ None → (b ≡ false) × (first_row rows ≡ None)
first-passes true why rows e = cc
first-passes false why rows e = (refl, e)

pub one-passes : (b : Bool) (why : Refused) → first_row ((b, why) ∷ []) ≡ None → b ≡ false
one-passes b why e = (first-passes b why [] e).0

pub two-pass : (b c : Bool) (why also : Refused) → first_row ((b, why) ∷ (c, also) ∷ []) ≡ None → (b ≡ false) × (c ≡ false)
two-pass b c why also e =
    let rest : (b ≡ false) × (first_row ((c, also) ∷ []) ≡ None) = first-passes b why ((c, also) ∷ []) e in
    (rest.0, one-passes c also rest.1)

pub three-pass : (b c d : Bool) (why also too : Refused) → first_row ((b, why) ∷ (c, also) ∷ (d, too) ∷ []) ≡ None → (b ≡ false) × (c ≡ false) × (d ≡ false)
three-pass b c d why also too e =
    let rest : (b ≡ false) × (first_row ((c, also) ∷ (d, too) ∷ []) ≡ None) = first-passes b why ((c, also) ∷ (d, too) ∷ []) e in
    let both : (c ≡ false) × (d ≡ false) = two-pass c d also too rest.1 in
    (rest.0, both.0, both.1)
