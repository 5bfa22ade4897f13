-- Addresses in order are all different.
use Rattle.std.proofs.Common.{◌≡◌, Bool, true, false, List, [], ◌∷◌, refl, sym, ◌∙◌}
use Rattle.std.specs.List.{list_any}
use Rattle.mdb_base.specs.Equality.{same_address}
use Rattle.mdb_base.specs.AddressOrder.{is_before, is_before_first, in_order}
use Rattle.mdb_base.specs.OptionRules.{all_different}
use Rattle.mdb_base.specs.declared.address.ServerAddress.{ServerAddress}
use Rattle.mdb_base.proofs.AddressOrder.{before_on, same_not_before, same_back}
use Rattle.mdb_log.proofs.Bools.{both-true}

before-rest : (a b : ServerAddress) (xs : List ServerAddress) → is_before a b ≡ true → is_before_first b xs ≡ true → is_before_first a xs ≡ true
before-rest a b [] e f = refl
before-rest a b (c ∷ xs) e f = before_on a b c e f

apart : (a b : ServerAddress) → is_before a b ≡ true → same_address b a ≡ false
apart a b e = on (same_address b a) refl
  where
    on : (k : Bool) → same_address b a ≡ k → same_address b a ≡ false
    on false f = f
    on true f =
        let w : is_before a b ≡ false = same_not_before a b (same_back a b ∙ f) in
        let t : true ≡ false = sym e ∙ w in
        cc

-- what stands before the others is none of them
pub none-same : (a : ServerAddress) (xs : List ServerAddress) → is_before_first a xs ≡ true → in_order xs ≡ true → list_any (λ b. same_address b a) xs ≡ false
none-same a [] e f = refl
none-same a (b ∷ xs) e f =
    let both : (is_before_first b xs ≡ true) × (in_order xs ≡ true) = both-true (is_before_first b xs) (in_order xs) f in
    rw (apart a b e) (none-same a xs (before-rest a b xs e both.0) both.1)

pub ordered-different : (xs : List ServerAddress) → in_order xs ≡ true → all_different xs ≡ true
ordered-different [] e = refl
ordered-different (a ∷ xs) e =
    let both : (is_before_first a xs ≡ true) × (in_order xs ≡ true) = both-true (is_before_first a xs) (in_order xs) e in
    rw (none-same a xs both.0 both.1) (ordered-different xs both.1)
