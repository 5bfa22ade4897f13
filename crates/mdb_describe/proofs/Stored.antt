-- A description takes the place of the one of its address, among servers that stay the same but for it.
use Rattle.std.proofs.Common.{suc, ◌≡◌, ◌||◌, Bool, true, false, List, [], ◌∷◌, length, map, filter, Some, None, refl, sym, ◌∙◌, ap}
use Rattle.std.proofs.lemmas.Bool.{or_right}
use Rattle.mdb_base.specs.declared.address.ServerAddress.{ServerAddress}
use Rattle.mdb_base.specs.Equality.{same_address}
use Rattle.mdb_describe.specs.declared.description.ServerDescription.{ServerDescription}
use Rattle.mdb_describe.specs.Differences.{changed, difference, differs_from, missing}
use Rattle.mdb_describe.specs.Same.{same}
use Rattle.mdb_describe.specs.Servers.{addresses_of, in_order, is_known, store}
use Rattle.mdb_describe.specs.Topology.{server_at}
use Rattle.mdb_describe.proofs.Addresses.{own-address, same-address}
use Rattle.mdb_describe.proofs.SameAsItself.{none-differs}

-- nothing is missing where each server is known
pub none-missing : (xs others : List ServerDescription) → ((a : ServerAddress) → is_known a xs ≡ true → is_known a others ≡ true) → missing xs others ≡ []
none-missing [] others within = refl
none-missing (x ∷ xs) others within =
    let here : is_known x.address others ≡ true = within x.address (rw (own-address x.address) refl) in
    rw here (none-missing xs others (λ a k. within a (or_right (same_address x.address a) (is_known a xs) k)))

module _ (s : ServerDescription) where
  pub store-known : (b : ServerAddress) (xs : List ServerDescription) → is_known b (store s xs) ≡ is_known b xs
  store-known b [] = refl
  store-known b (x ∷ xs) = on (same_address x.address s.address) refl (store-known b xs)
    where
      on : (c : Bool) → same_address x.address s.address ≡ c → is_known b (store s xs) ≡ is_known b xs → is_known b (store s (x ∷ xs)) ≡ is_known b (x ∷ xs)
      on true f deeper = rw f (ap (λ (y : ServerAddress). same_address y b || is_known b xs) (sym (same-address x.address s.address f)))
      on false f deeper = rw f (ap (λ c. same_address x.address b || c) deeper)

  pub store-length : (xs : List ServerDescription) → length (store s xs) ≡ length xs
  store-length [] = refl
  store-length (x ∷ xs) = on (same_address x.address s.address) refl (store-length xs)
    where
      on : (c : Bool) → same_address x.address s.address ≡ c → length (store s xs) ≡ length xs → length (store s (x ∷ xs)) ≡ length (x ∷ xs)
      on true f deeper = rw f refl
      on false f deeper = rw f (ap suc deeper)

  pub store-addresses : (xs : List ServerDescription) → addresses_of (store s xs) ≡ addresses_of xs
  store-addresses [] = refl
  store-addresses (x ∷ xs) = on (same_address x.address s.address) refl (store-addresses xs)
    where
      on : (c : Bool) → same_address x.address s.address ≡ c → addresses_of (store s xs) ≡ addresses_of xs → addresses_of (store s (x ∷ xs)) ≡ addresses_of (x ∷ xs)
      on true f deeper = rw f (ap (λ (y : ServerAddress). y ∷ addresses_of xs) (sym (same-address x.address s.address f)))
      on false f deeper = rw f (ap (λ ys. x.address ∷ ys) deeper)

  pub store-at : (xs : List ServerDescription) → is_known s.address xs ≡ true → server_at s.address (store s xs) ≡ Some s
  store-at [] k = cc
  store-at (x ∷ xs) k = on (same_address x.address s.address) refl (λ w. store-at xs w)
    where
      on : (c : Bool) → same_address x.address s.address ≡ c → (is_known s.address xs ≡ true → server_at s.address (store s xs) ≡ Some s) → server_at s.address (store s (x ∷ xs)) ≡ Some s
      on true f deeper = rw (f, own-address s.address) refl
      on false f deeper = rw (f, f) (deeper (sym (rw f refl) ∙ k))

  -- where nobody passes a test, nobody does with it
  never-stored : (f : ServerDescription → Bool) (xs : List ServerDescription) → f s ≡ false → filter f xs ≡ [] → filter f (store s xs) ≡ []
  never-stored f [] own none = refl
  never-stored f (x ∷ xs) own none = on (f x) (same_address x.address s.address) refl refl (λ e. never-stored f xs own e)
    where
      on : (b c : Bool) → f x ≡ b → same_address x.address s.address ≡ c → (filter f xs ≡ [] → filter f (store s xs) ≡ []) → filter f (store s (x ∷ xs)) ≡ []
      on true c e g deeper = let w : filter f (x ∷ xs) ≡ x ∷ filter f xs = rw e refl in let t : x ∷ filter f xs ≡ [] = sym w ∙ none in cc
      on false true e g deeper = let w : filter f (x ∷ xs) ≡ filter f xs = rw e refl in rw (g, own) (sym w ∙ none)
      on false false e g deeper = let w : filter f (x ∷ xs) ≡ filter f xs = rw e refl in rw (g, e) (deeper (sym w ∙ none))

  -- where it says what the one before it says, nothing differs
  pub stored-alike : (xs : List ServerDescription) (known : ServerDescription) → in_order xs ≡ true → server_at s.address xs ≡ Some known → same known s ≡ true → difference xs (store s xs) ≡ None
  stored-alike xs known ordered at alike =
      let stays : differs_from xs s ≡ false = rw (at, alike) refl in
      let none : changed xs (store s xs) ≡ [] = ap (map (λ (y : ServerDescription). y.address)) (never-stored (differs_from xs) xs stays (none-differs xs ordered)) in
      let gone : missing xs (store s xs) ≡ [] = none-missing xs (store s xs) (λ b k. store-known b xs ∙ k) in
      let come : missing (store s xs) xs ≡ [] = none-missing (store s xs) xs (λ b k. sym (store-known b xs) ∙ k) in
      rw (none, gone, come) refl
