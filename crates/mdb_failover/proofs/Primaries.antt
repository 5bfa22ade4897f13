-- At most one server of a description that follows a replica set is a primary.
use Rattle.std.proofs.Common.{◌≡◌, ℕ, Bool, true, false, List, [], ◌∷◌, filter, Option, Some, None, refl, sym, ap, ◌∙◌, subst, arith}
use Rattle.std.proofs.lemmas.Bool.{cases_Bool, and_parts}
use Rattle.std.proofs.Common.{inl, inr}
use Rattle.mdb_base.specs.declared.address.ServerAddress.{ServerAddress}
use Rattle.mdb_base.specs.AddressOrder.{is_before_first}
use Rattle.mdb_base.specs.Equality.{same_address}
use Rattle.mdb_describe.specs.declared.description.ServerDescription.{ServerDescription}
use Rattle.mdb_describe.specs.Servers.{addresses_of, in_order, is_primary_type}
use Rattle.mdb_fleets.specs.MemberReplies.{address_of}
use Rattle.mdb_failover.specs.Elections.{Pair}
use Rattle.mdb_failover.specs.Followed.{LeadsBy, LeadsIfPrimary, Each, AtMostOnePrimary}
use Rattle.mdb_failover.proofs.Addresses.{own-address}
use Rattle.mdb_failover.proofs.Lists.{apart}

abbrev is_primary : ServerDescription → Bool
is_primary s = is_primary_type s.server_type

some-same : (a b : ℕ) → Some a ≡ Some b → a ≡ b
some-same a b h = cc

-- two servers that lead by one pair are at one address
same-leader : (winners : List ℕ) (t : Option Pair) (x y : ServerDescription) → LeadsBy winners t x → LeadsBy winners t y → same_address y.address x.address ≡ true
same-leader winners None x y p q = absurd p
same-leader winners (Some t) x y p q =
    let one : p.member ≡ q.member = some-same p.member q.member (sym p.won.winner ∙ q.won.winner) in
    let at : y.address ≡ x.address = q.address ∙ ap address_of (sym one) ∙ sym p.address in
    subst (λ (a : ServerAddress). same_address a x.address ≡ true) (sym at) (own-address x.address)

-- the servers apart from a primary are none
no-others : (winners : List ℕ) (t : Option Pair) (x : ServerDescription) (xs : List ServerDescription) → LeadsBy winners t x → Each (λ y. same_address y.address x.address ≡ false) xs → Each (LeadsIfPrimary winners t) xs
    → filter is_primary xs ≡ []
no-others winners t x [] own far leads = refl
no-others winners t x (y ∷ xs) own far leads = elim (cases_Bool (is_primary y)) [
  | inl primary ↦ let same : same_address y.address x.address ≡ true = same-leader winners t x y own (leads.0 primary) in let other : same_address y.address x.address ≡ false = far.0 in absurd (cc)
  | inr other ↦ rw other (no-others winners t x xs own far.1 leads.1)
]

pub one-primary : (winners : List ℕ) (t : Option Pair) (xs : List ServerDescription) → in_order xs ≡ true → Each (LeadsIfPrimary winners t) xs → AtMostOnePrimary xs
one-primary winners t [] ordered leads = omega arith
one-primary winners t (x ∷ xs) ordered leads =
    let p = and_parts (is_before_first x.address (addresses_of xs)) (in_order xs) ordered in
    elim (cases_Bool (is_primary x)) [
      | inl primary ↦ rw (primary, no-others winners t x xs (leads.0 primary) (apart x xs ordered) leads.1) (omega arith)
      | inr other ↦ rw other (one-primary winners t xs p.1 leads.1)
    ]
