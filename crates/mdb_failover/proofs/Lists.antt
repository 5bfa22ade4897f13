-- Lists of servers that keep their addresses.
use Rattle.std.proofs.Common.{◌≡◌, Bool, true, false, not, ◌||◌, inl, inr, List, [], ◌∷◌, refl, ap, ◌∙◌, subst}
use Rattle.std.specs.List.{list_all}
use Rattle.std.proofs.lemmas.Bool.{cases_Bool, and_parts}
use Rattle.mdb_base.specs.declared.address.ServerAddress.{ServerAddress}
use Rattle.mdb_base.specs.AddressOrder.{is_before, is_before_first}
use Rattle.mdb_base.specs.Equality.{same_address}
use Rattle.mdb_base.proofs.AddressOrder.{before_on, same_not_before, same_back}
use Rattle.mdb_failover.proofs.Addresses.{same-address}
use Rattle.mdb_describe.specs.declared.description.ServerDescription.{ServerDescription}
use Rattle.mdb_describe.specs.Descriptions.{unknown}
use Rattle.mdb_describe.specs.Servers.{addresses_of, in_order, is_known, is_listed, is_primary_type, has_primary, store, forget_where, add_all, keep_listed}
use Rattle.mdb_failover.specs.Followed.{Each}

abbrev Test : Type 0
Test = ServerDescription → Bool

-- changes that keep the addresses

pub stored-addresses : (d : ServerDescription) (xs : List ServerDescription) → addresses_of (store d xs) ≡ addresses_of xs
stored-addresses d [] = refl
stored-addresses d (s ∷ xs) = elim (cases_Bool (same_address s.address d.address)) [
  | inl same ↦ rw (same, same-address s.address d.address same) refl
  | inr other ↦ rw other (ap (λ (known : List ServerAddress). s.address ∷ known) (stored-addresses d xs))
]

pub forgotten-addresses : (p : Test) (xs : List ServerDescription) → addresses_of (forget_where p xs) ≡ addresses_of xs
forgotten-addresses p [] = refl
forgotten-addresses p (s ∷ xs) = elim (cases_Bool (p s)) [
  | inl passes ↦ rw passes (ap (λ (known : List ServerAddress). s.address ∷ known) (forgotten-addresses p xs))
  | inr fails ↦ rw fails (ap (λ (known : List ServerAddress). s.address ∷ known) (forgotten-addresses p xs))
]

pub known-address : (a : ServerAddress) (xs : List ServerDescription) → is_known a xs ≡ is_listed (addresses_of xs) a
known-address a [] = refl
known-address a (s ∷ xs) = ap (λ b. same_address s.address a || b) (known-address a xs)

-- nobody joins where all are known
pub added-none : (hosts : List ServerAddress) (xs : List ServerDescription) → list_all (is_listed (addresses_of xs)) hosts ≡ true → add_all hosts xs ≡ xs
added-none [] xs all = refl
added-none (a ∷ more) xs all =
    let p = and_parts (is_listed (addresses_of xs) a) (list_all (is_listed (addresses_of xs)) more) all in
    let known : is_known a xs ≡ true = known-address a xs ∙ p.0 in
    rw known (added-none more xs p.1)

-- nobody goes where all are listed
pub kept-all : (hosts : List ServerAddress) (xs : List ServerDescription) → list_all (is_listed hosts) (addresses_of xs) ≡ true → keep_listed hosts xs ≡ xs
kept-all hosts [] all = refl
kept-all hosts (s ∷ xs) all =
    let p = and_parts (is_listed hosts s.address) (list_all (is_listed hosts) (addresses_of xs)) all in
    rw p.0 (ap (λ (ys : List ServerDescription). s ∷ ys) (kept-all hosts xs p.1))

-- what holds of each server

pub each-stored : (P : ServerDescription → Type 0) (d : ServerDescription) (xs : List ServerDescription) → P d → Each P xs → Each P (store d xs)
each-stored P d [] h all = tt
each-stored P d (s ∷ xs) h all = elim (cases_Bool (same_address s.address d.address)) [
  | inl same ↦ rw same (h, all.1)
  | inr other ↦ rw other (all.0, each-stored P d xs h all.1)
]

pub each-forgotten : (P : ServerDescription → Type 0) (p : Test) (xs : List ServerDescription) → ((a : ServerAddress) → P (unknown a)) → Each P xs → Each P (forget_where p xs)
each-forgotten P p [] h all = tt
each-forgotten P p (s ∷ xs) h all = elim (cases_Bool (p s)) [
  | inl passes ↦ rw passes (h s.address, each-forgotten P p xs h all.1)
  | inr fails ↦ rw fails (all.0, each-forgotten P p xs h all.1)
]

pub each-map : (P Q : ServerDescription → Type 0) (xs : List ServerDescription) → ((s : ServerDescription) → P s → Q s) → Each P xs → Each Q xs
each-map P Q [] f all = tt
each-map P Q (s ∷ xs) f all = (f s all.0, each-map P Q xs f all.1)

-- addresses in order are apart

abbrev IsApart : ServerAddress → ServerDescription → Type 0
IsApart a s = same_address s.address a ≡ false

before-apart : (a b : ServerAddress) → is_before a b ≡ true → same_address b a ≡ false
before-apart a b before = elim (cases_Bool (same_address b a)) [
  | inl same ↦ let wrong : is_before a b ≡ false = same_not_before a b (same_back a b ∙ same) in cc
  | inr other ↦ other
]

apart-from : (a : ServerAddress) (xs : List ServerDescription) → is_before_first a (addresses_of xs) ≡ true → in_order xs ≡ true → Each (IsApart a) xs
apart-from a [] before ordered = tt
apart-from a (s ∷ xs) before ordered =
    let p = and_parts (is_before_first s.address (addresses_of xs)) (in_order xs) ordered in
    (before-apart a s.address before, apart-from a xs (behind xs p.0) p.1)
  where
    behind : (ys : List ServerDescription) → is_before_first s.address (addresses_of ys) ≡ true → is_before_first a (addresses_of ys) ≡ true
    behind [] h = refl
    behind (y ∷ ys) h = before_on a s.address y.address before h

pub apart : (s : ServerDescription) (xs : List ServerDescription) → in_order (s ∷ xs) ≡ true → Each (IsApart s.address) xs
apart s xs ordered =
    let p = and_parts (is_before_first s.address (addresses_of xs)) (in_order xs) ordered in
    apart-from s.address xs p.0 p.1

-- after a store, who has the address is the one that was stored
pub stored-alone : (d : ServerDescription) (xs : List ServerDescription) → in_order xs ≡ true → Each (λ s. same_address s.address d.address ≡ true → s ≡ d) (store d xs)
stored-alone d [] ordered = tt
stored-alone d (s ∷ xs) ordered =
    let p = and_parts (is_before_first s.address (addresses_of xs)) (in_order xs) ordered in
    elim (cases_Bool (same_address s.address d.address)) [
      | inl same ↦
          rw same (
            λ h. refl,
            each-map (IsApart s.address) (λ x. same_address x.address d.address ≡ true → x ≡ d) xs
                (λ x far so. let wrong : same_address x.address d.address ≡ false = subst (λ b. same_address x.address b ≡ false) (same-address s.address d.address same) far in absurd (cc)) (apart s xs ordered),
          )
      | inr other ↦ rw other (λ so. absurd (cc), stored-alone d xs p.1)
    ]

-- primaries

pub stored-secondary : (d : ServerDescription) (xs : List ServerDescription) → is_primary_type d.server_type ≡ false → has_primary xs ≡ false → has_primary (store d xs) ≡ false
stored-secondary d [] none has = refl
stored-secondary d (s ∷ xs) none has = elim (cases_Bool (is_primary_type s.server_type)) [
  | inl primary ↦ let wrong : has_primary (s ∷ xs) ≡ true = rw primary refl in absurd (cc)
  | inr not ↦
      let rest : has_primary xs ≡ false = rw not at has in
      elim (cases_Bool (same_address s.address d.address)) [
        | inl same ↦ rw (same, none) rest
        | inr other ↦ rw (other, not) (stored-secondary d xs none rest)
      ]
]

-- what holds after forgetting by a test
pub each-where : (P Q : ServerDescription → Type 0) (p : Test) (xs : List ServerDescription) → ((a : ServerAddress) → Q (unknown a)) → ((s : ServerDescription) → p s ≡ false → P s → Q s)
    → Each P xs → Each Q (forget_where p xs)
each-where P Q p [] h f all = tt
each-where P Q p (s ∷ xs) h f all = elim (cases_Bool (p s)) [
  | inl passes ↦ rw passes (h s.address, each-where P Q p xs h f all.1)
  | inr fails ↦ rw fails (f s fails all.0, each-where P Q p xs h f all.1)
]
