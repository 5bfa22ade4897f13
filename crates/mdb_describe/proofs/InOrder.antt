-- Changes of a list keep its servers in the order of their addresses.
use Rattle.std.proofs.Common.{◌≡◌, Bool, true, false, not, ◌&&◌, ◌||◌, List, [], ◌∷◌, filter, if◌then◌else◌, refl, sym, ◌∙◌, inl, inr}
use Rattle.std.proofs.lemmas.Bool.{cases_Bool, and_parts, and_from}
use Rattle.mdb_base.specs.declared.address.ServerAddress.{ServerAddress}
use Rattle.mdb_base.specs.AddressOrder.{is_before, is_before_first as is_before_address}
use Rattle.mdb_base.specs.Equality.{same_address}
use Rattle.mdb_base.proofs.AddressOrder.{before_on, before_back, tied_left, tied_right}
use Rattle.mdb_describe.specs.declared.description.ServerDescription.{ServerDescription}
use Rattle.mdb_describe.specs.declared.change.Fate.{Fate}
use Rattle.mdb_describe.specs.declared.change.Fate.TheVariants.{Stays, Forgotten, Gone}
use Rattle.mdb_describe.specs.declared.change.Change.{Change}
use Rattle.mdb_describe.specs.Descriptions.{unknown}
use Rattle.mdb_describe.specs.Servers.{addresses_of, in_order, is_known, is_listed, is_primary_type, store, forget_where, forget_other_primaries, put, add, add_all, keep_listed}
use Rattle.mdb_describe.specs.Changes.{changed_servers, by_fate}

-- What stands before the first server.

abbrev is_before_first : ServerAddress → List ServerDescription → Bool
is_before_first a xs = is_before_address a (addresses_of xs)

abbrev Test : Type 0
Test = ServerDescription → Bool

first_on : (a b : ServerAddress) (xs : List ServerDescription) → is_before a b ≡ true → is_before_first b xs ≡ true → is_before_first a xs ≡ true
first_on a b [] h g = refl
first_on a b (s ∷ xs) h g = before_on a b s.address h g

first_tied : (a b : ServerAddress) (xs : List ServerDescription) → same_address a b ≡ true → is_before_first a xs ≡ is_before_first b xs
first_tied a b [] h = refl
first_tied a b (s ∷ xs) h = tied_left a b s.address h

first_stored : (a : ServerAddress) (d : ServerDescription) (xs : List ServerDescription) → is_before_first a xs ≡ true → is_before_first a (store d xs) ≡ true
first_stored a d [] h = refl
first_stored a d (s ∷ xs) h = elim (cases_Bool (same_address s.address d.address)) [
  | inl same ↦ rw same (sym (tied_right s.address d.address a same) ∙ h)
  | inr other ↦ rw other h
]

first_kept : (p : Test) (a : ServerAddress) (xs : List ServerDescription) → in_order xs ≡ true → is_before_first a xs ≡ true → is_before_first a (filter p xs) ≡ true
first_kept p a [] h g = refl
first_kept p a (s ∷ xs) h g =
    let q = and_parts (is_before_first s.address xs) (in_order xs) h in
    elim (cases_Bool (p s)) [
      | inl passes ↦ rw passes g
      | inr fails ↦ rw fails (first_kept p a xs q.1 (first_on a s.address xs g q.0))
    ]

first_forgotten : (p : Test) (a : ServerAddress) (xs : List ServerDescription) → is_before_first a (forget_where p xs) ≡ is_before_first a xs
first_forgotten p a [] = refl
first_forgotten p a (s ∷ xs) = elim (cases_Bool (p s)) [
  | inl passes ↦ rw passes refl
  | inr fails ↦ rw fails refl
]

first_put : (a : ServerAddress) (d : ServerDescription) (xs : List ServerDescription) → is_before a d.address ≡ true → is_before_first a xs ≡ true → is_before_first a (put d xs) ≡ true
first_put a d [] h g = h
first_put a d (s ∷ xs) h g = elim (cases_Bool (is_before d.address s.address)) [
  | inl before ↦ rw before h
  | inr after ↦ rw after g
]

-- The changes of a list.

pub stored_in_order : (d : ServerDescription) (xs : List ServerDescription) → in_order xs ≡ true → in_order (store d xs) ≡ true
stored_in_order d [] h = refl
stored_in_order d (s ∷ xs) h =
    let q = and_parts (is_before_first s.address xs) (in_order xs) h in
    elim (cases_Bool (same_address s.address d.address)) [
      | inl same ↦ rw same (and_from (is_before_first d.address xs) (in_order xs) (sym (first_tied s.address d.address xs same) ∙ q.0) q.1)
      | inr other ↦ rw other (and_from (is_before_first s.address (store d xs)) (in_order (store d xs)) (first_stored s.address d xs q.0) (stored_in_order d xs q.1))
    ]

pub kept_in_order : (p : Test) (xs : List ServerDescription) → in_order xs ≡ true → in_order (filter p xs) ≡ true
kept_in_order p [] h = refl
kept_in_order p (s ∷ xs) h =
    let q = and_parts (is_before_first s.address xs) (in_order xs) h in
    elim (cases_Bool (p s)) [
      | inl passes ↦ rw passes (and_from (is_before_first s.address (filter p xs)) (in_order (filter p xs)) (first_kept p s.address xs q.1 q.0) (kept_in_order p xs q.1))
      | inr fails ↦ rw fails (kept_in_order p xs q.1)
    ]

pub forgotten_in_order : (p : Test) (xs : List ServerDescription) → in_order xs ≡ true → in_order (forget_where p xs) ≡ true
forgotten_in_order p [] h = refl
forgotten_in_order p (s ∷ xs) h =
    let q = and_parts (is_before_first s.address xs) (in_order xs) h in
    let rest : (is_before_first s.address (forget_where p xs) && in_order (forget_where p xs)) ≡ true = and_from (is_before_first s.address (forget_where p xs)) (in_order (forget_where p xs)) (first_forgotten p s.address xs ∙ q.0) (forgotten_in_order p xs q.1) in
    elim (cases_Bool (p s)) [
      | inl passes ↦ rw passes rest
      | inr fails ↦ rw fails rest
    ]

neither : (x y : Bool) → (x || y) ≡ false → (x ≡ false) × (y ≡ false)
neither true y h = absurd (cc)
neither false y h = (refl, h)

pub put_in_order : (d : ServerDescription) (xs : List ServerDescription) → in_order xs ≡ true → is_known d.address xs ≡ false → in_order (put d xs) ≡ true
put_in_order d [] h new = refl
put_in_order d (s ∷ xs) h new =
    let q = and_parts (is_before_first s.address xs) (in_order xs) h in
    let n = neither (same_address s.address d.address) (is_known d.address xs) new in
    elim (cases_Bool (is_before d.address s.address)) [
      | inl before ↦ rw before (and_from (is_before d.address s.address) (in_order (s ∷ xs)) before h)
      | inr after ↦ rw after (and_from (is_before_first s.address (put d xs)) (in_order (put d xs)) (first_put s.address d xs (before_back d.address s.address after n.0) q.0) (put_in_order d xs q.1 n.1))
    ]

add_in_order : (a : ServerAddress) (xs : List ServerDescription) → in_order xs ≡ true → in_order (add a xs) ≡ true
add_in_order a xs h = elim (cases_Bool (is_known a xs)) [
  | inl known ↦ rw known h
  | inr new ↦ rw new (put_in_order (unknown a) xs h new)
]

pub added_in_order : (hosts : List ServerAddress) (xs : List ServerDescription) → in_order xs ≡ true → in_order (add_all hosts xs) ≡ true
added_in_order [] xs h = h
added_in_order (a ∷ hosts) xs h = added_in_order hosts (add a xs) (add_in_order a xs h)

-- A whole change.

chosen : (b : Bool) (xs ys : List ServerDescription) → in_order xs ≡ true → in_order ys ≡ true → in_order (if b then xs else ys) ≡ true
chosen true xs ys h g = h
chosen false xs ys h g = g

fated_in_order : (f : Fate) (a : ServerAddress) (xs : List ServerDescription) → in_order xs ≡ true → in_order (by_fate f a xs) ≡ true
fated_in_order Stays a xs h = h
fated_in_order Forgotten a xs h = forgotten_in_order (λ s. same_address s.address a) xs h
fated_in_order Gone a xs h = kept_in_order (λ s. not (same_address s.address a)) xs h

pub changed_in_order : (c : Change) (s : ServerDescription) (hosts : List ServerAddress) (servers : List ServerDescription) → in_order servers ≡ true → in_order (changed_servers c s hosts servers) ≡ true
changed_in_order c s hosts servers h =
    let stored = store s servers in
    let demoted = (if c.demotes then forget_other_primaries s.address stored else stored) in
    let joined = (if c.adds then add_all hosts demoted else demoted) in
    let kept = (if c.only_listed then keep_listed hosts joined else joined) in
    let after_store : in_order stored ≡ true = stored_in_order s servers h in
    let after_demotion : in_order demoted ≡ true = chosen c.demotes (forget_other_primaries s.address stored) stored (forgotten_in_order (λ t. is_primary_type t.server_type && not (same_address t.address s.address)) stored after_store) after_store in
    let after_joining : in_order joined ≡ true = chosen c.adds (add_all hosts demoted) demoted (added_in_order hosts demoted after_demotion) after_demotion in
    let after_keeping : in_order kept ≡ true = chosen c.only_listed (keep_listed hosts joined) joined (kept_in_order (λ t. is_listed hosts t.address) joined after_joining) after_joining in
    fated_in_order c.fate s.address kept after_keeping

pub synced_in_order : (hosts : List ServerAddress) (servers : List ServerDescription) → in_order servers ≡ true → in_order (keep_listed hosts (add_all hosts servers)) ≡ true
synced_in_order hosts servers h = kept_in_order (λ t. is_listed hosts t.address) (add_all hosts servers) (added_in_order hosts servers h)
