-- What an ordered list of servers finds, and what a difference of two of them lists.
use Rattle.std.proofs.Common.{◌≡◌, ℕ, zero, suc, Bool, true, false, not, ◌&&◌, ◌||◌, List, [], ◌∷◌, Option, Some, None, is_some, refl, sym, ap, ◌∙◌, inl, inr}
use Rattle.std.specs.List.{list_all, slice_get}
use Rattle.std.proofs.lemmas.Bool.{cases_Bool, and_parts, and_from, or_right}
use Rattle.std.proofs.lemmas.Option.{same_Some}
use Rattle.mdb_base.specs.declared.address.ServerAddress.{ServerAddress}
use Rattle.mdb_base.specs.AddressOrder.{is_before, in_order as are_in_order}
use Rattle.mdb_base.specs.Equality.{same_address}
use Rattle.mdb_base.proofs.AddressOrder.{before_on, same_not_before}
use Rattle.mdb_describe.specs.declared.description.ServerDescription.{ServerDescription}
use Rattle.mdb_describe.specs.declared.diff.Diff.{Diff}
use Rattle.mdb_describe.specs.Servers.{is_known, in_order}
use Rattle.mdb_describe.specs.Topology.{server_at}
use Rattle.mdb_describe.specs.Differences.{is_other, differs_from, changed, missing, difference, unless_empty, is_empty, AreInOrder, are_in_both}
use Rattle.mdb_describe.proofs.Addresses.{own-address}
use Rattle.mdb_describe.proofs.InOrder.{kept_in_order}

before_not_same : (a b : ServerAddress) → is_before a b ≡ true → same_address a b ≡ false
before_not_same a b h = elim (cases_Bool (same_address a b)) [
  | inl same ↦ absurd (let e = same_not_before a b same in cc)
  | inr other ↦ other
]

-- a server stands before each one behind it
before_later : (x : ServerDescription) (xs : List ServerDescription) (i : ℕ) (s : ServerDescription) → in_order (x ∷ xs) ≡ true → slice_get xs i ≡ Some s → is_before x.address s.address ≡ true
before_later x [] i s h at = absurd (cc)
before_later x (y ∷ ys) zero s h at =
    let q = and_parts (is_before x.address y.address) (in_order (y ∷ ys)) h in
    sym (ap (λ (t : ServerDescription). is_before x.address t.address) (same_Some y s at)) ∙ q.0
before_later x (y ∷ ys) (suc i) s h at =
    let q = and_parts (is_before x.address y.address) (in_order (y ∷ ys)) h in
    before_on x.address y.address s.address q.0 (before_later y ys i s q.1 at)

rest_in_order : (x : ServerDescription) (xs : List ServerDescription) → in_order (x ∷ xs) ≡ true → in_order xs ≡ true
rest_in_order x [] h = refl
rest_in_order x (y ∷ ys) h = (and_parts (is_before x.address y.address) (in_order (y ∷ ys)) h).1

-- A server of the list is found under its address.
pub found_at_own : (xs : List ServerDescription) (i : ℕ) (s : ServerDescription) → in_order xs ≡ true → slice_get xs i ≡ Some s → server_at s.address xs ≡ Some s
found_at_own [] i s h at = absurd (cc)
found_at_own (x ∷ xs) zero s h at =
    let e : same_address x.address s.address ≡ true = sym (ap (λ (t : ServerDescription). same_address x.address t.address) (same_Some x s at)) ∙ own-address x.address in
    rw e at
found_at_own (x ∷ xs) (suc i) s h at =
    let e : same_address x.address s.address ≡ false = before_not_same x.address s.address (before_later x xs i s h at) in
    rw e (found_at_own xs i s (rest_in_order x xs h) at)

-- The server that is found has the address.
pub found_has_address : (a : ServerAddress) (xs : List ServerDescription) (s : ServerDescription) → server_at a xs ≡ Some s → same_address s.address a ≡ true
found_has_address a [] s h = absurd (cc)
found_has_address a (x ∷ xs) s h = elim (cases_Bool (same_address x.address a)) [
  | inl same ↦
      let is : Some x ≡ Some s = sym (rw same refl) ∙ h in
      ap (λ (t : ServerDescription). same_address t.address a) (sym (same_Some x s is)) ∙ same
  | inr other ↦ found_has_address a xs s (sym (rw other refl) ∙ h)
]

-- An address is known where a server is found under it.
pub known_where_found : (a : ServerAddress) (xs : List ServerDescription) → is_some (server_at a xs) ≡ is_known a xs
known_where_found a [] = refl
known_where_found a (x ∷ xs) = elim (cases_Bool (same_address x.address a)) [
  | inl same ↦ rw same refl
  | inr other ↦ rw other (known_where_found a xs)
]

-- The lists of a difference are in order.
pub changed_ordered : (earlier later : List ServerDescription) → in_order later ≡ true → are_in_order (changed earlier later) ≡ true
changed_ordered earlier later h = kept_in_order (differs_from earlier) later h

pub missing_ordered : (servers others : List ServerDescription) → in_order servers ≡ true → are_in_order (missing servers others) ≡ true
missing_ordered servers others h = kept_in_order (λ s. not (is_known s.address others)) servers h

-- A changed address is in both.
other_found : (o : Option ServerDescription) (s : ServerDescription) → is_other o s ≡ true → is_some o ≡ true
other_found (Some old) s h = refl
other_found None s h = absurd (cc)

both_within : (earlier whole xs : List ServerDescription) → ((a : ServerAddress) → is_known a xs ≡ true → is_known a whole ≡ true) → are_in_both earlier whole (changed earlier xs) ≡ true
both_within earlier whole [] h = refl
both_within earlier whole (x ∷ xs) h =
    let rest = both_within earlier whole xs (λ a k. h a (or_right (same_address x.address a) (is_known a xs) k)) in
    elim (cases_Bool (differs_from earlier x)) [
      | inl differs ↦
          let before : is_known x.address earlier ≡ true = sym (known_where_found x.address earlier) ∙ other_found (server_at x.address earlier) x differs in
          let now : is_known x.address whole ≡ true = h x.address (ap (λ (b : Bool). b || is_known x.address xs) (own-address x.address)) in
          rw differs (and_from (is_known x.address earlier && is_known x.address whole) (are_in_both earlier whole (changed earlier xs)) (and_from (is_known x.address earlier) (is_known x.address whole) before now) rest)
      | inr same ↦ rw same rest
    ]

pub changed_in_both : (earlier later : List ServerDescription) → are_in_both earlier later (changed earlier later) ≡ true
changed_in_both earlier later = both_within earlier later later (λ a k. k)

-- A missing address is that of one of the servers, and of none of the others.
apart_within : (whole others xs : List ServerDescription) → ((a : ServerAddress) → is_known a xs ≡ true → is_known a whole ≡ true) → list_all (λ a. is_known a whole && not (is_known a others)) (missing xs others) ≡ true
apart_within whole others [] h = refl
apart_within whole others (x ∷ xs) h =
    let rest = apart_within whole others xs (λ a k. h a (or_right (same_address x.address a) (is_known a xs) k)) in
    elim (cases_Bool (not (is_known x.address others))) [
      | inl gone ↦
          let here : is_known x.address whole ≡ true = h x.address (ap (λ (b : Bool). b || is_known x.address xs) (own-address x.address)) in
          rw gone (and_from (is_known x.address whole && not (is_known x.address others)) (list_all (λ a. is_known a whole && not (is_known a others)) (missing xs others)) (and_from (is_known x.address whole) (not (is_known x.address others)) here gone) rest)
      | inr there ↦ rw there rest
    ]

pub missing_apart : (servers others : List ServerDescription) → list_all (λ a. is_known a servers && not (is_known a others)) (missing servers others) ≡ true
missing_apart servers others = apart_within servers others servers (λ a k. k)

-- A whole difference that is told is the one that was found.
kept_diff : (d e : Diff) → unless_empty d ≡ Some e → d ≡ e
kept_diff d e h = elim (cases_Bool (is_empty d.changed && (is_empty d.removed && is_empty d.added))) [
  | inl none ↦ absurd (cc)
  | inr some ↦ same_Some d e (sym (rw some refl) ∙ h)
]

abbrev whole : List ServerDescription → List ServerDescription → Diff
whole earlier later = record { changed = changed earlier later; removed = missing earlier later; added = missing later earlier }

pub difference_ordered : (earlier later : List ServerDescription) (d : Diff) → in_order earlier ≡ true → in_order later ≡ true → difference earlier later ≡ Some d → AreInOrder d
difference_ordered earlier later d h g e =
    let is = kept_diff (whole earlier later) d e in
    record { changed = sym (ap (λ (x : Diff). are_in_order x.changed) is) ∙ changed_ordered earlier later g; removed = sym (ap (λ (x : Diff). are_in_order x.removed) is) ∙ missing_ordered earlier later h; added = sym (ap (λ (x : Diff). are_in_order x.added) is) ∙ missing_ordered later earlier g }

pub difference_in_both : (earlier later : List ServerDescription) (d : Diff) → difference earlier later ≡ Some d → are_in_both earlier later d.changed ≡ true
difference_in_both earlier later d e = sym (ap (λ (x : Diff). are_in_both earlier later x.changed) (kept_diff (whole earlier later) d e)) ∙ changed_in_both earlier later
