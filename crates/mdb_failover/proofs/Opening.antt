-- A driver that was opened with all members as seeds follows the replica set, of which nothing is known yet.
use Rattle.std.proofs.Common.{◌≡◌, ℕ, zero, suc, ◌<◌, length, get_or, zero-add, arith, Bool, true, false, ◌&&◌, ◌||◌, inl, inr, List, [], ◌∷◌, codes, Some, refl, sym, ap, ◌∙◌}
use Rattle.std.specs.List.{list_any, list_all}
use Rattle.std.proofs.lemmas.List.FromFn.{length-map-range_with_len, get_or-map-range_with_len}
use Rattle.std.proofs.lemmas.Bool.{cases_Bool, and_parts, and_from}
use Rattle.mdb_base.specs.declared.address.ServerAddress.{ServerAddress}
use Rattle.mdb_base.specs.declared.options.Options.{Options}
use Rattle.mdb_base.specs.AddressOrder.{is_before}
use Rattle.mdb_base.specs.Equality.{same_address}
use Rattle.mdb_describe.specs.declared.description.ServerDescription.{ServerDescription}
use Rattle.mdb_describe.specs.Descriptions.{unknown}
use Rattle.mdb_describe.specs.Servers.{addresses_of, is_known, is_listed, is_primary_type, has_primary, put, add, add_all}
use Rattle.mdb_describe.specs.Topology.{opened}
use Rattle.mdb_describe.proofs.InOrder.{added_in_order}
use Rattle.mdb_fleets.specs.MemberReplies.{address_of, addresses_of as members_of}
use Rattle.mdb_failover.specs.Followed.{OwnProcess, Each, Follows}
use Rattle.mdb_failover.proofs.Addresses.{own-address}
use Rattle.mdb_failover.proofs.Lists.{known-address}

or-swap : (a b c : Bool) → (a || (b || c)) ≡ (b || (a || c))
or-swap true true c = refl
or-swap true false c = refl
or-swap false true c = refl
or-swap false false c = refl

and-swap : (a b c : Bool) → (a && (b && c)) ≡ (b && (a && c))
and-swap true true c = refl
and-swap true false c = refl
and-swap false true c = refl
and-swap false false c = refl

any-put : (p : ServerDescription → Bool) (d : ServerDescription) (xs : List ServerDescription) → list_any p (put d xs) ≡ (p d || list_any p xs)
any-put p d [] = refl
any-put p d (s ∷ xs) = elim (cases_Bool (is_before d.address s.address)) [
  | inl before ↦ rw before refl
  | inr behind ↦ rw (behind, any-put p d xs) (or-swap (p s) (p d) (list_any p xs))
]

all-put : (p : ServerAddress → Bool) (d : ServerDescription) (xs : List ServerDescription) → list_all p (addresses_of (put d xs)) ≡ (p d.address && list_all p (addresses_of xs))
all-put p d [] = refl
all-put p d (s ∷ xs) = elim (cases_Bool (is_before d.address s.address)) [
  | inl before ↦ rw before refl
  | inr behind ↦ rw (behind, all-put p d xs) (and-swap (p s.address) (p d.address) (list_all p (addresses_of xs)))
]

or-true : (a : Bool) → (a || true) ≡ true
or-true true = refl
or-true false = refl

-- who is known stays known

known-more : (a b : ServerAddress) (xs : List ServerDescription) → is_known b xs ≡ true → is_known b (add a xs) ≡ true
known-more a b xs known = elim (cases_Bool (is_known a xs)) [
  | inl here ↦ rw here known
  | inr new ↦ rw (new, any-put (λ s. same_address s.address b) (unknown a) xs, known) (or-true (same_address a b))
]

known-new : (a : ServerAddress) (xs : List ServerDescription) → is_known a (add a xs) ≡ true
known-new a xs = elim (cases_Bool (is_known a xs)) [
  | inl here ↦ rw (here, here) refl
  | inr new ↦ rw (new, any-put (λ s. same_address s.address a) (unknown a) xs, own-address a) refl
]

known-added : (hosts : List ServerAddress) (b : ServerAddress) (xs : List ServerDescription) → is_known b xs ≡ true → is_known b (add_all hosts xs) ≡ true
known-added [] b xs known = known
known-added (a ∷ more) b xs known = known-added more b (add a xs) (known-more a b xs known)

all-known : (hosts : List ServerAddress) (xs : List ServerDescription) → list_all (λ a. is_known a (add_all hosts xs)) hosts ≡ true
all-known [] xs = refl
all-known (a ∷ more) xs = and_from _ _ (known-added more a (add a xs) (known-new a xs)) (all-known more (add a xs))

all-same : (p q : ServerAddress → Bool) (hosts : List ServerAddress) → ((a : ServerAddress) → p a ≡ q a) → list_all p hosts ≡ list_all q hosts
all-same p q [] same = refl
all-same p q (a ∷ more) same = rw (same a, all-same p q more same) refl

-- nobody else is

only-added : (p : ServerAddress → Bool) (hosts : List ServerAddress) (xs : List ServerDescription) → list_all p hosts ≡ true → list_all p (addresses_of xs) ≡ true → list_all p (addresses_of (add_all hosts xs)) ≡ true
only-added p [] xs hosts-so all = all
only-added p (a ∷ more) xs hosts-so all =
    let h = and_parts (p a) (list_all p more) hosts-so in
    only-added p more (add a xs) h.1 (elim (cases_Bool (is_known a xs)) [
      | inl here ↦ rw here all
      | inr new ↦ rw (new, all-put p (unknown a) xs) (and_from _ _ h.0 all)
    ])

all-more : (p q : ServerAddress → Bool) (hosts : List ServerAddress) → ((a : ServerAddress) → p a ≡ true → q a ≡ true) → list_all p hosts ≡ true → list_all q hosts ≡ true
all-more p q [] f all = refl
all-more p q (a ∷ more) f all = let h = and_parts (p a) (list_all p more) all in and_from _ _ (f a h.0) (all-more p q more f h.1)

all-listed : (hosts : List ServerAddress) → list_all (is_listed hosts) hosts ≡ true
all-listed [] = refl
all-listed (a ∷ more) =
    let first : is_listed (a ∷ more) a ≡ true = rw (own-address a) refl in
    and_from _ _ first (all-more (is_listed more) (is_listed (a ∷ more)) more (λ b so. rw so (or-true (same_address a b))) (all-listed more))

-- no primary is known

none-added : (hosts : List ServerAddress) (xs : List ServerDescription) → has_primary xs ≡ false → has_primary (add_all hosts xs) ≡ false
none-added [] xs none = none
none-added (a ∷ more) xs none = none-added more (add a xs) (elim (cases_Bool (is_known a xs)) [
  | inl here ↦ rw here none
  | inr new ↦ rw (new, any-put (λ s. is_primary_type s.server_type) (unknown a) xs) none
])

each-none : (X : ServerDescription → Type 0) (xs : List ServerDescription) → has_primary xs ≡ false → Each (λ s. is_primary_type s.server_type ≡ true → X s) xs
each-none X [] none = tt
each-none X (s ∷ xs) none = elim (cases_Bool (is_primary_type s.server_type)) [
  | inl primary ↦ let wrong : has_primary (s ∷ xs) ≡ true = rw primary refl in absurd (cc)
  | inr other ↦ (λ primary. absurd (cc), each-none X xs (rw other at none))
]

each-put : (P : ServerDescription → Type 0) (d : ServerDescription) (xs : List ServerDescription) → P d → Each P xs → Each P (put d xs)
each-put P d [] h all = (h, tt)
each-put P d (s ∷ xs) h all = elim (cases_Bool (is_before d.address s.address)) [
  | inl before ↦ rw before (h, all)
  | inr behind ↦ rw behind (all.0, each-put P d xs h all.1)
]

each-added : (P : ServerDescription → Type 0) (hosts : List ServerAddress) (xs : List ServerDescription) → ((a : ServerAddress) → P (unknown a)) → Each P xs → Each P (add_all hosts xs)
each-added P [] xs h all = all
each-added P (a ∷ more) xs h all = each-added P more (add a xs) h (elim (cases_Bool (is_known a xs)) [
  | inl here ↦ rw here all
  | inr new ↦ rw new (each-put P (unknown a) xs (h a) all)
])

-- the description of such a driver
pub opening : (n : ℕ) (o : Options) → o.seeds ≡ members_of n → o.set_name ≡ Some (codes "rs") → o.direct ≡ false → o.load_balanced ≡ false → Follows n [] [] (opened o)
opening n o seeds name direct balanced =
    let members = members_of n in
    let servers = add_all o.seeds [] in
    let none : has_primary servers ≡ false = none-added o.seeds [] refl in
    record {
      kind = rw (balanced, direct, name, none) refl;
      named = name;
      ordered = added_in_order o.seeds [] refl;
      known = rw seeds (sym (all-same (λ a. is_known a (add_all members [])) (is_listed (addresses_of (add_all members []))) members (λ a. known-address a (add_all members []))) ∙ all-known members []);
      only = rw seeds (only-added (is_listed members) members [] (all-listed members) refl);
      election = refl;
      version = refl;
      small = tt;
      processes = each-added OwnProcess o.seeds [] (λ a k v few at is. absurd (cc)) tt;
      leads = each-none (λ s. ⊥) servers none;
    }

-- a member is listed where all members are
pub listed-known : (n k : ℕ) (known : List ServerAddress) → k < n → list_all (is_listed known) (members_of n) ≡ true → is_listed known (address_of k) ≡ true
listed-known n k known there all =
    let at = holds-at-address (is_listed known) (members_of n) k (address_of 0) (omega (arith, size)) all in
    ap (is_listed known) (sym member) ∙ at
  where
    size : length (members_of n) ≡ n
    size = length-map-range_with_len address_of 0 n

    member : get_or (members_of n) k (address_of 0) ≡ address_of k
    member = get_or-map-range_with_len address_of 0 n k k (address_of 0) there (zero-add k)

    holds-at-address : (p : ServerAddress → Bool) (xs : List ServerAddress) (i : ℕ) (d : ServerAddress) → i < length xs → list_all p xs ≡ true → p (get_or xs i d) ≡ true
    holds-at-address p [] i d less so = absurd (omega arith)
    holds-at-address p (x ∷ xs) zero d less so = (and_parts (p x) (list_all p xs) so).0
    holds-at-address p (x ∷ xs) (suc i) d less so = holds-at-address p xs i d (omega arith) (and_parts (p x) (list_all p xs) so).1
