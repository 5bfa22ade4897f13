-- A driver that was just opened has a pool open at each of its servers, and so each of its pools is open.
use Rattle.std.proofs.Common.{ℕ, zero, suc, ◌≡◌, ◌+◌, ◌&&◌, ◌||◌, Bool, true, false, not, List, [], ◌∷◌, map, length, is_some, nat_lt, Option, Some, None, refl, sym, ◌∙◌, ap, subst, arith}
use Rattle.std.specs.Prelude.{option_map, slice_get}
use Rattle.std.proofs.lemmas.Bool.Decides.{nat_tests}
use Rattle.std.proofs.lemmas.Bool.{or_right}
use Rattle.mdb_base.specs.declared.address.ServerAddress.{ServerAddress}
use Rattle.mdb_base.specs.AddressOrder.{is_before_first, in_order as are_in_order}
use Rattle.mdb_base.specs.Equality.{same_address}
use Rattle.mdb_describe.specs.declared.description.ServerDescription.{ServerDescription}
use Rattle.mdb_describe.specs.Servers.{addresses_of, is_known, is_listed}
use Rattle.mdb_log.specs.Homes.{Home}
use Rattle.mdb_log.specs.LegalLog.{numbered}
use Rattle.mdb_describe.proofs.Addresses.{own-address, same-address}
use Rattle.mdb_pool.specs.Core.{PoolCore}
use Rattle.mdb_pool.specs.Now.{is_closed_now, is_spent}
use Rattle.mdb_pool.proofs.KeptInLittle.NothingLives.{spent-shut}
use Rattle.mdb_log.proofs.Bools.{both-true}
use Rattle.mdb_driver_pools.specs.Living.{lives_at}
use Rattle.mdb_driver_pools.specs.Standing.{at_address, home, is_open_at}
use Rattle.mdb_driver_rules.proofs.General.AddressesDiffer.{none-same}
use Rattle.mdb_driver_pools.proofs.InMemory.LivingPools.{position-miss}

some-later : (o : Option ℕ) → is_some (option_map suc o) ≡ is_some o
some-later None = refl
some-later (Some i) = refl

neither : (x y : Bool) → (x || y) ≡ false → (x ≡ false) × (y ≡ false)
neither true y e = cc
neither false y e = (refl, e)

and-off : (x y : Bool) → y ≡ false → (x && y) ≡ false
and-off true y e = e
and-off false y e = refl

-- the first has the first of the addresses, and the others the others
heads : (n : ℕ) (b : ServerAddress) (rest : List ServerAddress) (x : PoolCore) (pools : List PoolCore) → map home (x ∷ pools) ≡ numbered n (b ∷ rest) → (x.address ≡ b) × (map home pools ≡ numbered (n + 1) rest)
heads n b rest x pools e =
    let same : home x ≡ record { number = n; address = b } = cc in
    let others : map home pools ≡ numbered (n + 1) rest = cc in
    (ap (λ (h : Home). h.address) same, others)

-- at an address that is none of theirs none is open
none-at : (a : ServerAddress) (n : ℕ) (list : List ServerAddress) (pools : List PoolCore) → map home pools ≡ numbered n list → is_listed list a ≡ false → is_some (at_address pools a) ≡ false
none-at a n list [] e f = refl
none-at a n [] (x ∷ pools) e f = cc
none-at a n (b ∷ rest) (x ∷ pools) e f =
    let those = heads n b rest x pools e in
    let parts = neither (same_address b a) (is_listed rest a) f in
    let off : is_open_at a x ≡ false = and-off (not (is_closed_now x)) (same_address x.address a) (ap (λ c. same_address c a) those.0 ∙ parts.0) in
    ap is_some (position-miss (is_open_at a) x pools off) ∙ (some-later (at_address pools a) ∙ none-at a (n + 1) rest pools those.1 parts.1)

module _ (n : ℕ) (b : ServerAddress) (rest : List ServerAddress) (x : PoolCore) (pools : List PoolCore) (e : map home (x ∷ pools) ≡ numbered n (b ∷ rest)) (o : are_in_order (b ∷ rest) ≡ true)
    (f : (a : ServerAddress) → is_listed (b ∷ rest) a ≡ true → is_some (at_address (x ∷ pools) a) ≡ true) where
  those : (x.address ≡ b) × (map home pools ≡ numbered (n + 1) rest)
  those = heads n b rest x pools e

  order : (is_before_first b rest ≡ true) × (are_in_order rest ≡ true)
  order = both-true (is_before_first b rest) (are_in_order rest) o

  apart : is_listed rest b ≡ false
  apart = none-same b rest order.0 order.1

  first-open : is_closed_now x ≡ false
  first-open = on (is_closed_now x) refl
    where
      on : (k : Bool) → is_closed_now x ≡ k → k ≡ false
      on false g = refl
      on true g =
          let off : is_open_at b x ≡ false = rw g refl in
          let some : is_some (at_address (x ∷ pools) b) ≡ true = f b (rw (own-address b) refl) in
          let none : is_some (at_address (x ∷ pools) b) ≡ false = ap is_some (position-miss (is_open_at b) x pools off) ∙ (some-later (at_address pools b) ∙ none-at b (n + 1) rest pools those.1 apart) in
          cc

  others-there : (a : ServerAddress) → is_listed rest a ≡ true → is_some (at_address pools a) ≡ true
  others-there a l = on (is_open_at a x) refl
    where
      on : (k : Bool) → is_open_at a x ≡ k → is_some (at_address pools a) ≡ true
      on true g =
          let there : same_address x.address a ≡ true = (both-true (not (is_closed_now x)) (same_address x.address a) g).1 in
          let same : b ≡ a = sym those.0 ∙ same-address x.address a there in
          let none : is_listed rest a ≡ false = subst (λ c. is_listed rest c ≡ false) same apart in
          cc
      on false g = sym (ap is_some (position-miss (is_open_at a) x pools g) ∙ some-later (at_address pools a)) ∙ f a (or_right (same_address b a) (is_listed rest a) l)

pub all-open : (n : ℕ) (list : List ServerAddress) (pools : List PoolCore) → map home pools ≡ numbered n list → are_in_order list ≡ true
    → ((a : ServerAddress) → is_listed list a ≡ true → is_some (at_address pools a) ≡ true) → (p : ℕ) (s : PoolCore) → slice_get pools p ≡ Some s → is_closed_now s ≡ false
all-open n list [] e o f p s at = cc
all-open n [] (x ∷ pools) e o f p s at = cc
all-open n (b ∷ rest) (x ∷ pools) e o f zero s at = let same : x ≡ s = cc in subst (λ (u : PoolCore). is_closed_now u ≡ false) same (first-open n b rest x pools e o f)
all-open n (b ∷ rest) (x ∷ pools) e o f (suc p) s at =
    all-open (n + 1) rest pools (those n b rest x pools e o f).1 (order n b rest x pools e o f).1 (others-there n b rest x pools e o f) p s at

-- something lives in an open pool
pub open-unspent : (s : PoolCore) → is_closed_now s ≡ false → is_spent s ≡ false
open-unspent s e = on (is_spent s) refl
  where
    on : (b : Bool) → is_spent s ≡ b → is_spent s ≡ false
    on false f = f
    on true f = let shut : is_closed_now s ≡ true = spent-shut s f in cc

same-test : (p n : ℕ) → nat_lt (suc p) (suc n) ≡ nat_lt p n
same-test p n = on (nat_lt p n) refl
  where
    on : (b : Bool) → nat_lt p n ≡ b → nat_lt (suc p) (suc n) ≡ b
    on true e = grind (arith, nat_tests)
    on false e = grind (arith, nat_tests)

pub lives-all : (pools : List PoolCore) → ((p : ℕ) (s : PoolCore) → slice_get pools p ≡ Some s → is_spent s ≡ false) → (p : ℕ) → nat_lt p (length pools) ≡ lives_at pools p
lives-all [] f p = let none : nat_lt p 0 ≡ false = grind (arith, nat_tests) in none
lives-all (x ∷ xs) f zero =
    let there : nat_lt 0 (length (x ∷ xs)) ≡ true = grind (arith, nat_tests) in
    let alive : lives_at (x ∷ xs) 0 ≡ true = rw (f 0 x refl) refl in
    there ∙ sym alive
lives-all (x ∷ xs) f (suc p) = same-test p (length xs) ∙ lives-all xs (λ q s at. f (suc q) s at) p

-- a server that is known has one of the addresses
pub known-listed : (a : ServerAddress) (xs : List ServerDescription) → is_known a xs ≡ is_listed (addresses_of xs) a
known-listed a [] = refl
known-listed a (x ∷ xs) = ap (λ b. same_address x.address a || b) (known-listed a xs)
