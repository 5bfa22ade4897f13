-- What an opening knows first: each seed once, in the order of addresses.
use Rattle.std.proofs.Common.{ℕ, suc, ◌≡◌, ◌+◌, ◌&&◌, ◌||◌, Bool, true, false, not, if◌then◌else◌, List, [], ◌∷◌, ◌++◌, map, Some, refl, sym, ◌∙◌, subst, arith, IsPermutation, append-nil}
use Rattle.std.specs.Prelude.{slice_get, ⊤}
use Rattle.std.specs.List.{list_any}
use Rattle.std.proofs.lemmas.List.Sorted.{IsPermutation-refl, IsPermutation-sym, IsPermutation-cons, IsPermutation-trans, IsPermutation-middle, IsPermutation-append_right}
use Rattle.mdb_base.specs.AddressOrder.{is_before}
use Rattle.mdb_base.specs.Equality.{same_address}
use Rattle.mdb_base.specs.OptionRules.{all_different}
use Rattle.mdb_base.specs.declared.address.ServerAddress.{ServerAddress}
use Rattle.mdb_base.proofs.AddressOrder.{same_back}
use Rattle.mdb_describe.specs.declared.description.ServerDescription.{ServerDescription}
use Rattle.mdb_describe.specs.Descriptions.{unknown}
use Rattle.mdb_describe.specs.Servers.{addresses_of, is_known, put, add, add_all}
use Rattle.mdb_log.specs.LegalLog.{numbered}
use Rattle.mdb_pool.specs.Core.{PoolCore}
use Rattle.mdb_driver_pools.specs.Standing.{home}

-- a server that joins is one more
put-same : (d : ServerDescription) (ss : List ServerDescription) → IsPermutation (addresses_of (put d ss)) (d.address ∷ addresses_of ss)
put-same d [] = IsPermutation-refl (d.address ∷ [])
put-same d (s ∷ ss) = on (is_before d.address s.address) (put-same d ss)
  where
    on : (b : Bool) → IsPermutation (addresses_of (put d ss)) (d.address ∷ addresses_of ss) → IsPermutation (addresses_of (if b then (d ∷ s ∷ ss) else (s ∷ put d ss))) (d.address ∷ s.address ∷ addresses_of ss)
    on true more = IsPermutation-refl (d.address ∷ s.address ∷ addresses_of ss)
    on false more =
        IsPermutation-trans (s.address ∷ addresses_of (put d ss)) (s.address ∷ d.address ∷ addresses_of ss) (d.address ∷ s.address ∷ addresses_of ss)
        (IsPermutation-cons s.address (addresses_of (put d ss)) (d.address ∷ addresses_of ss) more) (IsPermutation-middle (s.address ∷ []) d.address (addresses_of ss))

known-put : (a : ServerAddress) (d : ServerDescription) (ss : List ServerDescription) → is_known a (put d ss) ≡ same_address d.address a || is_known a ss
known-put a d [] = refl
known-put a d (s ∷ ss) = on (is_before d.address s.address) (known-put a d ss)
  where
    turn : (p q r : Bool) → p || (q || r) ≡ q || (p || r)
    turn true true r = refl
    turn true false r = refl
    turn false q r = refl

    on : (b : Bool) → is_known a (put d ss) ≡ same_address d.address a || is_known a ss → is_known a (if b then (d ∷ s ∷ ss) else (s ∷ put d ss)) ≡ same_address d.address a || (same_address s.address a || is_known a ss)
    on true more = refl
    on false more = rw more (turn (same_address s.address a) (same_address d.address a) (is_known a ss))

-- none of them is known
abbrev AreNew : List ServerAddress → List ServerDescription → Type 0
AreNew [] ss = ⊤
AreNew (a ∷ more) ss = (is_known a ss ≡ false) × AreNew more ss

new-put : (a : ServerAddress) (bs : List ServerAddress) (ss : List ServerDescription) → list_any (λ b. same_address b a) bs ≡ false → AreNew bs ss → AreNew bs (put (unknown a) ss)
new-put a [] ss e new = tt
new-put a (b ∷ bs) ss e new = on (same_address b a) (list_any (λ b. same_address b a) bs) refl refl e (λ g. new-put a bs ss g new.1)
  where
    on : (p q : Bool) → same_address b a ≡ p → list_any (λ b. same_address b a) bs ≡ q → p || q ≡ false → (list_any (λ b. same_address b a) bs ≡ false → AreNew bs (put (unknown a) ss)) → AreNew (b ∷ bs) (put (unknown a) ss)
    on true q f g e rest = cc
    on false true f g e rest = cc
    on false false f g e rest = let other : same_address a b ≡ false = same_back a b ∙ f in (known-put b (unknown a) ss ∙ rw (other, new.0) refl, rest g)

parts : (p q : Bool) → not p && q ≡ true → (p ≡ false) × (q ≡ true)
parts true q e = cc
parts false q e = (refl, e)

-- seeds that differ join one after another
joined : (seeds : List ServerAddress) (ss : List ServerDescription) → all_different seeds ≡ true → AreNew seeds ss → IsPermutation (addresses_of (add_all seeds ss)) (seeds ++ addresses_of ss)
joined [] ss different new = IsPermutation-refl (addresses_of ss)
joined (a ∷ more) ss different new =
    let both : (list_any (λ b. same_address b a) more ≡ false) × (all_different more ≡ true) = parts (list_any (λ b. same_address b a) more) (all_different more) different in
    let added : add a ss ≡ put (unknown a) ss = rw new.0 refl in
    let rest : IsPermutation (addresses_of (add_all more (put (unknown a) ss))) (more ++ addresses_of (put (unknown a) ss)) = joined more (put (unknown a) ss) both.1 (new-put a more ss both.0 new.1) in
    subst (λ xs. IsPermutation (addresses_of (add_all more xs)) (a ∷ (more ++ addresses_of ss))) (sym added)
    (IsPermutation-trans (addresses_of (add_all more (put (unknown a) ss))) (more ++ addresses_of (put (unknown a) ss)) (a ∷ (more ++ addresses_of ss)) rest
    (IsPermutation-trans (more ++ addresses_of (put (unknown a) ss)) (more ++ a ∷ addresses_of ss) (a ∷ (more ++ addresses_of ss))
    (IsPermutation-append_right more (addresses_of (put (unknown a) ss)) (a ∷ addresses_of ss) (put-same (unknown a) ss)) (IsPermutation-middle more a (addresses_of ss))))

all-new : (seeds : List ServerAddress) → AreNew seeds []
all-new [] = tt
all-new (a ∷ more) = (refl, all-new more)

pub seeds-same : (seeds : List ServerAddress) → all_different seeds ≡ true → IsPermutation seeds (addresses_of (add_all seeds []))
seeds-same seeds different =
    IsPermutation-sym (addresses_of (add_all seeds [])) seeds
    (subst (IsPermutation (addresses_of (add_all seeds []))) (append-nil seeds) (joined seeds [] different (all-new seeds)))

-- pools that stand by number are the numbered addresses
pub numbered-homes : (pools : List PoolCore) (n : ℕ) → ((p : ℕ) (s : PoolCore) → slice_get pools p ≡ Some s → s.pool ≡ n + p) → map home pools ≡ numbered n (map (λ s. s.address) pools)
numbered-homes [] n at = refl
numbered-homes (s ∷ pools) n at =
    let first : s.pool ≡ n = at 0 s refl ∙ (let e : n + 0 ≡ n = omega arith in e) in
    let rest : map home pools ≡ numbered (n + 1) (map (λ s. s.address) pools) = numbered-homes pools (n + 1) (λ p t f. at (suc p) t f ∙ (let e : n + suc p ≡ n + 1 + p = omega arith in e)) in
    rw (first, rest) refl
