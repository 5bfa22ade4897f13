-- A guess that is tested finds what a walk over the pools finds.
use Rattle.std.proofs.Common.{ℕ, zero, suc, ◌≡◌, ◌+◌, ◌≤◌, ◌==◌, Bool, true, false, List, [], ◌∷◌, position, Option, Some, None, refl, sym, ◌∙◌, ap, arith}
use Rattle.std.specs.Prelude.{option_map, slice_get}
use Rattle.std.proofs.lemmas.Bool.Decides.{nat_tests}
use Rattle.mdb_base.specs.declared.address.ServerAddress.{ServerAddress}
use Rattle.mdb_pool.specs.Core.{PoolCore}
use Rattle.mdb_pool.specs.Now.{holds_now, is_open_now, is_spent}
use Rattle.mdb_pool.proofs.Told.OfQueries.{holds-knows, open-knows}
use Rattle.mdb_driver_pools.specs.declared.placed.Placed.{Placed}
use Rattle.mdb_driver_pools.specs.Finding.{asked_by, asks_in, holder, holds_in, opens_in}
use Rattle.mdb_driver_pools.specs.Living.{if_at, if_lives, index_in, living_at, living_from}
use Rattle.mdb_driver_pools.specs.Standing.{at_address, is_open_at, IsApart, IsSingle}
use Rattle.mdb_driver_pools.proofs.InMemory.LivingPools.{living-there, position-hit, position-miss}

abbrev placed : ℕ → PoolCore → Placed
placed n s = record { place = n; core = s }

-- the first pool stands in memory, or it does not
skip : (n : ℕ) (s : PoolCore) (more : List PoolCore) → is_spent s ≡ true → living_from n (s ∷ more) ≡ living_from (suc n) more
skip n s more e = rw e refl

stay : (n : ℕ) (s : PoolCore) (more : List PoolCore) → is_spent s ≡ false → living_from n (s ∷ more) ≡ placed n s ∷ living_from (suc n) more
stay n s more e = rw e refl

-- what stands in memory has the first place or a later one
comes : (n g : ℕ) (pools : List PoolCore) (x : Placed) → slice_get (living_from n pools) g ≡ Some x → n ≤ x.place
comes n g [] x e = cc
comes n g (s ∷ more) x e = on (is_spent s) refl (λ i. comes (suc n) i more x)
  where
    on : (b : Bool) → is_spent s ≡ b → ((i : ℕ) → slice_get (living_from (suc n) more) i ≡ Some x → suc n ≤ x.place) → n ≤ x.place
    on true f deeper = let l : suc n ≤ x.place = deeper g (ap (λ ys. slice_get ys g) (sym (skip n s more f)) ∙ e) in omega (arith, l)
    on false f deeper = at g (ap (λ ys. slice_get ys g) (sym (stay n s more f)) ∙ e)
      where
        at : (i : ℕ) → slice_get (placed n s ∷ living_from (suc n) more) i ≡ Some x → n ≤ x.place
        at zero k = let same : placed n s ≡ x = cc in let w : n ≡ x.place = ap (λ (y : Placed). y.place) same in omega (arith, w)
        at (suc i) k = let l : suc n ≤ x.place = deeper i k in omega (arith, l)

-- its index is that of the first of its place
index-from : (n p g : ℕ) (pools : List PoolCore) (x : Placed) → slice_get (living_from n pools) g ≡ Some x → x.place ≡ p → position (λ (y : Placed). y.place == p) (living_from n pools) ≡ Some g
index-from n p g [] x e w = cc
index-from n p g (s ∷ more) x e w = on (is_spent s) refl (λ i. index-from (suc n) p i more x)
  where
    on : (b : Bool) → is_spent s ≡ b
        → ((i : ℕ) → slice_get (living_from (suc n) more) i ≡ Some x → x.place ≡ p → position (λ (y : Placed). y.place == p) (living_from (suc n) more) ≡ Some i)
        → position (λ (y : Placed). y.place == p) (living_from n (s ∷ more)) ≡ Some g
    on true f deeper = ap (position (λ (y : Placed). y.place == p)) (skip n s more f) ∙ deeper g (ap (λ ys. slice_get ys g) (sym (skip n s more f)) ∙ e) w
    on false f deeper = ap (position (λ (y : Placed). y.place == p)) (stay n s more f) ∙ at g (ap (λ ys. slice_get ys g) (sym (stay n s more f)) ∙ e)
      where
        at : (i : ℕ) → slice_get (placed n s ∷ living_from (suc n) more) i ≡ Some x → position (λ (y : Placed). y.place == p) (placed n s ∷ living_from (suc n) more) ≡ Some i
        at zero k =
            let same : placed n s ≡ x = cc in
            let here : n ≡ p = ap (λ (y : Placed). y.place) same ∙ w in
            let hit : (n == p) ≡ true = grind (arith, nat_tests) in
            position-hit (λ (y : Placed). y.place == p) (placed n s) (living_from (suc n) more) hit
        at (suc i) k =
            let l : suc n ≤ x.place = comes (suc n) i more x k in
            let off : (n == p) ≡ false = grind (arith, nat_tests) in
            position-miss (λ (y : Placed). y.place == p) (placed n s) (living_from (suc n) more) off ∙ ap (option_map suc) (deeper i k w)

-- it is the pool at its place, and something lives in it
pool-from : (n q g : ℕ) (pools : List PoolCore) (x : Placed) → slice_get (living_from n pools) g ≡ Some x → x.place ≡ n + q → if_lives (slice_get pools q) ≡ Some x.core
pool-from n q g [] x e w = cc
pool-from n zero g (s ∷ more) x e w = on (is_spent s) refl
  where
    on : (b : Bool) → is_spent s ≡ b → if_lives (Some s) ≡ Some x.core
    on true f = let l : suc n ≤ x.place = comes (suc n) g more x (ap (λ ys. slice_get ys g) (sym (skip n s more f)) ∙ e) in absurd (omega (arith, l, w))
    on false f = at g (ap (λ ys. slice_get ys g) (sym (stay n s more f)) ∙ e)
      where
        at : (i : ℕ) → slice_get (placed n s ∷ living_from (suc n) more) i ≡ Some x → if_lives (Some s) ≡ Some x.core
        at zero k = let same : placed n s ≡ x = cc in rw f (ap (λ (y : Placed). Some y.core) same)
        at (suc i) k = let l : suc n ≤ x.place = comes (suc n) i more x k in absurd (omega (arith, l, w))
pool-from n (suc q) g (s ∷ more) x e w = on (is_spent s) refl (λ i. pool-from (suc n) q i more x)
  where
    on : (b : Bool) → is_spent s ≡ b → ((i : ℕ) → slice_get (living_from (suc n) more) i ≡ Some x → x.place ≡ suc n + q → if_lives (slice_get more q) ≡ Some x.core) → if_lives (slice_get more q) ≡ Some x.core
    on true f deeper = deeper g (ap (λ ys. slice_get ys g) (sym (skip n s more f)) ∙ e) (omega (arith, w))
    on false f deeper = at g (ap (λ ys. slice_get ys g) (sym (stay n s more f)) ∙ e)
      where
        at : (i : ℕ) → slice_get (placed n s ∷ living_from (suc n) more) i ≡ Some x → if_lives (slice_get more q) ≡ Some x.core
        at zero k = let same : placed n s ≡ x = cc in let here : n ≡ x.place = ap (λ (y : Placed). y.place) same in absurd (omega (arith, here, w))
        at (suc i) k = deeper i k (omega (arith, w))

-- what is read at the index has the place
has-place : (p : ℕ) (o : Option Placed) (x : Placed) → if_at p o ≡ Some x → (o ≡ Some x) × (x.place ≡ p)
has-place p None x e = cc
has-place p (Some y) x e = on (y.place == p) refl
  where
    on : (b : Bool) → (y.place == p) ≡ b → (Some y ≡ Some x) × (x.place ≡ p)
    on true f =
        let k : if_at p (Some y) ≡ Some y = rw f refl in
        let here : y.place ≡ p = grind (arith, nat_tests) in
        let s : Some y ≡ Some x = sym k ∙ e in
        let same : y ≡ x = cc in
        (s, ap (λ (z : Placed). z.place) (sym same) ∙ here)
    on false f = let k : if_at p (Some y) ≡ None = rw f refl in let no : ◌≡◌ {A = Option Placed} None (Some x) = sym k ∙ e in cc

pub guessed-index : (pools : List PoolCore) (p g : ℕ) (x : Placed) → if_at p (slice_get (living_from 0 pools) g) ≡ Some x → index_in pools p ≡ Some g
guessed-index pools p g x e = let r = has-place p (slice_get (living_from 0 pools) g) x e in index-from 0 p g pools x r.0 r.1

pub guessed-pool : (pools : List PoolCore) (p g : ℕ) (x : Placed) → if_at p (slice_get (living_from 0 pools) g) ≡ Some x → living_at pools p ≡ Some x.core
guessed-pool pools p g x e = let r = has-place p (slice_get (living_from 0 pools) g) x e in pool-from 0 p g pools x r.0 (let w : x.place ≡ p = r.1 in omega (arith, w))

-- where at most one passes, it is the first
only-one : (test : PoolCore → Bool) (pools : List PoolCore) (p : ℕ) (s : PoolCore) → slice_get pools p ≡ Some s → test s ≡ true → ((q : ℕ) (u : PoolCore) → slice_get pools q ≡ Some u → test u ≡ true → q ≡ p) → position test pools ≡ Some p
only-one test [] p s at ok one = cc
only-one test (x ∷ xs) p s at ok one = on (test x) refl p at one (λ q. only-one test xs q s)
  where
    on : (b : Bool) → test x ≡ b → (q : ℕ) → slice_get (x ∷ xs) q ≡ Some s → ((r : ℕ) (u : PoolCore) → slice_get (x ∷ xs) r ≡ Some u → test u ≡ true → r ≡ q)
        → ((r : ℕ) → slice_get xs r ≡ Some s → test s ≡ true → ((m : ℕ) (u : PoolCore) → slice_get xs m ≡ Some u → test u ≡ true → m ≡ r) → position test xs ≡ Some r)
        → position test (x ∷ xs) ≡ Some q
    on true f q there single deeper = let w : 0 ≡ q = single 0 x refl f in position-hit test x xs f ∙ ap Some w
    on false f zero there single deeper = let same : x ≡ s = cc in let k : test s ≡ false = ap test (sym same) ∙ f in cc
    on false f (suc q) there single deeper = position-miss test x xs f ∙ ap (option_map suc) (deeper q there ok (λ m u there_u t. let w : suc m ≡ suc q = single (suc m) u there_u t in omega (arith, w)))

-- the pool at the place is the one that is looked for
pub opens-there : (pools : List PoolCore) (p : ℕ) (a : ServerAddress) → IsSingle pools → opens_in (living_at pools p) a ≡ true → at_address pools a ≡ Some p
opens-there pools p a single e = on (living_at pools p) refl
  where
    on : (o : Option PoolCore) → living_at pools p ≡ o → at_address pools a ≡ Some p
    on None f = let k : opens_in (living_at pools p) a ≡ false = ap (λ o. opens_in o a) f in cc
    on (Some s) f =
        let there = living-there pools p s f in
        let opens : is_open_at a s ≡ true = sym (ap (λ o. opens_in o a) f) ∙ e in
        only-one (is_open_at a) pools p s there.0 opens (λ q u at t. single a q p u s at there.0 t opens)

pub asks-there : (pools : List PoolCore) (p r : ℕ) → IsApart pools → asks_in (living_at pools p) r ≡ true → asked_by pools r ≡ Some p
asks-there pools p r apart e = on (living_at pools p) refl
  where
    on : (o : Option PoolCore) → living_at pools p ≡ o → asked_by pools r ≡ Some p
    on None f = let k : asks_in (living_at pools p) r ≡ false = ap (λ o. asks_in o r) f in cc
    on (Some s) f =
        let there = living-there pools p s f in
        let asks : is_open_now s r ≡ true = sym (ap (λ o. asks_in o r) f) ∙ e in
        only-one (λ u. is_open_now u r) pools p s there.0 asks (λ q u at t. apart r q p u s at there.0 (open-knows u r t) (open-knows s r asks))

pub holds-there : (pools : List PoolCore) (p r : ℕ) → IsApart pools → holds_in (living_at pools p) r ≡ true → holder pools r ≡ Some p
holds-there pools p r apart e = on (living_at pools p) refl
  where
    on : (o : Option PoolCore) → living_at pools p ≡ o → holder pools r ≡ Some p
    on None f = let k : holds_in (living_at pools p) r ≡ false = ap (λ o. holds_in o r) f in cc
    on (Some s) f =
        let there = living-there pools p s f in
        let holds : holds_now s r ≡ true = sym (ap (λ o. holds_in o r) f) ∙ e in
        only-one (λ u. holds_now u r) pools p s there.0 holds (λ q u at t. apart r q p u s at there.0 (holds-knows u r t) (holds-knows s r holds))
