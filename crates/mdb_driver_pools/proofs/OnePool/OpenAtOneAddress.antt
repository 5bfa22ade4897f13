-- A pool is open at one address alone, and is then not closed.
use Rattle.std.proofs.Common.{ℕ, ◌≡◌, ◌≢◌, ◌==◌, ◌&&◌, if◌then◌else◌, Bool, true, false, not, List, Option, Some, None, refl, sym, ◌∙◌, ap, subst, arith}
use Rattle.std.specs.Prelude.{slice_get}
use Rattle.mdb_base.specs.Equality.{same_address}
use Rattle.mdb_base.specs.declared.address.ServerAddress.{ServerAddress}
use Rattle.mdb_events.specs.declared.fact.Fact.{Fact}
use Rattle.mdb_log.specs.declared.options.PoolOptions.{PoolOptions}
use Rattle.mdb_pool.specs.Core.{PoolCore}
use Rattle.mdb_log.specs.History.{Item, of_pool, open_pool, is_number, with_facts}
use Rattle.mdb_log.specs.State.{is_closed, state_of}
use Rattle.mdb_pool.specs.Now.{is_closed_now}
use Rattle.mdb_pool.specs.Standing.{Fits}
use Rattle.mdb_pool.proofs.Told.OfQueries.{closed-is}
use Rattle.mdb_log.specs.Own.{AllOwn, shuts}
use Rattle.mdb_describe.proofs.Addresses.{same-address, own-address}
use Rattle.mdb_log.proofs.Frame.{open-facts}
use Rattle.mdb_driver_pools.specs.Standing.{at_address, is_open_at, IsSingle, PoolFits, PoolsFit}
use Rattle.mdb_driver_rules.proofs.General.OneElement.{position-at, position-none, position-within, at-place}

-- where at most one pool is open at an address, the one with the number is open there exactly where it is that one
pub open-here : (pools : List PoolCore) (a : ServerAddress) (p : ℕ) (s : PoolCore) → IsSingle pools → slice_get pools p ≡ Some s → is_open_at a s ≡ is_number (at_address pools a) p
open-here pools a p s single at = on (at_address pools a) refl
  where
    apart : (i : ℕ) (t : PoolCore) (c : Bool) → slice_get pools i ≡ Some t → is_open_at a t ≡ true → is_open_at a s ≡ false → (i == p) ≡ c → (i == p) ≡ false
    apart i t false f opens shut k = k
    apart i t true f opens shut k =
        let n : i ≡ p = grind arith in
        let two : Some t ≡ Some s = sym f ∙ (ap (slice_get pools) n ∙ at) in
        let same : t ≡ s = cc in
        let w : true ≡ false = sym opens ∙ (ap (is_open_at a) same ∙ shut) in
        cc

    by : (i : ℕ) (t : PoolCore) (b : Bool) → slice_get pools i ≡ Some t → is_open_at a t ≡ true → is_open_at a s ≡ b → is_open_at a s ≡ (i == p)
    by i t true f opens g = let n : i ≡ p = single a i p t s f at opens g in let w : (i == p) ≡ true = grind arith in g ∙ sym w
    by i t false f opens g = g ∙ sym (apart i t (i == p) f opens g refl)

    first : (i : ℕ) (y : Option PoolCore) → at_address pools a ≡ Some i → slice_get pools i ≡ y → is_open_at a s ≡ (i == p)
    first i None e f = absurd (at-place pools i (position-within (is_open_at a) pools i e) f)
    first i (Some t) e f = by i t (is_open_at a s) f (position-at (is_open_at a) pools i t e f).0 refl

    on : (x : Option ℕ) → at_address pools a ≡ x → is_open_at a s ≡ is_number x p
    on None e = position-none (is_open_at a) pools e p s at
    on (Some i) e = first i (slice_get pools i) e refl

-- where no pool has the number, none with it is open
pub none-here : (pools : List PoolCore) (a : ServerAddress) (p : ℕ) → slice_get pools p ≡ None → is_number (at_address pools a) p ≡ false
none-here pools a p gone = on (at_address pools a) refl
  where
    apart : (i : ℕ) (c : Bool) → at_address pools a ≡ Some i → (i == p) ≡ c → (i == p) ≡ false
    apart i false e k = k
    apart i true e k = let n : i ≡ p = grind arith in absurd (at-place pools i (position-within (is_open_at a) pools i e) (ap (slice_get pools) n ∙ gone))

    on : (x : Option ℕ) → at_address pools a ≡ x → is_number x p ≡ false
    on None e = refl
    on (Some i) e = apart i (i == p) e refl

-- the address of a pool that is open there
pub at-address : (a : ServerAddress) (s : PoolCore) → is_open_at a s ≡ true → s.address ≡ a
at-address a s e = on (is_closed_now s) (same_address s.address a) refl refl e
  where
    on : (b c : Bool) → is_closed_now s ≡ b → same_address s.address a ≡ c → not (is_closed_now s) && same_address s.address a ≡ true → s.address ≡ a
    on b true f g e = same-address s.address a g
    on false false f g e = let w : not (is_closed_now s) && same_address s.address a ≡ false = rw (f, g) refl in let t : true ≡ false = sym e ∙ w in cc
    on true false f g e = let w : not (is_closed_now s) && same_address s.address a ≡ false = rw f refl in let t : true ≡ false = sym e ∙ w in cc

module _ (o : PoolOptions) (pools : List PoolCore) (h : List Item) (z : PoolsFit o pools h) where
  -- the pool that is open at an address stands at its number
  pub found : (a : ServerAddress) (p : ℕ) (s : PoolCore) → open_pool h a ≡ Some p → slice_get pools p ≡ Some s → is_open_at a s ≡ true
  found a p s e f = (position-at (is_open_at a) pools p s (sym (z.open_are a) ∙ e) f).0

  pub open-unclosed : (i : ℕ) (s : PoolCore) → slice_get pools i ≡ Some s → (b : ServerAddress) → is_number (open_pool h b) s.pool ≡ true → state_of s.options (of_pool s.pool h) ≢ is_closed
  open-unclosed i s at_i b e f =
      let closed : is_closed_now s ≡ true = closed-is s (of_pool s.pool h) fits f in
      let no : is_open_at b s ≡ false = rw closed refl in
      let t : true ≡ false = sym (at_number (open_pool h b) refl e) ∙ no in
      cc
    where
      d : PoolFits o h i s
      d = z.each i s at_i

      fits : Fits s (of_pool s.pool h)
      fits = subst (λ p. Fits s (of_pool p h)) (sym d.number) d.fits

      at_number : (x : Option ℕ) → open_pool h b ≡ x → is_number x s.pool ≡ true → is_open_at b s ≡ true
      at_number None g k = cc
      at_number (Some q) g k = let n : q ≡ s.pool = grind arith in found b i s (g ∙ ap Some (n ∙ d.number)) at_i

  pub is-there : (a : ServerAddress) (p : ℕ) → open_pool h a ≡ Some p → slice_get pools p ≡ None → ⊥
  is-there a p e f = at-place pools p (position-within (is_open_at a) pools p (sym (z.open_are a) ∙ e)) f

  one-address : (a b : ServerAddress) (p : ℕ) → open_pool h a ≡ Some p → open_pool h b ≡ Some p → a ≡ b
  one-address a b p e f = on (slice_get pools p) refl
    where
      on : (x : Option PoolCore) → slice_get pools p ≡ x → a ≡ b
      on None g = absurd (is-there a p e g)
      on (Some s) g = sym (at-address a s (found a p s e g)) ∙ at-address b s (found b p s f g)

  pub here-alone : (a b : ServerAddress) (p : ℕ) → open_pool h a ≡ Some p → is_number (open_pool h b) p ≡ true → a ≡ b
  here-alone a b p e f = on (open_pool h b) refl
    where
      on : (x : Option ℕ) → open_pool h b ≡ x → a ≡ b
      on None g = let w : false ≡ true = sym (rw g refl) ∙ f in cc
      on (Some q) g =
          let w : (q == p) ≡ true = sym (rw g refl) ∙ f in
          let n : q ≡ p = grind arith in
          one-address a b p e (g ∙ ap Some n)

  -- a close of the pool that is open at an address leaves none there, and the others
  pub closed-at : (a : ServerAddress) (p m : ℕ) (fs : List Fact) → open_pool h a ≡ Some p → AllOwn p m (of_pool p h) fs → shuts fs ≡ true → open_pool (with_facts m fs h) a ≡ None
  closed-at a p m fs e own shut =
      let w : (p == p) ≡ true = grind arith in
      open-facts p m fs (of_pool p h) h a own ∙ rw (shut, e, w) refl

  pub closed-beside : (a b : ServerAddress) (p m : ℕ) (fs : List Fact) → open_pool h a ≡ Some p → AllOwn p m (of_pool p h) fs → same_address a b ≡ false → open_pool (with_facts m fs h) b ≡ open_pool h b
  closed-beside a b p m fs e own differ = open-facts p m fs (of_pool p h) h b own ∙ on (is_number (open_pool h b) p) refl
    where
      keeps : (c : Bool) → is_number (open_pool h b) p ≡ false → (if c && is_number (open_pool h b) p then None else open_pool h b) ≡ open_pool h b
      keeps true g = rw g refl
      keeps false g = refl

      on : (x : Bool) → is_number (open_pool h b) p ≡ x → (if shuts fs && is_number (open_pool h b) p then None else open_pool h b) ≡ open_pool h b
      on false g = keeps (shuts fs) g
      on true g =
          let w : a ≡ b = here-alone a b p e g in
          let c : same_address a b ≡ true = ap (same_address a) (sym w) ∙ own-address a in
          let t : true ≡ false = sym c ∙ differ in
          cc
