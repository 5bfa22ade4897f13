-- One more pool is opened.
use Rattle.std.proofs.Common.{ℕ, zero, suc, ◌≡◌, ◌≢◌, ◌==◌, ◌+◌, Bool, true, false, List, [], ◌∷◌, ◌++◌, length, map, Option, Some, None, refl, sym, ◌∙◌, ap, subst, arith, if◌then◌else◌, position}
use Rattle.std.specs.Prelude.{slice_get, not}
use Rattle.std.specs.List.{list_any}
use Rattle.std.proofs.lemmas.Grind.{common_steps}
use Rattle.std.proofs.lemmas.Bool.Decides.{nat_tests}
use Rattle.std.proofs.lemmas.Option.{slice_get_past}
use Rattle.std.proofs.lemmas.List.Folds.{position_or_len_push}
use Rattle.std.proofs.lemmas.List.Sums.{prefix_len-le-length}
use Rattle.mdb_base.specs.Equality.{same_address}
use Rattle.mdb_base.specs.declared.address.ServerAddress.{ServerAddress}
use Rattle.mdb_events.specs.declared.fact.Fact.TheVariants.{Opened, Pool}
use Rattle.mdb_events.specs.declared.cmap.PoolCreatedEvent.{PoolCreatedEvent}
use Rattle.mdb_events.specs.declared.cmap.CmapEvent.TheVariants.{PoolCreated}
use Rattle.mdb_log.specs.declared.options.PoolOptions.{PoolOptions}
use Rattle.mdb_pool.specs.Core.{PoolCore}
use Rattle.mdb_log.specs.History.{Item, made, pool_created, of_pool, open_pool}
use Rattle.mdb_log.specs.Requests.{is_claimed}
use Rattle.mdb_pool.specs.Now.{asked_now, claimed_now, is_closed_now, knows_now, settled_now}
use Rattle.mdb_pool.specs.Standing.{Fits}
use Rattle.mdb_pool.proofs.Told.OfQueries.{asked-is, party-is}
use Rattle.mdb_describe.proofs.Addresses.{same-address}
use Rattle.mdb_log.proofs.Frame.{other-number}
use Rattle.mdb_log.proofs.Numbers.{same-number}
use Rattle.mdb_driver_pools.specs.Standing.{home, is_open_at, at_address, PoolFits, IsApart, IsSingle, PoolsFit}
use Rattle.mdb_driver_rules.proofs.General.OneElement.{position-none}
use Rattle.mdb_driver_rules.proofs.General.OnePosition.{some-same}

module _ {T : Type 0} where
  get-push : (xs : List T) (y : T) (j : ℕ) → slice_get (xs ++ y ∷ []) j ≡ if j == length xs then Some y else slice_get xs j
  get-push [] y zero = refl
  get-push [] y (suc j) = grind arith
  get-push (x ∷ xs) y zero = grind arith
  get-push (x ∷ xs) y (suc j) = grind (arith, get-push xs y j)

  any-push : (f : T → Bool) (xs : List T) (y : T) → f y ≡ false → list_any f (xs ++ y ∷ []) ≡ list_any f xs
  any-push f [] y e = grind arith
  any-push f (x ∷ xs) y e = grind (arith, any-push f xs y e)

  pub map-push : {U : Type 0} (f : T → U) (xs : List T) (y : T) → map f (xs ++ y ∷ []) ≡ map f xs ++ f y ∷ []
  map-push f [] y = refl
  map-push f (x ∷ xs) y = ap (λ us. f x ∷ us) (map-push f xs y)

  length-push : (xs : List T) (y : T) → length (xs ++ y ∷ []) ≡ length xs + 1
  length-push xs y = grind (arith, common_steps)

  pub push-old : (f : T → Bool) (xs : List T) (y : T) → f y ≡ false → position f (xs ++ y ∷ []) ≡ position f xs
  push-old f xs y e = grind (arith, nat_tests, position_or_len_push f xs y, length-push xs y, prefix_len-le-length (λ x. not (f x)) xs)

  pub push-new : (f : T → Bool) (xs : List T) (y : T) → position f xs ≡ None → f y ≡ true → position f (xs ++ y ∷ []) ≡ Some (length xs)
  push-new f xs y n e = grind (arith, nat_tests, position_or_len_push f xs y, length-push xs y, prefix_len-le-length (λ x. not (f x)) xs)

-- the last place, or an earlier one
data Place {T : Type 0} (xs : List T) (y : T) (j : ℕ) : Type 0 where
  at_end : j ≡ length xs → slice_get (xs ++ y ∷ []) j ≡ Some y → Place xs y j
  earlier : length xs ≢ j → slice_get (xs ++ y ∷ []) j ≡ slice_get xs j → Place xs y j

place : {T : Type 0} (xs : List T) (y : T) (j : ℕ) → Place xs y j
place xs y j = on (j == length xs) refl
  where
    on : (b : Bool) → (j == length xs) ≡ b → Place xs y j
    on true f = let w : j ≡ length xs = grind arith in at_end w (get-push xs y j ∙ rw f refl)
    on false f = let w : length xs ≢ j = grind arith in earlier w (get-push xs y j ∙ rw f refl)

-- a pool that was just made
pub record IsFresh (s : PoolCore) : Type 0 where
  pub fits : Fits s (pool_created ∷ [])
  pub settled : (r : ℕ) → settled_now s r ≡ false
  pub claimed : (c : ℕ) → claimed_now s c ≡ false
  pub unshut : is_closed_now s ≡ false

-- the pool s, which is new, comes last
module _ (o : PoolOptions) (pools : List PoolCore) (h : List Item) (z : PoolsFit o pools h) (s : PoolCore) (m : ℕ) (e : PoolCreatedEvent)
    (number : s.pool ≡ length pools) (options : s.options ≡ o) (fresh : IsFresh s)
    (absent : at_address pools s.address ≡ None) where
  abbrev n : ℕ
  n = length pools

  abbrev k : List Item
  k = made m (Pool n (PoolCreated e)) ∷ made m (Opened n s.address) ∷ h

  others : (q : ℕ) → n ≢ q → of_pool q k ≡ of_pool q h
  others q ne = rw (other-number n q ne) refl

  mine : of_pool n k ≡ pool_created ∷ []
  mine = rw (same-number n, z.rest n (slice_get_past pools n (omega arith))) refl

  knows-none : (r : ℕ) → knows_now s r ≡ false
  knows-none r = sym (party-is s _ fresh.fits r)

  asked-none : (r : ℕ) → asked_now s r ≡ false
  asked-none r = sym (asked-is s _ fresh.fits r)

  each-k : (j : ℕ) (u : PoolCore) → slice_get (pools ++ s ∷ []) j ≡ Some u → PoolFits o k j u
  each-k j u f = on (place pools s j)
    where
      on : Place pools s j → PoolFits o k j u
      on (at_end c d) =
          let known : pool_created ∷ [] ≡ of_pool j k = sym mine ∙ ap (λ q. of_pool q k) (sym c) in
          subst (PoolFits o k j) (some-same s u (slice_get (pools ++ s ∷ []) j) d f) (record { number = number ∙ sym c; options = options; fits = subst (Fits s) known fresh.fits })
      on (earlier ne d) =
          let b : PoolFits o h j u = z.each j u (sym d ∙ f) in
          let known : of_pool j h ≡ of_pool j k = sym (others j ne) in
          record { number = b.number; options = b.options; fits = subst (Fits u) known b.fits }

  rest-k : (j : ℕ) → slice_get (pools ++ s ∷ []) j ≡ None → of_pool j k ≡ []
  rest-k j f = on (place pools s j)
    where
      on : Place pools s j → of_pool j k ≡ []
      on (at_end c d) = let q : ◌≡◌ {A = Option PoolCore} (Some s) None = sym d ∙ f in cc
      on (earlier ne d) = others j ne ∙ z.rest j (sym d ∙ f)

  open-s : (a : ServerAddress) → is_open_at a s ≡ same_address s.address a
  open-s a = rw (fresh.unshut) refl

  -- none was open at its address
  none-at : (a : ServerAddress) → same_address s.address a ≡ true → at_address pools a ≡ None
  none-at a f = ap (at_address pools) (sym (same-address s.address a f)) ∙ absent

  open-k : (a : ServerAddress) → open_pool k a ≡ at_address (pools ++ s ∷ []) a
  open-k a = on (same_address s.address a) refl
    where
      on : (b : Bool) → same_address s.address a ≡ b → open_pool k a ≡ at_address (pools ++ s ∷ []) a
      on true f = rw f (sym (push-new (is_open_at a) pools s (none-at a f) (open-s a ∙ f)))
      on false f = rw f (z.open_are a ∙ sym (push-old (is_open_at a) pools s (open-s a ∙ f)))

  -- an earlier pool that is open at an address of the new one
  twice : (a : ServerAddress) (j : ℕ) (u : PoolCore) → slice_get pools j ≡ Some u → is_open_at a s ≡ true → is_open_at a u ≡ true → ⊥
  twice a j u f g l =
      let c : is_open_at a u ≡ false = position-none (is_open_at a) pools (none-at a (sym (open-s a) ∙ g)) j u f in
      let t : true ≡ false = sym l ∙ c in
      cc

  single-k : IsSingle (pools ++ s ∷ [])
  single-k a p q u w f g l r = on (place pools s p) (place pools s q)
    where
      on : Place pools s p → Place pools s q → p ≡ q
      on (at_end c d) (at_end c2 d2) = c ∙ sym c2
      on (at_end c d) (earlier ne d2) = absurd (twice a q w (sym d2 ∙ g) (subst (λ y. is_open_at a y ≡ true) (some-same u s (slice_get (pools ++ s ∷ []) p) f d) l) r)
      on (earlier ne d) (at_end c2 d2) = absurd (twice a p u (sym d ∙ f) (subst (λ y. is_open_at a y ≡ true) (some-same w s (slice_get (pools ++ s ∷ []) q) g d2) r) l)
      on (earlier ne d) (earlier ne2 d2) = z.single a p q u w (sym d ∙ f) (sym d2 ∙ g) l r

  apart-k : IsApart (pools ++ s ∷ [])
  apart-k r p q u w f g a b = on (place pools s p) (place pools s q)
    where
      on : Place pools s p → Place pools s q → p ≡ q
      on (at_end c d) y = let v : knows_now s r ≡ true = subst (λ x. knows_now x r ≡ true) (some-same u s (slice_get (pools ++ s ∷ []) p) f d) a in let t : false ≡ true = sym (knows-none r) ∙ v in cc
      on (earlier ne d) (at_end c2 d2) = let v : knows_now s r ≡ true = subst (λ x. knows_now x r ≡ true) (some-same w s (slice_get (pools ++ s ∷ []) q) g d2) b in let t : false ≡ true = sym (knows-none r) ∙ v in cc
      on (earlier ne d) (earlier ne2 d2) = z.apart r p q u w (sym d ∙ f) (sym d2 ∙ g) a b

  noted-k : (j : ℕ) (u : PoolCore) (r : ℕ) → slice_get (pools ++ s ∷ []) j ≡ Some u → settled_now u r ≡ true → knows_now u r ≡ true
  noted-k j u r f g = on (place pools s j)
    where
      on : Place pools s j → knows_now u r ≡ true
      on (at_end c d) = let t : settled_now u r ≡ false = ap (λ x. settled_now x r) (some-same u s (slice_get (pools ++ s ∷ []) j) f d) ∙ fresh.settled r in cc
      on (earlier ne d) = z.noted j u r (sym d ∙ f) g

  claims-k : (j : ℕ) (u : PoolCore) (c : ℕ) → slice_get (pools ++ s ∷ []) j ≡ Some u → is_claimed k j c ≡ claimed_now u c
  claims-k j u c f = on (place pools s j)
    where
      on : Place pools s j → is_claimed k j c ≡ claimed_now u c
      on (at_end b d) = z.unclaimed j c (slice_get_past pools j (omega arith)) ∙ sym (ap (λ x. claimed_now x c) (some-same u s (slice_get (pools ++ s ∷ []) j) f d) ∙ fresh.claimed c)
      on (earlier ne d) = z.claims j u c (sym d ∙ f)

  unclaimed-k : (j c : ℕ) → slice_get (pools ++ s ∷ []) j ≡ None → is_claimed k j c ≡ false
  unclaimed-k j c f = on (place pools s j)
    where
      on : Place pools s j → is_claimed k j c ≡ false
      on (at_end b d) = let q : ◌≡◌ {A = Option PoolCore} (Some s) None = sym d ∙ f in cc
      on (earlier ne d) = z.unclaimed j c (sym d ∙ f)

  pub opens : PoolsFit o (pools ++ s ∷ []) k
  opens = record {
    each = each-k;
    rest = rest-k;
    homes_are = ap (λ hs. hs ++ record { number = n; address = s.address } ∷ []) z.homes_are ∙ (ap (λ p. map home pools ++ record { number = p; address = s.address } ∷ []) (sym number) ∙ sym (map-push home pools s));
    open_are = open-k;
    single = single-k;
    names = λ r. z.names r ∙ sym (any-push (λ u. knows_now u r) pools s (knows-none r));
    apart = apart-k;
    requested = λ r. z.requested r ∙ sym (any-push (λ u. asked_now u r) pools s (asked-none r));
    opens = λ r. z.opens r ∙ ap not (sym (any-push (λ u. settled_now u r) pools s (fresh.settled r)));
    noted = noted-k;
    claims = claims-k;
    unclaimed = unclaimed-k;
  }
