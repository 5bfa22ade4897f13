-- One pool has moved, and the others are as they were.
use Rattle.std.proofs.Common.{ℕ, ◌≡◌, ◌≢◌, ◌==◌, ◌||◌, ◌&&◌, if◌then◌else◌, Bool, true, false, not, List, [], set, Option, Some, None, refl, sym, ◌∙◌, ap, subst}
use Rattle.std.specs.Prelude.{slice_get}
use Rattle.mdb_base.specs.Equality.{same_address}
use Rattle.mdb_base.specs.declared.address.ServerAddress.{ServerAddress}
use Rattle.mdb_log.specs.declared.options.PoolOptions.{PoolOptions}
use Rattle.mdb_pool.specs.Core.{PoolCore}
use Rattle.mdb_log.specs.History.{Item, PoolItem, of_pool, has_party, has_asked, open_pool, is_number}
use Rattle.mdb_log.specs.Requests.{some_act, names_party, was_asked, leaves, told, is_claimed}
use Rattle.mdb_pool.specs.Now.{asked_now, claimed_now, is_closed_now, knows_now, settled_now}
use Rattle.mdb_pool.specs.Standing.{Fits, SameHome}
use Rattle.mdb_pool.proofs.Told.OfQueries.{asked-is, party-is}
use Rattle.mdb_log.specs.Homes.{homes}
use Rattle.mdb_driver_pools.specs.Standing.{home, is_open_at, at_address, knows, settled, PoolFits, IsApart, IsSingle, PoolsFit}
use Rattle.mdb_driver_rules.proofs.General.OneElement.{any-set, any-none, position-set, map-set}
use Rattle.mdb_driver_rules.proofs.General.OnePosition.{Place, at_it, beside, place, some-same}
use Rattle.mdb_driver_rules.proofs.General.FirstThatPasses.{position-shut}

-- What a longer history k says of the pool i, which has moved from s to t and knows zs, and of the others, which know what they knew.
-- The parties of new have just come to the pool, those of asking by a request, and the requests of closed are settled there; shuts says that the pool is closed.
pub record Moved (pools : List PoolCore) (h : List Item) (s t : PoolCore) (k : List Item) (zs : List PoolItem) (new asking closed : ℕ → Bool) (shuts : Bool) : Type 0 where
  pub same : SameHome s t
  pub fits : Fits t zs
  pub here : of_pool s.pool k ≡ zs
  pub there : (q : ℕ) → s.pool ≢ q → of_pool q k ≡ of_pool q h
  pub homes_k : homes k ≡ homes h
  pub open_k : (a : ServerAddress) → open_pool k a ≡ if shuts && is_number (open_pool h a) s.pool then None else open_pool h a
  pub status : is_closed_now t ≡ shuts || is_closed_now s
  pub names : (r : ℕ) → some_act names_party k r ≡ new r || some_act names_party h r
  pub requested : (r : ℕ) → some_act was_asked k r ≡ asking r || some_act was_asked h r
  pub parties : (r : ℕ) → has_party zs r ≡ new r || has_party (of_pool s.pool h) r
  pub asks : (r : ℕ) → has_asked zs r ≡ asking r || has_asked (of_pool s.pool h) r
  pub fresh : (r : ℕ) → new r ≡ true → knows pools r ≡ false
  pub opens : (b : ℕ → Bool) → ((r : ℕ) → (told h r == 0) && not (some_act leaves h r) ≡ not (b r)) → (r : ℕ) → (told k r == 0) && not (some_act leaves k r) ≡ not (closed r || b r)
  pub settles : (r : ℕ) → settled_now t r ≡ closed r || settled_now s r
  pub known : (r : ℕ) → closed r ≡ true → knows_now t r ≡ true
  pub claims : (c : ℕ) → is_claimed h s.pool c ≡ claimed_now s c → is_claimed k s.pool c ≡ claimed_now t c
  pub unclaimed : (q c : ℕ) → s.pool ≢ q → is_claimed k q c ≡ is_claimed h q c

module _ (o : PoolOptions) (pools : List PoolCore) (h : List Item) (z : PoolsFit o pools h) (i : ℕ) (s t : PoolCore) (at_i : slice_get pools i ≡ Some s)
    (k : List Item) (zs : List PoolItem) (new asking closed : ℕ → Bool) (shuts : Bool) (v : Moved pools h s t k zs new asking closed shuts) where
  abbrev d : PoolFits o h i s
  d = z.each i s at_i

  other-place : (j : ℕ) → i ≢ j → s.pool ≢ j
  other-place j ne f = ne (sym d.number ∙ f)

  known-t : (r : ℕ) → knows_now t r ≡ new r || knows_now s r
  known-t r = sym (party-is t _ v.fits r) ∙ (v.parties r ∙ (ap (λ p. new r || has_party (of_pool p h) r) d.number ∙ ap (λ b. new r || b) (party-is s _ d.fits r)))

  asked-t : (r : ℕ) → asked_now t r ≡ asking r || asked_now s r
  asked-t r = sym (asked-is t _ v.fits r) ∙ (v.asks r ∙ (ap (λ p. asking r || has_asked (of_pool p h) r) d.number ∙ ap (λ b. asking r || b) (asked-is s _ d.fits r)))

  each-k : (j : ℕ) (u : PoolCore) → slice_get (set pools i t) j ≡ Some u → PoolFits o k j u
  each-k j u e = on (place pools i s t at_i j)
    where
      on : Place pools i t j → PoolFits o k j u
      on (at_it w f) =
          let n : s.pool ≡ j = d.number ∙ w in
          subst (PoolFits o k j) (some-same t u (slice_get (set pools i t) j) f e) (record { number = v.same.pool ∙ n; options = v.same.options ∙ d.options; fits = subst (Fits t) (sym v.here ∙ ap (λ p. of_pool p k) n) v.fits })
      on (beside ne f) =
          let b : PoolFits o h j u = z.each j u (sym f ∙ e) in
          record { number = b.number; options = b.options; fits = subst (Fits u) (sym (v.there j (other-place j ne))) b.fits }

  rest-k : (j : ℕ) → slice_get (set pools i t) j ≡ None → of_pool j k ≡ []
  rest-k j e = on (place pools i s t at_i j)
    where
      on : Place pools i t j → of_pool j k ≡ []
      on (at_it w f) = let q : ◌≡◌ {A = Option PoolCore} (Some t) None = sym f ∙ e in cc
      on (beside ne f) = v.there j (other-place j ne) ∙ z.rest j (sym f ∙ e)

  apart-one : (r j : ℕ) (u : PoolCore) → i ≢ j → slice_get pools j ≡ Some u → knows_now t r ≡ true → knows_now u r ≡ true → ⊥
  apart-one r j u ne e f g = on (new r) refl (sym (known-t r) ∙ f)
    where
      on : (b : Bool) → new r ≡ b → new r || knows_now s r ≡ true → ⊥
      on true c w = let q : knows_now u r ≡ false = any-none (λ w. knows_now w r) pools j u (v.fresh r c) e in let x : true ≡ false = sym g ∙ q in cc
      on false c w = ne (z.apart r i j s u at_i e (subst (λ b. b || knows_now s r ≡ true) c w) g)

  apart-k : IsApart (set pools i t)
  apart-k r p q u w e f a b = on (place pools i s t at_i p) (place pools i s t at_i q)
    where
      on : Place pools i t p → Place pools i t q → p ≡ q
      on (at_it c x) (at_it c2 x2) = sym c ∙ c2
      on (at_it c x) (beside ne x2) = absurd (apart-one r q w ne (sym x2 ∙ f) (subst (λ y. knows_now y r ≡ true) (some-same u t (slice_get (set pools i t) p) e x) a) b)
      on (beside ne x) (at_it c2 x2) = absurd (apart-one r p u ne (sym x ∙ e) (subst (λ y. knows_now y r ≡ true) (some-same w t (slice_get (set pools i t) q) f x2) b) a)
      on (beside ne x) (beside ne2 x2) = z.apart r p q u w (sym x ∙ e) (sym x2 ∙ f) a b

  noted-t : (r : ℕ) → settled_now t r ≡ true → knows_now t r ≡ true
  noted-t r e = on (closed r) refl (sym (v.settles r) ∙ e)
    where
      either : (a b : Bool) → b ≡ true → a || b ≡ true
      either true b f = refl
      either false b f = f

      on : (b : Bool) → closed r ≡ b → closed r || settled_now s r ≡ true → knows_now t r ≡ true
      on true c w = v.known r c
      on false c w = known-t r ∙ either (new r) (knows_now s r) (z.noted i s r at_i (subst (λ b. b || settled_now s r ≡ true) c w))

  noted-k : (j : ℕ) (u : PoolCore) (r : ℕ) → slice_get (set pools i t) j ≡ Some u → settled_now u r ≡ true → knows_now u r ≡ true
  noted-k j u r e f = on (place pools i s t at_i j)
    where
      on : Place pools i t j → knows_now u r ≡ true
      on (at_it w g) = subst (λ x. settled_now x r ≡ true → knows_now x r ≡ true) (some-same t u (slice_get (set pools i t) j) g e) (noted-t r) f
      on (beside ne g) = z.noted j u r (sym g ∙ e) f

  claims-k : (j : ℕ) (u : PoolCore) (c : ℕ) → slice_get (set pools i t) j ≡ Some u → is_claimed k j c ≡ claimed_now u c
  claims-k j u c e = on (place pools i s t at_i j)
    where
      on : Place pools i t j → is_claimed k j c ≡ claimed_now u c
      on (at_it w g) =
          let own : is_claimed h s.pool c ≡ claimed_now s c = ap (λ p. is_claimed h p c) d.number ∙ z.claims i s c at_i in
          ap (λ p. is_claimed k p c) (sym (d.number ∙ w)) ∙ (v.claims c own ∙ ap (λ x. claimed_now x c) (some-same t u (slice_get (set pools i t) j) g e))
      on (beside ne g) = v.unclaimed j c (other-place j ne) ∙ z.claims j u c (sym g ∙ e)

  unclaimed-k : (j c : ℕ) → slice_get (set pools i t) j ≡ None → is_claimed k j c ≡ false
  unclaimed-k j c e = on (place pools i s t at_i j)
    where
      on : Place pools i t j → is_claimed k j c ≡ false
      on (at_it w f) = let q : ◌≡◌ {A = Option PoolCore} (Some t) None = sym f ∙ e in cc
      on (beside ne f) = v.unclaimed j c (other-place j ne) ∙ z.unclaimed j c (sym f ∙ e)

  -- an open pool was open
  still : (a : ServerAddress) → is_open_at a t ≡ true → is_open_at a s ≡ true
  still a e = on shuts (is_closed_now s) refl refl
    where
      on : (b c : Bool) → shuts ≡ b → is_closed_now s ≡ c → is_open_at a s ≡ true
      on false false f g = let w : is_closed_now t ≡ false = v.status ∙ rw (f, g) refl in let q : same_address t.address a ≡ true = sym (rw w refl) ∙ e in rw g (ap (λ b. same_address b a) (sym v.same.address) ∙ q)
      on false true f g = let w : is_closed_now t ≡ true = v.status ∙ rw (f, g) refl in let q : false ≡ true = sym (rw w refl) ∙ e in cc
      on true c f g = let w : is_closed_now t ≡ true = v.status ∙ rw f refl in let q : false ≡ true = sym (rw w refl) ∙ e in cc

  single-k : IsSingle (set pools i t)
  single-k a p q u w e f g l = on (place pools i s t at_i p) (place pools i s t at_i q)
    where
      on : Place pools i t p → Place pools i t q → p ≡ q
      on (at_it c x) (at_it c2 x2) = sym c ∙ c2
      on (at_it c x) (beside ne x2) = sym c ∙ z.single a i q s w at_i (sym x2 ∙ f) (still a (subst (λ y. is_open_at a y ≡ true) (some-same u t (slice_get (set pools i t) p) e x) g)) l
      on (beside ne x) (at_it c2 x2) = z.single a p i u s (sym x ∙ e) at_i g (still a (subst (λ y. is_open_at a y ≡ true) (some-same w t (slice_get (set pools i t) q) f x2) l)) ∙ c2
      on (beside ne x) (beside ne2 x2) = z.single a p q u w (sym x ∙ e) (sym x2 ∙ f) g l

  opened : (a : ServerAddress) → at_address (set pools i t) a ≡ if shuts && is_number (at_address pools a) i then None else at_address pools a
  opened a = on shuts refl
    where
      on : (b : Bool) → shuts ≡ b → at_address (set pools i t) a ≡ if shuts && is_number (at_address pools a) i then None else at_address pools a
      on false f =
          let w : is_closed_now t ≡ is_closed_now s = v.status ∙ rw f refl in
          let q : is_open_at a t ≡ is_open_at a s = rw (w, v.same.address) refl in
          rw f (position-set (is_open_at a) pools i s t at_i q)
      on true f =
          let w : is_closed_now t ≡ true = v.status ∙ rw f refl in
          let q : is_open_at a t ≡ false = rw w refl in
          rw f (position-shut (is_open_at a) pools i s t at_i q (λ j x e g l. z.single a i j s x at_i e l g))

  open-are : (a : ServerAddress) → open_pool k a ≡ at_address (set pools i t) a
  open-are a = v.open_k a ∙ (ap (λ x. if shuts && is_number x s.pool then None else x) (z.open_are a) ∙ (ap (λ p. if shuts && is_number (at_address pools a) p then None else at_address pools a) d.number ∙ sym (opened a)))

  pub moved : PoolsFit o (set pools i t) k
  moved = record {
    each = each-k;
    rest = rest-k;
    homes_are = v.homes_k ∙ (z.homes_are ∙ sym (map-set home pools i s t at_i (rw (v.same.pool, v.same.address) refl)));
    open_are = open-are;
    single = single-k;
    names = λ r. v.names r ∙ (ap (λ b. new r || b) (z.names r) ∙ sym (any-set (λ u. knows_now u r) (new r) pools i s t at_i (known-t r)));
    apart = apart-k;
    requested = λ r. v.requested r ∙ (ap (λ b. asking r || b) (z.requested r) ∙ sym (any-set (λ u. asked_now u r) (asking r) pools i s t at_i (asked-t r)));
    opens = λ r. v.opens (settled pools) z.opens r ∙ ap not (sym (any-set (λ u. settled_now u r) (closed r) pools i s t at_i (v.settles r)));
    noted = noted-k;
    claims = claims-k;
    unclaimed = unclaimed-k;
  }
