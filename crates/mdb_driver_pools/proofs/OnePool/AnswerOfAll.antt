-- An act that the pool at its place accepts is the answer of all.
use Rattle.std.proofs.Common.{ℕ, ◌≡◌, ◌≢◌, ◌==◌, ◌||◌, Bool, true, false, not, List, Option, Some, None, is_some, nat_lt, refl, sym, ◌∙◌, ap, subst, arith}
use Rattle.std.specs.Prelude.{slice_get}
use Rattle.std.proofs.lemmas.Bool.{not-false}
use Rattle.mdb_base.specs.declared.address.ServerAddress.{ServerAddress}
use Rattle.mdb_base.specs.declared.options.Options.{Options}
use Rattle.mdb_log.specs.declared.step.Step.{Step}
use Rattle.mdb_log.specs.declared.step.Act.{Act}
use Rattle.mdb_log.specs.declared.step.Act.TheVariants as Do
use Rattle.mdb_log.specs.declared.reply.Refused.TheVariants.{NotPending, WrongMode, Unpinned}
use Rattle.mdb_log.specs.History.{Item, PoolItem, of_pool, open_pool, given, has_party, has_asked, after_act}
use Rattle.mdb_log.specs.Connections.{created_total}
use Rattle.mdb_log.specs.Requests.{names_party, asks_how, leaves, is_claimed}
use Rattle.mdb_log.specs.Opening.{pool_options}
use Rattle.mdb_log.proofs.Frame.{other-number, no-party-asked}
use Rattle.mdb_pool.specs.Core.{PoolCore}
use Rattle.mdb_pool_rules.specs.Answer.{reply_of}
use Rattle.mdb_pool.specs.Planning.{with_item}
use Rattle.mdb_pool_rules.specs.Refusal.{first_row, wrong_service}
use Rattle.mdb_pool.specs.Refusing.{is_pending_here, is_pinned_here, rows_now}
use Rattle.mdb_pool.specs.Now.{holds_now, is_open_now, is_pending_now, knows_now, pins_now}
use Rattle.mdb_pool.specs.Standing.{Fits}
use Rattle.mdb_pool.proofs.Told.OfQueries.{given-none, holds-knows, open-knows, party-is, pending-made, pinned-made}
use Rattle.mdb_pool_rules.proofs.FactsGrantNothing.{IsBound}
use Rattle.mdb_pool.proofs.Histories.GrantsAreFresh.{holding-created}
use Rattle.mdb_pool.proofs.Answered.Item.{names-item, asks-item}
use Rattle.mdb_pool_rules.proofs.FirstRow.{one-passes, two-pass}
use Rattle.mdb_log.proofs.Bools.{both-true}
use Rattle.mdb_driver_rules.specs.Homes.{home_of}
use Rattle.mdb_driver_rules.specs.Answer.{pool_reply, reply_to}
use Rattle.mdb_driver_rules.specs.Refusal.{refusal}
use Rattle.mdb_driver_pools.specs.Standing.{home, knows, at_address, PoolsFit}
use Rattle.mdb_driver_pools.specs.Finding.{asked_by, holder, numbered, index_of, names_known}
use Rattle.mdb_driver_rules.specs.Acts.{is_pool_act}
use Rattle.mdb_driver_pools.proofs.OnePool.AcceptedAct.{Concerns}
use Rattle.mdb_driver_pools.proofs.OnePool.FactsLeaveOthers.{apart-items}
use Rattle.mdb_driver_rules.proofs.General.OneElement.{position-at}
use Rattle.mdb_driver_pools.proofs.OnePool.FoundAt.{fits-at, number-at, numbered-is, home-placed}
use Rattle.mdb_driver_pools.proofs.OnePool.TellsNoTopology.{no-heartbeat, no-rule, no-trouble}

-- the one party of an act
one-party : (r k : ℕ) → (r == k) || false ≡ true → r ≡ k
one-party r k e = grind (arith, e)

same-party : (r k : ℕ) → (r == k) ≡ true → r ≡ k
same-party r k e = grind (arith, e)

or-left : (a b : Bool) → a || false ≡ true → a || b ≡ true
or-left true b e = refl
or-left false b e = cc

module _ (o : Options) (pools : List PoolCore) (h : List Item) (z : PoolsFit (pool_options o) pools h) (i : ℕ) (s : PoolCore) (at_i : slice_get pools i ≡ Some s) where
  abbrev xs : List PoolItem
  xs = of_pool s.pool h

  fits : Fits s xs
  fits = fits-at (pool_options o) pools h z i s at_i

  number : s.pool ≡ i
  number = number-at (pool_options o) pools h z i s at_i

  -- who is known to this pool is known to no other
  party-here : (r : ℕ) → knows_now s r ≡ true → has_party xs r ≡ true
  party-here r known = party-is s xs fits r ∙ known

  not-asked : (r q : ℕ) → knows_now s r ≡ true → s.pool ≢ q → has_asked (of_pool q h) r ≡ false
  not-asked r q known ne = no-party-asked (of_pool q h) r (apart-items (pool_options o) pools h z s.pool q ne r (party-here r known))

  -- who holds a connection of one pool was given none of another
  not-given : (r q : ℕ) → knows_now s r ≡ true → s.pool ≢ q → is_some (given (of_pool q h) r) ≡ false
  not-given r q known ne = on (slice_get pools q) refl
    where
      in_pool : (u : PoolCore) (b : Bool) → slice_get pools q ≡ Some u → knows_now u r ≡ b → is_some (given (of_pool q h) r) ≡ false
      in_pool u false f g = given-none u (of_pool q h) (z.each q u f).fits r g
      in_pool u true f g = absurd (ne (number ∙ z.apart r i q s u at_i f known g))

      on : (a : Option PoolCore) → slice_get pools q ≡ a → is_some (given (of_pool q h) r) ≡ false
      on None f = ap (λ ys. is_some (given ys r)) (z.rest q f)
      on (Some u) f = in_pool u (knows_now u r) f refl

  open-here : (a : ServerAddress) → at_address pools a ≡ Some i → open_pool h a ≡ Some s.pool
  open-here a e = z.open_are a ∙ (e ∙ ap Some (sym number))

  asker-known : (r : ℕ) → asked_by pools r ≡ Some i → knows_now s r ≡ true
  asker-known r e = open-knows s r (position-at (λ u. is_open_now u r) pools i s e at_i).0

  holder-known : (r : ℕ) → holder pools r ≡ Some i → knows_now s r ≡ true
  holder-known r e = holds-knows s r (position-at (λ u. holds_now u r) pools i s e at_i).0

  named : (q : ℕ) → numbered pools q ≡ Some i → q ≡ s.pool
  named q e = numbered-is pools q i e ∙ sym number

  -- what the pool knows with the act
  item-here : (m : ℕ) (act : Act) → index_of pools act ≡ Some i → is_pool_act act ≡ true → after_act s.pool (open_pool h) m act xs ≡ with_item s.pool m act xs
  item-here m (Do.Request r a) e k = rw (open-here a e) refl
  item-here m (Do.Warm r a) e k = rw (open-here a e) refl
  item-here m (Do.Failed q c at error) e k = cc
  item-here m _ e k = refl

  -- the other pools know what they knew
  item-there : (m : ℕ) (act : Act) → index_of pools act ≡ Some i → is_pool_act act ≡ true → (q : ℕ) → s.pool ≢ q → after_act q (open_pool h) m act (of_pool q h) ≡ of_pool q h
  item-there m (Do.Request r a) e k q ne = rw (open-here a e, other-number s.pool q ne) refl
  item-there m (Do.Warm r a) e k q ne = rw (open-here a e, other-number s.pool q ne) refl
  item-there m (Do.GiveUp r) e k q ne = rw (not-asked r q (asker-known r e) ne) refl
  item-there m (Do.Established p c how) e k q ne = rw (named p e, other-number s.pool q ne) refl
  item-there m (Do.Failed p c at error) e k q ne = cc
  item-there m (Do.Return r used) e k q ne = rw (not-given r q (holder-known r e) ne) refl
  item-there m (Do.Pin r) e k q ne = rw (not-given r q (holder-known r e) ne) refl
  item-there m (Do.Replicate p c) e k q ne = rw (named p e, other-number s.pool q ne) refl
  item-there m (Do.Take r p c) e k q ne = rw (named p e, other-number s.pool q ne) refl
  item-there m (Do.Unpin p c) e k q ne = rw (named p e, other-number s.pool q ne) refl
  item-there m _ e k q ne = refl

  -- a party that is new is known to no pool
  new-party : (act : Act) → names_known pools act ≡ false → (r : ℕ) → names_party act r ≡ true → knows pools r ≡ false
  new-party (Do.Request q a) n r e = subst (λ p. knows pools p ≡ false) (same-party q r e) n
  new-party (Do.Warm q a) n r e = subst (λ p. knows pools p ≡ false) (same-party q r e) n
  new-party (Do.Take q p c) n r e = subst (λ p. knows pools p ≡ false) (same-party q r e) n
  new-party _ n r e = cc

  -- who is told or leaves is known then
  told-party : (act : Act) → index_of pools act ≡ Some i → (r : ℕ) → asks_how act r || leaves act r ≡ true → names_party act r || has_party xs r ≡ true
  told-party (Do.Request q a) e r f = or-left (q == r) (has_party xs r) f
  told-party (Do.Warm q a) e r f = or-left (q == r) (has_party xs r) f
  told-party (Do.Collect q) e r f = subst (λ p. has_party xs p ≡ true) (one-party q r f) (party-here q (asker-known q e))
  told-party (Do.GiveUp q) e r f = subst (λ p. has_party xs p ≡ true) (same-party q r f) (party-here q (asker-known q e))
  told-party (Do.Return q used) e r f = subst (λ p. has_party xs p ≡ true) (same-party q r f) (party-here q (holder-known q e))
  told-party _ e r f = cc

  -- the connection that the act may bring back was created
  created-before : (act : Act) → is_pool_act act ≡ true → first_row (rows_now s act) ≡ None → IsBound (created_total xs) xs act
  created-before (Do.Established q c how) k f =
      let rows : (not (is_pending_here s q c) ≡ false) × (wrong_service s.options.load_balanced how.service_id ≡ false) = two-pass (not (is_pending_here s q c)) (wrong_service s.options.load_balanced how.service_id) NotPending WrongMode f in
      let pending : is_pending_now s c ≡ true = (both-true (q == s.pool) (is_pending_now s c) (not-false (is_pending_here s q c) rows.0)).1 in
      pending-made s xs fits c pending
  created-before (Do.Unpin q c) k f =
      let here : is_pinned_here s q c ≡ true = not-false (is_pinned_here s q c) (one-passes (not (is_pinned_here s q c)) Unpinned f) in
      let pinned : nat_lt 0 (pins_now s c) ≡ true = (both-true (q == s.pool) (nat_lt 0 (pins_now s c)) here).1 in
      pinned-made s xs fits c pinned
  created-before (Do.GiveUp r) k f = λ c g. holding-created s xs fits r c g
  created-before (Do.Return r used) k f = λ c g. holding-created s xs fits r c g
  created-before _ k f = tt

  -- the reply is the pool's
  reply-there : (step : Step) (act : Act) → is_pool_act act ≡ true → home_of h act ≡ Some (home s) → (y : List Item) → reply_to o h step y act ≡ reply_of s.pool (is_claimed h s.pool) xs (of_pool s.pool y) act
  reply-there step (Do.Hello a q came) k e y = cc
  reply-there step (Do.Beaten a q d came) k e y = cc
  reply-there step (Do.Error r error) k e y = cc
  reply-there step (Do.Hosts hosts) k e y = cc
  reply-there step (Do.Rtt a q sample) k e y = cc
  reply-there step (Do.Want w) k e y = cc
  reply-there step (Do.Unwant w) k e y = cc
  reply-there step act k e y = ap (pool_reply h y act) e

  pub pool-concerns : (step : Step) → is_pool_act step.act ≡ true → index_of pools step.act ≡ Some i → names_known pools step.act ≡ false → first_row (rows_now s step.act) ≡ None → refusal o h step ≡ None
      → Concerns o pools h s step (with_item s.pool step.moment step.act xs)
  pool-concerns step k e n f accepted =
      let place : home_of h step.act ≡ Some (home s) = home-placed (pool_options o) pools h z step.act k i s at_i e in
      record {
        mine = item-here step.moment step.act e k;
        others = item-there step.moment step.act e k;
        names = names-item s step.moment xs step.act f;
        asks = asks-item s step.moment xs step.act;
        fresh = new-party step.act n;
        parties = λ r g. names-item s step.moment xs step.act f r ∙ told-party step.act e r g;
        bound = created-before step.act k f;
        quiet = no-heartbeat o h step.act k;
        rule = no-rule o h step k;
        calm = no-trouble o h step k;
        replies = reply-there step step.act k place;
        accepted = accepted;
        place = place;
      }
