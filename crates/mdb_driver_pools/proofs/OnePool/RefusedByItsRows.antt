-- An act is refused by the rows of all pools as by those of the pool that it concerns.
use Rattle.std.proofs.Common.{ℕ, suc, ◌≡◌, ◌&&◌, ◌||◌, Bool, true, false, not, List, [], ◌∷◌, Option, Some, None, nat_lt, if◌then◌else◌, refl, sym, ◌∙◌, ap, subst}
use Rattle.std.specs.Prelude.{slice_get, unwrap_or}
use Rattle.std.specs.List.{list_any}
use Rattle.mdb_base.specs.declared.address.ServerAddress.{ServerAddress}
use Rattle.mdb_base.specs.declared.options.Options.{Options}
use Rattle.mdb_base.specs.Equality.{same_address}
use Rattle.mdb_log.specs.declared.step.Act.{Act}
use Rattle.mdb_log.specs.declared.step.Act.TheVariants as Do
use Rattle.mdb_log.specs.declared.reply.Refused.TheVariants.{RequestKnown, Unpinned, NotHolder, PinState}
use Rattle.mdb_log.specs.History.{Item, PoolItem, of_pool}
use Rattle.mdb_log.specs.Connections.{has, holding, held, pending_list, pins}
use Rattle.mdb_log.specs.Requests.{is_open}
use Rattle.mdb_log.specs.Opening.{pool_options}
use Rattle.mdb_log.proofs.Numbers.{same-number}
use Rattle.mdb_pool.specs.Core.{PoolCore}
use Rattle.mdb_pool_rules.specs.Refusal.{first_row}
use Rattle.mdb_pool.specs.Refusing.{is_here, is_pending_here, is_pinned_here, rows_now}
use Rattle.mdb_pool.specs.Now.{asked_now, holds_now, is_closed_now, is_held_now, is_open_now, is_spent, knows_now, settled_now}
use Rattle.mdb_pool.proofs.Told.OfQueries.{asked-knows, held-is, held-pins, open-knows, pending-is, pins-are}
use Rattle.mdb_driver_rules.specs.Refusal.{rows_of, has_pin, is_pending}
use Rattle.mdb_driver_pools.specs.Standing.{is_open_at, knows, requested, settled, at_address, PoolsFit}
use Rattle.mdb_driver_pools.specs.Living.{lives_at}
use Rattle.mdb_driver_pools.specs.Finding.{asked_by, numbered, index_of, names_known, missing_pool}
use Rattle.mdb_driver_rules.specs.Acts.{is_pool_act}
use Rattle.mdb_pool.proofs.KeptInLittle.NothingLives.{none-pending, none-pinned}
use Rattle.mdb_driver_rules.proofs.General.OneElement.{any-none, any-position, any-nowhere, position-at, position-none}
use Rattle.mdb_driver_rules.proofs.General.OnePosition.{some-same}
use Rattle.mdb_driver_pools.proofs.InMemory.LivingPools.{lives-of}
use Rattle.mdb_driver_pools.proofs.OnePool.FoundAt.{fits-at, number-at, numbered-is, numbered-gone, home-placed, home-missing}

-- a pool that is open at the address is the one there
here-open : (a : ServerAddress) (s : PoolCore) → is_open_at a s ≡ true → is_here s a ≡ true
here-open a s e = on (not (is_closed_now s)) (same_address s.address a) e
  where
    on : (b c : Bool) → b && c ≡ true → c && b ≡ true
    on true true e = refl
    on true false e = cc
    on false c e = cc

-- where each that meets the one test meets the other
any-follows : (f g : PoolCore → Bool) (ps : List PoolCore) → ((j : ℕ) (x : PoolCore) → slice_get ps j ≡ Some x → f x ≡ true → g x ≡ true) → list_any f ps ≡ true → list_any g ps ≡ true
any-follows f g [] k e = cc
any-follows f g (p ∷ ps) k e = on (f p) refl (any-follows f g ps (λ j x h. k (suc j) x h))
  where
    on : (b : Bool) → f p ≡ b → (list_any f ps ≡ true → list_any g ps ≡ true) → list_any g (p ∷ ps) ≡ true
    on true w more = rw (k 0 p refl w) refl
    on false w more = let same : list_any f (p ∷ ps) ≡ list_any f ps = rw w refl in either (g p) (more (sym same ∙ e))
      where
        either : (c : Bool) → list_any g ps ≡ true → (c || list_any g ps) ≡ true
        either true h = refl
        either false h = h

module _ (o : Options) (pools : List PoolCore) (h : List Item) (z : PoolsFit (pool_options o) pools h) where
  -- what only a pool that knows the party says of it, is said where the party is known
  known-says : (f : PoolCore → Bool) (r i : ℕ) (s : PoolCore) → slice_get pools i ≡ Some s → knows_now s r ≡ true → ((j : ℕ) (x : PoolCore) → slice_get pools j ≡ Some x → f x ≡ true → knows_now x r ≡ true) → list_any f pools ≡ f s
  known-says f r i s at_i known told = on (f s) refl
    where
      elsewhere : f s ≡ false → (j : ℕ) (x : PoolCore) (b : Bool) → slice_get pools j ≡ Some x → f x ≡ b → f x ≡ false
      elsewhere e j x false g k = k
      elsewhere e j x true g k =
          let same : j ≡ i = z.apart r j i x s g at_i (told j x g k) known in
          let one : x ≡ s = some-same x s (slice_get pools j) g (subst (λ n. slice_get pools n ≡ Some s) (sym same) at_i) in
          ap f one ∙ e

      on : (b : Bool) → f s ≡ b → list_any f pools ≡ f s
      on true e = any-position f pools i s at_i e ∙ sym e
      on false e = any-nowhere f pools (λ j x g. elsewhere e j x (f x) g refl) ∙ sym e

  -- a request is open where it is open in the pool that it asked
  pub open-at : (r i : ℕ) (s : PoolCore) → slice_get pools i ≡ Some s → knows_now s r ≡ true → is_open h r ≡ is_open_now s r
  open-at r i s at_i known =
      let asked : requested pools r ≡ asked_now s r = known-says (λ u. asked_now u r) r i s at_i known (λ j x g k. asked-knows x r k) in
      let told : settled pools r ≡ settled_now s r = known-says (λ u. settled_now u r) r i s at_i known (λ j x g k. z.noted j x r g k) in
      rw (z.requested r, z.opens r, told, asked) refl

  not-open : (r : ℕ) → asked_by pools r ≡ None → is_open h r ≡ false
  not-open r e = on (requested pools r) (settled pools r) refl refl
    where
      closed : (j : ℕ) (x : PoolCore) → slice_get pools j ≡ Some x → asked_now x r ≡ true → settled_now x r ≡ true
      closed j x g k = both (asked_now x r) (settled_now x r) (position-none (λ u. is_open_now u r) pools e j x g) k
        where
          both : (a b : Bool) → (a && not b) ≡ false → a ≡ true → b ≡ true
          both true true f h = refl
          both true false f h = cc
          both false b f h = cc

      on : (a b : Bool) → requested pools r ≡ a → settled pools r ≡ b → is_open h r ≡ false
      on false b f g = rw (z.requested r, f) refl
      on true true f g = rw (z.requested r, z.opens r, f, g) refl
      on true false f g = let k : settled pools r ≡ true = any-follows (λ u. asked_now u r) (λ u. settled_now u r) pools closed f in cc

  -- of a pool in which nothing lives, or that never was, no connection is pending, and none has a pin
  gone-from : (f : List PoolItem → Bool) → f [] ≡ false → (q : ℕ) → ((s : PoolCore) → slice_get pools q ≡ Some s → is_spent s ≡ true → f (of_pool s.pool h) ≡ false) → numbered pools q ≡ None → f (of_pool q h) ≡ false
  gone-from f none q there e = on (slice_get pools q) refl
    where
      on : (o : Option PoolCore) → slice_get pools q ≡ o → f (of_pool q h) ≡ false
      on None g = ap f (z.rest q g) ∙ none
      on (Some s) g = in-two (is_spent s) refl
        where
          in-two : (b : Bool) → is_spent s ≡ b → f (of_pool q h) ≡ false
          in-two true k = ap (λ n. f (of_pool n h)) (sym (number-at (pool_options o) pools h z q s g)) ∙ there s g k
          in-two false k = let l : lives_at pools q ≡ true = lives-of pools q s g k in let m : lives_at pools q ≡ false = numbered-gone pools q e in cc

  pub no-pending : (q c : ℕ) → numbered pools q ≡ None → is_pending h q c ≡ false
  no-pending q c e = gone-from (λ xs. has c (pending_list xs)) refl q (λ s g k. pending-is s (of_pool s.pool h) (fits-at (pool_options o) pools h z q s g) c ∙ none-pending s k c) e

  no-pin : (q c : ℕ) → numbered pools q ≡ None → has_pin h q c ≡ false
  no-pin q c e = gone-from (λ xs. nat_lt 0 (pins xs c)) refl q (λ s g k. ap (nat_lt 0) (pins-are s (of_pool s.pool h) (fits-at (pool_options o) pools h z q s g) c ∙ none-pinned s k c)) e

  -- an act that concerns no pool
  pub rows-missing : (act : Act) → index_of pools act ≡ None → is_pool_act act ≡ true → first_row (rows_of o h act) ≡ missing_pool pools act
  rows-missing (Do.Request r a) e k = rw (z.open_are a, e) refl
  rows-missing (Do.Warm r a) e k = rw (z.open_are a, e) refl
  rows-missing (Do.Maintain a) e k = rw (z.open_are a, e) refl
  rows-missing (Do.Expire a) e k = rw (z.open_are a, e) refl
  rows-missing (Do.Collect r) e k = rw (not-open r e) refl
  rows-missing (Do.GiveUp r) e k = rw (not-open r e) refl
  rows-missing Do.Claim e k = refl
  rows-missing (Do.Established q c how) e k = rw (no-pending q c e) refl
  rows-missing (Do.Return r used) e k = rw (home-missing (pool_options o) pools h z (Do.Return r used) refl e) refl
  rows-missing (Do.Pin r) e k = rw (home-missing (pool_options o) pools h z (Do.Pin r) refl e) refl
  rows-missing (Do.Replicate q c) e k = rw (no-pin q c e) refl
  rows-missing (Do.Take r q c) e k = rw (z.names r, no-pin q c e) (on (knows pools r))
    where
      on : (b : Bool) → (if b then Some RequestKnown else Some Unpinned) ≡ Some (if b then RequestKnown else Unpinned)
      on true = refl
      on false = refl
  rows-missing (Do.Unpin q c) e k = rw (no-pin q c e) refl
  rows-missing _ e k = cc

  -- an act that uses up a number which is known
  pub rows-known : (i : ℕ) (act : Act) → index_of pools act ≡ Some i → names_known pools act ≡ true → first_row (rows_of o h act) ≡ Some RequestKnown
  rows-known i (Do.Request r a) e k = rw (z.open_are a, e, z.names r, k) refl
  rows-known i (Do.Warm r a) e k = rw (z.open_are a, e, z.names r, k) refl
  rows-known i (Do.Take r q c) e k = rw (z.names r, k) refl
  rows-known i _ e k = cc

  module _ (i : ℕ) (s : PoolCore) (at_i : slice_get pools i ≡ Some s) where
    abbrev xs : List PoolItem
    xs = of_pool s.pool h

    number-is : (q : ℕ) → numbered pools q ≡ Some i → q ≡ s.pool
    number-is q e = numbered-is pools q i e ∙ sym (number-at (pool_options o) pools h z i s at_i)

    pinned-is : (q c : ℕ) → q ≡ s.pool → has_pin h q c ≡ is_pinned_here s q c
    pinned-is q c e = subst (λ n. has_pin h n c ≡ is_pinned_here s n c) (sym e) (rw (pins-are s xs (fits-at (pool_options o) pools h z i s at_i) c, same-number s.pool) refl)

    pub pending-here : (q c : ℕ) → q ≡ s.pool → is_pending h q c ≡ is_pending_here s q c
    pending-here q c e = subst (λ n. is_pending h n c ≡ is_pending_here s n c) (sym e) (rw (pending-is s xs (fits-at (pool_options o) pools h z i s at_i) c, same-number s.pool) refl)

    held-here : (q c : ℕ) → q ≡ s.pool → nat_lt 0 (held (of_pool q h) c) ≡ is_held_now s c
    held-here q c e = subst (λ n. nat_lt 0 (held (of_pool n h) c) ≡ is_held_now s c) (sym e) (held-is s xs (fits-at (pool_options o) pools h z i s at_i) c)

    open-there : (r : ℕ) → asked_by pools r ≡ Some i → is_open h r ≡ is_open_now s r
    open-there r e = open-at r i s at_i (open-knows s r (position-at (λ u. is_open_now u r) pools i s e at_i).0)

    is-at : (a : ServerAddress) → at_address pools a ≡ Some i → is_here s a ≡ true
    is-at a e = here-open a s (position-at (is_open_at a) pools i s e at_i).0

    new-here : (r : ℕ) → knows pools r ≡ false → knows_now s r ≡ false
    new-here r k = any-none (λ u. knows_now u r) pools i s k at_i

    pin-rows : (r : ℕ) → holds_now s r ≡ true → first_row ((not true, NotHolder) ∷ (has_pin h s.pool (unwrap_or (holding xs r) 0), PinState) ∷ []) ≡ first_row (rows_now s (Do.Pin r))
    pin-rows r k = rw (held-pins s xs (fits-at (pool_options o) pools h z i s at_i) r k, k) refl

    -- an act of the pool there
    pub rows-there : (act : Act) → is_pool_act act ≡ true → index_of pools act ≡ Some i → names_known pools act ≡ false → first_row (rows_of o h act) ≡ first_row (rows_now s act)
    rows-there (Do.Request r a) k e n = rw (z.open_are a, e, z.names r, n, is-at a e, new-here r n) refl
    rows-there (Do.Warm r a) k e n = rw (z.open_are a, e, z.names r, n, is-at a e, new-here r n) refl
    rows-there (Do.Maintain a) k e n = rw (z.open_are a, e, is-at a e) refl
    rows-there (Do.Expire a) k e n = rw (z.open_are a, e, is-at a e) refl
    rows-there (Do.Collect r) k e n = rw (open-there r e) refl
    rows-there (Do.GiveUp r) k e n = rw (open-there r e) refl
    rows-there Do.Claim k e n = refl
    rows-there (Do.Established q c how) k e n = rw (pending-here q c (number-is q e), (z.each i s at_i).options) refl
    rows-there (Do.Return r used) k e n =
        let held : holds_now s r ≡ true = (position-at (λ u. holds_now u r) pools i s e at_i).0 in
        rw (home-placed (pool_options o) pools h z (Do.Return r used) k i s at_i e, held) refl
    rows-there (Do.Pin r) k e n =
        let held : holds_now s r ≡ true = (position-at (λ u. holds_now u r) pools i s e at_i).0 in
        rw (home-placed (pool_options o) pools h z (Do.Pin r) k i s at_i e) (pin-rows r held)
    rows-there (Do.Replicate q c) k e n = rw (pinned-is q c (number-is q e)) refl
    rows-there (Do.Take r q c) k e n = rw (z.names r, n, new-here r n, pinned-is q c (number-is q e), held-here q c (number-is q e)) refl
    rows-there (Do.Unpin q c) k e n = rw (pinned-is q c (number-is q e)) refl
    rows-there _ k e n = cc
