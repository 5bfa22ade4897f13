-- A server that comes: its pool is opened, and the pools stand for that.
use Rattle.std.proofs.Common.{ℕ, ◌≡◌, ◌≢◌, ◌==◌, ◌&&◌, Bool, true, false, not, if◌then◌else◌, List, [], ◌∷◌, ◌++◌, length, Option, Some, None, refl, sym, ◌∙◌, ap, subst, arith}
use Rattle.std.specs.Prelude.{slice_get}
use Rattle.std.proofs.lemmas.List.{length-map}
use Rattle.mdb_base.specs.Equality.{same_address}
use Rattle.mdb_base.specs.declared.address.ServerAddress.{ServerAddress}
use Rattle.mdb_base.specs.declared.options.Options.{Options}
use Rattle.mdb_events.specs.declared.fact.Fact.{Fact}
use Rattle.mdb_events.specs.declared.fact.Fact.TheVariants.{Opened, Pool, Sdam}
use Rattle.mdb_events.specs.declared.cmap.PoolCreatedEvent.{PoolCreatedEvent}
use Rattle.mdb_events.specs.declared.cmap.CmapEvent.TheVariants.{PoolCreated}
use Rattle.mdb_events.specs.declared.sdam.SdamEvent.TheVariants.{ServerOpening}
use Rattle.mdb_log.specs.declared.options.PoolOptions.{PoolOptions}
use Rattle.mdb_log.specs.History.{Item, PoolItem, made, of_pool, open_pool, opening, pool_created, with_facts}
use Rattle.mdb_log.specs.Limits.{WithinLimits}
use Rattle.mdb_log.specs.Homes.{homes}
use Rattle.mdb_log.specs.LegalLog.{AllFirstCome}
use Rattle.mdb_log.specs.Beside.{AllFreshGrants}
use Rattle.mdb_log.specs.Opening.{pool_options, created}
use Rattle.mdb_describe.proofs.Addresses.{own-address}
use Rattle.mdb_log.proofs.Frame.{other-number}
use Rattle.mdb_log.proofs.Numbers.{same-number}
use Rattle.mdb_pool.specs.Core.{PoolCore}
use Rattle.mdb_pool.specs.Now.{is_closed_now, settled_now}
use Rattle.mdb_pool_rules.specs.Serving.{next_move, IsServed}
use Rattle.mdb_pool_rules.specs.Quiet.{IsQuiet}
use Rattle.mdb_pool.specs.Standing.{Fits, StandsFor}
use Rattle.mdb_driver_rules.specs.Publishing.{opened_at, server_opened}
use Rattle.mdb_driver_pools.specs.Standing.{home, at_address, PoolsStand}
use Rattle.mdb_driver_pools.specs.Telling.{Makes}
use Rattle.mdb_driver_pools.proofs.Publications.OneMorePool.{IsFresh, opens}
use Rattle.mdb_driver_rules.proofs.SameHistories.{calm}
use Rattle.mdb_driver_pools.proofs.PartsInTurn.{same-stand}

-- a pool that stands for its opening is fresh
no-mark : (b : Bool) → true ≡ not b → b ≡ false
no-mark true e = absurd (cc)
no-mark false e = refl

none-here : (b : Bool) (p : ℕ) → (if b && not true then Some p else None) ≡ None
none-here true p = refl
none-here false p = refl

pub fresh-opened : (s : PoolCore) (n : ℕ) (a : ServerAddress) (o : PoolOptions) → s.pool ≡ n → s.address ≡ a → StandsFor s (opening n a o) → IsFresh s
fresh-opened s n a o number at z = record {
  fits = subst (Fits s) known z.fits;
  settled = λ r. no-mark (settled_now s r) (z.opens r);
  claimed = λ c. sym (z.claims c);
  unshut = on (is_closed_now s) refl;
}
  where
    known : of_pool s.pool (opening n a o) ≡ pool_created ∷ []
    known = rw (number, same-number n) refl

    on : (b : Bool) → is_closed_now s ≡ b → is_closed_now s ≡ false
    on false f = f
    on true f =
        let here : same_address a a ≡ true = own-address a in
        let gone : open_pool (opening n a o) a ≡ None = z.open_here a ∙ rw f (none-here (same_address s.address a) s.pool) in
        let there : open_pool (opening n a o) a ≡ Some n = rw here refl in
        let t : ◌≡◌ {A = Option ℕ} (Some n) None = sym there ∙ gone in
        cc

-- it is served, quiet and within its limits
new-served : (o : PoolOptions) → IsServed o (pool_created ∷ [])
new-served o p a n = on o.load_balanced refl
  where
    on : (b : Bool) → o.load_balanced ≡ b → next_move p a o n (pool_created ∷ []) ≡ []
    on true e = rw e refl
    on false e = rw e refl

new-within : (o : PoolOptions) → WithinLimits o (pool_created ∷ [])
new-within o = (record { pending = omega arith; live = omega arith }, record { pending = omega arith; live = omega arith })

module _ (o : PoolOptions) (pools : List PoolCore) (h : List Item) (z : PoolsStand o pools h) (s : PoolCore) (m : ℕ) (e : PoolCreatedEvent)
    (number : s.pool ≡ length pools) (options : s.options ≡ o) (fresh : IsFresh s) (absent : at_address pools s.address ≡ None) where
  abbrev n : ℕ
  n = length pools

  abbrev k : List Item
  k = made m (Pool n (PoolCreated e)) ∷ made m (Opened n s.address) ∷ h

  -- what holds of the new pool and of the others holds of each
  each : (P : List PoolItem → Type 0) → P (pool_created ∷ []) → ((q : ℕ) → P (of_pool q h)) → (q : ℕ) → P (of_pool q k)
  each P new old q = on (n == q) refl
    where
      on : (b : Bool) → (n == q) ≡ b → P (of_pool q k)
      on true f =
          let w : n ≡ q = grind arith in
          let mine : of_pool n k ≡ pool_created ∷ [] = rw (same-number n, z.fit.rest n (past pools)) refl in
          subst P (sym mine ∙ ap (λ p. of_pool p k) w) new
        where
          past : (xs : List PoolCore) → slice_get xs (length xs) ≡ None
          past [] = refl
          past (x ∷ xs) = past xs
      on false f =
          let w : n ≢ q = grind arith in
          let there : of_pool q k ≡ of_pool q h = rw (other-number n q w) refl in
          subst P (sym there) (old q)

  pub opens-stand : PoolsStand o (pools ++ s ∷ []) k
  opens-stand = record {
    fit = opens o pools h z.fit s m e number options fresh absent;
    served = each (IsServed o) (new-served o) z.served;
    quiet = each (IsQuiet o) (λ f. refl) z.quiet;
    within = each (WithinLimits o) (new-within o) z.within;
  }

module _ (o : Options) (m : ℕ) (pools : List PoolCore) (s : PoolCore) (a : ServerAddress) (before after : List Fact)
    (number : s.pool ≡ length pools) (at : s.address ≡ a) (options : s.options ≡ pool_options o) (fresh : IsFresh s) (absent : at_address pools a ≡ None)
    (facts : after ≡ before ++ opened_at o a (length pools)) where
  -- the part of a server that comes
  pub makes-opened : Makes o m (server_opened o a) pools (pools ++ s ∷ []) before after
  makes-opened j z =
      let n : ℕ = length pools in
      let next : length (homes j) ≡ n = ap length z.fit.homes_are ∙ length-map pools home in
      let all : server_opened o a j ≡ opened_at o a n = ap (opened_at o a) next in
      let created_at : List Item = made m (Pool n (created (pool_options o) a)) ∷ made m (Opened n a) ∷ j in
      let one : PoolsStand (pool_options o) (pools ++ s ∷ []) (made m (Pool n (created (pool_options o) a)) ∷ made m (Opened n s.address) ∷ j) =
      opens-stand (pool_options o) pools j z s m _ number options fresh (ap (at_address pools) at ∙ absent) in
      let here : PoolsStand (pool_options o) (pools ++ s ∷ []) created_at =
      subst (λ b. PoolsStand (pool_options o) (pools ++ s ∷ []) (made m (Pool n (created (pool_options o) a)) ∷ made m (Opened n b) ∷ j)) at one in
      let event : Fact = Sdam (ServerOpening (record { address = a; topology_id = o.topology_id })) in
      let last : PoolsStand (pool_options o) (pools ++ s ∷ []) (made m event ∷ created_at) =
      same-stand (pool_options o) (pools ++ s ∷ []) created_at (made m event ∷ created_at) (calm m event created_at tt) here in
      record {
        added = facts ∙ ap (λ fs. before ++ fs) (sym all);
        stand = subst (λ fs. PoolsStand (pool_options o) (pools ++ s ∷ []) (with_facts m fs j)) (sym all) last;
        fair = subst (AllFirstCome m j) (sym all) (tt, (tt, (tt, tt)));
        fresh = subst (AllFreshGrants (pool_options o) m j) (sym all) (tt, (tt, (tt, tt)));
      }
