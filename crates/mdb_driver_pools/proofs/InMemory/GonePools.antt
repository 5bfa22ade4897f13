-- Of a pool that a driver does not hand out nothing lives.
use Rattle.std.proofs.Common.{ℕ, ◌≡◌, ◌&&◌, Bool, true, false, not, List, ◌==◌, Option, Some, None, refl, sym, ◌∙◌, ap, subst, arith}
use Rattle.std.proofs.lemmas.Bool.Decides.{nat_tests}
use Rattle.std.specs.Prelude.{slice_get}
use Rattle.mdb_base.specs.declared.address.ServerAddress.{ServerAddress}
use Rattle.mdb_base.specs.declared.options.Options.{Options}
use Rattle.mdb_log.specs.Connections.{holding, is_live}
use Rattle.mdb_log.specs.History.{Item, of_pool, open_pool, has_asked}
use Rattle.mdb_log.specs.Opening.{pool_options}
use Rattle.mdb_log.specs.Requests.{is_open}
use Rattle.mdb_pool.specs.Core.{PoolCore}
use Rattle.mdb_pool.specs.Now.{asked_now, is_spent, settled_now}
use Rattle.mdb_pool.specs.Standing.{Fits}
use Rattle.mdb_pool.proofs.KeptInLittle.NothingLives.{nobody-holds as nobody-holds-now, none-live as none-live-now, none-open}
use Rattle.mdb_pool.proofs.Told.OfItems.{live-is}
use Rattle.mdb_pool.proofs.Told.OfQueries.{asked-is, holding-is}
use Rattle.mdb_driver_pools.specs.Living.{lives_at, living_at}
use Rattle.mdb_driver_pools.specs.Standing.{at_address, IsGone, PoolsFit, is_here_among}
use Rattle.mdb_driver_pools.proofs.OnePool.FoundAt.{fits-at, number-at, open-lives}
use Rattle.mdb_driver_pools.proofs.OnePool.HandedOut.{stands-in}

-- none is handed out where nothing lives
pub none-lives : (pools : List PoolCore) (p : ℕ) → living_at pools p ≡ None → lives_at pools p ≡ false
none-lives pools p e = on (slice_get pools p) refl
  where
    on : (u : Option PoolCore) → slice_get pools p ≡ u → lives_at pools p ≡ false
    on None f = rw f refl
    on (Some s) f = in-two (is_spent s) refl
      where
        in-two : (b : Bool) → is_spent s ≡ b → lives_at pools p ≡ false
        in-two true g = rw (f, g) refl
        in-two false g = let w : living_at pools p ≡ Some s = rw (f, g) refl in let v : ◌≡◌ {A = Option PoolCore} (Some s) None = sym w ∙ e in cc

-- it is open nowhere
pub gone-here : (pools : List PoolCore) (a : ServerAddress) (p : ℕ) → living_at pools p ≡ None → is_here_among pools a p ≡ false
gone-here pools a p e = on (at_address pools a) refl
  where
    on : (u : Option ℕ) → at_address pools a ≡ u → is_here_among pools a p ≡ false
    on None f = rw f refl
    on (Some q) f = rw f (in-two (q == p) refl)
      where
        in-two : (b : Bool) → (q == p) ≡ b → b ≡ false
        in-two false g = refl
        in-two true g =
            let same : q ≡ p = grind (arith, nat_tests) in
            let l : lives_at pools p ≡ true = open-lives pools a p (f ∙ ap Some same) in
            let m : lives_at pools p ≡ false = none-lives pools p e in
            cc

module _ (o : Options) (pools : List PoolCore) (h : List Item) (z : PoolsFit (pool_options o) pools h) (p : ℕ) (gone : living_at pools p ≡ None) where
  unopened : (a : ServerAddress) → open_pool h a ≡ Some p → ⊥
  unopened a e = let l : lives_at pools p ≡ true = open-lives pools a p (sym (z.open_are a) ∙ e) in let m : lives_at pools p ≡ false = none-lives pools p gone in cc

  module _ (s : PoolCore) (at : slice_get pools p ≡ Some s) (spent : is_spent s ≡ true) where
    own : Fits s (of_pool p h)
    own = subst (λ n. Fits s (of_pool n h)) (number-at (pool_options o) pools h z p s at) (fits-at (pool_options o) pools h z p s at)

    nobody-holds : (r : ℕ) → holding (of_pool p h) r ≡ None
    nobody-holds r = holding-is s (of_pool p h) own r ∙ nobody-holds-now s spent r

    none-live : (c : ℕ) → is_live (of_pool p h) c ≡ false
    none-live c = live-is s (of_pool p h) own c ∙ none-live-now s spent c

    none-asked : (r : ℕ) → has_asked (of_pool p h) r && is_open h r ≡ false
    none-asked r = on (has_asked (of_pool p h) r) refl
      where
        numbered : s.pool ≡ p
        numbered = number-at (pool_options o) pools h z p s at

        off : (a b : Bool) → a && not b ≡ false → a ≡ true → not b ≡ false
        off true b e f = e
        off false b e f = cc

        on : (b : Bool) → has_asked (of_pool p h) r ≡ b → has_asked (of_pool p h) r && is_open h r ≡ false
        on false e = rw e refl
        on true e =
            let asked : asked_now s r ≡ true = sym (asked-is s (of_pool p h) own r) ∙ e in
            let settled : not (settled_now s r) ≡ false = off (asked_now s r) (settled_now s r) (none-open s spent r) asked in
            let closed : is_open h r ≡ not (settled_now s r) = (stands-in o pools h z p s at).opens r (ap (λ n. has_asked (of_pool n h) r) numbered ∙ e) in
            rw (e, closed) settled

  pub is-gone : IsGone h p
  is-gone = on (slice_get pools p) refl
    where
      on : (u : Option PoolCore) → slice_get pools p ≡ u → IsGone h p
      on None e = record { shut = unopened; held = λ r. rw (z.rest p e) refl; live = λ c. rw (z.rest p e) refl; open_none = λ r. rw (z.rest p e) refl }
      on (Some s) e = in-two (is_spent s) refl
        where
          in-two : (b : Bool) → is_spent s ≡ b → IsGone h p
          in-two true f = record { shut = unopened; held = nobody-holds s e f; live = none-live s e f; open_none = none-asked s e f }
          in-two false f = let w : living_at pools p ≡ Some s = rw (e, f) refl in let v : ◌≡◌ {A = Option PoolCore} (Some s) None = sym w ∙ gone in cc
