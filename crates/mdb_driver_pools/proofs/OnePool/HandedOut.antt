-- A pool that a driver hands out is one of the driver's history.
use Rattle.std.proofs.Common.{ℕ, ◌≡◌, ◌<◌, ◌&&◌, true, false, not, is_some, nat_lt, List, length, map, Option, Some, None, sym, ◌∙◌, ap, arith}
use Rattle.std.specs.Prelude.{option_map, slice_get, IfSome}
use Rattle.std.proofs.lemmas.Bool.Decides.{nat_tests}
use Rattle.std.proofs.lemmas.List.{length-map}
use Rattle.std.proofs.lemmas.Option.{slice_get-map}
use Rattle.mdb_base.specs.declared.options.Options.{Options}
use Rattle.mdb_log.specs.History.{Item, of_pool, has_asked}
use Rattle.mdb_log.specs.Homes.{Home, homes}
use Rattle.mdb_log.specs.Opening.{pool_options}
use Rattle.mdb_log.specs.Requests.{is_open, is_claimed}
use Rattle.mdb_pool.specs.Core.{PoolCore}
use Rattle.mdb_pool.specs.Now.{asked_now, is_spent, settled_now}
use Rattle.mdb_pool.specs.Standing.{Fits, StandsIn}
use Rattle.mdb_pool.proofs.Told.OfQueries.{asked-is, asked-knows}
use Rattle.mdb_driver_pools.specs.Standing.{home, PoolsFit}
use Rattle.mdb_driver_pools.specs.Living.{living_at}
use Rattle.mdb_driver_pools.proofs.InMemory.LivingPools.{lives-within, living-some, living-there}
use Rattle.mdb_driver_pools.proofs.OnePool.FoundAt.{fits-at, number-at}
use Rattle.mdb_driver_pools.proofs.OnePool.RefusedByItsRows.{open-at}

-- a pool that is handed out was opened, and something lives in it
pub opened-number : (pools : List PoolCore) (p : ℕ) → is_some (living_at pools p) ≡ true → nat_lt p (length (map home pools)) ≡ true
opened-number pools p e =
    let within : p < length pools = lives-within pools p (sym (living-some (slice_get pools p)) ∙ e) in
    let many : length (map home pools) ≡ length pools = length-map pools home in
    grind (arith, nat_tests)

pub spent-not : (pools : List PoolCore) (p : ℕ) (r : Option PoolCore) → r ≡ living_at pools p → IfSome r (λ s. is_spent s ≡ false)
spent-not pools p None e = tt
spent-not pools p (Some s) e = (living-there pools p s (sym e)).1

module _ (o : Options) (pools : List PoolCore) (h : List Item) (z : PoolsFit (pool_options o) pools h) (p : ℕ) (s : PoolCore) (e : slice_get pools p ≡ Some s) where
  own : Fits s (of_pool s.pool h)
  own = fits-at (pool_options o) pools h z p s e

  open-is : (r : ℕ) → has_asked (of_pool s.pool h) r ≡ true → is_open h r ≡ not (settled_now s r)
  open-is r a =
      let asked : asked_now s r ≡ true = sym (asked-is s (of_pool s.pool h) own r) ∙ a in
      open-at o pools h z r p s e (asked-knows s r asked) ∙ ap (λ b. b && not (settled_now s r)) asked

  pub stands-in : StandsIn s h
  stands-in = record {
    fits = own;
    opens = open-is;
    claims = λ c. ap (λ n. is_claimed h n c) (number-at (pool_options o) pools h z p s e) ∙ z.claims p s c e;
  }

  pub home-is : slice_get (homes h) p ≡ Some (home s)
  home-is = ap (λ (hs : List Home). slice_get hs p) z.homes_are ∙ (slice_get-map home pools p ∙ ap (option_map home) e)
