-- What is told for all that a pool stands for is what the pool says of itself, since it stands for something.
use Rattle.std.proofs.Common.{◌≡◌, List, sym, ◌∙◌}
use Rattle.mdb_log.specs.History.{Item, PoolItem, of_pool}
use Rattle.mdb_pool.specs.Core.{PoolCore}
use Rattle.mdb_pool.specs.Standing.{Fits, StandsFor, StandsForSome, StandsIn}
use Rattle.mdb_pool.proofs.Told.OfItems.{stands-in}

module _ {T : Type 0} (s : PoolCore) (some : StandsForSome s) (told now : T) where
  pub by-items : (query : List PoolItem → T) → ((xs : List PoolItem) → Fits s xs → told ≡ query xs) → ((xs : List PoolItem) → Fits s xs → now ≡ query xs) → told ≡ now
  by-items query tells says = tells (of_pool s.pool some.0) some.1.fits ∙ sym (says (of_pool s.pool some.0) some.1.fits)

  pub by-history : (query : List Item → T) → ((h : List Item) → StandsIn s h → told ≡ query h) → ((h : List Item) → StandsIn s h → now ≡ query h) → told ≡ now
  by-history query tells says = tells some.0 (stands-in s some.0 some.1) ∙ sym (says some.0 (stands-in s some.0 some.1))

  pub by-own-history : (query : List Item → T) → ((h : List Item) → StandsFor s h → told ≡ query h) → ((h : List Item) → StandsFor s h → now ≡ query h) → told ≡ now
  by-own-history query tells says = tells some.0 some.1 ∙ sym (says some.0 some.1)
