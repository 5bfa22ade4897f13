-- What the pools know the same, they fit the same.
use Rattle.std.proofs.Common.{List, sym, ◌∙◌, subst}
use Rattle.mdb_log.specs.declared.options.PoolOptions.{PoolOptions}
use Rattle.mdb_pool.specs.Core.{PoolCore}
use Rattle.mdb_log.specs.History.{Item}
use Rattle.mdb_pool.specs.Standing.{Fits}
use Rattle.mdb_driver_pools.specs.Standing.{PoolFits, PoolsFit}
use Rattle.mdb_driver_rules.proofs.SameHistories.{SameFor}

pub same-fit : (o : PoolOptions) (pools : List PoolCore) (h k : List Item) → SameFor h k → PoolsFit o pools h → PoolsFit o pools k
same-fit o pools h k e z = record {
  each = λ p s at. let d : PoolFits o h p s = z.each p s at in record { number = d.number; options = d.options; fits = subst (Fits s) (sym (e.items p)) d.fits };
  rest = λ p at. e.items p ∙ z.rest p at;
  homes_are = e.homes_are ∙ z.homes_are;
  open_are = λ a. e.open_are a ∙ z.open_are a;
  single = z.single;
  names = λ r. e.names r ∙ z.names r;
  apart = z.apart;
  requested = λ r. e.asks r ∙ z.requested r;
  opens = λ r. rw (e.tells r, e.leaving r) (z.opens r);
  noted = z.noted;
  claims = λ p s c at. e.claims p c ∙ z.claims p s c at;
  unclaimed = λ p c at. e.claims p c ∙ z.unclaimed p c at;
}
