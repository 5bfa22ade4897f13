use Rattle.mdb_pool_laws.specs.CloseCauses.{failing, checking_in, coming_back, meeting, sweeping, shutting}
use Rattle.std.proofs.Common.{refl}
use Rattle.mdb_excluded.proofs.alone.pool_closes_clean_return.Goals as goal

-- at the second fact none of the six causes holds
pub returns-clause-excluded : goal.returns-clause-excluded
returns-clause-excluded c = λ why w. elim (w.1.0 refl) [
  | failing e f ↦ cc
  | checking_in e f ↦ cc
  | coming_back b f ↦ let e = b.shut in cc
  | meeting b f ↦ let e = b.waits in cc
  | sweeping b f ↦ let e = b.maintains in cc
  | shutting b f ↦ let e = b.closes in cc
]
