use Rattle.std.proofs.Common.{◌≡◌, true, false, refl, ap, is_some}
use Rattle.mdb_excluded.proofs.logs.accepts_known.Goals as goal

-- the table refuses the third step
pub returns : goal.returns
returns c = ((refl, refl), refl, λ later w. let e : false ≡ true = ap is_some w.1.1.0.reason in cc)
