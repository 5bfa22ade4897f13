use Rattle.std.proofs.Common.{refl}
use Rattle.mdb_excluded.proofs.logs.tells_refused_facts.Goals as goal

-- the third entry is refused
pub returns : goal.returns
returns c = ((refl, refl), refl, λ later w. let e = w.1.1.0.silent refl in cc)
