use Rattle.std.proofs.Common.{◌≡◌, ℕ, Some, refl, inl, inr, arith}
use Rattle.mdb_excluded.proofs.logs.never_reuses.Goals as goal

same : (a b : ℕ) → Some a ≡ Some b → a ≡ b
same a b e = cc

-- at the third fact of the fifth entry connection 1 is available
pub returns : goal.returns
returns c = ((refl, refl), refl, λ later w. elim (w.1.1.1.1.0.1.1.0 refl) [ inl e ↦ omega (arith, same 1 2 e) | inr e ↦ cc ])
