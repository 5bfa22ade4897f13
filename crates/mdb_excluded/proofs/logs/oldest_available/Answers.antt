use Rattle.std.proofs.Common.{◌≡◌, ℕ, Some, refl, inl, inr, arith}
use Rattle.mdb_excluded.proofs.logs.oldest_available.Goals as goal

same : (a b : ℕ) → Some a ≡ Some b → a ≡ b
same a b e = cc

-- at the second fact of the eighth entry connection 2 is the last of the available ones
pub returns : goal.returns
returns c = ((refl, refl), refl, λ later w. elim (w.1.1.1.1.1.1.1.0.1.0 refl) [ inl e ↦ omega (arith, same 2 1 e) | inr e ↦ cc ])
