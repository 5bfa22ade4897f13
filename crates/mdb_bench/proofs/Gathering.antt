-- Seats are gathered from the parts that were played.
use Rattle.std.proofs.Common.{◌≡◌, suc, List, [], ◌∷◌, ◌++◌, All, sym, subst, arith}
use Rattle.std.proofs.lemmas.List.Elements.{All-push}

-- what holds of the seats so far, and of those to come, does so past one more
module _ {P S : Type 0} (seat : P → S) (Q : S → Type 0) where
  pub gathered : (seats pushed : List S) (played rest : List P) (p : P) → pushed ≡ seats ++ seat p ∷ [] → played ≡ p ∷ rest
      → All Q seats × All (λ x. Q (seat x)) played → All Q pushed × All (λ x. Q (seat x)) rest
  gathered seats pushed played rest p is next own =
      let all : All (λ x. Q (seat x)) (p ∷ rest) = subst (All (λ x. Q (seat x))) next own.1 in
      (subst (All Q) (sym is) (All-push Q seats (seat p) own.0 (all 0 p (omega arith))), λ k d low. all (suc k) d (omega arith))
