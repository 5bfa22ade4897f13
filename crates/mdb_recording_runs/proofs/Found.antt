-- The rules are tried one after the other.
use Rattle.std.proofs.Common.{◌≡◌, ℕ, ◌+◌, Bool, if◌then◌else◌, List, [], ◌∷◌, ◌++◌, length, sym, ap, ◌∙◌, arith, append_assoc}
use Rattle.std.proofs.lemmas.List.{append-nil}
use Rattle.mdb_recording_runs.specs.Keeping.{TellsRules}
use Rattle.mdb_recording_runs.specs.Report.{told_of, how_many}

-- what was told, and what these rules will add, is what all of them tell
pub record RulesLeft {R : Type 0} (broken : R → Bool) (line : R → List ℕ) (all rest : List R) (old now : List ℕ) (found : ℕ) : Type 0 where
  pub text : now ++ told_of broken line rest ≡ old ++ told_of broken line all
  pub count : found + how_many broken rest ≡ how_many broken all

module _ {R : Type 0} (broken : R → Bool) (line : R → List ℕ) where
  pub rules-start : (all rest : List R) (old : List ℕ) → rest ≡ all → RulesLeft broken line all rest old old 0
  rules-start all rest old e = record {
    text = ap (λ rules. old ++ told_of broken line rules) e;
    count = zero ∙ ap (λ rules. how_many broken rules) e;
  }
    where
      zero : 0 + how_many broken rest ≡ how_many broken rest
      zero = omega arith

  abbrev one_text : R → List ℕ
  one_text rule = if broken rule then line rule else []

  abbrev one_count : R → ℕ
  one_count rule = if broken rule then 1 else 0

  one-more : (found one next x m : ℕ) → one ≡ x + 0 → next ≡ found + one → next + m ≡ found + (x + m)
  one-more found one next x m e s = omega arith

  pub rules-next : (all rest more : List R) (rule : R) (old now new : List ℕ) (found one next : ℕ) → rest ≡ rule ∷ more → TellsRules broken line (rule ∷ []) now new one → next ≡ found + one → RulesLeft broken line all rest old now found → RulesLeft broken line all more old new next
  rules-next all rest more rule old now new found one next e tells sum left = record {
    text =
        ap (λ t. t ++ told_of broken line more) (tells.text ∙ ap (λ t. now ++ t) (append-nil (one_text rule)))
        ∙ append_assoc now (one_text rule) (told_of broken line more)
        ∙ ap (λ rules. now ++ told_of broken line rules) (sym e) ∙ left.text;
    count = one-more found one next (one_count rule) (how_many broken more) tells.count sum ∙ ap (λ rules. found + how_many broken rules) (sym e) ∙ left.count;
  }

  pub rules-end : (all rest : List R) (old now : List ℕ) (found : ℕ) → length rest ≡ 0 → RulesLeft broken line all rest old now found → TellsRules broken line all old now found
  rules-end all [] old now found none left = record { text = sym (append-nil now) ∙ left.text; count = nothing-more found ∙ left.count }
    where
      nothing-more : (k : ℕ) → k ≡ k + 0
      nothing-more k = omega arith
  rules-end all (rule ∷ rest) old now found none left = absurd (omega (arith, none))
