-- What comes to the end of a log comes to the whole.
use Rattle.std.proofs.Common.{◌≡◌, List, [], ◌∷◌, ◌++◌, sym, ◌∙◌, ap, subst, append_assoc}
use Rattle.std.specs.Prelude.{Result, Ok, Err, IfOk, OnErr}
use Rattle.std.proofs.lemmas.List.{append-nil}
use Rattle.mdb_log.specs.declared.log.Entry.{Entry}

module _ {R E : Type 0} (r : Result R E) (Q : R → Entry → Type 0) (front old new : List Entry) (entry : IfOk r (λ x. (e : Entry) × Q x e × (new ≡ old ++ e ∷ []))) where
  -- what holds of the whole with what came holds of the whole
  pub came : (P : List Entry → Type 0) → OnErr r (new ≡ old) → ((more : List Entry) → new ≡ old ++ more → P ((front ++ old) ++ more)) → P (front ++ new)
  came P same f = on r entry same
    where
      with : (more : List Entry) → new ≡ old ++ more → P (front ++ new)
      with more is = subst P (append_assoc front old more ∙ ap (λ es. front ++ es) (sym is)) (f more is)

      on : (r : Result R E) → IfOk r (λ x. (e : Entry) × Q x e × (new ≡ old ++ e ∷ [])) → OnErr r (new ≡ old) → P (front ++ new)
      on (Ok x) h s = with (h.0 ∷ []) h.2
      on (Err y) h s = with [] (s ∙ sym (append-nil old))

  -- the same of what an answer tells
  pub told : (P : R → List Entry → Type 0) → IfOk r (λ x. (more : List Entry) → new ≡ old ++ more → P x ((front ++ old) ++ more)) → IfOk r (λ x. P x (front ++ new))
  told P f = on r entry f
    where
      on : (r : Result R E) → IfOk r (λ x. (e : Entry) × Q x e × (new ≡ old ++ e ∷ [])) → IfOk r (λ x. (more : List Entry) → new ≡ old ++ more → P x ((front ++ old) ++ more)) → IfOk r (λ x. P x (front ++ new))
      on (Ok x) h g = subst (P x) (append_assoc front old (h.0 ∷ []) ∙ ap (λ es. front ++ es) (sym h.2)) (g (h.0 ∷ []) h.2)
      on (Err y) h g = tt

-- what an answer tells of all it tells of one
pub when-ok : {R E : Type 0} (r : Result R E) (P Q : R → Type 0) → IfOk r P → ((x : R) → P x → Q x) → IfOk r Q
when-ok (Ok x) P Q h f = f x h
when-ok (Err y) P Q h f = tt
