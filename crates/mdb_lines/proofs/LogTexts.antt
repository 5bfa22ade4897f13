-- The text of a log, entry by entry.
use Rattle.std.proofs.Common.{◌≡◌, ℕ, ◌+◌, ◌<◌, List, [], ◌∷◌, ◌++◌, take, get_or, length, All, sym, ap, ◌∙◌, append_assoc, subst}
use Rattle.std.proofs.lemmas.List.{append-nil, take_more}
use Rattle.std.proofs.lemmas.List.Elements.{All-get_or}
use Rattle.mdb_log.specs.declared.log.Entry.{Entry}
use Rattle.mdb_lines.specs.Spelling.{HasSpelling}
use Rattle.mdb_lines.specs.LogText.{text_of_entry, text_of}

text_push : (log : List Entry) (e : Entry) → text_of (log ++ e ∷ []) ≡ text_of log ++ text_of_entry e
text_push [] e = append-nil (text_of_entry e)
text_push (f ∷ log) e = ap (λ (xs : List ℕ). text_of_entry f ++ xs) (text_push log e) ∙ sym (append_assoc (text_of_entry f) (text_of log) (text_of_entry e))

pub text_more : (log : List Entry) (i : ℕ) (e : Entry) (text longer : List ℕ) → i < length log → e ≡ get_or log i e → text ≡ text_of (take i log) → longer ≡ text ++ text_of_entry e → longer ≡ text_of (take (i + 1) log)
text_more log i e text longer within is before after =
    let taken : take (i + 1) log ≡ take i log ++ e ∷ [] = take_more log i e within ∙ ap (λ (x : Entry). take i log ++ x ∷ []) (sym is) in
    after ∙ (ap (λ (xs : List ℕ). xs ++ text_of_entry e) before ∙ (sym (text_push (take i log) e) ∙ ap text_of (sym taken)))

pub spelled_at : (log : List Entry) (i : ℕ) (e : Entry) → i < length log → e ≡ get_or log i e → All (λ (x : Entry). HasSpelling x.step) log → HasSpelling e.step
spelled_at log i e within is all = subst (λ (x : Entry). HasSpelling x.step) (sym is) (All-get_or (λ (x : Entry). HasSpelling x.step) log i e within all)
