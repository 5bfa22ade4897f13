-- The least session timeout, one server at a time.
use Rattle.std.proofs.Common.{◌≡◌, ℕ, ◌<◌, ◌+◌, Bool, true, false, List, [], ◌∷◌, ◌++◌, length, get_or, take, filter, Option, Some, refl, sym, ap, ◌∙◌, inl, inr}
use Rattle.std.specs.List.{fold}
use Rattle.std.proofs.lemmas.Bool.{cases_Bool}
use Rattle.std.proofs.lemmas.List.{take_more}
use Rattle.mdb_describe.specs.declared.description.ServerDescription.{ServerDescription}
use Rattle.mdb_describe.specs.Fields.{is_data_bearing, session_timeout}
use Rattle.mdb_describe.specs.Topology.{lesser, least_timeout, session_timeout as least_session_timeout}
use Rattle.mdb_describe.specs.SoFar.{next_least, least_of, least_so_far, with_one, or_none}

abbrev pub holds : ServerDescription → Bool
holds s = is_data_bearing s.server_type

fold_last : (least : Option ℕ) (xs : List ServerDescription) (s : ServerDescription) → fold (λ least t. lesser least (session_timeout t)) least (xs ++ s ∷ []) ≡ lesser (fold (λ least t. lesser least (session_timeout t)) least xs) (session_timeout s)
fold_last least [] s = refl
fold_last least (x ∷ xs) s = fold_last (lesser least (session_timeout x)) xs s

least_last : (xs : List ServerDescription) (s : ServerDescription) → least_of (xs ++ s ∷ []) ≡ Some (next_least (least_of xs) (session_timeout s))
least_last [] s = refl
least_last (x ∷ xs) s = ap Some (fold_last (session_timeout x) xs s)

filter_last : (xs : List ServerDescription) (s : ServerDescription) → filter holds (xs ++ s ∷ []) ≡ filter holds xs ++ filter holds (s ∷ [])
filter_last [] s = refl
filter_last (x ∷ xs) s = elim (cases_Bool (holds x)) [
  | inl passes ↦ rw passes (ap (λ (ys : List ServerDescription). x ∷ ys) (filter_last xs s))
  | inr fails ↦ rw fails (filter_last xs s)
]

append_none : (xs : List ServerDescription) → xs ++ [] ≡ xs
append_none [] = refl
append_none (x ∷ xs) = ap (λ (ys : List ServerDescription). x ∷ ys) (append_none xs)

one_more : (xs : List ServerDescription) (i : ℕ) (s : ServerDescription) → i < length xs → s ≡ get_or xs i s → is_data_bearing s.server_type ≡ true → least_so_far (take (i + 1) xs) ≡ Some (next_least (least_so_far (take i xs)) (session_timeout s))
one_more xs i s within is passes =
    ap least_so_far (take_more xs i s within ∙ ap (λ (x : ServerDescription). take i xs ++ x ∷ []) (sym is))
    ∙ ap least_of (filter_last (take i xs) s ∙ rw passes refl)
    ∙ least_last (filter holds (take i xs)) s

one_other : (xs : List ServerDescription) (i : ℕ) (s : ServerDescription) → i < length xs → s ≡ get_or xs i s → is_data_bearing s.server_type ≡ false → least_so_far (take (i + 1) xs) ≡ least_so_far (take i xs)
one_other xs i s within is fails =
    ap least_so_far (take_more xs i s within ∙ ap (λ (x : ServerDescription). take i xs ++ x ∷ []) (sym is))
    ∙ ap least_of (filter_last (take i xs) s ∙ rw fails (append_none (filter holds (take i xs))))

-- one more server
pub one_longer : (xs : List ServerDescription) (i : ℕ) (s : ServerDescription) → i < length xs → s ≡ get_or xs i s → least_so_far (take (i + 1) xs) ≡ with_one (least_so_far (take i xs)) s
one_longer xs i s within is = elim (cases_Bool (is_data_bearing s.server_type)) [
  | inl passes ↦ rw passes (one_more xs i s within is passes)
  | inr fails ↦ rw fails (one_other xs i s within is fails)
]

pub least_on : (xs : List ServerDescription) (i : ℕ) (s : ServerDescription) (least now : Option (Option ℕ)) → i < length xs → s ≡ get_or xs i s → least ≡ least_so_far (take i xs) → now ≡ with_one least s → now ≡ least_so_far (take (i + 1) xs)
least_on xs i s least now within is so_far step = step ∙ ap (λ (l : Option (Option ℕ)). with_one l s) so_far ∙ sym (one_longer xs i s within is)

flat : (xs : List ServerDescription) → or_none (least_of xs) ≡ least_timeout xs
flat [] = refl
flat (s ∷ xs) = refl

pub whole : (xs : List ServerDescription) → or_none (least_so_far xs) ≡ least_session_timeout xs
whole xs = flat (filter holds xs)
