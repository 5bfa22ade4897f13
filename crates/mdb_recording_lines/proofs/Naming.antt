-- A new address has the place behind the others.
use Rattle.std.proofs.Common.{ℕ, suc, ◌+◌, ◌≡◌, Bool, true, false, cond, if◌then◌else◌, List, [], ◌∷◌, ◌++◌, length, map, Option, Some, None, is_some, refl, sym, ap, ◌∙◌, arith, string_bytes, Global}
use Rattle.std.specs.BTreeMap.{get_by_text}
use Rattle.std.specs.Str.{bytes_eq}
use Rattle.std.specs.declared.string.String.{String}
use Rattle.std.proofs.lemmas.List.{length-map, map-append}
use Rattle.std.proofs.lemmas.Slice.Eq.{bytes_eq-Decides}
use Rattle.mdb_recording_lines.specs.Known.{Holds, Named, place, place_from, with_named}
use Rattle.mdb_recording_lines.specs.declared.names.Names.{Names}

abbrev or_else : Option ℕ → Option ℕ → Option ℕ
or_else (Some k) other = Some k
or_else None other = other

or_else-none : (o : Option ℕ) → or_else o None ≡ o
or_else-none (Some k) = refl
or_else-none None = refl

-- behind the others the new address is found last
place-append : (n : ℕ) (a b : List ℕ) (xs : List (List ℕ)) → place_from n a (xs ++ b ∷ []) ≡ or_else (place_from n a xs) (if bytes_eq b a then Some (n + length xs) else None)
place-append n a b [] = ap (λ m. if bytes_eq b a then Some m else None) (omega arith)
place-append n a b (x ∷ xs) = go (place-append (n + 1) a b xs) (bytes_eq x a)
  where
    behind : (n + 1) + length xs ≡ n + suc (length xs)
    behind = omega arith

    go : place_from (n + 1) a (xs ++ b ∷ []) ≡ or_else (place_from (n + 1) a xs) (if bytes_eq b a then Some ((n + 1) + length xs) else None) → (t : Bool) → (if t then Some n else place_from (n + 1) a (xs ++ b ∷ [])) ≡ or_else (if t then Some n else place_from (n + 1) a xs) (if bytes_eq b a then Some (n + suc (length xs)) else None)
    go later true = refl
    go later false = later ∙ ap (λ m. or_else (place_from (n + 1) a xs) (if bytes_eq b a then Some m else None)) behind

at-end : (a b : List ℕ) (known : List (List ℕ)) → place a (known ++ b ∷ []) ≡ or_else (place a known) (if bytes_eq b a then Some (length known) else None)
at-end a b known = place-append 0 a b known ∙ ap (λ m. or_else (place a known) (if bytes_eq b a then Some m else None)) (omega arith)

with-new : (a : List ℕ) (known : List (List ℕ)) → place a known ≡ None → with_named a known ≡ known ++ a ∷ []
with-new a known new = ap (λ o. if is_some o then known else known ++ a ∷ []) new

-- what a table finds, in which the place of a new address was put
found-after : (a q : List ℕ) (known : List (List ℕ)) → place a known ≡ None → (t : Bool) → bytes_eq a q ≡ t → cond t (Some (length known)) (place q known) ≡ or_else (place q known) (if t then Some (length known) else None)
found-after a q known new true e = ap (λ o. or_else o (Some (length known))) (sym none)
  where
    none : place q known ≡ None
    none = ap (λ w. place w known) (sym ((bytes_eq-Decides a q).0 e)) ∙ new
found-after a q known new false e = sym (or_else-none (place q known))

same-bytes : (a : List ℕ) → bytes_eq a a ≡ true
same-bytes a = (bytes_eq-Decides a a).1 refl

-- as many as texts stand for them
pub counted : (texts : List (String Global)) (known : List (List ℕ)) → map string_bytes texts ≡ known → length texts ≡ length known
counted texts known e = sym (length-map texts string_bytes) ∙ ap length e

-- one text more
pub texts-append : (old new : List (String Global)) (name : String Global) (a : List ℕ) (known : List (List ℕ)) → map string_bytes old ≡ known → new ≡ old ++ name ∷ [] → string_bytes name ≡ a → map string_bytes new ≡ known ++ a ∷ []
texts-append old new name a known e n own = ap (map string_bytes) n ∙ map-append string_bytes old (name ∷ []) ∙ ap (λ xs. xs ++ string_bytes name ∷ []) e ∙ ap (λ w. known ++ w ∷ []) own

-- a new address, put behind the others with its place
pub named-new : (a : List ℕ) (known : List (List ℕ)) (n : ℕ) (old new : Names) → Holds known old → place a known ≡ None → n ≡ length known → map string_bytes new.list.items ≡ known ++ a ∷ [] → ((q : List ℕ) → get_by_text new.map q ≡ cond (bytes_eq a q) (Some n) (get_by_text old.map q)) → Named a known n new
named-new a known n old new holds fresh own list places = record { number = number; holds = record { list = list ∙ sym (with-new a known fresh); places = found } }
  where
    number : place a (with_named a known) ≡ Some n
    number =
        ap (λ xs. place a xs) (with-new a known fresh) ∙ at-end a a known
        ∙ ap (λ o. or_else o (if bytes_eq a a then Some (length known) else None)) fresh
        ∙ ap (λ t. if t then Some (length known) else None) (same-bytes a) ∙ ap (λ m. Some m) (sym own)

    found : (q : List ℕ) → get_by_text new.map q ≡ place q (with_named a known)
    found q =
        places q ∙ ap (λ o. cond (bytes_eq a q) (Some n) o) (holds.places q) ∙ ap (λ m. cond (bytes_eq a q) (Some m) (place q known)) own
        ∙ found-after a q known fresh (bytes_eq a q) refl
        ∙ sym (at-end q a known) ∙ ap (λ xs. place q xs) (sym (with-new a known fresh))
