-- Lists that are built an element at a time.
use Rattle.std.proofs.Common.{◌≡◌, ℕ, ◌<◌, ◌+◌, Bool, true, false, List, [], ◌∷◌, ◌++◌, length, get_or, take, map, filter, if◌then◌else◌, Option, Some, None, append_assoc, refl, sym, ap, ◌∙◌}
use Rattle.std.proofs.lemmas.List.{take_more}
use Rattle.mdb_base.specs.declared.address.ServerAddress.{ServerAddress}
use Rattle.mdb_describe.specs.declared.description.ServerDescription.{ServerDescription}
use Rattle.mdb_describe.specs.Descriptions.{unknown}
use Rattle.mdb_describe.specs.Listed.{parsed, with_address, addresses}
use Rattle.mdb_describe.specs.Servers.{add, add_all}
use Rattle.mdb_describe.specs.Joining.{join, join_all}

-- the first elements with one more
one_longer : {T : Type 0} (xs : List T) (i : ℕ) (x : T) → i < length xs → x ≡ get_or xs i x → take (i + 1) xs ≡ take i xs ++ (x ∷ [])
one_longer {T} xs i x within is = take_more xs i x within ∙ ap (λ (y : T). take i xs ++ (y ∷ [])) (sym is)

-- Addresses of texts.

with_more : (o : Option ServerAddress) (xs ys zs : List ServerAddress) → xs ≡ ys ++ zs → with_address o xs ≡ with_address o ys ++ zs
with_more None xs ys zs e = e
with_more (Some a) xs ys zs e = ap (λ (ws : List ServerAddress). a ∷ ws) e

addresses_of_both : (xs ys : List (List ℕ)) → addresses (xs ++ ys) ≡ addresses xs ++ addresses ys
addresses_of_both [] ys = refl
addresses_of_both (x ∷ xs) ys = with_more (parsed x) (addresses (xs ++ ys)) (addresses xs) (addresses ys) (addresses_of_both xs ys)

pub addresses_of_three : (xs ys zs : List (List ℕ)) → addresses (xs ++ (ys ++ zs)) ≡ (addresses xs ++ addresses ys) ++ addresses zs
addresses_of_three xs ys zs =
    addresses_of_both xs (ys ++ zs)
    ∙ ap (λ (ws : List ServerAddress). addresses xs ++ ws) (addresses_of_both ys zs)
    ∙ sym (append_assoc (addresses xs) (addresses ys) (addresses zs))

-- one more text
pub one_more_text : (before : List ServerAddress) (xs : List (List ℕ)) (i : ℕ) (x : List ℕ) → i < length xs → x ≡ get_or xs i x → before ++ addresses (take (i + 1) xs) ≡ (before ++ addresses (take i xs)) ++ with_address (parsed x) []
one_more_text before xs i x within is =
    ap (λ (texts : List (List ℕ)). before ++ addresses texts) (one_longer xs i x within is)
    ∙ ap (λ (found : List ServerAddress). before ++ found) (addresses_of_both (take i xs) (x ∷ []))
    ∙ sym (append_assoc before (addresses (take i xs)) (with_address (parsed x) []))

append_none : (xs : List ServerAddress) → xs ++ [] ≡ xs
append_none [] = refl
append_none (x ∷ xs) = ap (λ (ys : List ServerAddress). x ∷ ys) (append_none xs)

-- Servers that join.

added_last : (hosts : List ServerAddress) (a : ServerAddress) (xs : List ServerDescription) → add_all (hosts ++ (a ∷ [])) xs ≡ add a (add_all hosts xs)
added_last [] a xs = refl
added_last (b ∷ hosts) a xs = added_last hosts a (add b xs)

pub one_more_added : (hosts : List ServerAddress) (i : ℕ) (a : ServerAddress) (xs : List ServerDescription) → i < length hosts → a ≡ get_or hosts i a → add_all (take (i + 1) hosts) xs ≡ add a (add_all (take i hosts) xs)
one_more_added hosts i a xs within is = ap (λ (some : List ServerAddress). add_all some xs) (one_longer hosts i a within is) ∙ added_last (take i hosts) a xs

pub joined_last : (ds : List ServerDescription) (d : ServerDescription) (xs : List ServerDescription) → join_all (ds ++ (d ∷ [])) xs ≡ join d (join_all ds xs)
joined_last [] d xs = refl
joined_last (e ∷ ds) d xs = joined_last ds d (join e xs)

-- The addresses of servers that pass a test.

abbrev pub Test : Type 0
Test = ServerDescription → Bool

abbrev pub places : Test → List ServerDescription → List ServerAddress
places p xs = map (λ s. s.address) (filter p xs)

place_front : (b : Bool) (x : ServerDescription) (ys zs : List ServerDescription) (ws : List ServerAddress) → map (λ (t : ServerDescription). t.address) ys ≡ map (λ (t : ServerDescription). t.address) zs ++ ws → map (λ (t : ServerDescription). t.address) (if b then x ∷ ys else ys) ≡ map (λ (t : ServerDescription). t.address) (if b then x ∷ zs else zs) ++ ws
place_front true x ys zs ws h = ap (λ (front : List ServerAddress). x.address ∷ front) h
place_front false x ys zs ws h = h

places_last : (p : Test) (xs : List ServerDescription) (s : ServerDescription) → places p (xs ++ (s ∷ [])) ≡ places p xs ++ places p (s ∷ [])
places_last p [] s = refl
places_last p (x ∷ xs) s = place_front (p x) x (filter p (xs ++ (s ∷ []))) (filter p xs) (places p (s ∷ [])) (places_last p xs s)

place_step : (b : Bool) (s : ServerDescription) (ys : List ServerAddress) → ys ++ map (λ (t : ServerDescription). t.address) (if b then s ∷ [] else []) ≡ (if b then ys ++ (s.address ∷ []) else ys)
place_step true s ys = refl
place_step false s ys = append_none ys

pub one_more_place : (p : Test) (xs : List ServerDescription) (i : ℕ) (s : ServerDescription) → i < length xs → s ≡ get_or xs i s → places p (take (i + 1) xs) ≡ (if p s then places p (take i xs) ++ (s.address ∷ []) else places p (take i xs))
one_more_place p xs i s within is = ap (places p) (one_longer xs i s within is) ∙ places_last p (take i xs) s ∙ place_step (p s) s (places p (take i xs))

pub placed_on : (p : Test) (xs : List ServerDescription) (i : ℕ) (s : ServerDescription) (adds : Bool) (found now : List ServerAddress) → i < length xs → s ≡ get_or xs i s → adds ≡ p s → found ≡ places p (take i xs) → now ≡ (if adds then found ++ (s.address ∷ []) else found) → now ≡ places p (take (i + 1) xs)
placed_on p xs i s adds found now within is test so_far step =
    step
    ∙ ap (λ (b : Bool). if b then found ++ (s.address ∷ []) else found) test
    ∙ ap (λ (ys : List ServerAddress). if p s then ys ++ (s.address ∷ []) else ys) so_far
    ∙ sym (one_more_place p xs i s within is)

pub texts_on : (before : List ServerAddress) (xs : List (List ℕ)) (i : ℕ) (x text : List ℕ) (o : Option ServerAddress) (found now : List ServerAddress) → i < length xs → x ≡ get_or xs i x → text ≡ x → o ≡ parsed text → found ≡ before ++ addresses (take i xs) → now ≡ found ++ with_address o [] → now ≡ before ++ addresses (take (i + 1) xs)
texts_on before xs i x text o found now within is text_is o_is so_far step =
    step
    ∙ ap (λ (p : Option ServerAddress). found ++ with_address p []) (o_is ∙ ap parsed text_is)
    ∙ ap (λ (ys : List ServerAddress). ys ++ with_address (parsed x) []) so_far
    ∙ sym (one_more_text before xs i x within is)

pub seeds_on : (hosts : List ServerAddress) (i : ℕ) (a : ServerAddress) (d : ServerDescription) (xs servers now : List ServerDescription) → i < length hosts → a ≡ get_or hosts i a → d ≡ unknown a → servers ≡ add_all (take i hosts) xs → now ≡ join d servers → now ≡ add_all (take (i + 1) hosts) xs
seeds_on hosts i a d xs servers now within is d_is so_far step =
    step
    ∙ ap (λ (e : ServerDescription). join e servers) d_is
    ∙ ap (λ (ys : List ServerDescription). join (unknown a) ys) so_far
    ∙ sym (one_more_added hosts i a xs within is)
