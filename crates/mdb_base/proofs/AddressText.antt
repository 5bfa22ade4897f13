-- Addresses as they are written, and their parts.
use Rattle.std.proofs.Common.{◌≡◌, ℕ, ◌<◌, ◌≤◌, ◌+◌, ◌^◌, ◌&&◌, true, false, eqb, leb, ltb, List, [], ◌∷◌, ◌++◌, length, map, Some, None, refl, sym, ap, ◌∙◌, arith, inl, inr, codes}
use Rattle.std.specs.List.{list_all}
use Rattle.std.specs.Char.{to_ascii_lowercase}
use Rattle.std.proofs.lemmas.List.{length-map}
use Rattle.std.proofs.lemmas.List.Folds.{list_all-map}
use Rattle.std.proofs.lemmas.Bool.{eqb-true, ne_eqb, ltb-false, leb-true, cases_Bool, and_parts}
use Rattle.std.proofs.lemmas.Option.{same_Some, none-some}
use Rattle.mdb_base.proofs.Words.{after_here}
use Rattle.mdb_base.specs.Spelling.{has_colon}
use Rattle.mdb_base.specs.AddressRule.{is_name_byte, is_v6_byte, is_name_host, is_v6_host}
use Rattle.mdb_base.specs.AddressReading.{until, beyond, after, number_of}
use Rattle.mdb_base.specs.AddressText.{IsPort, EndsAs, EndsBracketed, IsPlain, IsBracketed}
use Rattle.mdb_base.proofs.AddressAgain.{IsRest, rest_nil, rest_cons, word_cut, lacks_by, no_bracket, number_again}

abbrev pub low : List ℕ → List ℕ
low text = map to_ascii_lowercase text

-- hosts

pub name_lowered : (host : List ℕ) → is_name_host (low host) ≡ (leb 1 (length host) && (leb (length host) 255 && list_all (λ b. is_name_byte (to_ascii_lowercase b)) host))
unfolding is_name_host
name_lowered host = rw (length-map host to_ascii_lowercase, list_all-map is_name_byte to_ascii_lowercase host) refl

colon_lowered : (b : ℕ) → eqb (to_ascii_lowercase b) 58 ≡ eqb b 58
colon_lowered b = elim (cases_Bool (ltb b 65)) [
  | inl small ↦ rw small refl
  | inr more ↦ elim (cases_Bool (ltb b 91)) [
    | inl letter ↦ (
        let least = ltb-false b 65 more in
        let high : eqb (b + 32) 58 ≡ false = ne_eqb (b + 32) 58 (λ e. omega arith) in
        let low : eqb b 58 ≡ false = ne_eqb b 58 (λ e. omega arith) in
        rw (more, letter, high, low) refl
        )
    | inr other ↦ rw (more, other) refl
  ]
]

colons_lowered : (host : List ℕ) → has_colon (low host) ≡ has_colon host
colons_lowered [] = refl
colons_lowered (b ∷ bs) = rw (colon_lowered b, colons_lowered bs) refl

pub v6_lowered : (host : List ℕ) → is_v6_host (low host) ≡ (leb 2 (length host) && (leb (length host) 45 && (list_all (λ b. is_v6_byte (to_ascii_lowercase b)) host && has_colon host)))
unfolding is_v6_host
v6_lowered host = rw (length-map host to_ascii_lowercase, list_all-map is_v6_byte to_ascii_lowercase host, colons_lowered host) refl

-- the port

pub digits_read : (digits : List ℕ) (p : ℕ) → IsPort digits p → number_of 16 digits ≡ Some p
digits_read digits p h =
    let most = h.most in
    let fits : p < 2 ^ 16 = omega arith in
    let wide : p < 2 ^ 64 = omega arith in
    rw h.digits (number_again 16 p fits wide)

-- pieces

pub cut_whole : (c : ℕ) (text : List ℕ) → until c text ++ beyond c text ≡ text
unfolding until beyond
cut_whole c [] = refl
cut_whole c (b ∷ bs) = elim (cases_Bool (eqb b c)) [
  | inl same ↦ rw same refl
  | inr other ↦ rw other (ap (λ (xs : List ℕ). b ∷ xs) (cut_whole c bs))
]

pub after_some : (name text rest : List ℕ) → after name text ≡ Some rest → text ≡ name ++ rest
unfolding after
after_some [] text rest e = let f : Some text ≡ Some rest = e in cc
after_some (n ∷ ns) [] rest e = absurd (let f : None ≡ Some rest = e in cc)
after_some (n ∷ ns) (b ∷ bs) rest e = elim (cases_Bool (eqb b n)) [
  | inl same ↦ (let more : bs ≡ ns ++ rest = after_some ns bs rest (rw same at e) in let alike : b ≡ n = eqb-true b n same in rw (alike, more) refl)
  | inr other ↦ absurd (let f : None ≡ Some rest = rw other at e in cc)
]

ends_rest : (text : List ℕ) (p : ℕ) → EndsAs text p → IsRest 58 text
ends_rest text p (inl (digits, e, h)) = rw e (rest_cons 58 digits)
ends_rest text p (inr (e, d)) = rw e (rest_nil 58)

name_bytes : (host : List ℕ) → is_name_host (low host) ≡ true → list_all (λ b. is_name_byte (to_ascii_lowercase b)) host ≡ true
name_bytes host h = (and_parts _ _ (and_parts _ _ (sym (name_lowered host) ∙ h)).1).1

v6_bytes : (host : List ℕ) → is_v6_host (low host) ≡ true → list_all (λ b. is_v6_byte (to_ascii_lowercase b)) host ≡ true
v6_bytes host h = (and_parts _ _ (and_parts _ _ (and_parts _ _ (sym (v6_lowered host) ∙ h)).1).1).0

pub plain_cut : (text host : List ℕ) (p : ℕ) → (h : IsPlain text host p) → (until 58 text ≡ host) × (beyond 58 text ≡ h.rest)
plain_cut text host p h = rw h.parts (word_cut 58 host h.rest (lacks_by (λ b. is_name_byte (to_ascii_lowercase b)) 58 refl host (name_bytes host h.name)) (ends_rest h.rest p h.ends))

bracket_rest : (text : List ℕ) (p : ℕ) → EndsBracketed text p → IsRest 93 text
bracket_rest text p (rest, e, h) = rw e (rest_cons 93 rest)

pub bracket_cut : (text host : List ℕ) (p : ℕ) → (h : IsBracketed text host p) → (until 93 text ≡ host) × (beyond 93 text ≡ h.rest)
bracket_cut text host p h = rw h.parts (word_cut 93 host h.rest (lacks_by (λ b. is_v6_byte (to_ascii_lowercase b)) 93 refl host (v6_bytes host h.name)) (bracket_rest h.rest p h.ends))

-- what a name begins with is no bracket
pub plain_open : (text host : List ℕ) (p : ℕ) → IsPlain text host p → after (codes "[") text ≡ None
plain_open text host p h =
    let size : 1 ≤ length host = leb-true 1 (length host) (and_parts _ _ (sym (name_lowered host) ∙ h.name)).0 in
    rw h.parts (no_bracket host h.rest (lacks_by (λ b. is_name_byte (to_ascii_lowercase b)) 91 refl host (name_bytes host h.name)) (omega arith))

-- what stands behind a name

pub same_after : (name text rest more : List ℕ) → Some rest ≡ after name text → text ≡ name ++ more → more ≡ rest
same_after name text rest more found e = same_Some more rest (sym (after_here name more) ∙ ap (after name) (sym e) ∙ sym found)

pub none_after : (name text more : List ℕ) → None ≡ after name text → text ≡ name ++ more → ⊥
none_after name text more none e = none-some more (none ∙ ap (after name) e ∙ after_here name more)

pub behind_colon : (rest digits : List ℕ) (p : ℕ) → Some digits ≡ after (codes ":") rest → EndsAs rest p → IsPort digits p
unfolding after
behind_colon rest digits p found (inl (ds, e, h)) = rw (← (same_after (codes ":") rest digits ds found e)) h
behind_colon rest digits p found (inr (e, d)) = absurd (none-some digits (sym (found ∙ ap (after (codes ":")) e)))

pub no_colon : (rest : List ℕ) (p : ℕ) → None ≡ after (codes ":") rest → EndsAs rest p → (rest ≡ []) × (p ≡ 27017)
no_colon rest p none (inl (ds, e, h)) = absurd (none_after (codes ":") rest ds none e)
no_colon rest p none (inr ends) = ends
