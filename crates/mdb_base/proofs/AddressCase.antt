-- Texts and their lowered forms: digits and brackets are the same in both.
use Rattle.std.proofs.Common.{◌≡◌, ℕ, ◌<◌, ◌≤◌, ◌+◌, ◌^◌, ltb, List, [], ◌∷◌, ◌++◌, length, take, drop, refl, sym, ap, ◌∙◌, arith, inl, inr, codes}
use Rattle.std.specs.Char.{to_ascii_lowercase}
use Rattle.std.specs.Str.Parse.{AllDigits}
use Rattle.std.proofs.lemmas.Str.Parse.{digit_at}
use Rattle.std.proofs.lemmas.Str.Ascii.{lowercase_is}
use Rattle.std.proofs.lemmas.Fmt.{decimal_is_IsNumeral}
use Rattle.std.proofs.lemmas.List.{take-append-drop, take-map, drop-map}
use Rattle.std.proofs.Math.Seq.{take-append_seam, drop-append_seam}
use Rattle.std.proofs.lemmas.Bool.{ltb-false, cases_Bool}
use Rattle.mdb_base.specs.AddressText.{IsPort, EndsAs}
use Rattle.mdb_base.proofs.AddressText.{low}

-- digits are in no case

digit_small : (d : ℕ) (ds : List ℕ) → AllDigits 10 (d ∷ ds) → d < 65
digit_small d ds h = let range = digit_at (d ∷ ds) 0 h (omega arith) in let most : d ≤ 57 = range.1 in omega arith

low_digits : (ds : List ℕ) → AllDigits 10 ds → low ds ≡ ds
low_digits [] h = refl
low_digits (d ∷ ds) h = rw ((lowercase_is d).1 (digit_small d ds h), low_digits ds h.1) refl

raise : (b c : ℕ) → to_ascii_lowercase b ≡ c → c < 97 → b ≡ c
raise b c e lt = elim (cases_Bool (ltb b 65)) [
  | inl small ↦ rw small at e
  | inr more ↦ elim (cases_Bool (ltb b 91)) [
    | inl letter ↦ (
        let least = ltb-false b 65 more in
        let sum : b + 32 ≡ c = rw (more, letter) at e in
        absurd (omega arith)
        )
    | inr other ↦ rw (more, other) at e
  ]
]

raise_digits : (text ds : List ℕ) → AllDigits 10 ds → low text ≡ ds → text ≡ ds
raise_digits [] [] h e = refl
raise_digits [] (d ∷ ds) h e = absurd (let bad : [] ≡ d ∷ ds = e in cc)
raise_digits (b ∷ bs) [] h e = absurd (let bad : low (b ∷ bs) ≡ [] = e in cc)
raise_digits (b ∷ bs) (d ∷ ds) h e =
    let both : to_ascii_lowercase b ∷ low bs ≡ d ∷ ds = e in
    let small = digit_small d ds h in
    let head : to_ascii_lowercase b ≡ d = cc in
    let tail : low bs ≡ ds = cc in
    let first : b ≡ d = raise b d head (omega arith) in
    let rest : bs ≡ ds = raise_digits bs ds h.1 tail in
    rw (first, rest) refl

pub raise_one : (text : List ℕ) (c : ℕ) → low text ≡ c ∷ [] → c < 97 → text ≡ c ∷ []
raise_one [] c e lt = absurd (let bad : [] ≡ c ∷ [] = e in cc)
raise_one (b ∷ []) c e lt = let both : to_ascii_lowercase b ∷ [] ≡ c ∷ [] = e in let head : to_ascii_lowercase b ≡ c = cc in let first : b ≡ c = raise b c head lt in rw first refl
raise_one (b ∷ d ∷ bs) c e lt = absurd (let bad : to_ascii_lowercase b ∷ (to_ascii_lowercase d ∷ low bs) ≡ c ∷ [] = e in cc)

-- a text whose lowered form is in two parts is in two parts
pub split_low : (text xs ys : List ℕ) → low text ≡ xs ++ ys → (u : List ℕ) × (v : List ℕ) × (text ≡ u ++ v) × (low u ≡ xs) × (low v ≡ ys)
split_low text xs ys e = (
  take (length xs) text,
  drop (length xs) text,
  sym (take-append-drop (length xs) text),
  sym (take-map to_ascii_lowercase (length xs) text) ∙ ap (take (length xs)) e ∙ take-append_seam xs ys,
  sym (drop-map to_ascii_lowercase (length xs) text) ∙ ap (drop (length xs)) e ∙ drop-append_seam xs ys,
)

-- the end

port_digits : (digits : List ℕ) (p : ℕ) → IsPort digits p → AllDigits 10 digits
port_digits digits p h = let most = h.most in let wide : p < 2 ^ 64 = omega arith in rw h.digits (decimal_is_IsNumeral p wide).0.1

pub low_end : (rest : List ℕ) (p : ℕ) → EndsAs rest p → low rest ≡ rest
low_end rest p (inl (ds, e, h)) = rw e (ap (λ (xs : List ℕ). 58 ∷ xs) (low_digits ds (port_digits ds p h)))
low_end rest p (inr (e, d)) = rw e refl

pub raise_end : (text rest : List ℕ) (p : ℕ) → low text ≡ rest → EndsAs rest p → text ≡ rest
raise_end text rest p e (inl (ds, f, h)) =
    let s = split_low text (codes ":") ds (e ∙ f) in
    let first : s.0 ≡ codes ":" = raise_one s.0 58 s.3 (omega arith) in
    s.2 ∙ rw (first, raise_digits s.1 ds (port_digits ds p h) s.4) (sym f)
raise_end [] rest p e (inr (f, d)) = e
raise_end (b ∷ bs) rest p e (inr (f, d)) = absurd (let bad : low (b ∷ bs) ≡ [] = e ∙ f in cc)

pub end_port : (rest : List ℕ) (p : ℕ) → EndsAs rest p → (1 ≤ p) × (p ≤ 65535)
end_port rest p (inl (ds, e, h)) = (h.least, h.most)
end_port rest p (inr (e, d)) = (omega (arith, d), omega (arith, d))
