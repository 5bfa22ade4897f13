-- Which texts are printable, and how a text of lines is cut again.
use Rattle.std.proofs.Common.{◌≡◌, ℕ, Bool, ◌+◌, ◌<◌, ◌≤◌, ◌^◌, ◌&&◌, true, false, eqb, leb, List, [], ◌∷◌, ◌++◌, map, refl, ap, ◌∙◌, arith, append_assoc, decimal, codes}
use Rattle.std.specs.List.{flat_map}
use Rattle.std.specs.Int.{IsInRange}
use Rattle.std.specs.Str.Parse.{AllDigits}
use Rattle.std.proofs.lemmas.Str.Parse.{digit_from_value}
use Rattle.std.proofs.lemmas.Fmt.{decimal_is_IsNumeral}
use Rattle.std.proofs.lemmas.Bool.Decides.{nat_tests}
use Rattle.std.proofs.lemmas.Bool.{ne_eqb, leb-true, and_parts, and_from}
use Rattle.mdb_log.specs.declared.step.Step.{Step}
use Rattle.mdb_lines.specs.Spelling.{spelling}
use Rattle.mdb_lines.specs.Grammar.{is_printable}
use Rattle.mdb_lines.specs.Script.{lines_of, line_of, AreAllowed}

-- bytes that may stand in a line
abbrev pub shows : ℕ → Bool
shows b = leb 32 b && leb b 126

pub join : (xs ys : List ℕ) → is_printable xs ≡ true → is_printable ys ≡ true → is_printable (xs ++ ys) ≡ true
join [] ys l m = m
join (x ∷ xs) ys l m = let p = and_parts (shows x) (is_printable xs) l in and_from (shows x) (is_printable (xs ++ ys)) p.0 (join xs ys p.1 m)

digits_show : (ds : List ℕ) → AllDigits 10 ds → is_printable ds ≡ true
digits_show [] h = refl
digits_show (d ∷ ds) h = and_from (shows d) (is_printable ds) (digit_shows d (digit_from_value d h.0)) (digits_show ds h.1)
  where
    digit_shows : (d : ℕ) → IsInRange 48 57 d → shows d ≡ true
    digit_shows d range = grind (arith, nat_tests)

pub number_shows : (n : ℕ) → n < 2 ^ 64 → is_printable (decimal n) ≡ true
number_shows n lt = digits_show (decimal n) (decimal_is_IsNumeral n lt).0.1

-- the first line of a text ends at its newline
pub first_line : (xs rest : List ℕ) → is_printable xs ≡ true → lines_of (xs ++ (10 ∷ rest)) ≡ (xs ++ 10 ∷ []) ∷ lines_of rest
unfolding lines_of
first_line [] rest h = refl
first_line (b ∷ xs) rest h =
    let p = and_parts (shows b) (is_printable xs) h in
    let le : 32 ≤ b = leb-true 32 b (and_parts (leb 32 b) (leb b 126) p.0).0 in
    let other : eqb b 10 ≡ false = ne_eqb b 10 (λ e. omega arith) in
    let more = first_line xs rest p.1 in
    rw (other, more) refl

-- the lines of the text of steps are theirs
pub lines_again : (n : ℕ) (ss : List Step) → AreAllowed n ss → lines_of (flat_map line_of ss) ≡ map line_of ss
unfolding lines_of
lines_again n [] h = refl
lines_again n (s ∷ ss) h =
    let cut = first_line (spelling s) (flat_map line_of ss) h.0.printable in
    let more = lines_again (n + 1) ss h.1 in
    ap lines_of (append_assoc (spelling s) (codes "\n") (flat_map line_of ss)) ∙ cut ∙ ap (λ (l : List (List ℕ)). line_of s ∷ l) more
