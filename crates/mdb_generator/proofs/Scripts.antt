-- The generated scripts are scripts: their lines are those of their steps, each may stand at its place, and they are short enough.
use Rattle.hex.specs.Hex.{encode_with}
use Rattle.std.specs.Fmt.{digits, signed_decimal}
use Rattle.std.specs.Prelude.{pos, Some, None, slice_index, if◌then◌else◌, min}
use Rattle.mdb_base.specs.Spelling.{object_id}
use Rattle.std.proofs.lemmas.List.{append-nil}
use Rattle.std.proofs.Common.{◌≡◌, ℕ, Bool, zero, suc, ◌+◌, ◌-◌, ◌*◌, ◌/◌, ◌%◌, ◌<◌, ◌≤◌, ◌^◌, true, false, eqb, leb, ltb, List, [], ◌∷◌, ◌++◌, length, map, refl, sym, ap, ◌∙◌, arith, append_assoc, length-append, decimal, codes, subst, inl, inr, IsTrue}
use Rattle.std.specs.List.{flat_map, list_all}
use Rattle.mdb_log.specs.declared.step.Act.TheVariants.{Return}
use Rattle.mdb_log.specs.declared.step.Use.{Use}
use Rattle.mdb_log.specs.declared.step.Use.TheVariants as use_
use Rattle.mdb_base.specs.AddressRule.{is_name_host, is_v6_host}
use Rattle.mdb_parts.specs.Parts.{parts_text}
use Rattle.std.proofs.lemmas.Grind.{flat_map-append}
use Rattle.std.proofs.lemmas.Fmt.{length-decimal-le}
use Rattle.std.proofs.lemmas.Bool.{cases_Bool, leb-true, leb-false, eqb-true, ne_eqb, ltb-true, and_parts}
use Rattle.mdb_log.specs.declared.step.Step.{Step}
use Rattle.mdb_lines.specs.Spelling.{spelling, use_text, established_parts}
use Rattle.mdb_lines.specs.Grammar.{is_step, is_open, is_printable, are_options}
use Rattle.mdb_lines.specs.Types.{IsStepOfTypes}
use Rattle.mdb_lines.specs.Script.{Spells, lines_of, line_of, AreAllowed, max_input}
use Rattle.mdb_generator.specs.Generated.{service, opened, requested, established, returned, replaced, use_in, rest, round, rounds, generated, script}
use Rattle.mdb_generator.proofs.Printing.{join, number_shows, lines_again}

-- a line that may stand anywhere behind the first
pub record IsLater (s : Step) : Type 0 where
  pub types : IsStepOfTypes s
  pub rules : IsTrue (is_step s)
  pub place : is_open s.act ≡ false
  pub printable : IsTrue (is_printable (spelling s))

later_spells : (n : ℕ) (s : Step) → 2 ≤ n → IsLater s → Spells n (spelling s) s
later_spells n s behind h = record { types = h.types; rules = h.rules; place = h.place ∙ sym (ne_eqb n 1 (λ e. omega arith)); printable = h.printable; text = refl }

-- steps each of which may stand anywhere behind the first
abbrev pub AreLater : List Step → Type 0
AreLater [] = Unit {0}
AreLater (s ∷ ss) = IsLater s × AreLater ss

later_join : (xs ys : List Step) → AreLater xs → AreLater ys → AreLater (xs ++ ys)
later_join [] ys h k = k
later_join (x ∷ xs) ys h k = (h.0, later_join xs ys h.1 k)

later_allowed : (n : ℕ) (ss : List Step) → 2 ≤ n → AreLater ss → AreAllowed n ss
later_allowed n [] behind h = tt
later_allowed n (s ∷ ss) behind h = (later_spells n s behind h.0, later_allowed (n + 1) ss (omega arith) h.1)

-- a line with two numbers in it
shows_numbers : (text a b r : List ℕ) (i j : ℕ) → text ≡ a ++ (decimal i ++ (b ++ (decimal j ++ r))) → i < 2 ^ 64 → j < 2 ^ 64 → is_printable a ≡ true → is_printable b ≡ true → is_printable r ≡ true → is_printable text ≡ true
shows_numbers text a b r i j e li lj ha hb hr =
    subst (λ l. is_printable l ≡ true) (sym e) (join a (decimal i ++ (b ++ (decimal j ++ r))) ha (join (decimal i) (b ++ (decimal j ++ r)) (number_shows i li) (join b (decimal j ++ r) hb (join (decimal j) r (number_shows j lj) hr))))

short_numbers : (text a b r : List ℕ) (i j : ℕ) → text ≡ a ++ (decimal i ++ (b ++ (decimal j ++ r))) → i < 10000 → j < 10000 → length text ≤ length a + (8 + (length b + length r))
short_numbers text a b r i j e li lj =
    let di : length (decimal i) ≤ 4 = length-decimal-le 4 i (omega arith) (omega arith) (omega arith) in
    let dj : length (decimal j) ≤ 4 = length-decimal-le 4 j (omega arith) (omega arith) (omega arith) in
    let s1 = length-append a (decimal i ++ (b ++ (decimal j ++ r))) in
    let s2 = length-append (decimal i) (b ++ (decimal j ++ r)) in
    let s3 = length-append b (decimal j ++ r) in
    let s4 = length-append (decimal j) r in
    let s0 : length text ≡ length (a ++ (decimal i ++ (b ++ (decimal j ++ r)))) = ap length e in
    omega (arith, di, dj, s0, s1, s2, s3, s4)

-- a line is one byte longer than its spelling
line_longer : (s : Step) → length (line_of s) ≡ length (spelling s) + 1
line_longer s = length-append (spelling s) (codes "\n")

requested_text : (i : ℕ) → spelling (requested i) ≡ codes "request " ++ (decimal i ++ (codes " " ++ (decimal i ++ codes " a:1")))
unfolding digits
requested_text i = refl

returned_text : (i : ℕ) (used : Use) → spelling (record { moment = i; act = Return (i - 3) used }) ≡ codes "return " ++ (decimal i ++ (codes " " ++ (decimal (i - 3) ++ (codes " " ++ use_text used))))
returned_text i used = refl

zero_text : decimal 0 ≡ codes "0"
unfolding digits
zero_text = refl

wire_text : signed_decimal (pos 21) ≡ codes "21"
unfolding digits
wire_text = refl

id_text : object_id service ≡ codes "0102030405060708090a0b0c"
unfolding encode_with
id_text = refl

parts_are : parts_text (established_parts (record { wire = pos 21; service_id = Some service; server_id = None })) ≡ codes " sid=" ++ (object_id service ++ [])
unfolding parts_text
parts_are = refl

established_text : (i c : ℕ) → spelling (established i c) ≡ codes "established " ++ (decimal i ++ (codes " 0 " ++ (decimal c ++ codes " wire=21 sid=0102030405060708090a0b0c")))
established_text i c = rw (parts_are, id_text, wire_text, zero_text) refl

-- such a line with its newline
numbers_line : (a b r : List ℕ) (i j : ℕ) (s : Step) → spelling s ≡ a ++ (decimal i ++ (b ++ (decimal j ++ r))) → line_of s ≡ a ++ (decimal i ++ (b ++ (decimal j ++ (r ++ codes "\n"))))
numbers_line a b r i j s e =
    let end : List ℕ = codes "\n" in
    ap (λ (l : List ℕ). l ++ end) e
    ∙ (append_assoc a (decimal i ++ (b ++ (decimal j ++ r))) end
    ∙ ap (λ (l : List ℕ). a ++ l) (append_assoc (decimal i) (b ++ (decimal j ++ r)) end
    ∙ ap (λ (l : List ℕ). decimal i ++ l) (append_assoc b (decimal j ++ r) end
    ∙ ap (λ (l : List ℕ). b ++ l) (append_assoc (decimal j) r end))))

pub requested_line : (i : ℕ) → line_of (requested i) ≡ codes "request " ++ (decimal i ++ (codes " " ++ (decimal i ++ codes " a:1\n")))
requested_line i = numbers_line (codes "request ") (codes " ") (codes " a:1") i i (requested i) (requested_text i)

pub returned_line : (i : ℕ) → line_of (returned i) ≡ codes "return " ++ (decimal i ++ (codes " " ++ (decimal (i - 3) ++ ((codes " " ++ use_text (use_in i)) ++ codes "\n"))))
returned_line i = numbers_line (codes "return ") (codes " ") (codes " " ++ use_text (use_in i)) i (i - 3) (returned i) (returned_text i (use_in i))

pub established_line : (i c : ℕ) → line_of (established i c) ≡ codes "established " ++ (decimal i ++ (codes " 0 " ++ (decimal c ++ codes " wire=21 sid=0102030405060708090a0b0c\n")))
established_line i c = numbers_line (codes "established ") (codes " 0 ") (codes " wire=21 sid=0102030405060708090a0b0c") i c (established i c) (established_text i c)

requested_later : (i : ℕ) → i ≤ 2000 → IsLater (requested i)
unfolding is_name_host is_v6_host
requested_later i few = record {
  types = (omega arith, omega arith);
  rules = refl;
  place = refl;
  printable = shows_numbers (spelling (requested i)) (codes "request ") (codes " ") (codes " a:1") i i (requested_text i) (omega arith) (omega arith) refl refl refl;
}

use_shows : (used : Use) → is_printable (codes " " ++ use_text used) ≡ true
use_shows use_.Ok = refl
use_shows use_.Errored = refl
use_shows use_.Dropped = refl
use_shows use_.Streaming = refl

returned_with : (i : ℕ) (used : Use) → i ≤ 2000 → IsLater (record { moment = i; act = Return (i - 3) used })
returned_with i used few = record {
  types = (omega arith, omega arith);
  rules = refl;
  place = refl;
  printable = shows_numbers (spelling (record { moment = i; act = Return (i - 3) used })) (codes "return ") (codes " ") (codes " " ++ use_text used) i (i - 3) (returned_text i used) (omega arith) (omega arith) refl refl (use_shows used);
}

returned_later : (i : ℕ) → i ≤ 2000 → IsLater (returned i)
returned_later i few = returned_with i (use_in i) few

below : (bs : List ℕ) → list_all (λ b. ltb b 256) bs ≡ true → (i : ℕ) → slice_index bs i < 256
below [] h i = omega arith
below (b ∷ bs) h zero = ltb-true b 256 (and_parts (ltb b 256) (list_all (λ c. ltb c 256) bs) h).0
below (b ∷ bs) h (suc i) = below bs (and_parts (ltb b 256) (list_all (λ c. ltb c 256) bs) h).1 i

established_later : (i c : ℕ) → i ≤ 2000 → c ≤ 2000 → IsLater (established i c)
established_later i c few small = record {
  types = (omega arith, (omega arith, omega arith, record { wire = omega arith; service = (refl, below service.0 refl); server = tt }));
  rules = refl;
  place = refl;
  printable = shows_numbers (spelling (established i c)) (codes "established ") (codes " 0 ") (codes " wire=21 sid=0102030405060708090a0b0c") i c (established_text i c) (omega arith) (omega arith) refl refl refl;
}

replaced_later : (i : ℕ) → i ≤ 2000 → AreLater (replaced i)
replaced_later i few = elim (cases_Bool (eqb (i % 10) 0)) [
  | inl tenth ↦ rw tenth (established_later i (3 + i / 10) few (omega arith), tt)
  | inr other ↦ rw other tt
]

rest_later : (i : ℕ) → i ≤ 2000 → AreLater (rest i)
rest_later i few = elim (cases_Bool (leb i 3)) [
  | inl early ↦ rw early (established_later i i few few, tt)
  | inr late ↦ rw late (returned_later i few, replaced_later i few)
]

round_later : (i : ℕ) → i ≤ 2000 → AreLater (round i)
round_later i few = (requested_later i few, rest_later i few)

rounds_later : (n : ℕ) → n ≤ 2000 → AreLater (rounds n)
rounds_later zero few = tt
rounds_later (suc n) few = later_join (rounds n) (round (suc n)) (rounds_later n (omega arith)) (round_later (suc n) few)

opened_spells : Spells 1 (spelling opened) opened
unfolding digits parts_text are_options is_name_host is_v6_host
opened_spells = record {
  types = (omega arith, record { max = omega arith; min = tt; connecting = omega arith; idle = tt; wait = tt; heartbeat = tt; connect = tt; limit_id = tt; limit_generation = tt; limit_pool = tt; limit_monitor = tt });
  rules = refl;
  place = refl;
  printable = refl;
  text = refl;
}

pub generated_allowed : (n : ℕ) → n ≤ 2000 → AreAllowed 1 (generated n)
generated_allowed n few = (opened_spells, later_allowed 2 (rounds n) (omega arith) (rounds_later n few))

pub script_lines : (n : ℕ) → n ≤ 2000 → lines_of (script n) ≡ map line_of (generated n)
script_lines n few = lines_again 1 (generated n) (generated_allowed n few)

-- lengths

requested_short : (i : ℕ) → i ≤ 2000 → length (line_of (requested i)) ≤ 22
requested_short i few =
    let a = short_numbers (spelling (requested i)) (codes "request ") (codes " ") (codes " a:1") i i (requested_text i) (omega arith) (omega arith) in
    let b = line_longer (requested i) in
    omega (arith, a, b)

use_short : (used : Use) → length (use_text used) ≤ 9
use_short use_.Ok = omega arith
use_short use_.Errored = omega arith
use_short use_.Dropped = omega arith
use_short use_.Streaming = omega arith

returned_short : (i : ℕ) → i ≤ 2000 → length (line_of (returned i)) ≤ 27
returned_short i few =
    let a = short_numbers (spelling (returned i)) (codes "return ") (codes " ") (codes " " ++ use_text (use_in i)) i (i - 3) (returned_text i (use_in i)) (omega arith) (omega arith) in
    let b = line_longer (returned i) in
    let u = use_short (use_in i) in
    omega (arith, a, b, u)

established_short : (i c : ℕ) → i ≤ 2000 → c ≤ 2000 → length (line_of (established i c)) ≤ 61
established_short i c few small =
    let a = short_numbers (spelling (established i c)) (codes "established ") (codes " 0 ") (codes " wire=21 sid=0102030405060708090a0b0c") i c (established_text i c) (omega arith) (omega arith) in
    let b = line_longer (established i c) in
    omega (arith, a, b)

one_short : (s : Step) → length (flat_map line_of (s ∷ [])) ≡ length (line_of s)
one_short s = ap length (append-nil (line_of s))

more_short : (s : Step) (ss : List Step) → length (flat_map line_of (s ∷ ss)) ≡ length (line_of s) + length (flat_map line_of ss)
more_short s ss = length-append (line_of s) (flat_map line_of ss)

-- 1 where the test holds
abbrev once : Bool → ℕ
once b = if b then 1 else 0

replaced_short : (i : ℕ) → i ≤ 2000 → length (flat_map line_of (replaced i)) ≤ 61 * once (eqb (i % 10) 0)
replaced_short i few = on (eqb (i % 10) 0) refl
  where
    on : (b : Bool) → eqb (i % 10) 0 ≡ b → length (flat_map line_of (replaced i)) ≤ 61 * once (eqb (i % 10) 0)
    on true e =
        let a = established_short i (3 + i / 10) few (omega arith) in
        let c = one_short (established i (3 + i / 10)) in
        rw e (omega (arith, a, c))
    on false e = rw e (omega arith)

-- a round is short, but for the first three and each tenth
rest_short : (i : ℕ) → i ≤ 2000 → length (flat_map line_of (rest i)) ≤ 27 + (61 * once (leb i 3) + 61 * once (eqb (i % 10) 0))
rest_short i few = on (leb i 3) refl
  where
    on : (b : Bool) → leb i 3 ≡ b → length (flat_map line_of (rest i)) ≤ 27 + (61 * once (leb i 3) + 61 * once (eqb (i % 10) 0))
    on true e = let a = established_short i i few few in let c = one_short (established i i) in rw e (omega (arith, a, c))
    on false e = let a = returned_short i few in let b = replaced_short i few in let c = more_short (returned i) (replaced i) in rw e (omega (arith, a, b, c))

round_short : (i : ℕ) → i ≤ 2000 → length (flat_map line_of (round i)) ≤ 49 + (61 * once (leb i 3) + 61 * once (eqb (i % 10) 0))
round_short i few = let a = requested_short i few in let b = rest_short i few in let c = more_short (requested i) (rest i) in omega (arith, a, b, c)

-- how many of the first numbers are at most 3, and how many tenth
early_more : (n : ℕ) → min n 3 + once (leb (suc n) 3) ≡ min (suc n) 3
early_more n = on (leb (suc n) 3) refl
  where
    on : (b : Bool) → leb (suc n) 3 ≡ b → min n 3 + once (leb (suc n) 3) ≡ min (suc n) 3
    on true e = let le : suc n ≤ 3 = leb-true (suc n) 3 e in rw e (omega arith)
    on false e = let lt : 3 < suc n = leb-false (suc n) 3 e in rw e (omega arith)

tenth_more : (n : ℕ) → n / 10 + once (eqb (suc n % 10) 0) ≤ suc n / 10
tenth_more n = on (eqb (suc n % 10) 0) refl
  where
    on : (b : Bool) → eqb (suc n % 10) 0 ≡ b → n / 10 + once (eqb (suc n % 10) 0) ≤ suc n / 10
    on true e = let z : suc n % 10 ≡ 0 = eqb-true (suc n % 10) 0 e in rw e (omega arith)
    on false e = rw e (omega arith)

rounds_short : (n : ℕ) → n ≤ 2000 → length (flat_map line_of (rounds n)) ≤ 49 * n + (61 * (n / 10) + 61 * min n 3)
rounds_short zero few = omega arith
rounds_short (suc n) few =
    let before = rounds_short n (omega arith) in
    let more = round_short (suc n) few in
    let both : length (flat_map line_of (rounds n ++ round (suc n))) ≡ length (flat_map line_of (rounds n) ++ flat_map line_of (round (suc n))) = ap length (flat_map-append line_of (rounds n) (round (suc n))) in
    let size = length-append (flat_map line_of (rounds n)) (flat_map line_of (round (suc n))) in
    let early = early_more n in
    let tenth = tenth_more n in
    omega (arith, before, more, both, size, early, tenth)

pub opened_text : line_of opened ≡ codes "open seeds=a:1 lb max=3 connecting=2\n"
unfolding digits parts_text
opened_text = refl

pub script_short : (n : ℕ) → n ≤ 2000 → length (script n) ≤ max_input
script_short n few =
    let more = rounds_short n few in
    let size = length-append (line_of opened) (flat_map line_of (rounds n)) in
    let first : length (line_of opened) ≡ 37 = ap length opened_text in
    omega (arith, more, size, first)
