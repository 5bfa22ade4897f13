-- Reading words: what the calls of std give, and that what is spelled is read again.
use Rattle.std.proofs.Common.{◌≡◌, ℕ, suc, ◌<◌, ◌^◌, true, false, eqb, List, [], ◌∷◌, ◌++◌, Some, None, refl, ap, ◌∙◌, arith, decimal, ℤ, pos, negsuc, int_le, FitsSigned, Result, Ok, Err}
use Rattle.std.specs.Str.Parse.{AllDigits, ParsesUnsigned, ParsesSigned}
use Rattle.std.specs.Fmt.{signed_decimal}
use Rattle.std.specs.Int.{Width, w32, w64, cast_signed, cast_unsigned}
use Rattle.std.proofs.lemmas.Int.{to_z-of_z}
use Rattle.std.specs.Int.Signed.{mag}
use Rattle.std.proofs.lemmas.Str.Parse.{digit_from_value}
use Rattle.std.proofs.lemmas.Fmt.{decimal_is_IsNumeral, parse-decimal, parse-signed_decimal}
use Rattle.std.proofs.lemmas.Bool.{ne_eqb, and_from}
use Rattle.mdb_base.specs.AddressReading.{until, beyond, after}
use Rattle.mdb_base.proofs.Words.{after_here}
use Rattle.mdb_base.proofs.AddressAgain.{IsRest, rest_nil, rest_cons, word_cut}
use Rattle.mdb_parts.specs.Reading.{lacks, Follows}

-- words

pub follows_rest : (rest : List ℕ) → Follows rest → IsRest 32 rest
follows_rest [] h = rest_nil 32
follows_rest (b ∷ bs) h = rw h (rest_cons 32 bs)

pub follows : (bs : List ℕ) → Follows (32 ∷ bs)
follows bs = refl

-- a word behind a name
pub field_is : (name text word rest inner front back : List ℕ) → Some inner ≡ after name text → front ≡ until 32 inner → back ≡ beyond 32 inner
    → lacks 32 word ≡ true → Follows rest → text ≡ name ++ (word ++ rest) → (front ≡ word) × (back ≡ rest)
field_is name text word rest inner front back found f b l follows e =
    let here : Some inner ≡ Some (word ++ rest) = found ∙ ap (after name) e ∙ after_here name (word ++ rest) in
    let same : inner ≡ word ++ rest = cc in
    let p = word_cut 32 word rest l (follows_rest rest follows) in
    (f ∙ rw same p.0, b ∙ rw same p.1)

pub field_there : (name text more : List ℕ) → None ≡ after name text → text ≡ name ++ more → ⊥
field_there name text more none e = let here : after name text ≡ Some more = rw e (after_here name more) in cc

ok_same : {A E : Type 0} {x y : A} → ◌≡◌ {A = Result A E} (Ok x) (Ok y) → x ≡ y
ok_same h = cc

not_ok : {A E : Type 0} {x : E} {y : A} → Err x ≡ Ok y → ⊥
not_ok h = cc

-- numbers

digits_lack : (c : ℕ) → c < 48 → (ds : List ℕ) → AllDigits 10 ds → lacks c ds ≡ true
digits_lack c low [] h = refl
digits_lack c low (d ∷ ds) h =
    let range = digit_from_value d h.0 in
    let other : eqb d c ≡ false = ne_eqb d c (λ e. omega (arith, range.0)) in
    and_from _ _ (rw other refl) (digits_lack c low ds h.1)

pub decimal_lacks : (c n : ℕ) → c < 48 → n < 2 ^ 64 → lacks c (decimal n) ≡ true
decimal_lacks c n low lt = digits_lack c low (decimal n) (decimal_is_IsNumeral n lt).0.1

-- what `parse` says of a result, whatever its errors are
pub number_given : (k n m : ℕ) (word : List ℕ) → n < 2 ^ k → n < 2 ^ 64 → word ≡ decimal n → ParsesUnsigned {E = ℕ} k 10 word (Ok m) → m ≡ n
number_given k n m word fits wide e h = ok_same (parse-decimal {E = ℕ} k n word (Ok m) fits wide e h)

pub number_refused : (k n : ℕ) (word : List ℕ) → n < 2 ^ k → n < 2 ^ 64 → word ≡ decimal n → ParsesUnsigned {E = ℕ} k 10 word (Err 0) → ⊥
number_refused k n word fits wide e h = not_ok (parse-decimal {E = ℕ} k n word (Err 0) fits wide e h)

-- signed numbers

pub signed_lacks : (c : ℕ) (z : ℤ) → c < 45 → FitsSigned w64 z → lacks c (signed_decimal z) ≡ true
signed_lacks c (pos n) low fits = decimal_lacks c n (omega arith) (omega (arith, fits))
signed_lacks c (negsuc n) low fits =
    let other : eqb 45 c ≡ false = ne_eqb 45 c (λ e. omega arith) in
    rw other (decimal_lacks c (suc n) (omega arith) (omega (arith, fits)))

pub short_32 : (z : ℤ) → FitsSigned w32 z → mag z < 2 ^ 63
short_32 (pos n) fits = omega (arith, fits)
short_32 (negsuc n) fits = omega (arith, fits)

pub short_64 : (z : ℤ) → FitsSigned w64 z → int_le (pos 0) z ≡ true → mag z < 2 ^ 63
short_64 (pos n) fits above = omega (arith, fits)
short_64 (negsuc n) fits above = absurd (cc)

pub signed_given : (w : Width) (z x : ℤ) (word : List ℕ) → FitsSigned w z → mag z < 2 ^ 63 → word ≡ signed_decimal z → ParsesSigned {E = ℕ} w 10 word (Ok x) → cast_signed w (cast_unsigned w x) ≡ z
signed_given w z x word fits short e h = let same = ok_same (parse-signed_decimal {E = ℕ} w z word (Ok x) fits short e h) in rw same (to_z-of_z w z fits)

pub signed_refused : (w : Width) (z : ℤ) (word : List ℕ) → FitsSigned w z → mag z < 2 ^ 63 → word ≡ signed_decimal z → ParsesSigned {E = ℕ} w 10 word (Err 0) → ⊥
signed_refused w z word fits short e h = not_ok (parse-signed_decimal {E = ℕ} w z word (Err 0) fits short e h)
