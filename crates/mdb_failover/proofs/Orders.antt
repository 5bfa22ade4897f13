-- Ids of elections are in the order of the elections.
use Rattle.std.proofs.Common.{◌≡◌, ℕ, zero, suc, ◌+◌, ◌*◌, ◌/◌, ◌%◌, ◌^◌, ◌<◌, List, inl, inr, refl, sym, ap, ◌∙◌, arith}
use Rattle.std.specs.Prelude.{nat_lt}
use Rattle.std.specs.Int.{byte_at, bytes_high_first}
use Rattle.std.specs.Ordering.{nat_cmp, is_lt}
use Rattle.std.specs.Cmp.{nat_cmp_is}
use Rattle.std.specs.Cmp.Lexicographic.{slice_cmp}
use Rattle.std.specs.declared.cmp.Ordering.TheVariants.{Less, Equal, Greater}
use Rattle.std.proofs.Math.Nat.{div-one, div-div-eq-div-mul, pow-suc, mul-le-mul_left, div-add-mod}
use Rattle.std.proofs.lemmas.Bool.{cases_order}
use Rattle.mdb_describe.specs.Update.{id_is_below}
use Rattle.mdb_fleets.specs.MemberReplies.{election_id}

less : (x y : ℕ) → x < y → nat_cmp x y ≡ Less
less x y h = sym (nat_cmp_is x y Less h)

equal : (x y : ℕ) → x ≡ y → nat_cmp x y ≡ Equal
equal x y h = sym (nat_cmp_is x y Equal h)

more : (x y : ℕ) → y < x → nat_cmp x y ≡ Greater
more x y h = sym (nat_cmp_is x y Greater h)

byte-of : (k n : ℕ) → byte_at k n ≡ n / 256 ^ k % 256
byte-of zero n = ap (λ m. m % 256) (sym (div-one n))
byte-of (suc k) n = refl

pow-positive : (k : ℕ) → 0 < 256 ^ k
pow-positive zero = omega arith
pow-positive (suc k) = let p = pow-positive k in let e = pow-suc 256 k in omega (arith, e)

-- what is above a power, beyond the next byte
next-part : (k n : ℕ) → n / 256 ^ suc k ≡ n / 256 ^ k / 256
next-part k n = ap (λ b. n / b) (pow-suc 256 k) ∙ sym (div-div-eq-div-mul n (256 ^ k) 256)

below-by-part : (b e f : ℕ) → 0 < b → e / b < f / b → e < f
below-by-part b e f some h =
    let one = mul-le-mul_left {m = suc (e / b)} {n = f / b} b (omega arith) in
    let own = div-add-mod e b in
    let other = div-add-mod f b in
    let step : b * suc (e / b) ≡ b * (e / b) + b = omega arith in
    omega (arith, one, own, other, step)

low-below : (a b : ℕ) → a / 256 ≡ b / 256 → a < b → a % 256 < b % 256
low-below a b h l = omega arith

module _ (k e f : ℕ) (same : e / 256 ^ suc k ≡ f / 256 ^ suc k) where
  parts : e / 256 ^ k / 256 ≡ f / 256 ^ k / 256
  parts = sym (next-part k e) ∙ same ∙ next-part k f

-- numbers with one part above are in the order of the bytes below it
bytes-order : (k e f : ℕ) → e / 256 ^ k ≡ f / 256 ^ k → slice_cmp nat_cmp (bytes_high_first k e) (bytes_high_first k f) ≡ nat_cmp e f
bytes-order zero e f same = sym (equal e f (sym (div-one e) ∙ same ∙ div-one f))
bytes-order (suc k) e f same =
    let x = e / 256 ^ k in
    let y = f / 256 ^ k in
    let up = parts k e f same in
    elim (cases_order x y) [
      | inl s ↦ rw (equal (byte_at k e) (byte_at k f) (byte-of k e ∙ ap (λ n. n % 256) s ∙ sym (byte-of k f))) (bytes-order k e f s)
      | inr o ↦ elim o [
        | inl l ↦ rw (less (byte_at k e) (byte_at k f) (rw (byte-of k e, byte-of k f) (low-below x y up l))) (sym (less e f (below-by-part (256 ^ k) e f (pow-positive k) l)))
        | inr g ↦ rw (more (byte_at k e) (byte_at k f) (rw (byte-of k e, byte-of k f) (low-below y x (sym up) g))) (sym (more e f (below-by-part (256 ^ k) f e (pow-positive k) g)))
      ]
    ]

high-part : (e f : ℕ) → e < 2 ^ 64 → f < 2 ^ 64 → e / 256 ^ 8 ≡ f / 256 ^ 8
high-part e f h l = omega arith

ids-order : (e f : ℕ) → e < 2 ^ 64 → f < 2 ^ 64 → slice_cmp nat_cmp (election_id e).0 (election_id f).0 ≡ nat_cmp e f
ids-order e f h l = bytes-order 8 e f (high-part e f h l)

lt-cmp : (e f : ℕ) → is_lt (nat_cmp e f) ≡ nat_lt e f
lt-cmp e f = elim (cases_order e f) [
  | inl s ↦ rw (equal e f s) (grind arith)
  | inr o ↦ elim o [
    | inl l ↦ rw (less e f l) (grind arith)
    | inr g ↦ rw (more e f g) (grind arith)
  ]
]

-- ids of elections are below one another as the elections are
pub id-below : (e f : ℕ) → e < 2 ^ 64 → f < 2 ^ 64 → id_is_below (election_id e) (election_id f) ≡ nat_lt e f
id-below e f h l = ap is_lt (ids-order e f h l) ∙ lt-cmp e f

-- no two elections have the same id
pub ids-apart : (e f : ℕ) → e < 2 ^ 64 → f < 2 ^ 64 → (election_id e).0 ≡ (election_id f).0 → e ≡ f
ids-apart e f h l same =
    let equals : nat_cmp e f ≡ nat_cmp f f = sym (ids-order e f h l) ∙ ap (λ (xs : List ℕ). slice_cmp nat_cmp xs (election_id f).0) same ∙ ids-order f f l l in
    elim (cases_order e f) [
      | inl s ↦ s
      | inr o ↦ elim o [
        | inl below ↦ let wrong : Less ≡ Equal = sym (less e f below) ∙ equals ∙ equal f f refl in absurd (cc)
        | inr above ↦ let wrong : Greater ≡ Equal = sym (more e f above) ∙ equals ∙ equal f f refl in absurd (cc)
      ]
    ]
