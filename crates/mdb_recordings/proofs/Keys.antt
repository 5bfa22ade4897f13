-- Two keys are the same where their order has them so.
use Rattle.std.proofs.Common.{◌≡◌, ℕ, Bool, true, false, ◌&&◌, ◌==◌, if◌then◌else◌, Some, Option, unwrap_or, refl, sym, ap, ◌∙◌, arith}
use Rattle.std.specs.Prelude.{cond}
use Rattle.std.specs.declared.cmp.Ordering.{Ordering}
use Rattle.std.specs.declared.cmp.Ordering.TheVariants.{Less, Equal, Greater}
use Rattle.std.specs.Ordering.{nat_cmp, is_eq, ordering_then}
use Rattle.std.proofs.lemmas.Bool.Decides.{nat_tests}
use Rattle.mdb_recordings.specs.Tables.{same_key}

pub number_eq : (p q : ℕ) → (p == q) ≡ is_eq (nat_cmp p q)
number_eq p q = grind (arith, nat_tests)

pub eq_then : (o r : Ordering) → (is_eq o && is_eq r) ≡ is_eq (ordering_then o r)
eq_then Less r = refl
eq_then Equal r = refl
eq_then Greater r = refl

pub same_numbers : (a b c x y z : ℕ) → is_eq (ordering_then (ordering_then (nat_cmp a x) (nat_cmp b y)) (nat_cmp c z)) ≡ same_key a b c x y z
same_numbers a b c x y z =
    let two = ordering_then (nat_cmp a x) (nat_cmp b y) in
    sym (ap (λ (e : Bool). (e && (b == y)) && (c == z)) (number_eq a x)
    ∙ ap (λ (e : Bool). (is_eq (nat_cmp a x) && e) && (c == z)) (number_eq b y)
    ∙ ap (λ (e : Bool). e && (c == z)) (eq_then (nat_cmp a x) (nat_cmp b y))
    ∙ ap (λ (e : Bool). is_eq two && e) (number_eq c z)
    ∙ eq_then two (nat_cmp c z))

-- the value that was put, or the one that stood there
set_there : {V : Type 0} (b : Bool) (v : V) (o : Option V) (none : V) → unwrap_or (cond b (Some v) o) none ≡ (if b then v else unwrap_or o none)
set_there true v o none = refl
set_there false v o none = refl

pub put : {V : Type 0} (b c : Bool) (v : V) (o : Option V) (none : V) → b ≡ c → unwrap_or (cond b (Some v) o) none ≡ (if c then v else unwrap_or o none)
put b c v o none same = ap (λ (e : Bool). unwrap_or (cond e (Some v) o) none) same ∙ set_there c v o none
