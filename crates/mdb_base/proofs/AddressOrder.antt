-- The order of addresses is a total one.
use Rattle.std.proofs.Common.{◌≡◌, ℕ, Bool, true, false, ◌&&◌, ◌||◌, ◌==◌, nat_lt, refl, sym, ap, ◌∙◌, arith}
use Rattle.std.specs.declared.cmp.Ordering.{Ordering}
use Rattle.std.specs.declared.cmp.Ordering.TheVariants.{Less, Equal, Greater}
use Rattle.std.specs.Cmp.{IsTotalOrder}
use Rattle.std.specs.Cmp.Lexicographic.{slice_cmp}
use Rattle.std.specs.Ordering.{nat_cmp, is_lt, is_eq, ordering_then, ordering_reverse}
use Rattle.std.proofs.lemmas.Cmp.{nat_list_cmp_total, nat_cmp_total, on_total, then_total, alike_right}
use Rattle.std.proofs.lemmas.Map.Text.{is_eq-slice_cmp}
use Rattle.std.proofs.lemmas.Bool.Decides.{nat_tests}
use Rattle.mdb_base.specs.declared.address.ServerAddress.{ServerAddress}
use Rattle.mdb_base.specs.AddressOrder.{is_before}
use Rattle.mdb_base.specs.Equality.{same_address}

-- the order that is derived
abbrev pub rank : ServerAddress → ServerAddress → Ordering
rank a b = ordering_then (slice_cmp nat_cmp a.host b.host) (nat_cmp a.port b.port)

total : IsTotalOrder rank
total = then_total (on_total (λ (a : ServerAddress). a.host) nat_list_cmp_total) (on_total (λ (a : ServerAddress). a.port) nat_cmp_total)

number_lt : (p q : ℕ) → nat_lt p q ≡ is_lt (nat_cmp p q)
number_lt p q = grind (arith, nat_tests)

number_eq : (p q : ℕ) → (p == q) ≡ is_eq (nat_cmp p q)
number_eq p q = grind (arith, nat_tests)

lt_then : (o r : Ordering) → (is_lt o || (is_eq o && is_lt r)) ≡ is_lt (ordering_then o r)
lt_then Less r = refl
lt_then Equal r = refl
lt_then Greater r = refl

eq_then : (o r : Ordering) → (is_eq o && is_eq r) ≡ is_eq (ordering_then o r)
eq_then Less r = refl
eq_then Equal r = refl
eq_then Greater r = refl

pub before_by_rank : (a b : ServerAddress) → is_before a b ≡ is_lt (rank a b)
before_by_rank a b =
    let o = slice_cmp nat_cmp a.host b.host in
    ap (λ (e : Bool). is_lt o || (e && nat_lt a.port b.port)) (sym (is_eq-slice_cmp a.host b.host))
    ∙ ap (λ (e : Bool). is_lt o || (is_eq o && e)) (number_lt a.port b.port)
    ∙ lt_then o (nat_cmp a.port b.port)

same_by_rank : (a b : ServerAddress) → same_address a b ≡ is_eq (rank a b)
same_by_rank a b =
    let o = slice_cmp nat_cmp a.host b.host in
    ap (λ (e : Bool). e && (a.port == b.port)) (sym (is_eq-slice_cmp a.host b.host))
    ∙ ap (λ (e : Bool). is_eq o && e) (number_eq a.port b.port)
    ∙ eq_then o (nat_cmp a.port b.port)

is_less : (o : Ordering) → is_lt o ≡ true → o ≡ Less
is_less Less h = refl
is_less Equal h = absurd (cc)
is_less Greater h = absurd (cc)

is_tied : (o : Ordering) → is_eq o ≡ true → o ≡ Equal
is_tied Less h = absurd (cc)
is_tied Equal h = refl
is_tied Greater h = absurd (cc)

pub before_on : (a b c : ServerAddress) → is_before a b ≡ true → is_before b c ≡ true → is_before a c ≡ true
before_on a b c h g = before_by_rank a c ∙ ap is_lt (total.trans a b c (is_less (rank a b) (sym (before_by_rank a b) ∙ h)) (is_less (rank b c) (sym (before_by_rank b c) ∙ g)))

turned : (o : Ordering) → is_lt o ≡ false → is_eq (ordering_reverse o) ≡ false → is_lt (ordering_reverse o) ≡ true
turned Less h g = absurd (cc)
turned Equal h g = absurd (cc)
turned Greater h g = refl

pub before_back : (a b : ServerAddress) → is_before a b ≡ false → same_address b a ≡ false → is_before b a ≡ true
before_back a b h g =
    before_by_rank b a
    ∙ ap is_lt (total.antisymm b a)
    ∙ turned (rank a b) (sym (before_by_rank a b) ∙ h) (ap is_eq (sym (total.antisymm b a)) ∙ sym (same_by_rank b a) ∙ g)

pub tied_left : (a b c : ServerAddress) → same_address a b ≡ true → is_before a c ≡ is_before b c
tied_left a b c h = before_by_rank a c ∙ ap is_lt (total.congr a b c (is_tied (rank a b) (sym (same_by_rank a b) ∙ h))) ∙ sym (before_by_rank b c)

pub tied_right : (a b c : ServerAddress) → same_address a b ≡ true → is_before c a ≡ is_before c b
tied_right a b c h = before_by_rank c a ∙ ap is_lt (alike_right total a b c (is_tied (rank a b) (sym (same_by_rank a b) ∙ h))) ∙ sym (before_by_rank c b)

below_itself : (o : Ordering) → is_eq o ≡ true → is_lt o ≡ false
below_itself Less h = absurd (cc)
below_itself Equal h = refl
below_itself Greater h = absurd (cc)

-- an address is not below one that is the same
pub same_not_before : (a b : ServerAddress) → same_address a b ≡ true → is_before a b ≡ false
same_not_before a b h = before_by_rank a b ∙ below_itself (rank a b) (sym (same_by_rank a b) ∙ h)

turned_tie : (o : Ordering) → is_eq (ordering_reverse o) ≡ is_eq o
turned_tie Less = refl
turned_tie Equal = refl
turned_tie Greater = refl

pub same_back : (a b : ServerAddress) → same_address a b ≡ same_address b a
same_back a b = same_by_rank a b ∙ ap is_eq (total.antisymm a b) ∙ turned_tie (rank b a) ∙ sym (same_by_rank b a)
