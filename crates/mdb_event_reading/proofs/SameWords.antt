-- Words of events that are spelled alike are the same.
use Rattle.std.proofs.Common.{◌≡◌, ℕ, ◌<◌, ◌^◌, Bool, true, false, eqb, List, ◌++◌, get_or, Option, Some, None, IfSome, refl, sym, ap, ◌∙◌, arith, decimal, if◌then◌else◌}
use Rattle.std.proofs.lemmas.Fmt.{decimal_injective}
use Rattle.mdb_base.specs.AddressRule.{is_address}
use Rattle.mdb_base.specs.Spelling.{address}
use Rattle.mdb_base.specs.declared.address.ServerAddress.{ServerAddress}
use Rattle.mdb_base.specs.declared.object_id.ObjectId.{ObjectId}
use Rattle.mdb_events.specs.Words.{number_or_dash, service_or_dash, truth, closed_word, failed_word}
use Rattle.mdb_events.specs.declared.reasons.ConnectionClosedReason.{ConnectionClosedReason}
use Rattle.mdb_events.specs.declared.reasons.ConnectionClosedReason.TheVariants as closed
use Rattle.mdb_events.specs.declared.reasons.ConnectionCheckoutFailedReason.{ConnectionCheckoutFailedReason}
use Rattle.mdb_events.specs.declared.reasons.ConnectionCheckoutFailedReason.TheVariants as failed
use Rattle.mdb_parts.specs.Reading.{Follows}
use Rattle.mdb_parts.specs.Types.{IsIdOfTypes}
use Rattle.mdb_parts.proofs.AddressLemmas.{address_lacks}
use Rattle.mdb_parts.proofs.Same.{word_same, number_same, address_same, id_same}
use Rattle.mdb_event_reading.proofs.DashLemmas.{number_no_dash, id_no_dash, narrow_lacks}

-- an address and what follows it
pub address_and_rest : (a b : ServerAddress) (rest more : List ℕ) → is_address a ≡ true → is_address b ≡ true → Follows rest → Follows more → address a ++ rest ≡ address b ++ more → (a ≡ b) × (rest ≡ more)
address_and_rest a b rest more h k r m e =
    let p = word_same (address a) (address b) rest more (address_lacks a h) (address_lacks b k) r m e in
    (address_same a b h k p.0, p.1)

-- a number of 32 bits and what follows it
pub narrow_and_rest : (n k : ℕ) (rest more : List ℕ) → n < 2 ^ 32 → k < 2 ^ 32 → Follows rest → Follows more → decimal n ++ rest ≡ decimal k ++ more → (n ≡ k) × (rest ≡ more)
narrow_and_rest n k rest more ln lk r m e = number_same n k rest more (omega arith) (omega arith) r m e

pub narrow_same : (n k : ℕ) → n < 2 ^ 32 → k < 2 ^ 32 → decimal n ≡ decimal k → n ≡ k
narrow_same n k ln lk e = decimal_injective n k (omega arith) (omega arith) e

-- values that are a dash where there is none

pub wides_same : (x y : Option ℕ) → IfSome x (λ n. n < 2 ^ 64) → IfSome y (λ n. n < 2 ^ 64) → number_or_dash x ≡ number_or_dash y → x ≡ y
wides_same None None hx hy e = refl
wides_same None (Some k) hx hy e = absurd (number_no_dash k hy (sym e))
wides_same (Some n) None hx hy e = absurd (number_no_dash n hx e)
wides_same (Some n) (Some k) hx hy e = ap Some (decimal_injective n k hx hy e)

widened : (o : Option ℕ) → IfSome o (λ n. n < 2 ^ 32) → IfSome o (λ n. n < 2 ^ 64)
widened None h = tt
widened (Some n) h = omega arith

pub narrows_and_rest : (x y : Option ℕ) (rest more : List ℕ) → IfSome x (λ n. n < 2 ^ 32) → IfSome y (λ n. n < 2 ^ 32) → Follows rest → Follows more
    → number_or_dash x ++ rest ≡ number_or_dash y ++ more → (x ≡ y) × (rest ≡ more)
narrows_and_rest x y rest more hx hy r m e =
    let p = word_same (number_or_dash x) (number_or_dash y) rest more (narrow_lacks x hx) (narrow_lacks y hy) r m e in
    (wides_same x y (widened x hx) (widened y hy) p.0, p.1)

pub services_same : (x y : Option ObjectId) → IfSome x IsIdOfTypes → IfSome y IsIdOfTypes → service_or_dash x ≡ service_or_dash y → x ≡ y
services_same None None hx hy e = refl
services_same None (Some y) hx hy e = absurd (id_no_dash y (sym e))
services_same (Some x) None hx hy e = absurd (id_no_dash x e)
services_same (Some x) (Some y) hx hy e = ap Some (id_same x y hx hy e)

-- truths
pub truths_same : (b c : Bool) → truth b ≡ truth c → b ≡ c
truths_same true true e = refl
truths_same true false e = absurd (cc)
truths_same false true e = absurd (cc)
truths_same false false e = refl

-- a reason, by the first byte of its word

closed_from : List ℕ → ConnectionClosedReason
closed_from word =
    let first = get_or word 0 0 in
    if eqb first 83 then closed.Stale
    else if eqb first 73 then closed.Idle
    else if eqb first 69 then closed.Error
    else if eqb first 68 then closed.Dropped
    else closed.PoolClosed

closed_back : (r : ConnectionClosedReason) → closed_from (closed_word r) ≡ r
unfolding closed_from
closed_back closed.Stale = refl
closed_back closed.Idle = refl
closed_back closed.Error = refl
closed_back closed.Dropped = refl
closed_back closed.PoolClosed = refl

pub closed_same : (r s : ConnectionClosedReason) → closed_word r ≡ closed_word s → r ≡ s
closed_same r s e = sym (closed_back r) ∙ ap closed_from e ∙ closed_back s

pub failed_same : (r s : ConnectionCheckoutFailedReason) → failed_word r ≡ failed_word s → r ≡ s
failed_same failed.Timeout failed.Timeout e = refl
failed_same failed.Timeout failed.ConnectionError e = absurd (cc)
failed_same failed.ConnectionError failed.Timeout e = absurd (cc)
failed_same failed.ConnectionError failed.ConnectionError e = refl
