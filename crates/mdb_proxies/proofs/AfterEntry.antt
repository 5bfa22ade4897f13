-- The standing asks after one more entry are those that the entry left.
use Rattle.std.proofs.Common.{◌≡◌, ℕ, ◌+◌, Bool, true, false, not, ◌&&◌, ◌||◌, if◌then◌else◌, List, [], ◌∷◌, ◌++◌, length, refl, sym, ap, ◌∙◌, arith}
use Rattle.mdb_base.specs.declared.address.ServerAddress.{ServerAddress}
use Rattle.mdb_log.specs.declared.log.Entry.{Entry}
use Rattle.mdb_log.specs.Driver.{is_refusal}
use Rattle.mdb_proxies.specs.declared.asked.Asked.{Asked}
use Rattle.mdb_proxies.specs.declared.asked.Standing.{Standing}
use Rattle.mdb_proxies.specs.declared.books.Fate.TheVariants.{Stays, Charged, Gone}
use Rattle.mdb_proxies.specs.Charge.{requests, ends, settles, is_requested, is_charged, since, is_at, charge}
use Rattle.mdb_proxies.specs.Standings.{charge_in}
use Rattle.mdb_proxies.specs.Tables.{fated, after_entry, standing_of, standing_if, standings, AreMade}
use Rattle.mdb_proxies.proofs.Logged.{since-more, requested-more, charged-more, unrequested, request-no-return}

-- what an entry makes of an ask that was requested (h) and charged (c), by what it is: the request (q), refused (f), an end (n), settling (s)
abbrev turn_by : Bool → Bool → Bool → Bool → Bool → Bool → Asked → List Standing → List Standing
turn_by false c q f n s x os = fated (if q then (if f || n then Gone else Charged) else Stays) (standing_of x true) os
turn_by true true q f n s x os = fated (if s then Gone else Stays) (standing_of x false) os
turn_by true false q f n s x os = os

after_entry-one : (e : Entry) (h c : Bool) (x : Asked) (os : List Standing)
    → after_entry e (standing_if (not h) c x os) ≡ turn_by h c (requests x.request e.step.act) (is_refusal e.reply) (ends x.request e.facts) (settles x.request e) x (after_entry e os)
after_entry-one e false c x os = refl
after_entry-one e true true x os = refl
after_entry-one e true false x os = refl

one-turn : (h c q f n s : Bool) (x : Asked) (os : List Standing) → (q ≡ true → s ≡ (not f && n))
    → standing_if (not (h || q)) (if h then c && not s else q && (not f && not s)) x os ≡ turn_by h c q f n s x os
one-turn true true q f n true x os k = refl
one-turn true true q f n false x os k = refl
one-turn true false q f n s x os k = refl
one-turn false c false f n s x os k = refl
one-turn false c true true n s x os k = refl
one-turn false c true false true s x os k = rw (k refl) refl
one-turn false c true false false s x os k = rw (k refl) refl

settles-request : (r : ℕ) (e : Entry) → requests r e.step.act ≡ true → settles r e ≡ (not (is_refusal e.reply) && ends r e.facts)
settles-request r e h = ap (λ b. not (is_refusal e.reply) && (b || ends r e.facts)) (request-no-return r e.step.act h)

pub after_entry-is : (log : List Entry) (e : Entry) (xs : List Asked) → AreMade (length log) xs → standings (log ++ e ∷ []) xs ≡ after_entry e (standings log xs)
after_entry-is log e [] m = refl
after_entry-is log e (x ∷ xs) m =
    let r : ℕ = x.request in
    let es : List Entry = since log x in
    let s : since (log ++ e ∷ []) x ≡ es ++ e ∷ [] = since-more log e x m.0 in
    ap (λ l. standing_if (not (is_requested r l)) (is_charged r l) x (standings (log ++ e ∷ []) xs)) s
    ∙ ap (λ b. standing_if (not b) (is_charged r (es ++ e ∷ [])) x (standings (log ++ e ∷ []) xs)) (requested-more r es e)
    ∙ ap (λ b. standing_if (not (is_requested r es || requests r e.step.act)) b x (standings (log ++ e ∷ []) xs)) (charged-more r es e)
    ∙ ap (λ os. standing_if (not (is_requested r es || requests r e.step.act)) (if is_requested r es then is_charged r es && not (settles r e) else requests r e.step.act && (not (is_refusal e.reply) && not (settles r e))) x os) (after_entry-is log e xs m.1)
    ∙ one-turn (is_requested r es) (is_charged r es) (requests r e.step.act) (is_refusal e.reply) (ends r e.facts) (settles r e) x (after_entry e (standings log xs)) (settles-request r e)
    ∙ sym (after_entry-one e (is_requested r es) (is_charged r es) x (standings log xs))

one-charge : (h c b : Bool) (x : Asked) (t : ℕ) (a : ServerAddress) (os : List Standing) (n : ℕ) → (h ≡ false → c ≡ false) → is_at t a x ≡ b → charge_in os t a ≡ n
    → charge_in (standing_if (not h) c x os) t a ≡ (if b && c then n + 1 else n)
one-charge false c true x t a os n k i j = rw (i, k refl) j
one-charge false c false x t a os n k i j = rw i j
one-charge true true true x t a os n k i j = rw i (omega (arith, j))
one-charge true true false x t a os n k i j = rw i j
one-charge true false true x t a os n k i j = j
one-charge true false false x t a os n k i j = j

-- The charge is that of the standing asks.
pub charge-is : (log : List Entry) (xs : List Asked) (t : ℕ) (a : ServerAddress) → charge_in (standings log xs) t a ≡ charge xs log t a
charge-is log [] t a = refl
charge-is log (x ∷ xs) t a =
    one-charge (is_requested x.request (since log x)) (is_charged x.request (since log x)) (is_at t a x) x t a (standings log xs) (charge xs log t a)
    (unrequested x.request (since log x)) refl (charge-is log xs t a)
