-- What the books say of charges is what the log says of the asks.
use Rattle.std.proofs.Common.{◌≡◌, ◌≢◌, ℕ, ◌+◌, ◌≤◌, ◌<◌, Bool, true, false, not, ◌&&◌, ◌||◌, ◌==◌, nat_lt, List, [], ◌∷◌, Option, Some, None, is_some, option_map, refl, sym, ap, ◌∙◌, subst, arith}
use Rattle.std.specs.List.{list_any}
use Rattle.std.proofs.lemmas.Bool.Decides.{Decides-eqb, Decides-ltb, nat_tests}
use Rattle.std.proofs.lemmas.Bool.{not-true}
use Rattle.mdb_base.specs.Equality.{same_address}
use Rattle.mdb_base.specs.declared.address.ServerAddress.{ServerAddress}
use Rattle.mdb_log.specs.declared.log.Entry.{Entry}
use Rattle.mdb_log.specs.declared.step.Act.{Act}
use Rattle.mdb_log.specs.declared.step.Act.TheVariants as act
use Rattle.mdb_log.specs.Acts.{IsDriverAct}
use Rattle.mdb_proxies.specs.declared.asked.Asked.{Asked}
use Rattle.mdb_proxies.specs.declared.asked.Standing.{Standing}
use Rattle.mdb_proxies.specs.declared.books.Books.{Books}
use Rattle.mdb_proxies.specs.Charge.{requests, is_requested, since, is_at, is_held, counts, charge, held_back, lags, any_lags, is_behind}
use Rattle.mdb_proxies.specs.Shares.{share_of}
use Rattle.mdb_proxies.specs.Passing.{is_passed}
use Rattle.mdb_proxies.specs.View.{KeepsShares}
use Rattle.mdb_proxies.specs.Standings.{charge_in}
use Rattle.mdb_proxies.specs.Tables.{may_go, some_may_go, standing_if, standings, is_fresh, place_of, Sound}
use Rattle.mdb_proxies.proofs.AfterEntry.{charge-is}
use Rattle.mdb_proxies.proofs.Bools.{left, right, first, rest, other}
use Rattle.mdb_proxies.proofs.Within.{same-address}

one-lag : (shares : List ℕ) (os ps : List Standing) (h c : Bool) (x : Asked) (n : ℕ) → charge_in os x.tenant x.address ≡ n
    → list_any (may_go shares os) (standing_if (not h) c x ps) ≡ ((not h && nat_lt n (share_of shares x.tenant)) || list_any (may_go shares os) ps)
one-lag shares os ps false c x n i = ap (λ k. nat_lt k (share_of shares x.tenant) || list_any (may_go shares os) ps) i
one-lag shares os ps true true x n i = refl
one-lag shares os ps true false x n i = refl

lags-are : (shares : List ℕ) (log : List Entry) (xs ys : List Asked) → list_any (may_go shares (standings log xs)) (standings log ys) ≡ any_lags shares xs log ys
lags-are shares log xs [] = refl
lags-are shares log xs (y ∷ ys) =
    one-lag shares (standings log xs) (standings log ys) (is_requested y.request (since log y)) (counts log y) y (charge xs log y.tenant y.address) (charge-is log xs y.tenant y.address)
    ∙ ap (λ b. lags shares xs log y || b) (lags-are shares log xs ys)

-- An ask may go exactly where the proxy is behind.
pub behind-is : (shares : List ℕ) (log : List Entry) (xs : List Asked) → some_may_go shares (standings log xs) ≡ is_behind shares xs log
behind-is shares log xs = lags-are shares log xs xs

pub at-is : (t : ℕ) (a : ServerAddress) (x : Asked) → is_at t a x ≡ true → (x.tenant ≡ t) × (x.address ≡ a)
at-is t a x h = ((Decides-eqb x.tenant t).0 (left (x.tenant == t) (same_address x.address a) h), same-address x.address a (right (x.tenant == t) (same_address x.address a) h))

full-at : (shares : List ℕ) (log : List Entry) (xs ys : List Asked) (t : ℕ) (a : ServerAddress) → held_back ys log t a ≢ [] → any_lags shares xs log ys ≡ false → nat_lt (charge xs log t a) (share_of shares t) ≡ false
full-at shares log xs [] t a h g = absurd (h refl)
full-at shares log xs (y ∷ ys) t a h g = go (is_at t a y && is_held log y) refl (λ k. full-at shares log xs ys t a k (rest (lags shares xs log y) (any_lags shares xs log ys) g))
  where
    go : (b : Bool) → (is_at t a y && is_held log y) ≡ b → (held_back ys log t a ≢ [] → nat_lt (charge xs log t a) (share_of shares t) ≡ false) → nat_lt (charge xs log t a) (share_of shares t) ≡ false
    go true i ih =
        let is : (y.tenant ≡ t) × (y.address ≡ a) = at-is t a y (left (is_at t a y) (is_held log y) i) in
        let own : nat_lt (charge xs log y.tenant y.address) (share_of shares y.tenant) ≡ false = other (is_held log y) (nat_lt (charge xs log y.tenant y.address) (share_of shares y.tenant)) (right (is_at t a y) (is_held log y) i) (first (lags shares xs log y) (any_lags shares xs log ys) g) in
        let there : nat_lt (charge xs log t y.address) (share_of shares t) ≡ false = subst (λ (k : ℕ). nat_lt (charge xs log k y.address) (share_of shares k) ≡ false) is.0 own in
        subst (λ (x : ServerAddress). nat_lt (charge xs log t x) (share_of shares t) ≡ false) is.1 there
    go false i ih = ih (λ e. h (rw i e))

not-less : (m n : ℕ) → m ≤ n → nat_lt m n ≡ false → m ≡ n
not-less m n h i = go (Decides-ltb m n).1
  where
    go : (m < n → nat_lt m n ≡ true) → m ≡ n
    go k = grind (arith, nat_tests)

-- Sound books keep the shares.
pub keeps-shares : (log : List Entry) (shares : List ℕ) (b : Books) → Sound log shares b → KeepsShares (record { shares = shares; asks = b.asks.items; log = log })
keeps-shares log shares b s = record { within = within; full = λ g t a h. not-less (charge b.asks.items log t a) (share_of shares t) (within t a) (full-at shares log b.asks.items b.asks.items t a h g) }
  where
    within : (t : ℕ) (a : ServerAddress) → charge b.asks.items log t a ≤ share_of shares t
    within t a = subst (λ (n : ℕ). n ≤ share_of shares t) (ap (λ os. charge_in os t a) s.keeps.standing ∙ charge-is log b.asks.items t a) (s.within t a)

-- ---- acts

-- what is passed is an act of a driver's callers, and no request
pub passed-driver : (a : Act) → is_passed a ≡ true → IsDriverAct a
passed-driver (act.Open o) h = absurd (let k : false ≡ true = h in cc)
passed-driver (act.Ready p) h = absurd (let k : false ≡ true = h in cc)
passed-driver (act.Clear p s e) h = absurd (let k : false ≡ true = h in cc)
passed-driver (act.Close p) h = absurd (let k : false ≡ true = h in cc)
passed-driver _ h = tt

pub passed-own : (a : Act) → is_passed a ≡ true → (r : ℕ) → requests r a ≡ false
passed-own (act.Request q b) h r = absurd (let k : false ≡ true = h in cc)
passed-own _ h r = refl

-- ---- numbers

pub place-none : (r : ℕ) (xs : List Asked) → is_some (place_of r xs) ≡ not (is_fresh r xs)
place-none r [] = refl
place-none r (x ∷ xs) = go (r == x.request) refl (place-none r xs)
  where
    mapped : (o : Option ℕ) → is_some (option_map (λ n. n + 1) o) ≡ is_some o
    mapped (Some n) = refl
    mapped None = refl

    go : (b : Bool) → (r == x.request) ≡ b → is_some (place_of r xs) ≡ not (is_fresh r xs) → is_some (place_of r (x ∷ xs)) ≡ not (is_fresh r (x ∷ xs))
    go true i ih = rw i refl
    go false i ih = rw i (mapped (place_of r xs) ∙ ih)

pub fresh-by : (r : ℕ) (xs : List Asked) (o : Option ℕ) → o ≡ place_of r xs → is_some o ≡ false → is_fresh r xs ≡ true
fresh-by r xs o e n = back (is_fresh r xs) (sym (place-none r xs) ∙ ap is_some (sym e) ∙ n)
  where
    back : (b : Bool) → not b ≡ false → b ≡ true
    back true h = refl
    back false h = absurd (let k : true ≡ false = h in cc)

pub known-by : (r : ℕ) (xs : List Asked) (o : Option ℕ) (i : ℕ) → o ≡ place_of r xs → o ≡ Some i → is_fresh r xs ≡ false
known-by r xs o i e s = not-true (is_fresh r xs) (sym (place-none r xs) ∙ ap is_some (sym e ∙ s))
