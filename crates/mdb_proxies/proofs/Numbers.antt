-- Asks have numbers of their own.
use Rattle.std.proofs.Common.{◌≡◌, ℕ, ◌+◌, ◌<◌, Bool, true, false, not, ◌==◌, List, [], ◌∷◌, ◌++◌, length, get_or, take, drop, refl, sym, ap, ◌∙◌, add-one, drop-cons, suc}
use Rattle.std.proofs.lemmas.List.{take-append-drop}
use Rattle.std.proofs.lemmas.Bool.{not-true}
use Rattle.mdb_base.specs.declared.address.ServerAddress.{ServerAddress}
use Rattle.mdb_log.specs.declared.log.Entry.{Entry}
use Rattle.mdb_log.specs.declared.step.Act.TheVariants.{Request}
use Rattle.mdb_proxies.specs.declared.asked.Asked.{Asked}
use Rattle.mdb_proxies.specs.declared.asked.Standing.{Standing}
use Rattle.mdb_proxies.specs.Charge.{requests, is_held, counts}
use Rattle.mdb_proxies.specs.Tables.{standing_if, standings, is_fresh, AreSingle}
use Rattle.mdb_proxies.proofs.Bools.{left, right, both, swapped}
use Rattle.mdb_proxies.proofs.Within.{NoneRequested, is_free, SingleStandings}

-- a request of a number that none has is the request of none
pub free-none : (e : Entry) (r : ℕ) (a : ServerAddress) (os : List Standing) → e.step.act ≡ Request r a → is_free r os ≡ true → NoneRequested e os
free-none e r a [] i h = tt
free-none e r a (o ∷ os) i h = (ap (requests o.request) i ∙ not-true (r == o.request) (left (not (r == o.request)) (is_free r os) h), free-none e r a os i (right (not (r == o.request)) (is_free r os) h))

free-at : (r : ℕ) (front back : List Standing) (o : Standing) → is_free r (front ++ o ∷ back) ≡ true → not (r == o.request) ≡ true
free-at r [] back o h = left (not (r == o.request)) (is_free r back) h
free-at r (x ∷ xs) back o h = free-at r xs back o (right (not (r == x.request)) (is_free r (xs ++ o ∷ back)) h)

-- the other asks have other numbers
pub split-free : (front back : List Standing) (o : Standing) → SingleStandings (front ++ o ∷ back) → (is_free o.request front ≡ true) × (is_free o.request back ≡ true)
split-free [] back o s = (refl, s.0)
split-free (x ∷ xs) back o s =
    let ih = split-free xs back o s.1 in
    (both (not (o.request == x.request)) (is_free o.request xs) (ap not (swapped o.request x.request) ∙ free-at x.request xs back o s.0) ih.0, ih.1)

if-free : (h c : Bool) (r : ℕ) (x : Asked) (os : List Standing) → not (r == x.request) ≡ true → is_free r os ≡ true → is_free r (standing_if h c x os) ≡ true
if-free true c r x os i j = both (not (r == x.request)) (is_free r os) i j
if-free false true r x os i j = both (not (r == x.request)) (is_free r os) i j
if-free false false r x os i j = j

pub free-standings : (r : ℕ) (log : List Entry) (xs : List Asked) → is_fresh r xs ≡ true → is_free r (standings log xs) ≡ true
free-standings r log [] h = refl
free-standings r log (x ∷ xs) h = if-free (is_held log x) (counts log x) r x (standings log xs) (left (not (r == x.request)) (is_fresh r xs) h) (free-standings r log xs (right (not (r == x.request)) (is_fresh r xs) h))

if-single : (h c : Bool) (x : Asked) (os : List Standing) → is_free x.request os ≡ true → SingleStandings os → SingleStandings (standing_if h c x os)
if-single true c x os i j = (i, j)
if-single false true x os i j = (i, j)
if-single false false x os i j = j

pub single-standings : (log : List Entry) (xs : List Asked) → AreSingle xs → SingleStandings (standings log xs)
single-standings log [] s = tt
single-standings log (x ∷ xs) s = if-single (is_held log x) (counts log x) x (standings log xs) (free-standings x.request log xs s.0) (single-standings log xs s.1)

pub dropped : (os : List Standing) (i : ℕ) (o : Standing) → i < length os → o ≡ get_or os i o → drop i os ≡ o ∷ drop (i + 1) os
dropped os i o h is = drop-cons os i o h ∙ ap (λ (x : Standing). x ∷ drop (suc i) os) (sym is) ∙ ap (λ (k : ℕ). o ∷ drop k os) (sym (add-one i))

-- a list around the element at a place
pub around : (os : List Standing) (i : ℕ) (o : Standing) → i < length os → o ≡ get_or os i o → os ≡ take i os ++ o ∷ drop (i + 1) os
around os i o h is = sym (take-append-drop i os) ∙ ap (λ l. take i os ++ l) (dropped os i o h is)
