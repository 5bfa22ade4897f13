-- The ask that is handed on next, by the standing asks.
use Rattle.std.proofs.Common.{◌≡◌, ℕ, ◌+◌, ◌≤◌, ◌<◌, Bool, true, false, not, ◌&&◌, if◌then◌else◌, nat_lt, List, [], ◌∷◌, ◌++◌, length, get_or, take, Option, Some, None, IfSome, option_map, refl, sym, ap, ◌∙◌, subst, arith, zero, suc}
use Rattle.std.specs.List.{list_any, HoldsAt}
use Rattle.std.proofs.lemmas.Bool.Decides.{Decides-ltb, nat_tests}
use Rattle.std.proofs.lemmas.List.{take_more}
use Rattle.std.proofs.Math.Seq.{take-length}
use Rattle.mdb_log.specs.declared.log.Entry.{Entry}
use Rattle.mdb_log.specs.declared.step.Step.{Step}
use Rattle.mdb_log.specs.declared.step.Act.TheVariants.{Request}
use Rattle.mdb_proxies.specs.declared.asked.Asked.{Asked}
use Rattle.mdb_proxies.specs.declared.asked.Standing.{Standing}
use Rattle.mdb_proxies.specs.Shares.{share_of}
use Rattle.mdb_proxies.specs.Charge.{charge, is_requested, counts, since, sooner, first_of}
use Rattle.mdb_proxies.specs.Entries.{request_at, next_request}
use Rattle.mdb_proxies.specs.Handing.{IsRequestAt}
use Rattle.mdb_proxies.specs.Recording.{SameAsks}
use Rattle.mdb_proxies.specs.Standings.{charge_in}
use Rattle.mdb_proxies.specs.Tables.{may_go, some_may_go, sooner_in, next_in, IsBest, standing_of, standing_if, standings}
use Rattle.mdb_proxies.proofs.AfterEntry.{charge-is}
use Rattle.mdb_proxies.proofs.Telling.{standings-same}

-- ---- one more standing ask

abbrev later : Standing → Option Standing → Standing
later o None = o
later o (Some p) = if nat_lt o.tenant p.tenant then o else p

lt-through : (a b c : ℕ) → nat_lt a b ≡ true → nat_lt b c ≡ true → nat_lt a c ≡ true
lt-through a b c h k = grind (arith, nat_tests)

ge-through : (a b c : ℕ) → nat_lt a b ≡ false → nat_lt b c ≡ false → nat_lt a c ≡ false
ge-through a b c h k = grind (arith, nat_tests)

not-both : (b : Bool) → b ≡ true → b ≡ false → ⊥
not-both true h k = let z : true ≡ false = k in cc
not-both false h k = let z : false ≡ true = h in cc

chosen : (o p q : Standing) → sooner_in p (Some (if nat_lt o.tenant q.tenant then o else q)) ≡ (if nat_lt o.tenant (if nat_lt q.tenant p.tenant then q else p).tenant then o else (if nat_lt q.tenant p.tenant then q else p))
chosen o p q = go (nat_lt o.tenant q.tenant) (nat_lt q.tenant p.tenant) (nat_lt o.tenant p.tenant) refl refl refl
  where
    go : (a b c : Bool) → nat_lt o.tenant q.tenant ≡ a → nat_lt q.tenant p.tenant ≡ b → nat_lt o.tenant p.tenant ≡ c
        → sooner_in p (Some (if nat_lt o.tenant q.tenant then o else q)) ≡ (if nat_lt o.tenant (if nat_lt q.tenant p.tenant then q else p).tenant then o else (if nat_lt q.tenant p.tenant then q else p))
    go true true true i j k = rw (i, j) (rw (k, i) refl)
    go true true false i j k = absurd (not-both (nat_lt o.tenant p.tenant) (lt-through o.tenant q.tenant p.tenant i j) k)
    go true false true i j k = rw (i, j) (rw k refl)
    go true false false i j k = rw (i, j) (rw k refl)
    go false true c i j k = rw (i, j) (rw i refl)
    go false false true i j k = absurd (not-both (nat_lt o.tenant p.tenant) k (ge-through o.tenant q.tenant p.tenant i j))
    go false false false i j k = rw (i, j) (rw k refl)

-- the one that goes first, of these and one more
next-push : (shares : List ℕ) (os ps : List Standing) (o : Standing) → next_in shares os (ps ++ o ∷ []) ≡ (if may_go shares os o then Some (later o (next_in shares os ps)) else next_in shares os ps)
next-push shares os [] o = refl
next-push shares os (p ∷ ps) o = ap (λ (n : Option Standing). if may_go shares os p then Some (sooner_in p n) else n) (next-push shares os ps o) ∙ go (may_go shares os p) (may_go shares os o) (next_in shares os ps)
  where
    go : (a b : Bool) (n : Option Standing) → (if a then Some (sooner_in p (if b then Some (later o n) else n)) else (if b then Some (later o n) else n))
        ≡ (if b then Some (later o (if a then Some (sooner_in p n) else n)) else (if a then Some (sooner_in p n) else n))
    go true true None = refl
    go true true (Some q) = ap Some (chosen o p q)
    go true false n = refl
    go false true n = refl
    go false false n = refl

-- an element is the one at its place, whatever stands there past the end
pub at-any : (os : List Standing) (i : ℕ) (p : Standing) → i < length os → p ≡ get_or os i p → (d : Standing) → get_or os i d ≡ p
at-any [] i p h e d = absurd (omega (arith, h))
at-any (o ∷ os) zero p h e d = sym e
at-any (o ∷ os) (suc i) p h e d = at-any os i p (omega (arith, h)) e d

-- one more that may not go
pub best-same : (shares : List ℕ) (os ps : List Standing) (o : Standing) (best : Option ℕ) → may_go shares os o ≡ false → IsBest shares os ps best → IsBest shares os (ps ++ o ∷ []) best
best-same shares os ps o best h b = go best b
  where
    same : next_in shares os (ps ++ o ∷ []) ≡ next_in shares os ps
    same = next-push shares os ps o ∙ (rw h refl)

    go : (best : Option ℕ) → IsBest shares os ps best → IsBest shares os (ps ++ o ∷ []) best
    go None b = same ∙ b
    go (Some i) b = (b.0, λ d. same ∙ b.1 d)

-- one more, whose tenant has no lesser number
pub best-stays : (shares : List ℕ) (os ps : List Standing) (o p : Standing) (i : ℕ) → ((d : Standing) → get_or os i d ≡ p) → p.tenant ≤ o.tenant → IsBest shares os ps (Some i) → IsBest shares os (ps ++ o ∷ []) (Some i)
best-stays shares os ps o p i a h b = (b.0, λ d. next-push shares os ps o ∙ go (may_go shares os o) d)
  where
    is : next_in shares os ps ≡ Some p
    is = b.1 p ∙ ap Some (a p)

    not-less : nat_lt o.tenant p.tenant ≡ false
    not-less = grind (arith, nat_tests)

    go : (g : Bool) (d : Standing) → (if g then Some (later o (next_in shares os ps)) else next_in shares os ps) ≡ Some (get_or os i d)
    go true d = rw is (rw not-less (ap Some (sym (a d))))
    go false d = is ∙ ap Some (sym (a d))

-- one more, which goes before the best
pub best-first : (shares : List ℕ) (os ps : List Standing) (o p : Standing) (i j : ℕ) → j < length os → ((d : Standing) → get_or os j d ≡ o) → ((d : Standing) → get_or os i d ≡ p) → o.tenant < p.tenant → may_go shares os o ≡ true
    → IsBest shares os ps (Some i) → IsBest shares os (ps ++ o ∷ []) (Some j)
best-first shares os ps o p i j l here a h g b =
    let is : next_in shares os ps ≡ Some p = b.1 p ∙ ap Some (a p) in
    let less : nat_lt o.tenant p.tenant ≡ true = (Decides-ltb o.tenant p.tenant).1 h in
    (l, λ d. next-push shares os ps o ∙ (rw (g, is, less) (ap Some (sym (here d)))))

-- one more, which is the first that may go
pub best-begins : (shares : List ℕ) (os ps : List Standing) (o : Standing) (j : ℕ) → j < length os → ((d : Standing) → get_or os j d ≡ o) → may_go shares os o ≡ true
    → IsBest shares os ps None → IsBest shares os (ps ++ o ∷ []) (Some j)
best-begins shares os ps o j l here g b = (l, λ d. next-push shares os ps o ∙ (rw (g, b) (ap Some (sym (here d)))))

-- the best of the first i + 1 of them
pub best-more : (shares : List ℕ) (os : List Standing) (i : ℕ) (best new : Option ℕ) → i < length os → HoldsAt (λ o. (ps : List Standing) → IsBest shares os ps best → IsBest shares os (ps ++ o ∷ []) new) os i
    → IsBest shares os (take i os) best → IsBest shares os (take (i + 1) os) new
best-more shares os i best new l h b = go os refl
  where
    go : (ds : List Standing) → os ≡ ds → IsBest shares os (take (i + 1) os) new
    go [] e = absurd (omega (arith, l, ap length e))
    go (d ∷ ds) e = subst (λ (ps : List Standing). IsBest shares os ps new) (sym (take_more os i d l)) (h d (take i os) b)

pub best-all : (shares : List ℕ) (os : List Standing) (i : ℕ) (best : Option ℕ) → i ≡ length os → IsBest shares os (take i os) best → IsBest shares os os best
best-all shares os i best h b = subst (λ (ps : List Standing). IsBest shares os ps best) (ap (λ (k : ℕ). take k os) h ∙ take-length os) b

-- ---- what goes first may go

pub next-none : (shares : List ℕ) (os ps : List Standing) → next_in shares os ps ≡ None → list_any (may_go shares os) ps ≡ false
next-none shares os [] h = refl
next-none shares os (p ∷ ps) h = go (may_go shares os p) refl (λ e. next-none shares os ps e)
  where
    go : (a : Bool) → may_go shares os p ≡ a → (next_in shares os ps ≡ None → list_any (may_go shares os) ps ≡ false) → list_any (may_go shares os) (p ∷ ps) ≡ false
    go true i ih = absurd (let k : Some (sooner_in p (next_in shares os ps)) ≡ None = subst (λ (b : Bool). (if b then Some (sooner_in p (next_in shares os ps)) else next_in shares os ps) ≡ None) i h in cc)
    go false i ih = rw i (ih (subst (λ (b : Bool). (if b then Some (sooner_in p (next_in shares os ps)) else next_in shares os ps) ≡ None) i h))

pub next-goes : (shares : List ℕ) (os ps : List Standing) (o : Standing) → next_in shares os ps ≡ Some o → may_go shares os o ≡ true
next-goes shares os [] o h = absurd (let k : None ≡ Some o = h in cc)
next-goes shares os (p ∷ ps) o h = go (may_go shares os p) refl (next_in shares os ps) refl (λ q e. next-goes shares os ps q e)
  where
    go : (a : Bool) → may_go shares os p ≡ a → (n : Option Standing) → next_in shares os ps ≡ n → ((q : Standing) → next_in shares os ps ≡ Some q → may_go shares os q ≡ true) → may_go shares os o ≡ true
    go false i n j ih = ih o (subst (λ (b : Bool). (if b then Some (sooner_in p (next_in shares os ps)) else next_in shares os ps) ≡ Some o) i h)
    go true i None j ih =
        let k : Some p ≡ Some o = subst (λ (n : Option Standing). Some (sooner_in p n) ≡ Some o) j (subst (λ (b : Bool). (if b then Some (sooner_in p (next_in shares os ps)) else next_in shares os ps) ≡ Some o) i h) in
        let e : p ≡ o = cc in
        subst (λ (x : Standing). may_go shares os x ≡ true) e i
    go true i (Some q) j ih = one (nat_lt q.tenant p.tenant) (subst (λ (n : Option Standing). Some (sooner_in p n) ≡ Some o) j (subst (λ (b : Bool). (if b then Some (sooner_in p (next_in shares os ps)) else next_in shares os ps) ≡ Some o) i h))
      where
        one : (b : Bool) → Some (if b then q else p) ≡ Some o → may_go shares os o ≡ true
        one true k = let e : q ≡ o = cc in subst (λ (x : Standing). may_go shares os x ≡ true) e (ih q j)
        one false k = let e : p ≡ o = cc in subst (λ (x : Standing). may_go shares os x ≡ true) e i

pub next-some : (shares : List ℕ) (os ps : List Standing) (o : Standing) → next_in shares os ps ≡ Some o → list_any (may_go shares os) ps ≡ true
next-some shares os [] o h = absurd (let k : None ≡ Some o = h in cc)
next-some shares os (p ∷ ps) o h = go (may_go shares os p) refl (λ e. next-some shares os ps o e)
  where
    go : (a : Bool) → may_go shares os p ≡ a → (next_in shares os ps ≡ Some o → list_any (may_go shares os) ps ≡ true) → list_any (may_go shares os) (p ∷ ps) ≡ true
    go true i ih = rw i refl
    go false i ih = rw i (ih (subst (λ (b : Bool). (if b then Some (sooner_in p (next_in shares os ps)) else next_in shares os ps) ≡ Some o) i h))

-- the best one may go
pub best-goes : (shares : List ℕ) (os : List Standing) (i : ℕ) → IsBest shares os os (Some i) → HoldsAt (λ o. may_go shares os o ≡ true) os i
best-goes shares os i b = λ d. next-goes shares os os (get_or os i d) (b.1 d)

pub best-some : (shares : List ℕ) (os : List Standing) (i : ℕ) → IsBest shares os os (Some i) → some_may_go shares os ≡ true
best-some shares os i b = go os refl
  where
    go : (ds : List Standing) → os ≡ ds → some_may_go shares os ≡ true
    go [] e = absurd (omega (arith, b.0, ap length e))
    go (d ∷ ds) e = next-some shares os os (get_or os i d) (b.1 d)

pub best-within : (shares : List ℕ) (os ps : List Standing) (best : Option ℕ) → IsBest shares os ps best → IfSome best (λ b. b < length os)
best-within shares os ps None b = tt
best-within shares os ps (Some i) b = b.0

-- ---- the ask that is next, and its request

one-next : (shares : List ℕ) (os ps : List Standing) (h c : Bool) (y : Asked) (n : ℕ) (o : Option Asked) → charge_in os y.tenant y.address ≡ n → next_in shares os ps ≡ option_map (λ x. standing_of x true) o
    → next_in shares os (standing_if (not h) c y ps) ≡ option_map (λ x. standing_of x true) (if not h && nat_lt n (share_of shares y.tenant) then Some (sooner y o) else o)
one-next shares os ps true true y n o i j = j
one-next shares os ps true false y n o i j = j
one-next shares os ps false c y n o i j = ap (λ (k : ℕ). if nat_lt k (share_of shares y.tenant) then Some (sooner_in (standing_of y true) (next_in shares os ps)) else next_in shares os ps) i
    ∙ ap (λ (m : Option Standing). if nat_lt n (share_of shares y.tenant) then Some (sooner_in (standing_of y true) m) else m) j ∙ go (nat_lt n (share_of shares y.tenant)) o
  where
    go : (b : Bool) (o : Option Asked) → (if b then Some (sooner_in (standing_of y true) (option_map (λ x. standing_of x true) o)) else option_map (λ x. standing_of x true) o) ≡ option_map (λ x. standing_of x true) (if b then Some (sooner y o) else o)
    go false o = refl
    go true None = refl
    go true (Some z) = one (nat_lt z.tenant y.tenant)
      where
        one : (b : Bool) → Some (if b then standing_of z true else standing_of y true) ≡ Some (standing_of (if b then z else y) true)
        one true = refl
        one false = refl

next-are : (shares : List ℕ) (log : List Entry) (xs ys : List Asked) → next_in shares (standings log xs) (standings log ys) ≡ option_map (λ x. standing_of x true) (first_of shares xs log ys)
next-are shares log xs [] = refl
next-are shares log xs (y ∷ ys) =
    one-next shares (standings log xs) (standings log ys) (is_requested y.request (since log y)) (counts log y) y (charge xs log y.tenant y.address) (first_of shares xs log ys) (charge-is log xs y.tenant y.address) (next-are shares log xs ys)

-- the request of a standing ask
abbrev pub standing_request : ℕ → Standing → Step
standing_request moment o = record { moment = moment; act = Request o.request o.address }

asked-same : (moment : ℕ) (o : Option Asked) → option_map (request_at moment) o ≡ option_map (standing_request moment) (option_map (λ x. standing_of x true) o)
asked-same moment None = refl
asked-same moment (Some x) = refl

-- The request of the ask that is next is that of the standing ask that goes first.
pub next-is : (moment : ℕ) (shares : List ℕ) (xs : List Asked) (log : List Entry) → next_request moment shares xs log ≡ option_map (standing_request moment) (next_in shares (standings log xs) (standings log xs))
next-is moment shares xs log = asked-same moment (first_of shares xs log xs) ∙ ap (option_map (standing_request moment)) (sym (next-are shares log xs xs))

-- what was told changes nothing of it
pub next-same : (moment : ℕ) (shares : List ℕ) (xs ys : List Asked) (log : List Entry) → SameAsks xs ys → next_request moment shares xs log ≡ next_request moment shares ys log
next-same moment shares xs ys log s =
    next-is moment shares xs log ∙ ap (λ (os : List Standing). option_map (standing_request moment) (next_in shares os os)) (standings-same log xs ys s) ∙ sym (next-is moment shares ys log)

-- the request of the best one
pub best-request : (moment : ℕ) (shares : List ℕ) (xs : List Asked) (log : List Entry) (os : List Standing) (i : ℕ) (step : Step) → os ≡ standings log xs → IsBest shares os os (Some i) → IsRequestAt moment os i step → next_request moment shares xs log ≡ Some step
best-request moment shares xs log os i step e b r =
    next-is moment shares xs log ∙ ap (λ (ps : List Standing). option_map (standing_request moment) (next_in shares ps ps)) (sym e)
    ∙ ap (option_map (standing_request moment)) (b.1 r.0 ∙ ap Some (sym r.1)) ∙ ap Some (sym r.2)
