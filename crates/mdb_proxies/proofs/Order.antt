-- Asks of one tenant at one address are handed on in their order.
use Rattle.std.proofs.Common.{◌≡◌, ℕ, ◌≤◌, ◌<◌, Bool, true, false, not, ◌&&◌, if◌then◌else◌, ◌==◌, nat_lt, nat_le, List, [], ◌∷◌, ◌++◌, length, Option, Some, None, is_some, option_map, Result, Ok, Err, refl, sym, ap, ◌∙◌, subst, arith, length-append, append-nil, append_assoc, drop}
use Rattle.std.specs.Result.{IfOk, OnErr}
use Rattle.std.proofs.lemmas.Bool.Decides.{Decides-eqb, Decides-ltb}
use Rattle.mdb_base.specs.Equality.{same_address}
use Rattle.mdb_base.specs.declared.address.ServerAddress.{ServerAddress}
use Rattle.mdb_log.specs.declared.log.Entry.{Entry}
use Rattle.mdb_log.specs.declared.step.Step.{Step}
use Rattle.mdb_log.specs.declared.step.Act.{Act}
use Rattle.mdb_log.specs.declared.step.Act.TheVariants.{Request}
use Rattle.mdb_log.specs.declared.reply.Reply.{Reply}
use Rattle.mdb_log.specs.Driver.{is_refusal}
use Rattle.mdb_proxies.specs.declared.asked.Asked.{Asked}
use Rattle.mdb_proxies.specs.declared.asked.Note.{Note}
use Rattle.mdb_proxies.specs.Charge.{requests, since, is_held, is_at, is_held_at, charge, lags, sooner, first_of, is_requested}
use Rattle.mdb_proxies.specs.Shares.{share_of}
use Rattle.mdb_proxies.specs.Recording.{SameAsks}
use Rattle.mdb_proxies.specs.declared.step.ProxyAct.{ProxyAct}
use Rattle.mdb_proxies.specs.declared.step.ProxyAct.TheVariants.{Ask, Collect, Finish, Pass}
use Rattle.mdb_proxies.specs.declared.step.ProxyReply.{ProxyReply}
use Rattle.mdb_proxies.specs.declared.step.ProxyReply.TheVariants.{Held}
use Rattle.mdb_proxies.specs.declared.step.ProxyRefused.TheVariants.{NoTenant, RequestKnown, NotPassed}
use Rattle.mdb_proxies.specs.Passing.{is_passed}
use Rattle.mdb_proxies.specs.Replies.{Replies, Performs, tell_if, with_ask, new_ask, is_held_off, refusal_by, core_step, tells_caller, kept_for, found}
use Rattle.mdb_proxies.specs.Telling.{tells, tell, told_if, ask_of}
use Rattle.mdb_proxies.proofs.Telling.{same_asks}
use Rattle.std.proofs.Math.Seq.{drop-length}
use Rattle.std.proofs.lemmas.Bool.{not-true}
use Rattle.mdb_proxies.specs.Entries.{request_at, next_request, AreHandedOn, GoesOn, Enters}
use Rattle.mdb_proxies.specs.Order.{handed_place, IsSooner, IsSoonerThan, IsFirstCome}
use Rattle.mdb_proxies.specs.Tables.{place_from, is_fresh, AreSingle, AreMade}
use Rattle.mdb_proxies.proofs.Bools.{left, right, first, rest, other, both, swapped}
use Rattle.mdb_proxies.proofs.Charges.{at-is, passed-own}
use Rattle.mdb_proxies.proofs.Kept.{made-later, made-append, single-append}
use Rattle.mdb_proxies.proofs.Noted.{note-more}
use Rattle.mdb_proxies.proofs.Places.{requested-by}
use Rattle.mdb_proxies.proofs.Entering.{handed-by}
use Rattle.mdb_proxies.proofs.Begins.{last-told}
use Rattle.mdb_proxies.proofs.Going.{goes-same, enters-same}

-- ---- the place of an ask after one more entry

place-kept : (log : List Entry) (e : Entry) (x : Asked) → x.entries ≤ length log → requests x.request e.step.act ≡ false → handed_place (log ++ e ∷ []) x ≡ handed_place log x
place-kept log e x h q = ap (λ (n : Note). n.handed) (note-more log e x h) ∙ ap (λ b. if is_some (handed_place log x) then handed_place log x else (if b then Some (length log) else None)) q ∙ go (handed_place log x)
  where
    go : (o : Option ℕ) → (if is_some o then o else None) ≡ o
    go None = refl
    go (Some i) = refl

place-new : (log : List Entry) (e : Entry) (x : Asked) → x.entries ≤ length log → requests x.request e.step.act ≡ true → handed_place log x ≡ None → handed_place (log ++ e ∷ []) x ≡ Some (length log)
place-new log e x h q n = ap (λ (n : Note). n.handed) (note-more log e x h) ∙ ap (λ (o : Option ℕ). if is_some o then o else (if requests x.request e.step.act then Some (length log) else None)) n ∙ (rw q refl)

held-none : (log : List Entry) (x : Asked) → is_held log x ≡ true → handed_place log x ≡ None
held-none log x h = go (handed_place log x) (requested-by x.request x.entries (since log x) ∙ not-true (is_requested x.request (since log x)) h)
  where
    go : (o : Option ℕ) → is_some o ≡ false → o ≡ None
    go None e = refl
    go (Some i) e = absurd (let k : true ≡ false = e in cc)

-- an ask that is not held back was handed on by some entry of the log
handed-some : (log : List Entry) (x : Asked) → x.entries ≤ length log → is_held log x ≡ false → (i : ℕ) × (handed_place log x ≡ Some i) × (i < length log)
handed-some log x m h = go (handed_place log x) refl (requested-by x.request x.entries (since log x) ∙ back (is_requested x.request (since log x)) h)
  where
    back : (b : Bool) → not b ≡ false → b ≡ true
    back true e = refl
    back false e = absurd (let k : true ≡ false = e in cc)

    go : (o : Option ℕ) → handed_place log x ≡ o → is_some o ≡ true → (i : ℕ) × (handed_place log x ≡ Some i) × (i < length log)
    go None e f = absurd (let k : false ≡ true = f in cc)
    go (Some i) e f = (i, e, (handed-by log x i m e).within)

sooner-at : (o p q r : Option ℕ) → o ≡ p → q ≡ r → IsSooner o q → IsSooner p r
sooner-at o p q r e f s = subst (λ (u : Option ℕ). IsSooner u r) e (subst (λ (u : Option ℕ). IsSooner o u) f s)

-- before what was handed on last
sooner-last : (o : Option ℕ) (i n : ℕ) → o ≡ Some i → i < n → IsSooner o (Some n)
sooner-last o i n e h = subst (λ (u : Option ℕ). IsSooner u (Some n)) (sym e) h

-- what was handed on last is before none that was handed on
sooner-none : (n : ℕ) (q : Option ℕ) → IsSooner None q → IsSooner (Some n) q
sooner-none n None s = tt
sooner-none n (Some j) s = absurd s

-- ---- an entry that requests none of the asks

abbrev pub AreQuiet : Entry → List Asked → Type 0
AreQuiet e [] = Unit {0}
AreQuiet e (x ∷ xs) = (requests x.request e.step.act ≡ false) × AreQuiet e xs

quiet-sooner : (log : List Entry) (e : Entry) (x : Asked) (ys : List Asked) → x.entries ≤ length log → requests x.request e.step.act ≡ false → AreMade (length log) ys → AreQuiet e ys → IsSoonerThan log x ys → IsSoonerThan (log ++ e ∷ []) x ys
quiet-sooner log e x [] m q ms qs s = tt
quiet-sooner log e x (y ∷ ys) m q ms qs s = (
  (λ a. sooner-at (handed_place log x) (handed_place (log ++ e ∷ []) x) (handed_place log y) (handed_place (log ++ e ∷ []) y) (sym (place-kept log e x m q)) (sym (place-kept log e y ms.0 qs.0)) (s.0 a)),
  quiet-sooner log e x ys m q ms.1 qs.1 s.1,
)

pub quiet-order : (log : List Entry) (e : Entry) (xs : List Asked) → AreMade (length log) xs → AreQuiet e xs → IsFirstCome log xs → IsFirstCome (log ++ e ∷ []) xs
quiet-order log e [] m q f = tt
quiet-order log e (x ∷ xs) m q f = (quiet-sooner log e x xs m.0 q.0 m.1 q.1 f.0, quiet-order log e xs m.1 q.1 f.1)

pub none-quiet : (e : Entry) (xs : List Asked) → ((r : ℕ) → requests r e.step.act ≡ false) → AreQuiet e xs
none-quiet e [] n = tt
none-quiet e (x ∷ xs) n = (n x.request, none-quiet e xs n)

-- ---- the entry of an ask that is handed on

-- none of these older asks of its tenant and address is held back
abbrev pub AreGone : List Entry → Asked → List Asked → Type 0
AreGone log x [] = Unit {0}
AreGone log x (y ∷ ys) = (is_at y.tenant y.address x ≡ true → is_held log y ≡ false) × AreGone log x ys

made-left : (n : ℕ) (xs ys : List Asked) → AreMade n (xs ++ ys) → AreMade n xs
made-left n [] ys m = tt
made-left n (x ∷ xs) ys m = (m.0, made-left n xs ys m.1)

handed-sooner : (log : List Entry) (e : Entry) (f x : Asked) (fs back : List Asked) → f.entries ≤ length log → requests f.request e.step.act ≡ false → (is_at f.tenant f.address x ≡ true → is_held log f ≡ false)
    → AreMade (length log) (fs ++ x ∷ back) → AreQuiet e fs → AreQuiet e back → requests x.request e.step.act ≡ true → is_held log x ≡ true → IsSoonerThan log f (fs ++ x ∷ back) → IsSoonerThan (log ++ e ∷ []) f (fs ++ x ∷ back)
handed-sooner log e f x [] back m q g ms qf qb r h s = (
  (λ a. let i = handed-some log f m (g a) in
      sooner-at (Some i.0) (handed_place (log ++ e ∷ []) f) (Some (length log)) (handed_place (log ++ e ∷ []) x) (sym (place-kept log e f m q ∙ i.1)) (sym (place-new log e x ms.0 r (held-none log x h))) i.2),
  quiet-sooner log e f back m q ms.1 qb s.1,
)
handed-sooner log e f x (y ∷ ys) back m q g ms qf qb r h s = (
  (λ a. sooner-at (handed_place log f) (handed_place (log ++ e ∷ []) f) (handed_place log y) (handed_place (log ++ e ∷ []) y) (sym (place-kept log e f m q)) (sym (place-kept log e y ms.0 qf.0)) (s.0 a)),
  handed-sooner log e f x ys back m q g ms.1 qf.1 qb r h s.1,
)

newer : (log : List Entry) (e : Entry) (x : Asked) (ys : List Asked) → handed_place log x ≡ None → handed_place (log ++ e ∷ []) x ≡ Some (length log) → AreMade (length log) ys → AreQuiet e ys → IsSoonerThan log x ys → IsSoonerThan (log ++ e ∷ []) x ys
newer log e x [] n k ms qs s = tt
newer log e x (y ∷ ys) n k ms qs s = (
  (λ a. sooner-at (Some (length log)) (handed_place (log ++ e ∷ []) x) (handed_place log y) (handed_place (log ++ e ∷ []) y) (sym k) (sym (place-kept log e y ms.0 qs.0))
      (sooner-none (length log) (handed_place log y) (subst (λ (u : Option ℕ). IsSooner u (handed_place log y)) n (s.0 a)))),
  newer log e x ys n k ms.1 qs.1 s.1,
)

-- An ask that is handed on before none of its tenant and address that is older keeps the order.
pub handed-order : (log : List Entry) (e : Entry) (x : Asked) (front back : List Asked) → AreMade (length log) (front ++ x ∷ back) → AreQuiet e front → AreQuiet e back → requests x.request e.step.act ≡ true → is_held log x ≡ true
    → AreGone log x front → IsFirstCome log (front ++ x ∷ back) → IsFirstCome (log ++ e ∷ []) (front ++ x ∷ back)
handed-order log e x [] back m qf qb r h g f =
    (newer log e x back (held-none log x h) (place-new log e x m.0 r (held-none log x h)) m.1 qb f.0, quiet-order log e back m.1 qb f.1)
handed-order log e x (y ∷ ys) back m qf qb r h g f =
    (handed-sooner log e y x ys back m.0 qf.0 g.0 m.1 qf.1 qb r h f.0, handed-order log e x ys back m.1 qf.1 qb r h g.1 f.1)

-- ---- the ask that is next is the first of its tenant and address that is held back

pub record Next (log : List Entry) (shares : List ℕ) (asks : List Asked) (x : Asked) (ys : List Asked) : Type 0 where
  pub front : List Asked
  pub back : List Asked
  pub is : ys ≡ front ++ x ∷ back
  pub lag : lags shares asks log x ≡ true
  pub gone : AreGone log x front

lag-below : (a b : Bool) → (a && b) ≡ true → b ≡ true
lag-below true b h = h
lag-below false b h = absurd (let k : false ≡ true = h in cc)

-- what stands before the next one and lags is of another tenant; what does not lag is not held back where the next one is
not-held : (shares : List ℕ) (asks : List Asked) (log : List Entry) (y x : Asked) → lags shares asks log y ≡ false → lags shares asks log x ≡ true → is_at y.tenant y.address x ≡ true → is_held log y ≡ false
not-held shares asks log y x n l a =
    let is = at-is y.tenant y.address x a in
    let below : nat_lt (charge asks log x.tenant x.address) (share_of shares x.tenant) ≡ true = lag-below (is_held log x) (nat_lt (charge asks log x.tenant x.address) (share_of shares x.tenant)) l in
    let there : nat_lt (charge asks log y.tenant x.address) (share_of shares y.tenant) ≡ true = subst (λ (t : ℕ). nat_lt (charge asks log t x.address) (share_of shares t) ≡ true) is.0 below in
    let here : nat_lt (charge asks log y.tenant y.address) (share_of shares y.tenant) ≡ true = subst (λ (z : ServerAddress). nat_lt (charge asks log y.tenant z) (share_of shares y.tenant) ≡ true) is.1 there in
    go (is_held log y) (subst (λ (b : Bool). (is_held log y && b) ≡ false) here n)
  where
    go : (b : Bool) → (b && true) ≡ false → b ≡ false
    go true h = h
    go false h = refl

pub next-first : (shares : List ℕ) (asks : List Asked) (log : List Entry) (ys : List Asked) (x : Asked) → first_of shares asks log ys ≡ Some x → Next log shares asks x ys
next-first shares asks log [] x h = absurd (let k : None ≡ Some x = h in cc)
next-first shares asks log (y ∷ ys) x h = go (lags shares asks log y) refl (first_of shares asks log ys) refl (λ z e. next-first shares asks log ys z e)
  where
    here : lags shares asks log y ≡ true → y ≡ x → Next log shares asks x (y ∷ ys)
    here l e = record { front = []; back = ys; is = ap (λ (z : Asked). z ∷ ys) e; lag = subst (λ (z : Asked). lags shares asks log z ≡ true) e l; gone = tt }

    on : (p : Next log shares asks x ys) → (is_at y.tenant y.address x ≡ true → is_held log y ≡ false) → Next log shares asks x (y ∷ ys)
    on p g = record { front = y ∷ p.front; back = p.back; is = ap (λ (l : List Asked). y ∷ l) p.is; lag = p.lag; gone = (g, p.gone) }

    go : (b : Bool) → lags shares asks log y ≡ b → (n : Option Asked) → first_of shares asks log ys ≡ n → ((z : Asked) → first_of shares asks log ys ≡ Some z → Next log shares asks z ys) → Next log shares asks x (y ∷ ys)
    go false i n j ih =
        let p = ih x (subst (λ (b : Bool). (if b then Some (sooner y (first_of shares asks log ys)) else first_of shares asks log ys) ≡ Some x) i h) in
        on p (λ a. not-held shares asks log y x i p.lag a)
    go true i None j ih =
        let k : Some y ≡ Some x = subst (λ (n : Option Asked). Some (sooner y n) ≡ Some x) j (subst (λ (b : Bool). (if b then Some (sooner y (first_of shares asks log ys)) else first_of shares asks log ys) ≡ Some x) i h) in
        here i (let e : y ≡ x = cc in e)
    go true i (Some z) j ih = one (nat_lt z.tenant y.tenant) refl (subst (λ (n : Option Asked). Some (sooner y n) ≡ Some x) j (subst (λ (b : Bool). (if b then Some (sooner y (first_of shares asks log ys)) else first_of shares asks log ys) ≡ Some x) i h))
      where
        one : (b : Bool) → nat_lt z.tenant y.tenant ≡ b → Some (if nat_lt z.tenant y.tenant then z else y) ≡ Some x → Next log shares asks x (y ∷ ys)
        one false f k = let w : Some y ≡ Some x = subst (λ (b : Bool). Some (if b then z else y) ≡ Some x) f k in here i (let e : y ≡ x = cc in e)
        one true f k =
            let w : Some z ≡ Some x = subst (λ (b : Bool). Some (if b then z else y) ≡ Some x) f k in
            let e : z ≡ x = cc in
            let p = subst (λ (v : Asked). Next log shares asks v ys) e (ih z j) in
            let less : z.tenant < y.tenant = (Decides-ltb z.tenant y.tenant).0 f in
            on p (λ a. absurd (let t : x.tenant ≡ y.tenant = (at-is y.tenant y.address x a).0 in let s : z.tenant ≡ x.tenant = ap (λ (v : Asked). v.tenant) e in omega (arith, less, t, s)))

-- ---- numbers

fresh-left : (r : ℕ) (front back : List Asked) → is_fresh r (front ++ back) ≡ true → (is_fresh r front ≡ true) × (is_fresh r back ≡ true)
fresh-left r [] back h = (refl, h)
fresh-left r (y ∷ ys) back h =
    let ih = fresh-left r ys back (right (not (r == y.request)) (is_fresh r (ys ++ back)) h) in
    (both (not (r == y.request)) (is_fresh r ys) (left (not (r == y.request)) (is_fresh r (ys ++ back)) h) ih.0, ih.1)

fresh-quiet : (e : Entry) (r : ℕ) (a : ServerAddress) (xs : List Asked) → e.step.act ≡ Request r a → is_fresh r xs ≡ true → AreQuiet e xs
fresh-quiet e r a [] i f = tt
fresh-quiet e r a (x ∷ xs) i f = (ap (requests x.request) i ∙ not-true (r == x.request) (left (not (r == x.request)) (is_fresh r xs) f), fresh-quiet e r a xs i (right (not (r == x.request)) (is_fresh r xs) f))

single-quiet : (e : Entry) (front back : List Asked) (x : Asked) → e.step.act ≡ Request x.request x.address → AreSingle (front ++ x ∷ back) → AreQuiet e front × AreQuiet e back
single-quiet e [] back x i s = (tt, fresh-quiet e x.request x.address back i s.0)
single-quiet e (y ∷ ys) back x i s =
    let ih = single-quiet e ys back x i s.1 in
    let f = (fresh-left y.request ys (x ∷ back) s.0).1 in
    let n : (y.request == x.request) ≡ false = not-true (y.request == x.request) (left (not (y.request == x.request)) (is_fresh y.request back) f) in
    ((ap (requests y.request) i ∙ swapped x.request y.request ∙ n, ih.0), ih.1)

-- An ask that was next keeps the order.
pub next-order : (m : ℕ) (shares : List ℕ) (xs : List Asked) (log : List Entry) (e : Entry) → AreMade (length log) xs → AreSingle xs → next_request m shares xs log ≡ Some e.step → IsFirstCome log xs → IsFirstCome (log ++ e ∷ []) xs
next-order m shares xs log e k s n f = go (first_of shares xs log xs) refl n
  where
    go : (o : Option Asked) → first_of shares xs log xs ≡ o → option_map (request_at m) o ≡ Some e.step → IsFirstCome (log ++ e ∷ []) xs
    go None i j = absurd (let z : None ≡ Some e.step = j in cc)
    go (Some x) i j =
        let p = next-first shares xs log xs x i in
        let w : Some (request_at m x) ≡ Some e.step = j in
        let step : e.step ≡ request_at m x = cc in
        let act : e.step.act ≡ Request x.request x.address = ap (λ (t : Step). t.act) step in
        let q = single-quiet e p.front p.back x act (subst AreSingle p.is s) in
        let asked : requests x.request e.step.act ≡ true = ap (requests x.request) act ∙ (Decides-eqb x.request x.request).1 refl in
        let held : is_held log x ≡ true = left (is_held log x) (nat_lt (charge xs log x.tenant x.address) (share_of shares x.tenant)) p.lag in
        subst (λ (l : List Asked). IsFirstCome (log ++ e ∷ []) l) (sym p.is) (handed-order log e x p.front p.back (subst (AreMade (length log)) p.is k) q.0 q.1 asked held p.gone (subst (IsFirstCome log) p.is f))

-- So do all that are handed on, one after another.
pub going-order : (m : ℕ) (shares : List ℕ) (xs : List Asked) (log es : List Entry) → AreMade (length log) xs → AreSingle xs → AreHandedOn m shares xs log es → IsFirstCome log xs → IsFirstCome (log ++ es) xs
going-order m shares xs log [] k s a f = subst (λ (l : List Entry). IsFirstCome l xs) (sym (append-nil log)) f
going-order m shares xs log (e ∷ es) k s a f =
    subst (λ (l : List Entry). IsFirstCome l xs) (append_assoc log (e ∷ []) es)
    (going-order m shares xs (log ++ e ∷ []) es (made-later (length log) (length (log ++ e ∷ [])) xs (omega (arith, length-append log (e ∷ []))) k) s a.2 (next-order m shares xs log e k s a.1 f))

-- ---- a whole step

placed-none : (log : List Entry) (x : Asked) → x.entries ≡ length log → handed_place log x ≡ None
placed-none log x h = ap (λ (es : List Entry). place_from x.request x.entries es) (ap (λ (k : ℕ). drop k log) h ∙ drop-length log)

push-sooner : (log : List Entry) (f x : Asked) (ys : List Asked) → handed_place log x ≡ None → IsSoonerThan log f ys → IsSoonerThan log f (ys ++ x ∷ [])
push-sooner log f x [] n s = ((λ a. subst (λ (u : Option ℕ). IsSooner (handed_place log f) u) (sym n) tt), tt)
push-sooner log f x (y ∷ ys) n s = (s.0, push-sooner log f x ys n s.1)

-- a new ask that was not handed on
push-order : (log : List Entry) (xs : List Asked) (x : Asked) → handed_place log x ≡ None → IsFirstCome log xs → IsFirstCome log (xs ++ x ∷ [])
push-order log [] x n f = (tt, tt)
push-order log (y ∷ ys) x n f = (push-sooner log y x ys n f.0, push-order log ys x n f.1)

same-sooner : (log : List Entry) (x y : Asked) (xs ys : List Asked) → x.tenant ≡ y.tenant → x.request ≡ y.request → x.address ≡ y.address → x.entries ≡ y.entries → SameAsks xs ys → IsSoonerThan log x xs → IsSoonerThan log y ys
same-sooner log x y [] [] t r a n s f = tt
same-sooner log x y [] (w ∷ ws) t r a n s f = absurd s
same-sooner log x y (v ∷ vs) [] t r a n s f = absurd s
same-sooner log x y (v ∷ vs) (w ∷ ws) t r a n s f = (
  (λ h. sooner-at (handed_place log x) (handed_place log y) (handed_place log v) (handed_place log w) (same-place log x y r n) (same-place log v w s.1 s.3)
      (f.0 (ap (λ (z : ServerAddress). (v.tenant == x.tenant) && same_address v.address z) a ∙ ap (λ (k : ℕ). (v.tenant == k) && same_address v.address y.address) t
      ∙ ap (λ (k : ℕ). (k == y.tenant) && same_address v.address y.address) s.0 ∙ ap (λ (z : ServerAddress). (w.tenant == y.tenant) && same_address z y.address) s.2 ∙ h))),
  same-sooner log x y vs ws t r a n s.4 f.1,
)
  where
    same-place : (log : List Entry) (x y : Asked) → x.request ≡ y.request → x.entries ≡ y.entries → handed_place log x ≡ handed_place log y
    same-place log x y r n = ap (λ (k : ℕ). place_from k x.entries (since log x)) r ∙ ap (λ (k : ℕ). place_from y.request k (drop k log)) n

-- what was told changes nothing of the order
same-order : (log : List Entry) (xs ys : List Asked) → SameAsks xs ys → IsFirstCome log xs → IsFirstCome log ys
same-order log [] [] s f = tt
same-order log [] (y ∷ ys) s f = absurd s
same-order log (x ∷ xs) [] s f = absurd s
same-order log (x ∷ xs) (y ∷ ys) s f = (same-sooner log x y xs ys s.0 s.1 s.2 s.3 s.4 f.0, same-order log xs ys s.4 f.1)

same-tell : (r : ℕ) (xs : List Asked) → SameAsks xs (tell r xs)
same-tell r [] = tt
same-tell r (x ∷ xs) = go (r == x.request) (same-tell r xs)
  where
    go : (b : Bool) → SameAsks xs (tell r xs) → SameAsks (x ∷ xs) (if b then told_if true x ∷ xs else x ∷ tell r xs)
    go true ih = (refl, refl, refl, refl, same_asks xs)
    go false ih = (refl, refl, refl, refl, ih)

same-tell-if : (b : Bool) (r : ℕ) (xs : List Asked) → SameAsks xs (tell_if b r xs)
same-tell-if true r xs = same-tell r xs
same-tell-if false r xs = same_asks xs

-- no older ask is held back where a new one is not held off
not-held-at : (log : List Entry) (x : Asked) (xs : List Asked) → is_held_at xs log x.tenant x.address ≡ false → AreGone log x xs
not-held-at log x [] h = tt
not-held-at log x (y ∷ ys) h = (
  (λ a. other (is_at x.tenant x.address y) (is_held log y) (after_entry-about a) (first (is_at x.tenant x.address y && is_held log y) (is_held_at ys log x.tenant x.address) h)),
  not-held-at log x ys (rest (is_at x.tenant x.address y && is_held log y) (is_held_at ys log x.tenant x.address) h),
)
  where
    after_entry-about : is_at y.tenant y.address x ≡ true → is_at x.tenant x.address y ≡ true
    after_entry-about a =
        let is = at-is y.tenant y.address x a in
        let one : ((x.tenant == x.tenant) && same_address x.address x.address) ≡ true = subst (λ (t : ℕ). ((x.tenant == t) && same_address x.address x.address) ≡ true) (sym is.0) (subst (λ (z : ServerAddress). ((x.tenant == y.tenant) && same_address x.address z) ≡ true) (sym is.1) a) in
        subst (λ (z : ServerAddress). ((y.tenant == x.tenant) && same_address z x.address) ≡ true) is.1 (subst (λ (t : ℕ). ((t == x.tenant) && same_address x.address x.address) ≡ true) is.0 one)

-- ---- what a step does

none-made : (r : ℕ) (a : ServerAddress) (act : Act) → act ≡ Request r a → requests r act ≡ true
none-made r a act i = ap (requests r) i ∙ (Decides-eqb r r).1 refl

-- only asks were handed on
pub goes-order : (m : ℕ) (shares : List ℕ) (xs : List Asked) (log more : List Entry) → AreMade (length log) xs → AreSingle xs → GoesOn m shares xs log more → IsFirstCome log xs → IsFirstCome more xs
goes-order m shares xs log more k s g f = subst (λ (l : List Entry). IsFirstCome l xs) (sym g.1) (going-order m shares xs log g.0 k s g.2 f)

made-next : (log : List Entry) (e : Entry) (xs : List Asked) → AreMade (length log) xs → AreMade (length (log ++ e ∷ [])) xs
made-next log e xs k = made-later (length log) (length (log ++ e ∷ [])) xs (omega (arith, length-append log (e ∷ []))) k

-- an entry that requests none of them came first
pub enters-order : (m : ℕ) (shares : List ℕ) (xs : List Asked) (step : Step) (reply : Reply) (log more : List Entry) → AreMade (length log) xs → AreSingle xs → ((e : Entry) → e.step ≡ step → AreQuiet e xs) → Enters m shares xs step reply log more
    → IsFirstCome log xs → IsFirstCome more xs
enters-order m shares xs step reply log more k s q n f =
    goes-order m shares xs (log ++ n.entry ∷ []) more (made-next log n.entry xs k) s n.goes_on (quiet-order log n.entry xs k (q n.entry n.is.1) f)

gone-over : (log : List Entry) (x y : Asked) (xs : List Asked) → x.tenant ≡ y.tenant → x.address ≡ y.address → AreGone log x xs → AreGone log y xs
gone-over log x y [] t a g = tt
gone-over log x y (z ∷ zs) t a g =
    ((λ h. g.0 (ap (λ (k : ℕ). (k == z.tenant) && same_address x.address z.address) t ∙ ap (λ (w : ServerAddress). (y.tenant == z.tenant) && same_address w z.address) a ∙ h)), gone-over log x y zs t a g.1)

-- a new ask was handed on at once
pub begun-order : (m : ℕ) (shares : List ℕ) (xs : List Asked) (x : Asked) (reply : Reply) (log more : List Entry) → AreMade (length log) xs → AreSingle xs → is_fresh x.request xs ≡ true → x.entries ≡ length log → is_held_at xs log x.tenant x.address ≡ false
    → Enters m shares (xs ++ x ∷ []) (request_at m x) reply log more → IsFirstCome log xs → IsFirstCome more (xs ++ x ∷ [])
begun-order m shares xs x reply log more k s u h off n f =
    let none = placed-none log x h in
    let all : AreMade (length log) (xs ++ x ∷ []) = made-append (length log) xs x k (omega (arith, h)) in
    let single : AreSingle (xs ++ x ∷ []) = single-append xs x s u in
    let act : n.entry.step.act ≡ Request x.request x.address = ap (λ (t : Step). t.act) n.is.1 in
    let held : is_held log x ≡ true = ap (λ (es : List Entry). not (is_requested x.request es)) (ap (λ (k : ℕ). drop k log) h ∙ drop-length log) in
    goes-order m shares (xs ++ x ∷ []) (log ++ n.entry ∷ []) more (made-next log n.entry (xs ++ x ∷ []) all) single n.goes_on
    (handed-order log n.entry x xs [] all (fresh-quiet n.entry x.request x.address xs act u) tt (none-made x.request x.address n.entry.step.act act) held (not-held-at log x xs off) (push-order log xs x none f))

same-back : (xs ys : List Asked) → SameAsks xs ys → SameAsks ys xs
same-back [] [] s = tt
same-back [] (y ∷ ys) s = absurd s
same-back (x ∷ xs) [] s = absurd s
same-back (x ∷ xs) (y ∷ ys) s = (sym s.0, sym s.1, sym s.2, sym s.3, same-back xs ys s.4)

-- an ask that is not refused has a number that none has
fresh-of : (b c : Bool) → (if b then Some NoTenant else (if c then None else Some RequestKnown)) ≡ None → c ≡ true
fresh-of b true h = refl
fresh-of true false h = absurd (let z : Some NoTenant ≡ None = h in cc)
fresh-of false false h = absurd (let z : Some RequestKnown ≡ None = h in cc)

passed-of : (b : Bool) → (if b then None else Some NotPassed) ≡ None → b ≡ true
passed-of true h = refl
passed-of false h = absurd (let z : Some NotPassed ≡ None = h in cc)

ask-order : (m : ℕ) (shares : List ℕ) (old new : List Asked) (log more : List Entry) (x : Asked) (reply : ProxyReply) (off : Bool) → x.entries ≡ length log → AreMade (length log) old → AreSingle old → is_fresh x.request old ≡ true
    → is_held_off shares old log x.tenant x.address ≡ off → new ≡ with_ask old x reply → Replies m shares new (request_at m x) log more reply (if off then Some Held else None) → IsFirstCome log old → IsFirstCome more new
ask-order m shares old new log more x reply true h k s u i n p f =
    let is : new ≡ old ++ x ∷ [] = n ∙ ap (with_ask old x) p.0 in
    let g : GoesOn m shares (old ++ x ∷ []) log more = subst (λ (l : List Asked). GoesOn m shares l log more) is p.1 in
    subst (λ (l : List Asked). IsFirstCome more l) (sym is) (goes-order m shares (old ++ x ∷ []) log more (made-append (length log) old x k (omega (arith, h))) (single-append old x s u) g (push-order log old x (placed-none log x h) f))
ask-order m shares old new log more x reply false h k s u i n p f = go (is_refusal p.0) refl
  where
    go : (b : Bool) → is_refusal p.0 ≡ b → IsFirstCome more new
    go true j =
        let is : new ≡ old = n ∙ ap (with_ask old x) p.1 ∙ (rw j refl) in
        let e : Enters m shares old (request_at m x) p.0 log more = subst (λ (l : List Asked). Enters m shares l (request_at m x) p.0 log more) is p.2 in
        subst (λ (l : List Asked). IsFirstCome more l) (sym is) (enters-order m shares old (request_at m x) p.0 log more k s (λ y q. fresh-quiet y x.request x.address old (ap (λ (t : Step). t.act) q) u) e f)
    go false j =
        let told : Asked = told_if (tells p.0) x in
        let is : new ≡ old ++ told ∷ [] = n ∙ ap (with_ask old x) p.1 ∙ (rw j refl) in
        let same : SameAsks (old ++ x ∷ []) (old ++ told ∷ []) = last-told old x (tells p.0) in
        let e : Enters m shares (old ++ x ∷ []) (request_at m x) p.0 log more = enters-same m shares (old ++ told ∷ []) (old ++ x ∷ []) (request_at m x) p.0 log more (same-back (old ++ x ∷ []) (old ++ told ∷ []) same) (subst (λ (l : List Asked). Enters m shares l (request_at m x) p.0 log more) is p.2) in
        subst (λ (l : List Asked). IsFirstCome more l) (sym is) (same-order more (old ++ x ∷ []) (old ++ told ∷ []) same (begun-order m shares old x p.0 log more k s u h (rest (nat_le (share_of shares x.tenant) (charge old log x.tenant x.address)) (is_held_at old log x.tenant x.address) i) e f))

told-order : (m : ℕ) (shares : List ℕ) (old new : List Asked) (log more : List Entry) (step : Step) (reply : ProxyReply) (own : Option ProxyReply) → SameAsks old new → AreMade (length log) old → AreSingle old → ((r : ℕ) → requests r step.act ≡ false)
    → Replies m shares new step log more reply own → IsFirstCome log old → IsFirstCome more new
told-order m shares old new log more step reply (Some o) a k s q p f = same-order more old new a (goes-order m shares old log more k s (goes-same m shares new old log more (same-back old new a) p.1) f)
told-order m shares old new log more step reply None a k s q p f =
    same-order more old new a (enters-order m shares old step p.0 log more k s (λ y e. none-quiet y old (λ r. ap (λ (t : Step). requests r t.act) e ∙ q r)) (enters-same m shares new old step p.0 log more (same-back old new a) p.2) f)

-- A step that is not refused keeps the order.
pub performs-order : (m : ℕ) (shares : List ℕ) (old new : List Asked) (log more : List Entry) (act : ProxyAct) (reply : ProxyReply) → AreMade (length log) old → AreSingle old → refusal_by shares old log act ≡ None
    → Performs m shares old new log more act reply → IsFirstCome log old → IsFirstCome more new
performs-order m shares old new log more (Ask t r a) reply k s h p f =
    ask-order m shares old new log more (new_ask log t r a) reply (is_held_off shares old log t a) refl k s (fresh-of (nat_le (length shares) t) (is_fresh r old) h) refl p.asks p.replied f
performs-order m shares old new log more (Collect r) reply k s h p f =
    let same : SameAsks old new = subst (λ (l : List Asked). SameAsks old l) (sym p.asks) (same-tell-if (tells_caller (kept_for log (ask_of r old)) reply) r old) in
    told-order m shares old new log more (core_step m (Collect r)) reply (found log (ask_of r old)) same k s (λ q. refl) p.replied f
performs-order m shares old new log more (Finish r used) reply k s h p f = told-order m shares old new log more (core_step m (Finish r used)) reply None (subst (λ (l : List Asked). SameAsks old l) (sym p.asks) (same_asks old)) k s (λ q. refl) p.replied f
performs-order m shares old new log more (Pass act) reply k s h p f =
    told-order m shares old new log more (core_step m (Pass act)) reply None (subst (λ (l : List Asked). SameAsks old l) (sym p.asks) (same_asks old)) k s (passed-own act (passed-of (is_passed act) h)) p.replied f

-- So does a step that runs out of memory, which changes nothing.
pub acts-order : {E : Type 0} (m : ℕ) (shares : List ℕ) (old new : List Asked) (log more : List Entry) (act : ProxyAct) (r : Result ProxyReply E) → AreMade (length log) old → AreSingle old → refusal_by shares old log act ≡ None → IsFirstCome log old
    → IfOk r (λ reply. Performs m shares old new log more act reply) → OnErr r ((more ≡ log) × (new ≡ old)) → IsFirstCome more new
acts-order m shares old new log more act (Ok reply) k s h f p e = performs-order m shares old new log more act reply k s h p f
acts-order m shares old new log more act (Err x) k s h f p e = rw (e.0, e.1) f
