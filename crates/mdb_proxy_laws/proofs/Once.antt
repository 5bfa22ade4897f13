-- Each ask is handed on by at most one entry.
use Rattle.std.proofs.Common.{◌≡◌, ℕ, ◌≤◌, ◌+◌, Bool, true, false, not, ◌&&◌, ◌||◌, if◌then◌else◌, ◌==◌, nat_lt, nat_le, List, [], ◌∷◌, ◌++◌, length, Option, Some, None, option_map, refl, sym, ap, ◌∙◌, subst, arith, length-append, append-nil, append_assoc, drop}
use Rattle.std.specs.Prelude.{⊤}
use Rattle.std.proofs.Math.Seq.{drop-length}
use Rattle.std.proofs.lemmas.Bool.{not-true}
use Rattle.mdb_log.specs.declared.log.Entry.{Entry}
use Rattle.mdb_log.specs.declared.step.Step.{Step}
use Rattle.mdb_log.specs.declared.step.Act.TheVariants.{Request}
use Rattle.mdb_log.specs.declared.reply.Reply.{Reply}
use Rattle.mdb_log.specs.Driver.{is_refusal}
use Rattle.mdb_log.specs.History.{history_of, last_moment}
use Rattle.mdb_base.specs.declared.address.ServerAddress.{ServerAddress}
use Rattle.mdb_proxies.specs.declared.asked.Asked.{Asked}
use Rattle.mdb_proxies.specs.declared.step.ProxyAct.{ProxyAct}
use Rattle.mdb_proxies.specs.declared.step.ProxyAct.TheVariants.{Ask, Collect, Finish, Pass}
use Rattle.mdb_proxies.specs.declared.step.ProxyReply.{ProxyReply}
use Rattle.mdb_proxies.specs.declared.step.ProxyReply.TheVariants.{Held}
use Rattle.mdb_proxies.specs.declared.step.ProxyStep.{ProxyStep}
use Rattle.mdb_proxies.specs.declared.step.ProxyRefused.{ProxyRefused}
use Rattle.mdb_proxies.specs.declared.step.ProxyRefused.TheVariants.{TimeBack, NoTenant, RequestKnown, NotPassed}
use Rattle.mdb_proxies.specs.Charge.{requests, since, is_held, is_requested, next_ask}
use Rattle.mdb_proxies.specs.Entries.{request_at, next_request, AreHandedOn, GoesOn, Enters}
use Rattle.mdb_proxies.specs.Passing.{is_passed}
use Rattle.mdb_proxies.specs.Replies.{Replies, Performs, refusal_of, refusal_by, with_ask, new_ask, tell_if, tells_caller, kept_for, core_step, found, is_held_off}
use Rattle.mdb_proxies.specs.Tables.{AreMade, AreSingle, is_fresh}
use Rattle.mdb_proxies.specs.Telling.{tells, told_if, tell, ask_of}
use Rattle.mdb_proxies.specs.View.{ProxyView}
use Rattle.mdb_proxies.proofs.Bools.{left, right, swapped}
use Rattle.mdb_proxies.proofs.Charges.{passed-own}
use Rattle.mdb_proxies.proofs.Kept.{made-later, made-append, single-append}
use Rattle.mdb_proxies.proofs.Order.{Next, next-first}
use Rattle.mdb_proxy_laws.specs.Once.{times_requested, AreOnce}
use Rattle.mdb_proxy_laws.specs.Reaching.{Steps, Reaches, begun}
use Rattle.mdb_proxy_laws.proofs.Asked.{since-more, made-tell-if}

times-more : (r : ℕ) (es more : List Entry) → times_requested r (es ++ more) ≡ times_requested r es + times_requested r more
times-more r [] more = omega arith
times-more r (e ∷ es) more = go (requests r e.step.act) (times-more r es more)
  where
    go : (b : Bool) → times_requested r (es ++ more) ≡ times_requested r es + times_requested r more → (if b then times_requested r (es ++ more) + 1 else times_requested r (es ++ more)) ≡ (if b then times_requested r es + 1 else times_requested r es) + times_requested r more
    go true h = omega (arith, h)
    go false h = h

times-none : (r : ℕ) (es : List Entry) → is_requested r es ≡ false → times_requested r es ≡ 0
times-none r [] h = refl
times-none r (e ∷ es) h = go (requests r e.step.act) h (times-none r es)
  where
    go : (b : Bool) → (b || is_requested r es) ≡ false → (is_requested r es ≡ false → times_requested r es ≡ 0) → (if b then times_requested r es + 1 else times_requested r es) ≡ 0
    go true h deeper = absurd (let k : true ≡ false = h in cc)
    go false h deeper = deeper h

times-last : (log : List Entry) (e : Entry) (x : Asked) → x.entries ≤ length log → times_requested x.request (since (log ++ e ∷ []) x) ≡ times_requested x.request (since log x) + (if requests x.request e.step.act then 1 else 0)
times-last log e x m = ap (times_requested x.request) (since-more log (e ∷ []) x m) ∙ times-more x.request (since log x) (e ∷ [])

-- ---- one more entry

-- it requests none of them
abbrev AreQuiet : Entry → List Asked → Type 0
AreQuiet e [] = ⊤
AreQuiet e (x ∷ xs) = (requests x.request e.step.act ≡ false) × AreQuiet e xs

quiet-once : (log : List Entry) (e : Entry) (xs : List Asked) → AreMade (length log) xs → AreQuiet e xs → AreOnce log xs → AreOnce (log ++ e ∷ []) xs
quiet-once log e [] m q o = tt
quiet-once log e (x ∷ xs) m q o = (go (requests x.request e.step.act) q.0 (times-last log e x m.0), quiet-once log e xs m.1 q.1 o.1)
  where
    go : (b : Bool) → b ≡ false → times_requested x.request (since (log ++ e ∷ []) x) ≡ times_requested x.request (since log x) + (if b then 1 else 0) → times_requested x.request (since (log ++ e ∷ []) x) ≤ 1
    go true i h = absurd (let k : true ≡ false = i in cc)
    go false i h = omega (arith, h, o.0)

-- it is the request of one that is held back, and of no other
handed-once : (log : List Entry) (e : Entry) (front back : List Asked) (x : Asked) → AreMade (length log) (front ++ x ∷ back) → AreQuiet e front → AreQuiet e back → is_held log x ≡ true → AreOnce log (front ++ x ∷ back) → AreOnce (log ++ e ∷ []) (front ++ x ∷ back)
handed-once log e [] back x m qf qb h o = (go (requests x.request e.step.act) (times-last log e x m.0), quiet-once log e back m.1 qb o.1)
  where
    none : times_requested x.request (since log x) ≡ 0
    none = times-none x.request (since log x) (not-true (is_requested x.request (since log x)) h)

    go : (b : Bool) → times_requested x.request (since (log ++ e ∷ []) x) ≡ times_requested x.request (since log x) + (if b then 1 else 0) → times_requested x.request (since (log ++ e ∷ []) x) ≤ 1
    go true k = omega (arith, k, none)
    go false k = omega (arith, k, none)
handed-once log e (y ∷ front) back x m qf qb h o = (go (requests y.request e.step.act) qf.0 (times-last log e y m.0), handed-once log e front back x m.1 qf.1 qb h o.1)
  where
    go : (b : Bool) → b ≡ false → times_requested y.request (since (log ++ e ∷ []) y) ≡ times_requested y.request (since log y) + (if b then 1 else 0) → times_requested y.request (since (log ++ e ∷ []) y) ≤ 1
    go true i k = absurd (let z : true ≡ false = i in cc)
    go false i k = omega (arith, k, o.0)

-- ---- numbers

fresh-quiet : (e : Entry) (r : ℕ) (a : ServerAddress) (xs : List Asked) → e.step.act ≡ Request r a → is_fresh r xs ≡ true → AreQuiet e xs
fresh-quiet e r a [] i f = tt
fresh-quiet e r a (x ∷ xs) i f = (ap (requests x.request) i ∙ not-true (r == x.request) (left (not (r == x.request)) (is_fresh r xs) f), fresh-quiet e r a xs i (right (not (r == x.request)) (is_fresh r xs) f))

fresh-last : (r : ℕ) (front back : List Asked) (x : Asked) → is_fresh r (front ++ x ∷ back) ≡ true → (r == x.request) ≡ false
fresh-last r [] back x f = not-true (r == x.request) (left (not (r == x.request)) (is_fresh r back) f)
fresh-last r (y ∷ front) back x f = fresh-last r front back x (right (not (r == y.request)) (is_fresh r (front ++ x ∷ back)) f)

single-quiet : (e : Entry) (front back : List Asked) (x : Asked) → e.step.act ≡ Request x.request x.address → AreSingle (front ++ x ∷ back) → AreQuiet e front × AreQuiet e back
single-quiet e [] back x i s = (tt, fresh-quiet e x.request x.address back i s.0)
single-quiet e (y ∷ front) back x i s =
    let more = single-quiet e front back x i s.1 in
    ((ap (requests y.request) i ∙ swapped x.request y.request ∙ fresh-last y.request front back x s.0, more.0), more.1)

none-quiet : (e : Entry) (xs : List Asked) → ((r : ℕ) → requests r e.step.act ≡ false) → AreQuiet e xs
none-quiet e [] n = tt
none-quiet e (x ∷ xs) n = (n x.request, none-quiet e xs n)

-- ---- what is handed on

-- what a proxy keeps of its log and its asks
pub record Handed (log : List Entry) (xs : List Asked) : Type 0 where
  pub made : AreMade (length log) xs
  pub single : AreSingle xs
  pub once : AreOnce log xs

made-next : (log : List Entry) (e : Entry) (xs : List Asked) → AreMade (length log) xs → AreMade (length (log ++ e ∷ [])) xs
made-next log e xs k = made-later (length log) (length (log ++ e ∷ [])) xs (omega (arith, length-append log (e ∷ []))) k

quiet-handed : (log : List Entry) (e : Entry) (xs : List Asked) → AreQuiet e xs → Handed log xs → Handed (log ++ e ∷ []) xs
quiet-handed log e xs q h = record { made = made-next log e xs h.made; single = h.single; once = quiet-once log e xs h.made q h.once }

next-handed : (m : ℕ) (shares : List ℕ) (log : List Entry) (xs : List Asked) (e : Entry) → Handed log xs → next_request m shares xs log ≡ Some e.step → Handed (log ++ e ∷ []) xs
next-handed m shares log xs e h n = go (next_ask shares xs log) refl n
  where
    go : (o : Option Asked) → next_ask shares xs log ≡ o → option_map (request_at m) o ≡ Some e.step → Handed (log ++ e ∷ []) xs
    go None i k = absurd (let z : ◌≡◌ {A = Option Step} None (Some e.step) = k in cc)
    go (Some x) i k =
        let step : request_at m x ≡ e.step = (let z : Some (request_at m x) ≡ Some e.step = k in cc) in
        let p : Next log shares xs x xs = next-first shares xs log xs x i in
        let act : e.step.act ≡ Request x.request x.address = ap (λ (s : Step). s.act) (sym step) in
        let q = single-quiet e p.front p.back x act (subst AreSingle p.is h.single) in
        let once : AreOnce (log ++ e ∷ []) (p.front ++ x ∷ p.back) = handed-once log e p.front p.back x (subst (AreMade (length log)) p.is h.made) q.0 q.1 (left (is_held log x) _ p.lag) (subst (AreOnce log) p.is h.once) in
        record { made = made-next log e xs h.made; single = h.single; once = subst (AreOnce (log ++ e ∷ [])) (sym p.is) once }

going-handed : (m : ℕ) (shares : List ℕ) (xs : List Asked) (log es : List Entry) → Handed log xs → AreHandedOn m shares xs log es → Handed (log ++ es) xs
going-handed m shares xs log [] h a = subst (λ (l : List Entry). Handed l xs) (sym (append-nil log)) h
going-handed m shares xs log (e ∷ es) h a = subst (λ (l : List Entry). Handed l xs) (append_assoc log (e ∷ []) es) (going-handed m shares xs (log ++ e ∷ []) es (next-handed m shares log xs e h a.1) a.2)

goes-handed : (m : ℕ) (shares : List ℕ) (xs : List Asked) (log more : List Entry) → Handed log xs → GoesOn m shares xs log more → Handed more xs
goes-handed m shares xs log more h g = subst (λ (l : List Entry). Handed l xs) (sym g.1) (going-handed m shares xs log g.0 h g.2)

enters-handed : (m : ℕ) (shares : List ℕ) (xs : List Asked) (step : Step) (reply : Reply) (log more : List Entry) → Handed log xs → ((e : Entry) → e.step ≡ step → AreQuiet e xs) → Enters m shares xs step reply log more → Handed more xs
enters-handed m shares xs step reply log more h q n = goes-handed m shares xs (log ++ n.entry ∷ []) more (quiet-handed log n.entry xs (q n.entry n.is.1) h) n.goes_on

-- ---- asks of which more was told

fresh-tell : (q r : ℕ) (ys : List Asked) → is_fresh r (tell q ys) ≡ is_fresh r ys
fresh-tell q r [] = refl
fresh-tell q r (y ∷ ys) = go (q == y.request) (fresh-tell q r ys)
  where
    go : (c : Bool) → is_fresh r (tell q ys) ≡ is_fresh r ys → is_fresh r (if c then told_if true y ∷ ys else y ∷ tell q ys) ≡ (not (r == y.request) && is_fresh r ys)
    go true deeper = refl
    go false deeper = ap (λ d. not (r == y.request) && d) deeper

single-tell : (q : ℕ) (ys : List Asked) → AreSingle ys → AreSingle (tell q ys)
single-tell q [] s = tt
single-tell q (y ∷ ys) s = go (q == y.request) (fresh-tell q y.request ys) (single-tell q ys s.1)
  where
    go : (c : Bool) → is_fresh y.request (tell q ys) ≡ is_fresh y.request ys → AreSingle (tell q ys) → AreSingle (if c then told_if true y ∷ ys else y ∷ tell q ys)
    go true f deeper = s
    go false f deeper = (f ∙ s.0, deeper)

once-tell : (log : List Entry) (q : ℕ) (ys : List Asked) → AreOnce log ys → AreOnce log (tell q ys)
once-tell log q [] s = tt
once-tell log q (y ∷ ys) s = go (q == y.request) (once-tell log q ys s.1)
  where
    go : (c : Bool) → AreOnce log (tell q ys) → AreOnce log (if c then told_if true y ∷ ys else y ∷ tell q ys)
    go true deeper = s
    go false deeper = (s.0, deeper)

tell-handed : (log : List Entry) (b : Bool) (q : ℕ) (xs : List Asked) → Handed log xs → Handed log (tell_if b q xs)
tell-handed log true q xs h = record { made = made-tell-if (length log) true q xs h.made; single = single-tell q xs h.single; once = once-tell log q xs h.once }
tell-handed log false q xs h = h

-- a new ask
once-append : (log : List Entry) (xs : List Asked) (x : Asked) → AreOnce log xs → times_requested x.request (since log x) ≤ 1 → AreOnce log (xs ++ x ∷ [])
once-append log [] x o k = (k, tt)
once-append log (y ∷ xs) x o k = (o.0, once-append log xs x o.1 k)

since-none : (log : List Entry) (x : Asked) → x.entries ≡ length log → since log x ≡ []
since-none log x h = ap (λ (k : ℕ). drop k log) h ∙ drop-length log

push-handed : (log : List Entry) (xs : List Asked) (x : Asked) → x.entries ≡ length log → is_fresh x.request xs ≡ true → Handed log xs → Handed log (xs ++ x ∷ [])
push-handed log xs x at fresh h = record {
  made = made-append (length log) xs x h.made (omega (arith, at));
  single = single-append xs x h.single fresh;
  once = once-append log xs x h.once (let k : times_requested x.request (since log x) ≡ 0 = ap (times_requested x.request) (since-none log x at) in omega (arith, k));
}

told-handed : (m : ℕ) (shares : List ℕ) (new : List Asked) (log more : List Entry) (step : Step) (reply : ProxyReply) (own : Option ProxyReply) → Handed log new → ((r : ℕ) → requests r step.act ≡ false) → Replies m shares new step log more reply own → Handed more new
told-handed m shares new log more step reply (Some o) h q p = goes-handed m shares new log more h p.1
told-handed m shares new log more step reply None h q p = enters-handed m shares new step p.0 log more h (λ e i. none-quiet e new (λ r. ap (λ (s : Step). requests r s.act) i ∙ q r)) p.2

ask-handed : (m : ℕ) (shares : List ℕ) (old new : List Asked) (log more : List Entry) (x : Asked) (reply : ProxyReply) (off : Bool) → x.entries ≡ length log → is_fresh x.request old ≡ true → Handed log old → new ≡ with_ask old x reply
    → Replies m shares new (request_at m x) log more reply (if off then Some Held else None) → Handed more new
ask-handed m shares old new log more x reply true at fresh h n p =
    let is : new ≡ old ++ x ∷ [] = n ∙ ap (with_ask old x) p.0 in
    goes-handed m shares new log more (subst (Handed log) (sym is) (push-handed log old x at fresh h)) p.1
ask-handed m shares old new log more x reply false at fresh h n p = go (is_refusal p.0) refl
  where
    go : (b : Bool) → is_refusal p.0 ≡ b → Handed more new
    go true j =
        let is : new ≡ old = n ∙ ap (with_ask old x) p.1 ∙ (rw j refl) in
        enters-handed m shares new (request_at m x) p.0 log more (subst (Handed log) (sym is) h) (λ e i. subst (AreQuiet e) (sym is) (fresh-quiet e x.request x.address old (ap (λ (s : Step). s.act) i) fresh)) p.2
    go false j =
        let told : Asked = told_if (tells p.0) x in
        let is : new ≡ old ++ told ∷ [] = n ∙ ap (with_ask old x) p.1 ∙ (rw j refl) in
        let at-told : told.entries ≡ length log = told-entries (tells p.0) ∙ at in
        let fresh-told : is_fresh told.request old ≡ true = ap (λ (r : ℕ). is_fresh r old) (told-number (tells p.0)) ∙ fresh in
        let all : Handed log (old ++ told ∷ []) = push-handed log old told at-told fresh-told h in
        let held : is_held log told ≡ true = ap (λ (es : List Entry). not (is_requested told.request es)) (since-none log told at-told) in
        let e : Entry = p.2.entry in
        let act : e.step.act ≡ Request x.request x.address = ap (λ (s : Step). s.act) p.2.is.1 in
        let one : Handed (log ++ e ∷ []) (old ++ told ∷ []) = record {
          made = made-next log e (old ++ told ∷ []) all.made;
          single = all.single;
          once = handed-once log e old [] told all.made (fresh-quiet e x.request x.address old act fresh) tt held all.once;
        } in
        goes-handed m shares new (log ++ e ∷ []) more (subst (Handed (log ++ e ∷ [])) (sym is) one) p.2.goes_on
      where
        told-entries : (b : Bool) → (told_if b x).entries ≡ x.entries
        told-entries true = refl
        told-entries false = refl

        told-number : (b : Bool) → (told_if b x).request ≡ x.request
        told-number true = refl
        told-number false = refl

-- ---- a whole step

fresh-of : (b c : Bool) → (if b then Some NoTenant else (if c then None else Some RequestKnown)) ≡ None → c ≡ true
fresh-of b true h = refl
fresh-of true false h = absurd (let z : Some NoTenant ≡ None = h in cc)
fresh-of false false h = absurd (let z : Some RequestKnown ≡ None = h in cc)

passed-of : (b : Bool) → (if b then None else Some NotPassed) ≡ None → b ≡ true
passed-of true h = refl
passed-of false h = absurd (let z : Some NotPassed ≡ None = h in cc)

performs-handed : (m : ℕ) (shares : List ℕ) (old new : List Asked) (log more : List Entry) (a : ProxyAct) (reply : ProxyReply) → refusal_by shares old log a ≡ None → Performs m shares old new log more a reply → Handed log old → Handed more new
performs-handed m shares old new log more (Ask t r a) reply k p h = ask-handed m shares old new log more (new_ask log t r a) reply (is_held_off shares old log t a) refl (fresh-of (nat_le (length shares) t) (is_fresh r old) k) h p.asks p.replied
performs-handed m shares old new log more (Collect r) reply k p h =
    told-handed m shares new log more (core_step m (Collect r)) reply (found log (ask_of r old)) (subst (Handed log) (sym p.asks) (tell-handed log (tells_caller (kept_for log (ask_of r old)) reply) r old h)) (λ q. refl) p.replied
performs-handed m shares old new log more (Finish r used) reply k p h = told-handed m shares new log more (core_step m (Finish r used)) reply None (subst (Handed log) (sym p.asks) h) (λ q. refl) p.replied
performs-handed m shares old new log more (Pass a) reply k p h = told-handed m shares new log more (core_step m (Pass a)) reply None (subst (Handed log) (sym p.asks) h) (passed-own a (passed-of (is_passed a) k)) p.replied

refusal-in : (m last : ℕ) (o : Option ProxyRefused) → (if nat_lt m last then Some (TimeBack last) else o) ≡ None → o ≡ None
refusal-in m last o h = go (nat_lt m last) h
  where
    go : (b : Bool) → (if b then Some (TimeBack last) else o) ≡ None → o ≡ None
    go true h = absurd (let k : Some (TimeBack last) ≡ None = h in cc)
    go false h = h

steps-handed : (old new : ProxyView) (s : ProxyStep) → Steps old new s → Handed old.log old.asks → Handed new.log new.asks
steps-handed old new s w h = go (refusal_of old s) refl
  where
    go : (o : Option ProxyRefused) → refusal_of old s ≡ o → Handed new.log new.asks
    go (Some why) i = subst (λ (v : ProxyView). Handed v.log v.asks) (sym (w.refused why i).1) h
    go None i = performs-handed s.moment old.shares old.asks new.asks old.log new.log s.act w.reply (refusal-in s.moment (last_moment (history_of old.log)) (refusal_by old.shares old.asks old.log s.act) i) (w.performs i) h

reached-handed : (old new : ProxyView) (ss : List ProxyStep) → Reaches old new ss → Handed old.log old.asks → Handed new.log new.asks
reached-handed old new [] w h = subst (λ (v : ProxyView). Handed v.log v.asks) (sym w) h
reached-handed old new (s ∷ ss) w h = reached-handed w.0 new ss w.2 (steps-handed old w.0 s w.1 h)

pub reached-once : (shares : List ℕ) (first : Entry) (v : ProxyView) (ss : List ProxyStep) → Reaches (begun shares first) v ss → AreOnce v.log v.asks
reached-once shares first v ss w = (reached-handed (begun shares first) v ss w (record { made = tt; single = tt; once = tt })).once
