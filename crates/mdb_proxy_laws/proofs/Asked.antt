-- The entries of a proxy's log are of acts that it makes, and each accepted request is of an ask.
use Rattle.std.proofs.Common.{◌≡◌, ℕ, ◌≤◌, Bool, true, false, not, ◌&&◌, ◌||◌, if◌then◌else◌, ◌==◌, nat_lt, ◌⊎◌, inl, inr, List, [], ◌∷◌, ◌++◌, length, Option, Some, None, option_map, refl, sym, ap, ◌∙◌, subst, arith, length-append, append-nil, append_assoc, drop}
use Rattle.std.specs.List.{list_any}
use Rattle.std.proofs.Math.Seq.{drop-length}
use Rattle.std.proofs.lemmas.List.{drop-append-le}
use Rattle.std.proofs.lemmas.Bool.Decides.{Decides-eqb}
use Rattle.std.proofs.lemmas.Bool.{or_left, or_right, not-true}
use Rattle.mdb_base.specs.Equality.{same_address}
use Rattle.mdb_base.specs.declared.address.ServerAddress.{ServerAddress}
use Rattle.mdb_log.specs.declared.log.Entry.{Entry}
use Rattle.mdb_log.specs.declared.step.Step.{Step}
use Rattle.mdb_log.specs.declared.step.Act.{Act}
use Rattle.mdb_log.specs.declared.step.Act.TheVariants as act
use Rattle.mdb_log.specs.declared.reply.Reply.{Reply}
use Rattle.mdb_log.specs.Driver.{is_refusal, IsEntry}
use Rattle.mdb_log.specs.History.{history_of, last_moment}
use Rattle.mdb_describe.proofs.Addresses.{own-address}
use Rattle.mdb_proxies.specs.declared.asked.Asked.{Asked}
use Rattle.mdb_proxies.specs.declared.step.ProxyAct.{ProxyAct}
use Rattle.mdb_proxies.specs.declared.step.ProxyAct.TheVariants.{Ask, Collect, Finish, Pass}
use Rattle.mdb_proxies.specs.declared.step.ProxyReply.{ProxyReply}
use Rattle.mdb_proxies.specs.declared.step.ProxyReply.TheVariants.{Held}
use Rattle.mdb_proxies.specs.declared.step.ProxyStep.{ProxyStep}
use Rattle.mdb_proxies.specs.declared.step.ProxyRefused.{ProxyRefused}
use Rattle.mdb_proxies.specs.declared.step.ProxyRefused.TheVariants.{TimeBack, NotPassed}
use Rattle.mdb_proxies.specs.Charge.{requests, since, is_held, is_requested, next_ask}
use Rattle.mdb_proxies.specs.Entries.{request_at, next_request, AreHandedOn, GoesOn, Enters}
use Rattle.mdb_proxies.specs.Passing.{is_passed}
use Rattle.mdb_proxies.specs.Replies.{Replies, Performs, refusal_of, refusal_by, with_ask, new_ask, tell_if, tells_caller, kept_for, core_step, found, is_held_off}
use Rattle.mdb_proxies.specs.Tables.{AreMade}
use Rattle.mdb_proxies.specs.Telling.{tells, told_if, tell, ask_of}
use Rattle.mdb_proxies.specs.View.{ProxyView}
use Rattle.mdb_proxies.proofs.Bools.{left, right, both}
use Rattle.mdb_proxies.proofs.Kept.{made-later, made-append}
use Rattle.mdb_proxies.proofs.Order.{Next, next-first}
use Rattle.mdb_proxy_laws.specs.Asks.{is_taken, is_ask_of, IsAsked, EachAsked, AreAsked}
use Rattle.mdb_proxy_laws.specs.Reaching.{Steps, Reaches, begun}

-- ---- an ask, after more entries

-- the first request stays the first
taken-more : (r : ℕ) (es more : List Entry) → is_taken r es ≡ true → is_taken r (es ++ more) ≡ true
taken-more r [] more h = absurd (let k : false ≡ true = h in cc)
taken-more r (e ∷ es) more h = go (requests r e.step.act) h (taken-more r es more)
  where
    go : (b : Bool) → (if b then not (is_refusal e.reply) else is_taken r es) ≡ true → (is_taken r es ≡ true → is_taken r (es ++ more) ≡ true) → (if b then not (is_refusal e.reply) else is_taken r (es ++ more)) ≡ true
    go true h deeper = h
    go false h deeper = deeper h

-- one that nobody made yet is the first
taken-last : (r : ℕ) (es : List Entry) (e : Entry) → is_requested r es ≡ false → requests r e.step.act ≡ true → is_refusal e.reply ≡ false → is_taken r (es ++ e ∷ []) ≡ true
taken-last r [] e none q n = rw (q, n) refl
taken-last r (x ∷ es) e none q n = go (requests r x.step.act) none (λ k. taken-last r es e k q n)
  where
    go : (b : Bool) → (b || is_requested r es) ≡ false → (is_requested r es ≡ false → is_taken r (es ++ e ∷ []) ≡ true) → (if b then not (is_refusal x.reply) else is_taken r (es ++ e ∷ [])) ≡ true
    go true h deeper = absurd (let k : true ≡ false = h in cc)
    go false h deeper = deeper h

-- ---- after more entries

pub since-more : (log more : List Entry) (x : Asked) → x.entries ≤ length log → since (log ++ more) x ≡ since log x ++ more
since-more log more x h = drop-append-le x.entries log more h

-- every ask that was of a request is
abbrev Covers : List Entry → List Asked → List Entry → List Asked → Type 0
Covers log xs more ys = (r : ℕ) (a : ServerAddress) → list_any (is_ask_of log r a) xs ≡ true → list_any (is_ask_of more r a) ys ≡ true

more-one : (log more : List Entry) (r : ℕ) (a : ServerAddress) (x : Asked) → x.entries ≤ length log → is_ask_of log r a x ≡ true → is_ask_of (log ++ more) r a x ≡ true
more-one log more r a x m h =
    let k : (same_address x.address a && is_taken r (since log x)) ≡ true = right (r == x.request) (same_address x.address a && is_taken r (since log x)) h in
    both (r == x.request) (same_address x.address a && is_taken r (since (log ++ more) x)) (left (r == x.request) (same_address x.address a && is_taken r (since log x)) h)
    (both (same_address x.address a) (is_taken r (since (log ++ more) x)) (left (same_address x.address a) (is_taken r (since log x)) k)
    (subst (λ (es : List Entry). is_taken r es ≡ true) (sym (since-more log more x m)) (taken-more r (since log x) more (right (same_address x.address a) (is_taken r (since log x)) k))))

covers-more : (log more : List Entry) (xs : List Asked) → AreMade (length log) xs → Covers log xs (log ++ more) xs
covers-more log more [] m r a h = absurd (let k : false ≡ true = h in cc)
covers-more log more (x ∷ xs) m r a h = go (is_ask_of log r a x) refl h (covers-more log more xs m.1 r a)
  where
    go : (b : Bool) → is_ask_of log r a x ≡ b → (b || list_any (is_ask_of log r a) xs) ≡ true → (list_any (is_ask_of log r a) xs ≡ true → list_any (is_ask_of (log ++ more) r a) xs ≡ true) → (is_ask_of (log ++ more) r a x || list_any (is_ask_of (log ++ more) r a) xs) ≡ true
    go true i h deeper = or_left (is_ask_of (log ++ more) r a x) (list_any (is_ask_of (log ++ more) r a) xs) (more-one log more r a x m.0 i)
    go false i h deeper = or_right (is_ask_of (log ++ more) r a x) (list_any (is_ask_of (log ++ more) r a) xs) (deeper h)

-- more asks
covers-append : (log : List Entry) (xs : List Asked) (y : Asked) → Covers log xs log (xs ++ y ∷ [])
covers-append log [] y r a h = absurd (let k : false ≡ true = h in cc)
covers-append log (x ∷ xs) y r a h = go (is_ask_of log r a x) h (covers-append log xs y r a)
  where
    go : (b : Bool) → (b || list_any (is_ask_of log r a) xs) ≡ true → (list_any (is_ask_of log r a) xs ≡ true → list_any (is_ask_of log r a) (xs ++ y ∷ []) ≡ true) → (b || list_any (is_ask_of log r a) (xs ++ y ∷ [])) ≡ true
    go true h deeper = refl
    go false h deeper = deeper h

-- asks of which more was told
covers-tell : (log : List Entry) (q : ℕ) (xs : List Asked) → Covers log xs log (tell q xs)
covers-tell log q [] r a h = h
covers-tell log q (x ∷ xs) r a h = go (q == x.request) (covers-tell log q xs r a)
  where
    on : (b : Bool) → (b || list_any (is_ask_of log r a) xs) ≡ true → (list_any (is_ask_of log r a) xs ≡ true → list_any (is_ask_of log r a) (tell q xs) ≡ true) → (b || list_any (is_ask_of log r a) (tell q xs)) ≡ true
    on true h deeper = refl
    on false h deeper = deeper h

    go : (b : Bool) → (list_any (is_ask_of log r a) xs ≡ true → list_any (is_ask_of log r a) (tell q xs) ≡ true) → list_any (is_ask_of log r a) (if b then told_if true x ∷ xs else x ∷ tell q xs) ≡ true
    go true deeper = h
    go false deeper = on (is_ask_of log r a x) h deeper

covers-tell-if : (log : List Entry) (b : Bool) (q : ℕ) (xs : List Asked) → Covers log xs log (tell_if b q xs)
covers-tell-if log true q xs = covers-tell log q xs
covers-tell-if log false q xs = λ r a h. h

made-tell : (n q : ℕ) (xs : List Asked) → AreMade n xs → AreMade n (tell q xs)
made-tell n q [] m = m
made-tell n q (x ∷ xs) m = go (q == x.request) (made-tell n q xs m.1)
  where
    go : (b : Bool) → AreMade n (tell q xs) → AreMade n (if b then told_if true x ∷ xs else x ∷ tell q xs)
    go true deeper = m
    go false deeper = (m.0, deeper)

pub made-tell-if : (n : ℕ) (b : Bool) (q : ℕ) (xs : List Asked) → AreMade n xs → AreMade n (tell_if b q xs)
made-tell-if n true q xs m = made-tell n q xs m
made-tell-if n false q xs m = m

-- ---- entries that are asked

asked-covered : (log : List Entry) (xs : List Asked) (more : List Entry) (ys : List Asked) (a : Act) (reply : Reply) → Covers log xs more ys → IsAsked log xs a reply → IsAsked more ys a reply
asked-covered log xs more ys (act.Request r b) reply c h = λ n. c r b (h n)
asked-covered log xs more ys (act.Collect r) reply c h = tt
asked-covered log xs more ys (act.Return r used) reply c h = tt
asked-covered log xs more ys a reply c h = h

each-covered : (log : List Entry) (xs : List Asked) (more : List Entry) (ys : List Asked) (es : List Entry) → Covers log xs more ys → EachAsked log xs es → EachAsked more ys es
each-covered log xs more ys [] c h = tt
each-covered log xs more ys (e ∷ es) c h = (asked-covered log xs more ys e.step.act e.reply c h.0, each-covered log xs more ys es c h.1)

each-append : (log : List Entry) (xs : List Asked) (es : List Entry) (e : Entry) → EachAsked log xs es → IsAsked log xs e.step.act e.reply → EachAsked log xs (es ++ e ∷ [])
each-append log xs [] e h k = (k, tt)
each-append log xs (x ∷ es) e h k = (h.0, each-append log xs es e h.1 k)

-- what a proxy that began with this entry keeps of its log and its asks
pub record Fits (first : Entry) (log : List Entry) (xs : List Asked) : Type 0 where
  pub later : List Entry
  pub is : log ≡ first ∷ later
  pub each : EachAsked log xs later
  pub made : AreMade (length log) xs

fits-asks : (first : Entry) (log : List Entry) (xs ys : List Asked) → Fits first log xs → Covers log xs log ys → AreMade (length log) ys → Fits first log ys
fits-asks first log xs ys f c m = record { later = f.later; is = f.is; each = each-covered log xs log ys f.later c f.each; made = m }

-- one more entry
fits-entry : (first : Entry) (log : List Entry) (xs : List Asked) (e : Entry) → Fits first log xs → IsAsked (log ++ e ∷ []) xs e.step.act e.reply → Fits first (log ++ e ∷ []) xs
fits-entry first log xs e f h = record {
  later = f.later ++ e ∷ [];
  is = ap (λ (l : List Entry). l ++ e ∷ []) f.is;
  each = each-append (log ++ e ∷ []) xs f.later e (each-covered log xs (log ++ e ∷ []) xs f.later (covers-more log (e ∷ []) xs f.made) f.each) h;
  made = made-later (length log) (length (log ++ e ∷ [])) xs (omega (arith, length-append log (e ∷ []))) f.made;
}

-- ---- what is handed on

any-there : (p : Asked → Bool) (front back : List Asked) (x : Asked) → p x ≡ true → list_any p (front ++ x ∷ back) ≡ true
any-there p [] back x h = rw h refl
any-there p (y ∷ front) back x h = or_right (p y) (list_any p (front ++ x ∷ back)) (any-there p front back x h)

made-there : (n : ℕ) (front back : List Asked) (x : Asked) → AreMade n (front ++ x ∷ back) → x.entries ≤ n
made-there n [] back x m = m.0
made-there n (y ∷ front) back x m = made-there n front back x m.1

-- the request of an ask that is held back
request-asked : (log : List Entry) (xs : List Asked) (x : Asked) (e : Entry) (a : Act) → a ≡ act.Request x.request x.address → e.step.act ≡ a → x.entries ≤ length log → is_held log x ≡ true
    → ((p : Asked → Bool) → p x ≡ true → list_any p xs ≡ true) → IsAsked (log ++ e ∷ []) xs a e.reply
request-asked log xs x e a i j m h there = subst (λ (b : Act). IsAsked (log ++ e ∷ []) xs b e.reply) (sym i) (λ n. there (is_ask_of (log ++ e ∷ []) x.request x.address) (own n))
  where
    asks : requests x.request e.step.act ≡ true
    asks = ap (requests x.request) (j ∙ i) ∙ (Decides-eqb x.request x.request).1 refl

    own : is_refusal e.reply ≡ false → is_ask_of (log ++ e ∷ []) x.request x.address x ≡ true
    own n =
        both (x.request == x.request) (same_address x.address x.address && is_taken x.request (since (log ++ e ∷ []) x)) ((Decides-eqb x.request x.request).1 refl)
        (both (same_address x.address x.address) (is_taken x.request (since (log ++ e ∷ []) x)) (own-address x.address)
        (subst (λ (es : List Entry). is_taken x.request es ≡ true) (sym (since-more log (e ∷ []) x m)) (taken-last x.request (since log x) e (not-true (is_requested x.request (since log x)) h) asks n)))

next-asked : (first : Entry) (m : ℕ) (shares : List ℕ) (log : List Entry) (xs : List Asked) (e : Entry) → Fits first log xs → next_request m shares xs log ≡ Some e.step → Fits first (log ++ e ∷ []) xs
next-asked first m shares log xs e f h = go (next_ask shares xs log) refl h
  where
    go : (o : Option Asked) → next_ask shares xs log ≡ o → option_map (request_at m) o ≡ Some e.step → Fits first (log ++ e ∷ []) xs
    go None i h = absurd (let k : ◌≡◌ {A = Option Step} None (Some e.step) = h in cc)
    go (Some x) i h =
        let step : request_at m x ≡ e.step = (let k : Some (request_at m x) ≡ Some e.step = h in cc) in
        let n : Next log shares xs x xs = next-first shares xs log xs x i in
        let act : act.Request x.request x.address ≡ e.step.act = ap (λ (s : Step). s.act) step in
        let there : (p : Asked → Bool) → p x ≡ true → list_any p xs ≡ true = λ p k. subst (λ (l : List Asked). list_any p l ≡ true) (sym n.is) (any-there p n.front n.back x k) in
        let made : x.entries ≤ length log = made-there (length log) n.front n.back x (subst (AreMade (length log)) n.is f.made) in
        fits-entry first log xs e f (request-asked log xs x e e.step.act (sym act) refl made (left (is_held log x) _ n.lag) there)

going-asked : (first : Entry) (m : ℕ) (shares : List ℕ) (xs : List Asked) (log es : List Entry) → Fits first log xs → AreHandedOn m shares xs log es → Fits first (log ++ es) xs
going-asked first m shares xs log [] f a = subst (λ (l : List Entry). Fits first l xs) (sym (append-nil log)) f
going-asked first m shares xs log (e ∷ es) f a =
    subst (λ (l : List Entry). Fits first l xs) (append_assoc log (e ∷ []) es) (going-asked first m shares xs (log ++ e ∷ []) es (next-asked first m shares log xs e f a.1) a.2)

goes-asked : (first : Entry) (m : ℕ) (shares : List ℕ) (xs : List Asked) (log more : List Entry) → Fits first log xs → GoesOn m shares xs log more → Fits first more xs
goes-asked first m shares xs log more f g = subst (λ (l : List Entry). Fits first l xs) (sym g.1) (going-asked first m shares xs log g.0 f g.2)

enters-asked : (first : Entry) (m : ℕ) (shares : List ℕ) (xs : List Asked) (step : Step) (reply : Reply) (log more : List Entry) → Fits first log xs → ((e : Entry) → IsEntry 0 step reply e → IsAsked (log ++ e ∷ []) xs step.act reply)
    → Enters m shares xs step reply log more → Fits first more xs
enters-asked first m shares xs step reply log more f own n =
    let act : step.act ≡ n.entry.step.act = ap (λ (s : Step). s.act) (sym n.is.1) in
    let here : IsAsked (log ++ n.entry ∷ []) xs n.entry.step.act n.entry.reply =
    subst (λ (q : Reply). IsAsked (log ++ n.entry ∷ []) xs n.entry.step.act q) (sym n.is.2) (subst (λ (b : Act). IsAsked (log ++ n.entry ∷ []) xs b reply) act (own n.entry n.is)) in
    goes-asked first m shares xs (log ++ n.entry ∷ []) more (fits-entry first log xs n.entry f here) n.goes_on

-- ---- a whole step

-- what is passed is asked
passed-asked : (log : List Entry) (xs : List Asked) (a : Act) (reply : Reply) → is_passed a ≡ true → IsAsked log xs a reply
passed-asked log xs (act.Request r b) reply h = absurd (let k : false ≡ true = h in cc)
passed-asked log xs (act.Collect r) reply h = tt
passed-asked log xs (act.Return r used) reply h = tt
passed-asked log xs a reply h = h

passed-of : (b : Bool) → (if b then None else Some NotPassed) ≡ None → b ≡ true
passed-of true h = refl
passed-of false h = absurd (let z : Some NotPassed ≡ None = h in cc)

-- the asks stay, whatever was told of them
told-fits : (first : Entry) (m : ℕ) (shares : List ℕ) (new : List Asked) (log more : List Entry) (step : Step) (reply : ProxyReply) (own : Option ProxyReply) → Fits first log new
    → ((e : Entry) (q : Reply) → IsAsked (log ++ e ∷ []) new step.act q) → Replies m shares new step log more reply own → Fits first more new
told-fits first m shares new log more step reply (Some o) f asked p = goes-asked first m shares new log more f p.1
told-fits first m shares new log more step reply None f asked p = enters-asked first m shares new step p.0 log more f (λ e i. asked e p.0) p.2

ask-fits : (first : Entry) (m : ℕ) (shares : List ℕ) (old new : List Asked) (log more : List Entry) (x : Asked) (reply : ProxyReply) (own : Option ProxyReply) → x.entries ≡ length log → (own ≡ None) ⊎ (own ≡ Some Held) → Fits first log old → new ≡ with_ask old x reply
    → Replies m shares new (request_at m x) log more reply own → Fits first more new
ask-fits first m shares old new log more x reply (Some o) h held f n p =
    let is : new ≡ old ++ x ∷ [] = n ∙ ap (with_ask old x) (p.0 ∙ kept held) in
    goes-asked first m shares new log more (subst (Fits first log) (sym is) (fits-asks first log old (old ++ x ∷ []) f (covers-append log old x) (made-append (length log) old x f.made (omega (arith, h))))) p.1
  where
    kept : (Some o ≡ None) ⊎ (Some o ≡ Some Held) → o ≡ Held
    kept (inl e) = absurd (let k : Some o ≡ None = e in cc)
    kept (inr e) = let k : Some o ≡ Some Held = e in cc
ask-fits first m shares old new log more x reply None h held f n p = go (is_refusal p.0) refl
  where
    go : (b : Bool) → is_refusal p.0 ≡ b → Fits first more new
    go true j =
        let is : new ≡ old = n ∙ ap (with_ask old x) p.1 ∙ (rw j refl) in
        let g : Fits first log new = subst (Fits first log) (sym is) f in
        enters-asked first m shares new (request_at m x) p.0 log more g (λ e i k. absurd (let z : true ≡ false = sym j ∙ k in cc)) p.2
    go false j =
        let told : Asked = told_if (tells p.0) x in
        let is : new ≡ old ++ told ∷ [] = n ∙ ap (with_ask old x) p.1 ∙ (rw j refl) in
        let at : told.entries ≡ length log = told-entries (tells p.0) ∙ h in
        let g : Fits first log new = subst (Fits first log) (sym is) (fits-asks first log old (old ++ told ∷ []) f (covers-append log old told) (made-append (length log) old told f.made (omega (arith, at)))) in
        let held : is_held log told ≡ true = ap (λ (es : List Entry). not (is_requested told.request es)) (ap (λ (k : ℕ). drop k log) at ∙ drop-length log) in
        let there : (t : Asked → Bool) → t told ≡ true → list_any t new ≡ true = λ t k. subst (λ (l : List Asked). list_any t l ≡ true) (sym is) (any-there t old [] told k) in
        enters-asked first m shares new (request_at m x) p.0 log more g (λ e i. subst (λ (q : Reply). IsAsked (log ++ e ∷ []) new (act.Request x.request x.address) q) i.2 (request-asked log new told e (act.Request x.request x.address) (told-request (tells p.0)) (ap (λ (s : Step). s.act) i.1) (omega (arith, at)) held there)) p.2
      where
        told-entries : (b : Bool) → (told_if b x).entries ≡ x.entries
        told-entries true = refl
        told-entries false = refl

        told-request : (b : Bool) → act.Request x.request x.address ≡ act.Request (told_if b x).request (told_if b x).address
        told-request true = refl
        told-request false = refl

performs-fits : (first : Entry) (m : ℕ) (shares : List ℕ) (old new : List Asked) (log more : List Entry) (a : ProxyAct) (reply : ProxyReply) → refusal_by shares old log a ≡ None → Performs m shares old new log more a reply → Fits first log old → Fits first more new
performs-fits first m shares old new log more (Ask t r a) reply h p f = ask-fits first m shares old new log more (new_ask log t r a) reply _ refl (own (is_held_off shares old log t a)) f p.asks p.replied
  where
    own : (b : Bool) → ((if b then Some Held else None) ≡ None) ⊎ ((if b then Some Held else None) ≡ Some Held)
    own true = inr refl
    own false = inl refl
performs-fits first m shares old new log more (Collect r) reply h p f =
    let b : Bool = tells_caller (kept_for log (ask_of r old)) reply in
    let g : Fits first log new = subst (Fits first log) (sym p.asks) (fits-asks first log old (tell_if b r old) f (covers-tell-if log b r old) (made-tell-if (length log) b r old f.made)) in
    told-fits first m shares new log more (core_step m (Collect r)) reply (found log (ask_of r old)) g (λ e q. tt) p.replied
performs-fits first m shares old new log more (Finish r used) reply h p f = told-fits first m shares new log more (core_step m (Finish r used)) reply None (subst (Fits first log) (sym p.asks) f) (λ e q. tt) p.replied
performs-fits first m shares old new log more (Pass a) reply h p f =
    told-fits first m shares new log more (core_step m (Pass a)) reply None (subst (Fits first log) (sym p.asks) f) (λ e q. passed-asked (log ++ e ∷ []) new a q (passed-of (is_passed a) h)) p.replied

refusal-in : (m last : ℕ) (o : Option ProxyRefused) → (if nat_lt m last then Some (TimeBack last) else o) ≡ None → o ≡ None
refusal-in m last o h = go (nat_lt m last) h
  where
    go : (b : Bool) → (if b then Some (TimeBack last) else o) ≡ None → o ≡ None
    go true h = absurd (let k : Some (TimeBack last) ≡ None = h in cc)
    go false h = h

steps-fits : (first : Entry) (old new : ProxyView) (s : ProxyStep) → Steps old new s → Fits first old.log old.asks → Fits first new.log new.asks
steps-fits first old new s w f = go (refusal_of old s) refl
  where
    go : (o : Option ProxyRefused) → refusal_of old s ≡ o → Fits first new.log new.asks
    go (Some why) i = subst (λ (v : ProxyView). Fits first v.log v.asks) (sym (w.refused why i).1) f
    go None i = performs-fits first s.moment old.shares old.asks new.asks old.log new.log s.act w.reply (refusal-in s.moment (last_moment (history_of old.log)) (refusal_by old.shares old.asks old.log s.act) i) (w.performs i) f

reached-fits : (first : Entry) (old new : ProxyView) (ss : List ProxyStep) → Reaches old new ss → Fits first old.log old.asks → Fits first new.log new.asks
reached-fits first old new [] w f = subst (λ (v : ProxyView). Fits first v.log v.asks) (sym w) f
reached-fits first old new (s ∷ ss) w f = reached-fits first w.0 new ss w.2 (steps-fits first old w.0 s w.1 f)

pub begun-fits : (shares : List ℕ) (first : Entry) (v : ProxyView) (ss : List ProxyStep) → Reaches (begun shares first) v ss → Fits first v.log v.asks
begun-fits shares first v ss w = reached-fits first (begun shares first) v ss w (record { later = []; is = refl; each = tt; made = tt })

pub reached-asked : (shares : List ℕ) (first : Entry) (v : ProxyView) (ss : List ProxyStep) → Reaches (begun shares first) v ss → AreAsked first v
reached-asked shares first v ss w = let f : Fits first v.log v.asks = begun-fits shares first v ss w in record { later = f.later; is = f.is; each = f.each }
