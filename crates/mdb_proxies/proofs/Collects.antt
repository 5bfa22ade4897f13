-- What is answered to the callers of asks, and to new asks, by what the books say.
use Rattle.std.proofs.Common.{◌≡◌, ℕ, ◌≤◌, ◌<◌, Bool, true, false, not, ◌&&◌, ◌||◌, if◌then◌else◌, nat_le, nat_eq, List, [], ◌∷◌, length, get_or, Option, Some, None, is_some, unwrap_or, Result, Ok, Err, suc, zero, refl, sym, ap, ◌∙◌, subst, arith}
use Rattle.std.specs.HashMap.{get}
use Rattle.std.specs.List.{list_any, HoldsAt}
use Rattle.std.specs.Result.{IfOk}
use Rattle.mdb_base.specs.declared.address.ServerAddress.{ServerAddress}
use Rattle.mdb_log.specs.declared.log.Entry.{Entry}
use Rattle.mdb_log.specs.declared.reply.Reply.{Reply}
use Rattle.mdb_log.specs.declared.step.Use.{Use}
use Rattle.mdb_proxies.specs.declared.asked.Asked.{Asked}
use Rattle.mdb_proxies.specs.declared.asked.Standing.{Standing}
use Rattle.mdb_proxies.specs.declared.books.Books.{Books}
use Rattle.mdb_proxies.specs.declared.step.ProxyReply.{ProxyReply}
use Rattle.mdb_proxies.specs.declared.step.ProxyReply.TheVariants.{Core, Held}
use Rattle.mdb_proxies.specs.declared.step.ProxyAct.TheVariants.{Ask, Collect, Finish}
use Rattle.mdb_proxies.specs.Shares.{share_of}
use Rattle.mdb_proxies.specs.Charge.{is_held, is_held_at, is_at, charge, counts, is_requested, since}
use Rattle.mdb_proxies.specs.Entries.{GoesOn, Enters}
use Rattle.mdb_proxies.specs.Telling.{tells, ask_of, kept_reply, tell, worth_keeping}
use Rattle.mdb_proxies.specs.Recording.{Begun, SameAsks, told_at, tell_at}
use Rattle.mdb_proxies.specs.Replies.{Replies, Performs, is_collectable, is_held_off, found, kept_for, core_step, tell_if, new_ask}
use Rattle.mdb_proxies.specs.Standings.{held_at}
use Rattle.mdb_proxies.specs.Tables.{KeptBy, NotedBy, AreMade, blank, note_of, place_of, is_off_in, standing_if, standings}
use Rattle.mdb_proxies.proofs.AfterEntry.{charge-is}
use Rattle.mdb_proxies.specs.declared.asked.Note.{Note}
use Rattle.mdb_proxies.proofs.Telling.{same_asks}
use Rattle.mdb_proxies.proofs.Places.{told-is, told-same}
use Rattle.mdb_proxies.proofs.Going.{goes-same, enters-same}
use Rattle.mdb_proxies.proofs.Entering.{FoundAt, found-at, not-found, HandedBy, handed-by, held-at}

pub collect-held : (m : ℕ) (shares : List ℕ) (xs : List Asked) (log more : List Entry) (r : ℕ) (x : Asked) → ask_of r xs ≡ Some x → is_held log x ≡ true → GoesOn m shares xs log more → Performs m shares xs xs log more (Collect r) Held
collect-held m shares xs log more r x o h g =
    let e : found log (ask_of r xs) ≡ Some Held = ap (found log) o ∙ (rw h refl) in
    record { asks = refl; replied = subst (λ (p : Option ProxyReply). Replies m shares xs (core_step m (Collect r)) log more Held p) (sym e) (refl, g) }

pub collect-kept : (m : ℕ) (shares : List ℕ) (xs ys : List Asked) (log more : List Entry) (r : ℕ) (x : Asked) (kept : Reply) → ask_of r xs ≡ Some x → is_held log x ≡ false → kept_reply log x ≡ Some kept → ys ≡ tell r xs → GoesOn m shares ys log more
    → Performs m shares xs ys log more (Collect r) (Core kept)
collect-kept m shares xs ys log more r x kept o h k a g =
    let e : found log (ask_of r xs) ≡ Some (Core kept) = ap (found log) o ∙ (rw (h, k) refl) in
    let f : kept_for log (ask_of r xs) ≡ Some kept = ap (kept_for log) o ∙ k in
    record {
      asks = a ∙ sym (ap (λ (p : Option Reply). tell_if (is_some p || tells kept) r xs) f);
      replied = subst (λ (p : Option ProxyReply). Replies m shares ys (core_step m (Collect r)) log more (Core kept) p) (sym e) (refl, g);
    }

pub collect-asked : (m : ℕ) (shares : List ℕ) (xs ys : List Asked) (log more : List Entry) (r : ℕ) (x : Asked) (told : Reply) → ask_of r xs ≡ Some x → is_held log x ≡ false → kept_reply log x ≡ None → ys ≡ tell_if (tells told) r xs
    → Enters m shares ys (core_step m (Collect r)) told log more → Performs m shares xs ys log more (Collect r) (Core told)
collect-asked m shares xs ys log more r x told o h k a n =
    let e : found log (ask_of r xs) ≡ None = ap (found log) o ∙ (rw (h, k) refl) in
    let f : kept_for log (ask_of r xs) ≡ None = ap (kept_for log) o ∙ k in
    record {
      asks = a ∙ sym (ap (λ (p : Option Reply). tell_if (is_some p || tells told) r xs) f);
      replied = subst (λ (p : Option ProxyReply). Replies m shares ys (core_step m (Collect r)) log more (Core told) p) (sym e) (told, refl, n);
    }

pub finish-done : (m : ℕ) (shares : List ℕ) (xs ys : List Asked) (log more : List Entry) (r : ℕ) (used : Use) (told : Reply) → ys ≡ xs → Enters m shares ys (core_step m (Finish r used)) told log more → Performs m shares xs ys log more (Finish r used) (Core told)
finish-done m shares xs ys log more r used told a n = record { asks = a; replied = (told, refl, n) }

-- an ask that may be collected is there
pub collectable-found : (log : List Entry) (b : Books) (r : ℕ) (o : Option ℕ) → o ≡ get nat_eq b.known r → KeptBy log b → NotedBy log b → is_collectable log (ask_of r b.asks.items) ≡ true → (i : ℕ) × (o ≡ Some i) × FoundAt log b r i
collectable-found log b r None h keeps notes c =
    let none : ask_of r b.asks.items ≡ None = not-found log b r keeps (sym h) in
    absurd (let z : false ≡ true = subst (λ (p : Option Asked). is_collectable log p ≡ true) none c in cc)
collectable-found log b r (Some i) h keeps notes c = (i, refl, found-at log b r i keeps notes (sym h))

-- ---- what holds a new ask back

one-held : (h c b : Bool) (y : Asked) (t : ℕ) (a : ServerAddress) (os : List Standing) (n : Bool) → is_at t a y ≡ b → list_any (held_at t a) os ≡ n → list_any (held_at t a) (standing_if (not h) c y os) ≡ ((b && not h) || n)
one-held true true true y t a os n i j = (rw i refl) ∙ j
one-held true true false y t a os n i j = (rw i refl) ∙ j
one-held true false true y t a os n i j = j
one-held true false false y t a os n i j = j
one-held false c true y t a os n i j = rw i refl
one-held false c false y t a os n i j = (rw i refl) ∙ j

held-is : (log : List Entry) (xs : List Asked) (t : ℕ) (a : ServerAddress) → list_any (held_at t a) (standings log xs) ≡ is_held_at xs log t a
held-is log [] t a = refl
held-is log (y ∷ ys) t a = one-held (is_requested y.request (since log y)) (counts log y) (is_at t a y) y t a (standings log ys) (is_held_at ys log t a) refl (held-is log ys t a)

-- The books hold a new ask back where the rules do.
pub off-is : (shares : List ℕ) (log : List Entry) (xs : List Asked) (t : ℕ) (a : ServerAddress) → is_off_in shares (standings log xs) t a ≡ is_held_off shares xs log t a
off-is shares log xs t a = ap (λ (n : ℕ). nat_le (share_of shares t) n || list_any (held_at t a) (standings log xs)) (charge-is log xs t a) ∙ ap (λ b. nat_le (share_of shares t) (charge xs log t a) || b) (held-is log xs t a)

-- what was made of a new ask
pub ask-done : (m : ℕ) (shares : List ℕ) (xs ys : List Asked) (log more : List Entry) (t r : ℕ) (a : ServerAddress) (reply : ProxyReply) (off : Bool) → off ≡ is_held_off shares xs log t a
    → Begun m shares xs (new_ask log t r a) log more ys reply (if off then Some Held else None) → Performs m shares xs ys log more (Ask t r a) reply
ask-done m shares xs ys log more t r a reply off h b = record {
  asks = b.asks;
  replied = subst (λ (c : Bool). Replies m shares ys (core_step m (Ask t r a)) log more reply (if c then Some Held else None)) h b.replied;
}

-- ---- the ask of a number, by what the books say of it

-- the ask that may be collected stands at the place that the books name
pub spot : (log : List Entry) (b : Books) (r place : ℕ) (o : Option ℕ) → o ≡ get nat_eq b.known r → place ≡ unwrap_or o 0 → KeptBy log b → NotedBy log b → is_collectable log (ask_of r b.asks.items) ≡ true → FoundAt log b r place
spot log b r place o h e keeps notes c =
    let f = collectable-found log b r o h keeps notes c in
    let i : place ≡ f.0 = e ∙ ap (λ (p : Option ℕ). unwrap_or p 0) f.1 in
    subst (λ (k : ℕ). FoundAt log b r k) (sym i) f.2

-- the entry that handed it on, as the notes name it
pub spot-handed : (log : List Entry) (b : Books) (r place : ℕ) (o : Option ℕ) → (f : FoundAt log b r place) → (place < length b.notes.items → HoldsAt (λ n. o ≡ n.handed) b.notes.items place) → o ≡ (note_of log f.ask).handed
spot-handed log b r place o f h = h (omega (arith, f.among, f.placed.within)) blank ∙ ap (λ (n : Note). n.handed) (f.noted blank)

pub made-at : (n : ℕ) (xs : List Asked) (i : ℕ) (x : Asked) → AreMade n xs → i < length xs → ((d : Asked) → get_or xs i d ≡ x) → x.entries ≤ n
made-at n [] i x m h a = absurd (omega (arith, h))
made-at n (y ∷ ys) zero x m h a = subst (λ (z : Asked). z.entries ≤ n) (a y) m.0
made-at n (y ∷ ys) (suc i) x m h a = made-at n ys i x m.1 (omega (arith, h)) a

-- where it was handed on, it is not held back, and the entry is there
pub spot-entry : (log : List Entry) (b : Books) (r place at : ℕ) (o : Option ℕ) → (f : FoundAt log b r place) → KeptBy log b → o ≡ Some at → o ≡ (note_of log f.ask).handed → HandedBy log f.ask at × (is_held log f.ask ≡ false)
spot-entry log b r place at o f keeps e h =
    (handed-by log f.ask at (made-at (length log) b.asks.items place f.ask keeps.made f.placed.within f.placed.at) (sym h ∙ e), held-at log f.ask o h ∙ ap (λ (p : Option ℕ). not (is_some p)) e)

-- the reply that is kept, as the proxy finds it
pub kept-is : (log : List Entry) (b : Books) (r place at : ℕ) (o : Option Reply) → (f : FoundAt log b r place) → HandedBy log f.ask at
    → HoldsAt (λ x. HoldsAt (λ e. o ≡ (if x.told then None else worth_keeping (Some e.reply))) log at) b.asks.items place → o ≡ kept_reply log f.ask
kept-is log b r place at o f w h = go log refl
  where
    go : (es : List Entry) → log ≡ es → o ≡ kept_reply log f.ask
    go [] e = absurd (omega (arith, w.within, ap length e))
    go (d ∷ ds) e =
        h f.ask d ∙ ap (λ (x : Asked). if x.told then None else worth_keeping (Some (get_or log at d).reply)) (f.placed.at f.ask)
        ∙ ap (λ (p : Option Reply). if f.ask.told then None else worth_keeping p) (sym (w.replied d))

tell-at-is : (b : Bool) (r i : ℕ) (xs : List Asked) → place_of r xs ≡ Some i → tell_at b i xs ≡ tell_if b r xs
tell-at-is true r i xs h = told-is r i xs h
tell-at-is false r i xs h = refl

tell-at-same : (b : Bool) (i : ℕ) (xs : List Asked) → SameAsks xs (tell_at b i xs)
tell-at-same true i xs = told-same i xs
tell-at-same false i xs = same_asks xs

pub if-ok : {A E : Type 0} {P Q : A → Type 0} (r : Result A E) → ((x : A) → P x → Q x) → IfOk r P → IfOk r Q
if-ok (Ok x) f h = f x h
if-ok (Err e) f h = tt

-- the kept reply was told
pub released : (m : ℕ) (shares : List ℕ) (log more : List Entry) (b : Books) (r place : ℕ) (kept : Reply) (ys : List Asked) (f : FoundAt log b r place) → is_held log f.ask ≡ false → kept_reply log f.ask ≡ Some kept
    → (reply : ProxyReply) → (reply ≡ Core kept) × (ys ≡ told_at place b.asks.items) × GoesOn m shares b.asks.items log more → Performs m shares b.asks.items ys log more (Collect r) reply
released m shares log more b r place kept ys f h k reply p =
    let xs : List Asked = b.asks.items in
    let g : GoesOn m shares ys log more = subst (λ (l : List Asked). GoesOn m shares l log more) (sym p.1) (goes-same m shares xs (told_at place xs) log more (told-same place xs) p.2) in
    subst (λ (q : ProxyReply). Performs m shares xs ys log more (Collect r) q) (sym p.0) (collect-kept m shares xs ys log more r f.ask kept f.placed.of h k (p.1 ∙ told-is r place xs f.named) g)

-- the core was asked
pub asked-core : (m : ℕ) (shares : List ℕ) (log more : List Entry) (b : Books) (r place : ℕ) (ys : List Asked) (f : FoundAt log b r place) → is_held log f.ask ≡ false → kept_reply log f.ask ≡ None
    → (reply : ProxyReply) → (told : Reply) × (reply ≡ Core told) × (ys ≡ tell_at (tells told) place b.asks.items) × Enters m shares b.asks.items (core_step m (Collect r)) told log more → Performs m shares b.asks.items ys log more (Collect r) reply
asked-core m shares log more b r place ys f h k reply p =
    let xs : List Asked = b.asks.items in
    let t : Reply = p.0 in
    let e : Enters m shares ys (core_step m (Collect r)) t log more
    = subst (λ (l : List Asked). Enters m shares l (core_step m (Collect r)) t log more) (sym p.2) (enters-same m shares xs (tell_at (tells t) place xs) (core_step m (Collect r)) t log more (tell-at-same (tells t) place xs) p.3) in
    subst (λ (q : ProxyReply). Performs m shares xs ys log more (Collect r) q) (sym p.1) (collect-asked m shares xs ys log more r f.ask t f.placed.of h k (p.2 ∙ tell-at-is (tells t) r place xs f.named) e)
