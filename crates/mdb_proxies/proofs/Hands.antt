-- An ask that is handed on leaves the books sound.
use Rattle.std.proofs.Common.{◌≡◌, ℕ, ◌+◌, ◌<◌, Bool, true, false, ◌&&◌, ◌||◌, nat_lt, nat_le, List, [], ◌∷◌, ◌++◌, length, get_or, take, drop, ◌-◌, length-append, Option, refl, sym, ap, ◌∙◌, subst, arith}
use Rattle.std.specs.List.{list_any, HoldsAt}
use Rattle.std.proofs.lemmas.Bool.Decides.{Decides-eqb, nat_tests}
use Rattle.std.proofs.lemmas.List.Recursion.{or_push}
use Rattle.std.proofs.Math.Seq.{get_or-append_seam}
use Rattle.mdb_base.specs.declared.address.ServerAddress.{ServerAddress}
use Rattle.mdb_log.specs.declared.log.Entry.{Entry}
use Rattle.mdb_log.specs.declared.reply.Reply.{Reply}
use Rattle.mdb_log.specs.declared.step.Step.{Step}
use Rattle.mdb_log.specs.declared.step.Act.TheVariants.{Request}
use Rattle.mdb_proxies.specs.declared.asked.Asked.{Asked}
use Rattle.mdb_proxies.specs.declared.asked.Standing.{Standing}
use Rattle.mdb_proxies.specs.Charge.{requests}
use Rattle.mdb_proxies.specs.Shares.{share_of}
use Rattle.mdb_proxies.specs.Handing.{Entered, IsRequestAt}
use Rattle.mdb_proxies.specs.Standings.{standing_at, held_at, charge_in}
use Rattle.mdb_proxies.specs.Tables.{held_in, may_go, some_may_go, after_entry, AreWithin, Keeps, is_off_in}
use Rattle.mdb_proxies.proofs.Bools.{left, right, first, rest, other}
use Rattle.mdb_proxies.proofs.Within.{NoneRequested, SingleStandings, handed-within, handed-fewer, standing-is, charge-append, held-uncharged}
use Rattle.mdb_proxies.proofs.Numbers.{free-none, split-free, single-standings, around}
use Rattle.mdb_proxies.proofs.Kept.{keeps-entered}

-- what is left after an ask was handed on
pub record HandsOn (shares : List ℕ) (more : List Entry) (os ps : List Standing) (xs : List Asked) (known : ℕ → Option ℕ) : Type 0 where
  pub keeps : Keeps more ps xs known
  pub within : AreWithin shares ps
  pub fewer : held_in ps < held_in os

pub hands-on : (shares : List ℕ) (log more : List Entry) (os ps : List Standing) (xs : List Asked) (known : ℕ → Option ℕ) (moment i : ℕ) (step : Step) (reply : Reply) → i < length os
    → HoldsAt (λ o. may_go shares os o ≡ true) os i → IsRequestAt moment os i step → Entered step reply log more os ps → Keeps log os xs known → AreWithin shares os → HandsOn shares more os ps xs known
hands-on shares log more os ps xs known moment i step reply h m r e k w =
    let o : Standing = r.0 in
    let front : List Standing = take i os in
    let back : List Standing = drop (i + 1) os in
    let split : os ≡ front ++ o ∷ back = around os i o h r.1 in
    let act : e.entry.step.act ≡ Request o.request o.address = ap (λ (s : Step). s.act) (e.is.1 ∙ r.2) in
    let asked : requests o.request e.entry.step.act ≡ true = ap (requests o.request) act ∙ (Decides-eqb o.request o.request).1 refl in
    let goes : may_go shares os o ≡ true = subst (λ (x : Standing). may_go shares os x ≡ true) (sym r.1) (m o) in
    let held : o.held ≡ true = left o.held (nat_lt (charge_in os o.tenant o.address) (share_of shares o.tenant)) goes in
    let single : SingleStandings (front ++ o ∷ back) = subst SingleStandings (sym k.standing ∙ split) (single-standings log xs k.single) in
    let free = split-free front back o single in
    let nf : NoneRequested e.entry front = free-none e.entry o.request o.address front act free.0 in
    let nb : NoneRequested e.entry back = free-none e.entry o.request o.address back act free.1 in
    let within : AreWithin shares (after_entry e.entry (front ++ o ∷ back)) = handed-within shares e.entry front back o held asked nf nb (subst (λ (l : List Standing). may_go shares l o ≡ true) split goes) (subst (AreWithin shares) split w) in
    let fewer : held_in (after_entry e.entry (front ++ o ∷ back)) < held_in (front ++ o ∷ back) = handed-fewer e.entry front back o held asked in
    let is : ps ≡ after_entry e.entry (front ++ o ∷ back) = e.after ∙ ap (after_entry e.entry) split in
    record {
      keeps = keeps-entered log more e.entry os ps xs known e.grown e.after k;
      within = subst (AreWithin shares) (sym is) within;
      fewer = subst (λ (l : List Standing). held_in ps < held_in l) (sym split) (subst (λ (l : List Standing). held_in l < held_in (front ++ o ∷ back)) (sym is) fewer);
    }

-- a step that is no request
pub none-requested : (e : Entry) (os : List Standing) → ((r : ℕ) → requests r e.step.act ≡ false) → NoneRequested e os
none-requested e [] n = tt
none-requested e (o ∷ os) n = (n o.request, none-requested e os n)

-- ---- an ask that the rules hold back

pub any-same : (p q : Standing → Bool) (xs : List Standing) → ((x : Standing) → p x ≡ q x) → list_any p xs ≡ list_any q xs
any-same p q [] h = refl
any-same p q (x ∷ xs) h = ap (λ b. b || list_any p xs) (h x) ∙ ap (λ b. q x || b) (any-same p q xs h)

-- one more that is held back changes no charge
pub push-charge : (os : List Standing) (o : Standing) (t : ℕ) (a : ServerAddress) → o.held ≡ true → charge_in (os ++ o ∷ []) t a ≡ charge_in os t a
push-charge os o t a h = charge-append os (o ∷ []) t a ∙ ap (λ n. charge_in os t a + n) (held-uncharged o [] t a h) ∙ omega arith

pub push-within : (shares : List ℕ) (os : List Standing) (o : Standing) → o.held ≡ true → AreWithin shares os → AreWithin shares (os ++ o ∷ [])
push-within shares os o h w = λ t a. rw (push-charge os o t a h) (w t a)

full : (shares : List ℕ) (os ys : List Standing) (t : ℕ) (a : ServerAddress) → list_any (held_at t a) ys ≡ true → list_any (may_go shares os) ys ≡ false → nat_lt (charge_in os t a) (share_of shares t) ≡ false
full shares os [] t a h g = absurd (let k : false ≡ true = h in cc)
full shares os (y ∷ ys) t a h g = go (held_at t a y) refl (λ k. full shares os ys t a k (rest (may_go shares os y) (list_any (may_go shares os) ys) g))
  where
    go : (b : Bool) → held_at t a y ≡ b → (list_any (held_at t a) ys ≡ true → nat_lt (charge_in os t a) (share_of shares t) ≡ false) → nat_lt (charge_in os t a) (share_of shares t) ≡ false
    go true i ih =
        let is : (y.tenant ≡ t) × (y.address ≡ a) = standing-is t a y (left (standing_at t a y) y.held i) in
        let own : nat_lt (charge_in os y.tenant y.address) (share_of shares y.tenant) ≡ false = other y.held (nat_lt (charge_in os y.tenant y.address) (share_of shares y.tenant)) (right (standing_at t a y) y.held i) (first (may_go shares os y) (list_any (may_go shares os) ys) g) in
        let there : nat_lt (charge_in os t y.address) (share_of shares t) ≡ false = subst (λ (k : ℕ). nat_lt (charge_in os k y.address) (share_of shares k) ≡ false) is.0 own in
        subst (λ (x : ServerAddress). nat_lt (charge_in os t x) (share_of shares t) ≡ false) is.1 there
    go false i ih = ih (subst (λ (b : Bool). (b || list_any (held_at t a) ys) ≡ true) i h)

not-below : (m n : ℕ) → nat_le n m ≡ true → nat_lt m n ≡ false
not-below m n h = grind (arith, nat_tests)

off-full : (shares : List ℕ) (os : List Standing) (t : ℕ) (a : ServerAddress) → is_off_in shares os t a ≡ true → some_may_go shares os ≡ false → nat_lt (charge_in os t a) (share_of shares t) ≡ false
off-full shares os t a h g = go (nat_le (share_of shares t) (charge_in os t a)) refl
  where
    go : (b : Bool) → nat_le (share_of shares t) (charge_in os t a) ≡ b → nat_lt (charge_in os t a) (share_of shares t) ≡ false
    go true i = not-below (charge_in os t a) (share_of shares t) i
    go false i = full shares os os t a (subst (λ (b : Bool). (b || list_any (held_at t a) os) ≡ true) i h) g

-- Where no ask may go, none may after one that the rules hold back.
pub off-stays : (shares : List ℕ) (os : List Standing) (o : Standing) → o.held ≡ true → is_off_in shares os o.tenant o.address ≡ true → some_may_go shares os ≡ false → some_may_go shares (os ++ o ∷ []) ≡ false
off-stays shares os o h off g =
    let same : (y : Standing) → may_go shares (os ++ o ∷ []) y ≡ may_go shares os y = λ y. ap (λ n. y.held && nat_lt n (share_of shares y.tenant)) (push-charge os o y.tenant y.address h) in
    or_push (list_any (may_go shares (os ++ o ∷ []))) (may_go shares (os ++ o ∷ [])) refl (λ _ _. refl) os o
    ∙ ap (λ b. b || may_go shares (os ++ o ∷ []) o) (any-same (may_go shares (os ++ o ∷ [])) (may_go shares os) os same ∙ g)
    ∙ same o ∙ ap (λ b. b && nat_lt (charge_in os o.tenant o.address) (share_of shares o.tenant)) h ∙ off-full shares os o.tenant o.address off g

-- An ask that the rules do not hold back may go.
pub on-goes : (shares : List ℕ) (os : List Standing) (o : Standing) → o.held ≡ true → is_off_in shares os o.tenant o.address ≡ false → may_go shares (os ++ o ∷ []) o ≡ true
on-goes shares os o h off =
    ap (λ n. o.held && nat_lt n (share_of shares o.tenant)) (push-charge os o o.tenant o.address h)
    ∙ ap (λ b. b && nat_lt (charge_in os o.tenant o.address) (share_of shares o.tenant)) h
    ∙ below (charge_in os o.tenant o.address) (share_of shares o.tenant) (first (nat_le (share_of shares o.tenant) (charge_in os o.tenant o.address)) (list_any (held_at o.tenant o.address) os) off)
  where
    below : (m n : ℕ) → nat_le n m ≡ false → nat_lt m n ≡ true
    below m n i = grind (arith, nat_tests)

-- ---- the newest entry

pub newest-is : (log more : List Entry) (e n : Entry) → more ≡ log ++ e ∷ [] → n ≡ get_or more (length more - 1) n → n ≡ e
newest-is log more e n g h =
    let last : length (log ++ e ∷ []) - 1 ≡ length log = omega (arith, length-append log (e ∷ [])) in
    h ∙ ap (λ (l : List Entry). get_or l (length l - 1) n) g ∙ ap (λ (k : ℕ). get_or (log ++ e ∷ []) k n) last ∙ get_or-append_seam log e [] n
