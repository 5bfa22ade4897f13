-- Each request of a pool was asked by an accepted entry, at the address of that pool.
use Rattle.std.proofs.Common.{ℕ, ◌≡◌, ◌==◌, ◌⊎◌, inl, inr, ◌<◌, Bool, true, false, not, ◌||◌, List, [], ◌∷◌, ◌++◌, length, map, Option, Some, None, zero, suc, refl, sym, ◌∙◌, ap, subst, arith, append-nil, append_assoc}
use Rattle.std.specs.Prelude.{slice_get}
use Rattle.std.proofs.lemmas.Bool.Decides.{Decides-eqb}
use Rattle.mdb_base.specs.Equality.{same_address}
use Rattle.mdb_base.specs.declared.address.ServerAddress.{ServerAddress}
use Rattle.mdb_base.specs.declared.options.Options.{Options}
use Rattle.mdb_events.specs.declared.fact.Fact.{Fact}
use Rattle.mdb_events.specs.declared.fact.Fact.TheVariants.{Opened}
use Rattle.mdb_log.specs.declared.log.Entry.{Entry}
use Rattle.mdb_log.specs.declared.step.Step.{Step}
use Rattle.mdb_log.specs.declared.step.Act.{Act}
use Rattle.mdb_log.specs.declared.step.Act.TheVariants as act
use Rattle.mdb_log.specs.declared.reply.Reply.{Reply}
use Rattle.mdb_log.specs.declared.reply.Reply.TheVariants.{Refused}
use Rattle.mdb_log.specs.Driver.{is_refusal}
use Rattle.mdb_log.specs.History.{Item, did, made, PoolItem, is_number, of_pool, open_pool, has_asked, after_facts, with_act, with_facts, with_answer, history_of}
use Rattle.mdb_log.specs.Homes.{Home, homes}
use Rattle.mdb_log.proofs.Later.{of_pool-with_facts, with_entries-append}
use Rattle.mdb_log.proofs.Frame.{asked-fact}
use Rattle.mdb_log.specs.declared.options.PoolOptions.{PoolOptions}
use Rattle.mdb_log.specs.Opening.{pool_options}
use Rattle.mdb_pool.specs.Core.{PoolCore}
use Rattle.mdb_pool.specs.Now.{is_closed_now}
use Rattle.mdb_topology.specs.declared.topology.TopologyCore.{TopologyCore}
use Rattle.mdb_driver_rules.specs.Lines.{entry_after}
use Rattle.mdb_topology.specs.Logging.{opening_step, Stood, AreDriven, IsDriverOf}
use Rattle.mdb_driver_pools.specs.Standing.{home, is_open_at, at_address, PoolsFit}
use Rattle.mdb_driver_rules.proofs.General.OneElement.{position-at, position-within}
use Rattle.mdb_histories.proofs.OfPlain.Frames.{asks, asked-act}
use Rattle.mdb_proxies.proofs.Bools.{left, right}
use Rattle.mdb_proxies.proofs.Within.{same-address}
use Rattle.mdb_proxy_laws.proofs.Steps.{is_proxied, AreProxied}

-- the pool has this address
pub record IsHome (h : List Item) (p : ℕ) (a : ServerAddress) : Type 0 where
  pub home : Home
  pub at : slice_get (homes h) p ≡ Some home
  pub is : home.address ≡ a

-- one of the entries, an accepted one, is the request at the address of the pool
pub record IsAskedAt (es : List Entry) (h : List Item) (p r : ℕ) : Type 0 where
  pub front : List Entry
  pub entry : Entry
  pub back : List Entry
  pub address : ServerAddress
  pub is : es ≡ front ++ entry ∷ back
  pub request : entry.step.act ≡ act.Request r address
  pub accepted : is_refusal entry.reply ≡ false
  pub home : IsHome h p address

-- so is each request of each pool
abbrev pub AreAskedAt : List Entry → List Item → Type 0
AreAskedAt es h = (p r : ℕ) → has_asked (of_pool p h) r ≡ true → IsAskedAt es h p r

-- ---- homes stay

some-same : {A : Type 0} (x y : A) → Some x ≡ Some y → x ≡ y
some-same x y e = cc

cons-tail : {A : Type 0} (x y : A) (xs ys : List A) → x ∷ xs ≡ y ∷ ys → xs ≡ ys
cons-tail x y xs ys e = cc

number-is : (o : Option ℕ) (p : ℕ) → is_number o p ≡ true → o ≡ Some p
number-is None p e = absurd (let k : false ≡ true = e in cc)
number-is (Some q) p e = ap (λ k. Some k) ((Decides-eqb q p).0 e)

get-more : {A : Type 0} (xs ys : List A) (p : ℕ) (x : A) → slice_get xs p ≡ Some x → slice_get (xs ++ ys) p ≡ Some x
get-more [] ys p x e = absurd (let k : None ≡ Some x = e in cc)
get-more (y ∷ xs) ys zero x e = e
get-more (y ∷ xs) ys (suc p) x e = get-more xs ys p x e

-- the later history has the homes of the earlier one, and maybe more
HasMore : List Item → List Item → Type 0
HasMore h k = (more : List Home) × (homes k ≡ homes h ++ more)

home-more : (h k : List Item) (p : ℕ) (a : ServerAddress) → HasMore h k → IsHome h p a → IsHome k p a
unfolding HasMore
home-more h k p a m w = record { home = w.home; at = ap (λ (l : List Home). slice_get l p) m.1 ∙ get-more (homes h) m.0 p w.home w.at; is = w.is }

fact-more : (m : ℕ) (f : Fact) (h k : List Item) → HasMore h k → HasMore h (made m f ∷ k)
unfolding HasMore
fact-more m (Opened p a) h k w = (w.0 ++ record { number = p; address = a } ∷ [], ap (λ (l : List Home). l ++ record { number = p; address = a } ∷ []) w.1 ∙ append_assoc (homes h) w.0 (record { number = p; address = a } ∷ []))
fact-more m _ h k w = w

facts-more : (m : ℕ) (fs : List Fact) (h k : List Item) → HasMore h k → HasMore h (with_facts m fs k)
facts-more m [] h k w = w
facts-more m (f ∷ fs) h k w = facts-more m fs h (made m f ∷ k) (fact-more m f h k w)

same-more : (h : List Item) → HasMore h h
unfolding HasMore
same-more h = ([], sym (append-nil (homes h)))

step-more : (step : Step) (reply : Reply) (h : List Item) → HasMore h (did step reply ∷ h)
unfolding HasMore
step-more step reply h = ([], sym (append-nil (homes h)))

answer-more : (step : Step) (reply : Reply) (fs : List Fact) (h : List Item) → HasMore h (with_answer step reply fs h)
answer-more step (Refused why) fs h = same-more h
answer-more step reply fs h = facts-more step.moment fs h (did step reply ∷ h) (step-more step reply h)

-- ---- requests

asked-facts : (p m r : ℕ) (fs : List Fact) (xs : List PoolItem) → has_asked (after_facts p m fs xs) r ≡ has_asked xs r
asked-facts p m r [] xs = refl
asked-facts p m r (f ∷ fs) xs = asked-facts p m r fs _ ∙ asked-fact p m r f xs

get-within : {A : Type 0} (xs : List A) (p : ℕ) → p < length xs → (x : A) × (slice_get xs p ≡ Some x)
get-within [] p l = absurd (omega (arith, l))
get-within (x ∷ xs) zero l = (x, refl)
get-within (x ∷ xs) (suc p) l = get-within xs p (omega (arith, l))

get-map : {A B : Type 0} (f : A → B) (xs : List A) (p : ℕ) (x : A) → slice_get xs p ≡ Some x → slice_get (map f xs) p ≡ Some (f x)
get-map f [] p x e = absurd (let k : None ≡ Some x = e in cc)
get-map f (y ∷ xs) zero x e = ap (λ z. Some (f z)) (let k : Some y ≡ Some x = e in some-same y x k)
get-map f (y ∷ xs) (suc p) x e = get-map f xs p x e

-- the pool that is open at an address has that address
open-home : (o : PoolOptions) (pools : List PoolCore) (h : List Item) (a : ServerAddress) (p : ℕ) → PoolsFit o pools h → open_pool h a ≡ Some p → IsHome h p a
open-home o pools h a p z e =
    let at : at_address pools a ≡ Some p = sym (z.open_are a) ∙ e in
    let found = get-within pools p (position-within (is_open_at a) pools p at) in
    let opened : is_open_at a found.0 ≡ true = (position-at (is_open_at a) pools p found.0 at found.1).0 in
    let here : found.0.address ≡ a = same-address found.0.address a (right (not (is_closed_now found.0)) (same_address found.0.address a) opened) in
    record { home = home found.0; at = ap (λ (l : List Home). slice_get l p) z.homes_are ∙ get-map home pools p found.0 found.1; is = here }

-- ---- one more entry

there-more : (es more : List Entry) (h k : List Item) (p r : ℕ) → HasMore h k → IsAskedAt es h p r → IsAskedAt (es ++ more) k p r
there-more es more h k p r m w = record {
  front = w.front;
  entry = w.entry;
  back = w.back ++ more;
  address = w.address;
  is = ap (λ (l : List Entry). l ++ more) w.is ∙ append_assoc w.front (w.entry ∷ w.back) more;
  request = w.request;
  accepted = w.accepted;
  home = home-more h k p w.address m w.home;
}

-- what the act of an accepted entry asks
act-asked : (o : PoolOptions) (pools : List PoolCore) (es : List Entry) (h k : List Item) (e : Entry) (p r : ℕ) → PoolsFit o pools h → HasMore h k → is_proxied e.step.act ≡ true → is_refusal e.reply ≡ false → (a : Act) → e.step.act ≡ a → is_proxied a ≡ true
    → asks p (open_pool h) a r ≡ true → IsAskedAt (es ++ e ∷ []) k p r
act-asked o pools es h k e p r z m proxied n (act.Request q b) i acts c =
    let number : is_number (open_pool h b) p ≡ true = left (is_number (open_pool h b) p) (q == r) c in
    let same : q ≡ r = (Decides-eqb q r).0 (right (is_number (open_pool h b) p) (q == r) c) in
    record {
      front = es;
      entry = e;
      back = [];
      address = b;
      is = refl;
      request = i ∙ ap (λ (j : ℕ). act.Request j b) same;
      accepted = n;
      home = home-more h k p b m (open-home o pools h b p z (number-is (open_pool h b) p number));
    }
act-asked o pools es h k e p r z m proxied n (act.Warm q b) i acts c = absurd (let x : false ≡ true = acts in cc)
act-asked o pools es h k e p r z m proxied n _ i acts c = absurd (let x : false ≡ true = c in cc)

answered-asked : (p r : ℕ) (step : Step) (reply : Reply) (fs : List Fact) (h : List Item) → has_asked (of_pool p (with_answer step reply fs h)) r ≡ true
    → (has_asked (of_pool p h) r ≡ true) ⊎ ((is_refusal reply ≡ false) × (asks p (open_pool h) step.act r ≡ true))
answered-asked p r step (Refused why) fs h e = inl e
answered-asked p r step reply fs h e = go (asks p (open_pool h) step.act r) refl (sym (asked-act p (open_pool h) step.moment (of_pool p h) r step.act) ∙ (sym (asked-facts p step.moment r fs (with_act p h step)) ∙ (sym (ap (λ ys. has_asked ys r) (of_pool-with_facts p step.moment fs (did step reply ∷ h))) ∙ e)))
  where
    go : (b : Bool) → asks p (open_pool h) step.act r ≡ b → (b || has_asked (of_pool p h) r) ≡ true → (has_asked (of_pool p h) r ≡ true) ⊎ ((is_refusal reply ≡ false) × (asks p (open_pool h) step.act r ≡ true))
    go true i e = inr (refl, i)
    go false i e = inl e

asked-entry : (o : PoolOptions) (pools : List PoolCore) (es : List Entry) (h : List Item) (e : Entry) → PoolsFit o pools h → is_proxied e.step.act ≡ true → AreAskedAt es h → AreAskedAt (es ++ e ∷ []) (with_answer e.step e.reply e.facts h)
asked-entry o pools es h e z proxied w p r a = on (answered-asked p r e.step e.reply e.facts h a)
  where
    more : HasMore h (with_answer e.step e.reply e.facts h)
    more = answer-more e.step e.reply e.facts h

    on : (has_asked (of_pool p h) r ≡ true) ⊎ ((is_refusal e.reply ≡ false) × (asks p (open_pool h) e.step.act r ≡ true)) → IsAskedAt (es ++ e ∷ []) (with_answer e.step e.reply e.facts h) p r
    on (inl k) = there-more es (e ∷ []) h (with_answer e.step e.reply e.facts h) p r more (w p r k)
    on (inr k) = act-asked o pools es h (with_answer e.step e.reply e.facts h) e p r z more proxied k.0 e.step.act refl proxied k.1

driven-asked : (o : Options) (first : Entry) (log es : List Entry) → Stood o (first ∷ log) → AreDriven o (first ∷ log) es → AreProxied es → AreAskedAt log (history_of (first ∷ log)) → AreAskedAt (log ++ es) (history_of (first ∷ (log ++ es)))
driven-asked o first log [] stood driven acts w = subst (λ (l : List Entry). AreAskedAt l (history_of (first ∷ l))) (sym (append-nil log)) w
driven-asked o first log (e ∷ es) stood driven acts w =
    let h : List Item = history_of (first ∷ log) in
    let d : TopologyCore = stood.driver in
    let longer : history_of (first ∷ (log ++ e ∷ [])) ≡ with_answer e.step e.reply e.facts h = with_entries-append (first ∷ log) e [] in
    let now : AreAskedAt (log ++ e ∷ []) (history_of (first ∷ (log ++ e ∷ []))) = subst (AreAskedAt (log ++ e ∷ [])) (sym longer) (asked-entry (pool_options d.options) d.pools.cores.items log h e stood.stands.pools.fit acts.0 w) in
    subst (λ (l : List Entry). AreAskedAt l (history_of (first ∷ l))) (append_assoc log (e ∷ []) es) (driven-asked o first (log ++ e ∷ []) es driven.0.stood driven.1 acts.1 now)

opening-asks : (o : Options) (reply : Reply) (fs : List Fact) (p r : ℕ) → has_asked (of_pool p (with_answer (opening_step o) reply fs [])) r ≡ false
opening-asks o reply fs p r = go (has_asked (of_pool p (with_answer (opening_step o) reply fs [])) r) refl
  where
    go : (b : Bool) → has_asked (of_pool p (with_answer (opening_step o) reply fs [])) r ≡ b → b ≡ false
    go false i = refl
    go true i = elim (answered-asked p r (opening_step o) reply fs [] i) [
      | inl k ↦ sym k
      | inr k ↦ sym k.1
    ]

-- Behind an opening with steps that a proxy makes each request of a pool is that of an accepted entry, at the pool's address.
pub log-asked : (w : TopologyCore) (first : Entry) (later : List Entry) → IsDriverOf w (first ∷ later) → AreProxied later → AreAskedAt later (history_of (first ∷ later))
log-asked w first later z acts =
    let begin : Entry = entry_after z.seat [] (opening_step w.options) in
    let same : later ≡ z.entries = cons-tail first begin later z.entries z.logged in
    let none : AreAskedAt [] (history_of (begin ∷ [])) = λ p r e. absurd (let k : false ≡ true = sym (opening-asks w.options begin.reply begin.facts p r) ∙ e in cc) in
    let all : AreAskedAt z.entries (history_of (begin ∷ z.entries)) = driven-asked w.options begin [] z.entries z.began z.driven (subst AreProxied same acts) none in
    subst (λ (l : List Entry). AreAskedAt l (history_of (first ∷ later))) (sym same) (subst (λ (l : List Entry). AreAskedAt z.entries (history_of l)) (sym z.logged) all)
