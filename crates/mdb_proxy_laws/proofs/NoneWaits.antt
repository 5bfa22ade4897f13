-- Over a driver nobody waits because of the connections of another.
use Rattle.std.proofs.Common.{ℕ, ◌≡◌, ◌≢◌, ◌+◌, ◌≤◌, ◌<◌, ◌==◌, inl, inr, Bool, true, false, not, ◌&&◌, ◌||◌, List, [], ◌∷◌, ◌++◌, length, Option, Some, None, is_some, refl, sym, ◌∙◌, ap, subst, arith, nat_lt, nat_le}
use Rattle.std.specs.Prelude.{sum}
use Rattle.std.specs.List.{list_any}
use Rattle.std.proofs.lemmas.Bool.Decides.{Decides-eqb, Decides-ltb, nat_tests}
use Rattle.mdb_base.specs.declared.address.ServerAddress.{ServerAddress}
use Rattle.mdb_log.specs.declared.log.Entry.{Entry}
use Rattle.mdb_log.specs.declared.options.PoolOptions.{PoolOptions}
use Rattle.mdb_log.specs.declared.step.Act.{Act}
use Rattle.mdb_log.specs.declared.step.Act.TheVariants as act
use Rattle.mdb_log.specs.declared.reply.Reply.{Reply}
use Rattle.mdb_log.specs.History.{PoolItem, of_pool, given, has_asked, has_taken, is_number, history_of}
use Rattle.mdb_log.specs.Connections.{has, live_total, created_total, pending_list, available_list}
use Rattle.mdb_log.specs.Requests.{queued, waiting, is_warm, end_of}
use Rattle.mdb_log.specs.State.{ready, state_of, max_size, max_connecting, may_create, is_empty, could_be_granted}
use Rattle.mdb_log.specs.Legal.{OnePlace, NoneLeftWaiting}
use Rattle.mdb_log.specs.Limits.{IsWithin, WithinLimits}
use Rattle.mdb_log.specs.Opening.{pool_options}
use Rattle.mdb_log.specs.Homes.{Home}
use Rattle.mdb_log.specs.PlainConnections.{connections}
use Rattle.mdb_log.specs.PlainRequests.{is_ended}
use Rattle.mdb_log.specs.PlainHolders.{has_returned, is_granted_to, is_taken_by}
use Rattle.mdb_log.proofs.Frame.{asked-party}
use Rattle.mdb_log.proofs.Numbers.{same-number}
use Rattle.mdb_sound.specs.Sound.{Sound}
use Rattle.mdb_sound.specs.Counts.{was_granted}
use Rattle.mdb_sound.proofs.Once.{OnceEach, once}
use Rattle.mdb_topology.specs.declared.topology.TopologyCore.{TopologyCore}
use Rattle.mdb_topology.specs.Logging.{IsDriverOf}
use Rattle.mdb_driver_pools.proofs.Orderly.{orderly}
use Rattle.mdb_histories.specs.SoundHistory.{SoundHistory}
use Rattle.mdb_histories.proofs.Logs.{driver-sound}
use Rattle.mdb_histories.proofs.Parties.{each-sound}
use Rattle.mdb_histories.proofs.OfPlain.Alike.{ended-alike, returned-alike}
use Rattle.mdb_histories.proofs.OfPlain.Given.{Without, was_returned, queued-without, given-means}
use Rattle.mdb_proxies.specs.declared.asked.Asked.{Asked}
use Rattle.mdb_proxies.specs.declared.step.ProxyStep.{ProxyStep}
use Rattle.mdb_proxies.specs.Charge.{is_settled, charge}
use Rattle.mdb_proxies.specs.Shares.{are_shares, share_of}
use Rattle.mdb_proxies.specs.View.{ProxyView, KeepsShares}
use Rattle.mdb_proxies.proofs.Bools.{right}
use Rattle.mdb_proxy_laws.specs.Asks.{IsAsked, EachAsked}
use Rattle.mdb_proxy_laws.specs.Reaching.{Reaches, begun}
use Rattle.mdb_proxy_laws.specs.Waiting.{IsBusy, WaitsForNone}
use Rattle.mdb_proxy_laws.proofs.Asked.{Fits, begun-fits}
use Rattle.mdb_proxy_laws.proofs.Counting.{AreDistinct, is_charged_number, charged_in_all, distinct-charged, charged-within}
use Rattle.mdb_proxy_laws.proofs.Owned.{IsOwned, filtered}
use Rattle.mdb_proxy_laws.proofs.Steps.{is_proxied, AreProxied, log-owned}
use Rattle.mdb_proxy_laws.proofs.Homed.{IsHome, IsAskedAt, log-asked}
use Rattle.mdb_proxy_laws.proofs.Holders.{holders, holder-of, distinct-holders, distinct-connections, taken-none, live-holders}
use Rattle.mdb_proxy_laws.proofs.Settled.{unsettled, asked-charged}

-- ---- what is asked is proxied

asked-proxied : (log : List Entry) (xs : List Asked) (a : Act) (reply : Reply) → IsAsked log xs a reply → is_proxied a ≡ true
asked-proxied log xs (act.Request r b) reply h = refl
asked-proxied log xs (act.Collect r) reply h = refl
asked-proxied log xs (act.Return r used) reply h = refl
asked-proxied log xs a reply h = h

each-proxied : (log : List Entry) (xs : List Asked) (es : List Entry) → EachAsked log xs es → AreProxied es
each-proxied log xs [] h = tt
each-proxied log xs (e ∷ es) h = (asked-proxied log xs e.step.act e.reply h.0, each-proxied log xs es h.1)

each-at : (log : List Entry) (xs : List Asked) (front back : List Entry) (e : Entry) → EachAsked log xs (front ++ e ∷ back) → IsAsked log xs e.step.act e.reply
each-at log xs [] back e h = h.0
each-at log xs (x ∷ front) back e h = each-at log xs front back e h.1

-- ---- a pool of a driver behind shares

module _ (w : TopologyCore) (first : Entry) (later : List Entry) (z : IsDriverOf w (first ∷ later)) (xs : List Asked) (each : EachAsked (first ∷ later) xs later) (p : ℕ) where
  abbrev items : List PoolItem
  items = of_pool p (history_of (first ∷ later))

  sound-all : SoundHistory (history_of (first ∷ later))
  sound-all = driver-sound w (first ∷ later) z

  sound : Sound (of_pool p (history_of (first ∷ later)))
  sound = each-sound (history_of (first ∷ later)) sound-all p

  proxied : AreProxied later
  proxied = each-proxied (first ∷ later) xs later each

  owned : IsOwned (of_pool p (history_of (first ∷ later)))
  owned = log-owned w first later z proxied p

  -- a request of the pool that is not over is that of a charged ask at the address of the pool
  charged : (r : ℕ) → has_asked (of_pool p (history_of (first ∷ later))) r ≡ true → was_returned (of_pool p (history_of (first ∷ later))) r ≡ false → is_some (end_of (of_pool p (history_of (first ∷ later))) r) ≡ false
      → (a : ServerAddress) × IsHome (history_of (first ∷ later)) p a × (list_any (is_charged_number (first ∷ later) a r) xs ≡ true)
  charged r asked unreturned unended =
      let at : IsAskedAt later (history_of (first ∷ later)) p r = log-asked w first later z proxied p r asked in
      let own : IsAsked (first ∷ later) xs at.entry.step.act at.entry.reply = each-at (first ∷ later) xs at.front at.back at.entry (subst (EachAsked (first ∷ later) xs) at.is each) in
      let mine : IsAsked (first ∷ later) xs (act.Request r at.address) at.entry.reply = subst (λ (a : Act). IsAsked (first ∷ later) xs a at.entry.reply) at.request own in
      let ended : is_ended (history_of (first ∷ later)) r ≡ false = ended-alike (history_of (first ∷ later)) sound-all p r asked ∙ unended in
      let back : has_returned (history_of (first ∷ later)) r ≡ false = returned-alike (history_of (first ∷ later)) sound-all p r (asked-party (of_pool p (history_of (first ∷ later))) r asked) ∙ unreturned in
      let alive : is_settled r (first ∷ later) ≡ false = unsettled (first ∷ later) r (rw (ended, back) refl) in
      (at.address, at.home, asked-charged (first ∷ later) r at.address xs alive (mine at.accepted))

  -- a party that has a connection of the pool
  holder-charged : (r c : ℕ) → is_number (given (of_pool p (history_of (first ∷ later))) r) c ≡ true → (a : ServerAddress) × IsHome (history_of (first ∷ later)) p a × (list_any (is_charged_number (first ∷ later) a r) xs ≡ true)
  holder-charged r c n =
      let i : OnceEach items r = once items sound r in
      let means = given-means items sound r c in
      let free : (not (was_returned items r) && not (is_some (end_of items r))) ≡ true = right (is_taken_by items r c || is_granted_to items r c) (not (was_returned items r) && not (is_some (end_of items r))) (sym means ∙ n) in
      let some : is_some (given items r) ≡ true = number-some (given items r) c n in
      let had : was_granted items r || has_taken items r ≡ true = i.had some in
      let taken : has_taken items r ≡ false = taken-none items r owned.simple in
      let ga : was_granted items r ≡ true → has_asked items r ≡ true = i.granted_asked in
      let granted : was_granted items r ≡ true = grind arith in
      charged r (ga granted) (grind arith) (grind arith)
    where
      number-some : (o : Option ℕ) (c : ℕ) → is_number o c ≡ true → is_some o ≡ true
      number-some None c e = e
      number-some (Some d) c e = refl

  -- a caller that is queued
  caller-charged : (r : ℕ) → has r (queued (of_pool p (history_of (first ∷ later)))) ≡ true → (a : ServerAddress) × IsHome (history_of (first ∷ later)) p a × (list_any (is_charged_number (first ∷ later) a r) xs ≡ true)
  caller-charged r q =
      let i : OnceEach items r = once items sound r in
      let means : has r (queued items) ≡ has_asked items r && (not (was_granted items r) && not (is_some (end_of items r))) = i.queued_means in
      let without : Without items r 0 = queued-without items sound r 0 q in
      charged r (grind arith) without.unreturned without.unended

  -- who is queued has none
  caller-empty : (r c : ℕ) → has r (queued (of_pool p (history_of (first ∷ later)))) ≡ true → is_number (given (of_pool p (history_of (first ∷ later))) r) c ≡ true → ⊥
  caller-empty r c q n =
      let i : OnceEach items r = once items sound r in
      let means : has r (queued items) ≡ has_asked items r && (not (was_granted items r) && not (is_some (end_of items r))) = i.queued_means in
      let way : has_asked items r && has_taken items r ≡ false = i.one_way in
      let had : is_some (given items r) ≡ true → was_granted items r || has_taken items r ≡ true = i.had in
      let some : is_some (given items r) ≡ true = number-some (given items r) c n in
      let k : was_granted items r || has_taken items r ≡ true = had some in
      let no : true ≡ false = grind arith in
      cc
    where
      number-some : (o : Option ℕ) (c : ℕ) → is_number o c ≡ true → is_some o ≡ true
      number-some None c e = e
      number-some (Some d) c e = refl

  -- the address of the pool is one
  one-home : (a b : ServerAddress) → IsHome (history_of (first ∷ later)) p a → IsHome (history_of (first ∷ later)) p b → a ≡ b
  one-home a b v u =
      let same : Some v.home ≡ Some u.home = sym v.at ∙ u.at in
      let k : v.home ≡ u.home = some-same v.home u.home same in
      sym v.is ∙ (ap (λ (x : Home). x.address) k ∙ u.is)
    where
      some-same : (x y : Home) → Some x ≡ Some y → x ≡ y
      some-same x y e = cc

  -- Where a caller waits and none is available, fewer live than the shares are in all.
  pub live-few : (shares : List ℕ) (r : ℕ) → ((t : ℕ) (a : ServerAddress) → charge xs (first ∷ later) t a ≤ share_of shares t) → has r (queued (of_pool p (history_of (first ∷ later)))) ≡ true → OnePlace (of_pool p (history_of (first ∷ later)))
      → available_list (of_pool p (history_of (first ∷ later))) ≡ [] → live_total (of_pool p (history_of (first ∷ later))) + 1 ≤ sum shares
  live-few shares r within q place none =
      let caller = caller-charged r q in
      let a : ServerAddress = caller.0 in
      let count : length (r ∷ holders items (connections items)) ≤ charged_in_all xs (first ∷ later) a = distinct-charged (first ∷ later) a xs (r ∷ holders items (connections items)) distinct (number a caller.1 caller.2) in
      let some : charged_in_all xs (first ∷ later) a ≤ sum shares = charged-within shares (first ∷ later) a xs (λ t. within t a) in
      let live : live_total items ≤ length (holders items (connections items)) = live-holders items sound place owned none in
      omega (arith, count, some, live)
    where
      alone : (b : Bool) → has r (holders items (connections items)) ≡ b → b ≡ false
      alone false e = refl
      alone true e = let v = holder-of items sound (connections items) r e in absurd (caller-empty r v.0 q v.2)

      distinct : AreDistinct (r ∷ holders items (connections items))
      distinct = (alone (has r (holders items (connections items))) refl, distinct-holders items sound (connections items) (distinct-connections items))

      number : (a : ServerAddress) → IsHome (history_of (first ∷ later)) p a → list_any (is_charged_number (first ∷ later) a r) xs ≡ true → (k : ℕ) → has k (r ∷ holders items (connections items)) ≡ true → list_any (is_charged_number (first ∷ later) a k) xs ≡ true
      number a home mine k there = go (r == k) refl there
        where
          go : (b : Bool) → (r == k) ≡ b → (b || has k (holders items (connections items))) ≡ true → list_any (is_charged_number (first ∷ later) a k) xs ≡ true
          go true i e = subst (λ (j : ℕ). list_any (is_charged_number (first ∷ later) a j) xs ≡ true) ((Decides-eqb r k).0 i) mine
          go false i e =
              let v = holder-of items sound (connections items) k e in
              let c = holder-charged k v.0 v.2 in
              subst (λ (b : ServerAddress). list_any (is_charged_number (first ∷ later) b k) xs ≡ true) (one-home c.0 a c.1 home) c.2

-- ---- whoever waits

first-queued : (ys : List PoolItem) → waiting ys ≢ [] → (r : ℕ) × (has r (queued ys) ≡ true)
first-queued ys ne = go (waiting ys) refl
  where
    go : (ws : List ℕ) → waiting ys ≡ ws → (r : ℕ) × (has r (queued ys) ≡ true)
    go [] e = absurd (ne e)
    go (r ∷ ws) e = (r, filtered (λ k. not (is_warm ys k)) r (queued ys) (ap (has r) e ∙ rw (same-number r) refl))

busy : (o : PoolOptions) (ys : List PoolItem) → ready (state_of o ys) ≡ true → could_be_granted o ys ≡ false → IsWithin o ys → (available_list ys ≡ [] → live_total ys + 1 ≤ max_size o) → IsBusy o ys
busy o ys on-line none within few = go (nat_lt (created_total ys) o.limit_id) refl (nat_lt (length (pending_list ys)) (max_connecting o)) refl
  where
    both : (not (is_empty (available_list ys)) || may_create o ys) ≡ false
    both = subst (λ b. (b && (not (is_empty (available_list ys)) || may_create o ys)) ≡ false) on-line none

    or-first : (a b : Bool) → (a || b) ≡ false → a ≡ false
    or-first true b e = e
    or-first false b e = refl

    or-last : (a b : Bool) → (a || b) ≡ false → b ≡ false
    or-last true b e = absurd (let k : true ≡ false = e in cc)
    or-last false b e = e

    empty : (l : List ℕ) → not (is_empty l) ≡ false → l ≡ []
    empty [] e = refl
    empty (c ∷ l) e = absurd (let k : true ≡ false = e in cc)

    room : live_total ys < max_size o
    room = let l : live_total ys + 1 ≤ max_size o = few (empty (available_list ys) (or-first (not (is_empty (available_list ys))) (may_create o ys) both)) in omega (arith, l)

    not-below : (k m : ℕ) → nat_lt k m ≡ false → m ≤ k
    not-below k m e = let none : k < m → ⊥ = λ l. (let z : false ≡ true = sym e ∙ (Decides-ltb k m).1 l in cc) in omega (arith, none)

    go : (a : Bool) → nat_lt (created_total ys) o.limit_id ≡ a → (b : Bool) → nat_lt (length (pending_list ys)) (max_connecting o) ≡ b → IsBusy o ys
    go false i b j = inr (not-below (created_total ys) o.limit_id i)
    go true i false j = inl (omega (arith, not-below (length (pending_list ys)) (max_connecting o) j, within.pending))
    go true i true j =
        let may : may_create o ys ≡ true = rw (i, (Decides-ltb (live_total ys) (max_size o)).1 room, j) refl in
        absurd (let z : true ≡ false = sym may ∙ or-last (not (is_empty (available_list ys))) (may_create o ys) both in cc)

within-now : (o : PoolOptions) (ys : List PoolItem) → WithinLimits o ys → IsWithin o ys
within-now o [] w = w
within-now o (y ∷ ys) w = w.0

shares-fit : (shares : List ℕ) (max : ℕ) → are_shares shares max ≡ true → sum shares ≤ max
shares-fit shares max e = let k : nat_le (sum shares) max ≡ true = right _ (nat_le (sum shares) max) e in grind (arith, nat_tests)

-- A proxy that keeps its shares, whose log is a driver's and asked for by its asks.
kept-waits : (w : TopologyCore) (first : Entry) (later : List Entry) (xs : List Asked) (shares : List ℕ) → IsDriverOf w (first ∷ later) → EachAsked (first ∷ later) xs later → ((t : ℕ) (a : ServerAddress) → charge xs (first ∷ later) t a ≤ share_of shares t)
    → sum shares ≤ max_size (pool_options w.options) → WaitsForNone (pool_options w.options) (history_of (first ∷ later))
kept-waits w first later xs shares z each within fits p on-line ne =
    let o : PoolOptions = pool_options w.options in
    let ys : List PoolItem = of_pool p (history_of (first ∷ later)) in
    let caller = first-queued ys ne in
    let order : OnePlace ys × NoneLeftWaiting o ys = orderly o w.pools.cores.items (history_of (first ∷ later)) z.stands.pools p in
    let limits : IsWithin o ys = within-now o ys (z.stands.pools.within p) in
    elim order.1 [
      | inl none ↦ absurd (ne none)
      | inr none ↦ busy o ys on-line none limits (λ empty. let few = live-few w first later z xs each p shares caller.0 within caller.1 order.0 empty in omega (arith, few, fits))
    ]

reached-keeps : (old new : ProxyView) (ss : List ProxyStep) → KeepsShares old → Reaches old new ss → (new.shares ≡ old.shares) × KeepsShares new
reached-keeps old new [] k w = subst (λ (v : ProxyView). (v.shares ≡ old.shares) × KeepsShares v) (sym w) (refl, k)
reached-keeps old new (s ∷ ss) k w = let more = reached-keeps w.0 new ss w.1.keeps w.2 in (more.0 ∙ w.1.shares, more.1)

begun-keeps : (shares : List ℕ) (first : Entry) → KeepsShares (begun shares first)
begun-keeps shares first = record { within = λ t a. omega arith; full = λ e t a ne. absurd (ne refl) }

-- Over a driver nobody waits because of the connections of another.
pub reached-waits : (shares : List ℕ) (first : Entry) (v : ProxyView) (ss : List ProxyStep) (w : TopologyCore) → are_shares shares (max_size (pool_options w.options)) ≡ true → Reaches (begun shares first) v ss → IsDriverOf w v.log → WaitsForNone (pool_options w.options) (history_of v.log)
reached-waits shares first v ss w fits reached z =
    let f : Fits first v.log v.asks = begun-fits shares first v ss reached in
    let keeps = reached-keeps (begun shares first) v ss (begun-keeps shares first) reached in
    let within : (t : ℕ) (a : ServerAddress) → charge v.asks (first ∷ f.later) t a ≤ share_of shares t = λ t a.
    subst (λ (l : List Entry). charge v.asks l t a ≤ share_of shares t) f.is (subst (λ (s : List ℕ). charge v.asks v.log t a ≤ share_of s t) keeps.0 (keeps.1.within t a)) in
    subst (λ (l : List Entry). WaitsForNone (pool_options w.options) (history_of l)) (sym f.is)
    (kept-waits w first f.later v.asks shares (subst (IsDriverOf w) f.is z) (subst (λ (l : List Entry). EachAsked l v.asks f.later) f.is f.each) within (shares-fit shares (max_size (pool_options w.options)) fits))
