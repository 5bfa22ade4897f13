-- In a pool that creates connections for callers alone each pending connection has a party, where nobody gives up, pins or takes.
use Rattle.std.proofs.Common.{ℕ, ◌≡◌, ◌==◌, ◌⊎◌, inl, inr, Bool, true, false, not, ◌&&◌, ◌||◌, List, [], ◌∷◌, ◌++◌, Option, Some, None, is_some, refl, sym, ◌∙◌, ap, subst, arith, if◌then◌else◌, filter, nat_lt}
use Rattle.std.specs.List.{list_all}
use Rattle.std.proofs.lemmas.Bool.Decides.{Decides-eqb}
use Rattle.std.proofs.lemmas.Bool.{or_right}
use Rattle.mdb_events.specs.declared.cmap.CmapEvent.TheVariants.{PoolCreated, PoolReady, PoolClosed, ConnectionCreated, ConnectionClosed, ConnectionCheckedIn}
use Rattle.mdb_events.specs.declared.end.End.{End}
use Rattle.mdb_events.specs.declared.end.End.TheVariants.{Cleared, Closed, Failed as FailedEnd, Filled, GaveUp, TimedOut, Warmed}
use Rattle.mdb_events.specs.declared.fact.Fact.{Fact}
use Rattle.mdb_events.specs.declared.fact.Fact.TheVariants.{Pool, Granted, Ended, Raised}
use Rattle.mdb_log.specs.History.{PoolItem, asked, warmed, gave_up, returned, pinned_by, established, failed, replicated, taken, unpinned, created, closed, checked_in, granted, ended, raised, pool_created, pool_ready, pool_closed, given, has_asked, has_taken, without, is_number, if_so, after_fact, after_facts}
use Rattle.mdb_log.specs.Connections.{has, live, is_live, pending_list, parties}
use Rattle.mdb_log.specs.Requests.{queued, waiting, is_warm, end_of}
use Rattle.mdb_log.proofs.Numbers.{has-append, has-without-is, has-without}
use Rattle.mdb_sound.specs.Sound.{Sound, MayEnd, EndsSo, Holds, is_filled, lost, just_gave_up}
use Rattle.mdb_sound.specs.Counts.{was_granted}
use Rattle.mdb_sound.specs.Laws.{ConnectionLaws}
use Rattle.mdb_sound.proofs.Connections.{connection-laws}
use Rattle.mdb_sound.proofs.Once.{OnceEach, once}
use Rattle.mdb_sound.proofs.Parties.{one-connection}
use Rattle.mdb_sound.proofs.Steady.{held-given}
use Rattle.mdb_histories.proofs.OfPlain.Holding.{held-ready}
use Rattle.mdb_proxy_laws.proofs.Uncreating.{IsUncreating}
use Rattle.mdb_proxy_laws.proofs.Paired.{IsGrantedNext, IsPaired, ArePaired}

-- the item is none of a give-up, a pin, a replicate and a take
abbrev pub is_simple : PoolItem → Bool
is_simple (gave_up r) = false
is_simple (pinned_by r) = false
is_simple (replicated c) = false
is_simple (taken r c) = false
is_simple _ = true

-- the item creates a connection
abbrev pub is_creation : PoolItem → Bool
is_creation (created c m) = true
is_creation _ = false

abbrev pub are_simple : List PoolItem → Bool
are_simple xs = list_all is_simple xs

-- Owned: each pending connection has a party.
pub record IsOwned (xs : List PoolItem) : Type 0 where
  pub simple : are_simple xs ≡ true
  pub each : (c : ℕ) → has c (pending_list xs) ≡ true → (r : ℕ) × (has r (parties xs c) ≡ true)

left : (a b : Bool) → (a && b) ≡ true → a ≡ true
left true b h = refl
left false b h = absurd (let k : false ≡ true = h in cc)

right : (a b : Bool) → (a && b) ≡ true → b ≡ true
right true b h = h
right false b h = absurd (let k : false ≡ true = h in cc)

pub filtered : (test : ℕ → Bool) (r : ℕ) (ks : List ℕ) → has r (filter test ks) ≡ true → has r ks ≡ true
filtered test r [] h = h
filtered test r (k ∷ ks) h = go (test k) h (filtered test r ks)
  where
    go : (b : Bool) → has r (if b then k ∷ filter test ks else filter test ks) ≡ true → (has r (filter test ks) ≡ true → has r ks ≡ true) → ((k == r) || has r ks) ≡ true
    go true h deeper = on (k == r) h
      where
        on : (b : Bool) → (b || has r (filter test ks)) ≡ true → (b || has r ks) ≡ true
        on true h = refl
        on false h = deeper h
    go false h deeper = or_right (k == r) (has r ks) (deeper h)

either : (a b : Bool) → (a || b) ≡ true → (a ≡ true → ⊥) → (b ≡ true → ⊥) → ⊥
either true b h f g = f refl
either false b h f g = g h

-- ---- who has a pending connection does not lose it

none-simple : (xs : List PoolItem) (r : ℕ) → are_simple xs ≡ true → just_gave_up xs r ≡ false
none-simple [] r s = refl
none-simple (gave_up q ∷ xs) r s = absurd (let k : false ≡ true = s in cc)
none-simple (_ ∷ xs) r s = refl

-- the connection that the party has is this one
given-is : (xs : List PoolItem) → Sound xs → (r c : ℕ) → has r (parties xs c) ≡ true → given xs r ≡ Some c
given-is xs s r c h = on (given xs r) (sym (one-connection xs s r c) ∙ h)
  where
    on : (o : Option ℕ) → is_number o c ≡ true → o ≡ Some c
    on None e = absurd (let k : false ≡ true = e in cc)
    on (Some d) e = ap (λ k. Some k) ((Decides-eqb d c).0 e)

-- who returns has no pending connection
returner-ready : (xs : List PoolItem) → Sound xs → (q c : ℕ) → Holds xs q → has q (parties xs c) ≡ true → has c (pending_list xs) ≡ true → ⊥
returner-ready xs s q c w h p =
    let have : Some c ≡ Some w.connection = sym (given-is xs s q c h) ∙ held-given xs q w.connection w.holds in
    let same : c ≡ w.connection = cc in
    let ready : has w.connection (pending_list xs) ≡ false = held-ready xs q w.connection w.holds in
    let no : true ≡ false = sym p ∙ (ap (λ k. has k (pending_list xs)) same ∙ ready) in
    cc

-- who ends has no pending connection
ender-ready : (xs : List PoolItem) → Sound xs → are_simple xs ≡ true → (q c : ℕ) (end : End) → EndsSo xs q end → has q (parties xs c) ≡ true → has c (pending_list xs) ≡ true → ⊥
ender-ready xs s simple q c end w h p = on end w
  where
    here : given xs q ≡ Some c
    here = given-is xs s q c h

    lost-is : given xs q ≡ Some c → lost xs q ≡ not (is_live xs c)
    lost-is e = rw e refl

    filled-is : given xs q ≡ Some c → is_filled xs q ≡ not (has c (pending_list xs))
    filled-is e = rw e refl

    i : OnceEach xs q
    i = once xs s q

    -- who is queued has none
    unqueued : has q (queued xs) ≡ true → ⊥
    unqueued k =
        let means : has q (queued xs) ≡ has_asked xs q && (not (was_granted xs q) && not (is_some (end_of xs q))) = i.queued_means in
        let had : is_some (given xs q) ≡ true → was_granted xs q || has_taken xs q ≡ true = i.had in
        let way : has_asked xs q && has_taken xs q ≡ false = i.one_way in
        let some : was_granted xs q || has_taken xs q ≡ true = had (ap is_some here) in
        let no : true ≡ false = grind arith in
        cc

    unwaiting : has q (waiting xs) ≡ true → ⊥
    unwaiting k = unqueued (filtered (λ r. not (is_warm xs r)) q (queued xs) k)

    unlost : lost xs q ≡ true → ⊥
    unlost k =
        let laws : ConnectionLaws xs c = connection-laws xs s c in
        let lives : live xs c ≡ 1 = laws.pending_lives p in
        let dead : not (is_live xs c) ≡ true = sym (lost-is here) ∙ k in
        let alive : is_live xs c ≡ true = ap (λ n. nat_lt 0 n) lives in
        let no : true ≡ false = grind arith in
        cc

    unfilled : is_filled xs q ≡ true → ⊥
    unfilled k = let away : not (has c (pending_list xs)) ≡ true = sym (filled-is here) ∙ k in let no : true ≡ false = grind arith in cc

    on : (e : End) → EndsSo xs q e → ⊥
    on (Cleared error) w = unqueued w
    on TimedOut w = unwaiting w
    on Warmed w = unqueued (left (has q (queued xs)) (is_warm xs q) w)
    on Filled w = unfilled (left (is_filled xs q) (is_warm xs q) w)
    on (FailedEnd error) w = unlost w
    on Closed w = either (has q (queued xs)) (lost xs q) w unqueued unlost
    on GaveUp w = let k : just_gave_up xs q ≡ true = left (just_gave_up xs q) _ w in let no : false ≡ true = sym (none-simple xs q simple) ∙ k in cc

-- ---- one item more

-- who is left of the parties
stays : (xs : List PoolItem) (q c r : ℕ) → has r (parties xs c) ≡ true → (has q (parties xs c) ≡ true → ⊥) → has r (without q (parties xs c)) ≡ true
stays xs q c r h none = has-without-is r q (parties xs c) ∙ rw h (go (q == r) refl)
  where
    go : (b : Bool) → (q == r) ≡ b → not b ≡ true
    go true e = let same : q ≡ r = (Decides-eqb q r).0 e in absurd (none (subst (λ k. has k (parties xs c) ≡ true) (sym same) h))
    go false e = refl

-- an item that is neither a creation nor one that takes a party away
module _ (xs : List PoolItem) (w : IsOwned xs) where
  quiet : (x : PoolItem) → is_simple x ≡ true → pending_list (x ∷ xs) ≡ pending_list xs → ((c : ℕ) → parties (x ∷ xs) c ≡ parties xs c) → IsOwned (x ∷ xs)
  quiet x s p q = record {
    simple = rw s w.simple;
    each = λ c h. (let o = w.each c (ap (has c) (sym p) ∙ h) in (o.0, ap (has o.0) (q c) ∙ o.1));
  }

  fewer : (x : PoolItem) (d : ℕ) → is_simple x ≡ true → pending_list (x ∷ xs) ≡ without d (pending_list xs) → ((c : ℕ) → parties (x ∷ xs) c ≡ parties xs c) → IsOwned (x ∷ xs)
  fewer x d s p q = record {
    simple = rw s w.simple;
    each = λ c h. (let o = w.each c (has-without c d (pending_list xs) (ap (has c) (sym p) ∙ h)) in (o.0, ap (has o.0) (q c) ∙ o.1));
  }

  leaves : (x : PoolItem) (q : ℕ) → is_simple x ≡ true → pending_list (x ∷ xs) ≡ pending_list xs → ((c : ℕ) → parties (x ∷ xs) c ≡ without q (parties xs c)) → ((c : ℕ) → has q (parties xs c) ≡ true → has c (pending_list xs) ≡ true → ⊥) → IsOwned (x ∷ xs)
  leaves x q s p e none = record {
    simple = rw s w.simple;
    each = λ c h. (
        let k : has c (pending_list xs) ≡ true = ap (has c) (sym p) ∙ h in
        let o = w.each c k in
        (o.0, ap (has o.0) (e c) ∙ stays xs q c o.0 o.1 (λ j. none c j k)));
  }

  gains : (r d : ℕ) → IsOwned (granted r d ∷ xs)
  gains r d = record { simple = w.simple; each = λ c h. (let o = w.each c h in (o.0, go c o.0 (d == c) o.1)) }
    where
      go : (c k : ℕ) (b : Bool) → has k (parties xs c) ≡ true → has k (if b then r ∷ parties xs c else parties xs c) ≡ true
      go c k true h = or_right (r == k) (has k (parties xs c)) h
      go c k false h = h

-- any item but a creation
pub owned-item : (xs : List PoolItem) (x : PoolItem) → Sound (x ∷ xs) → IsOwned xs → is_simple x ≡ true → is_creation x ≡ false → IsOwned (x ∷ xs)
owned-item xs (asked r m) s w i n = quiet xs w (asked r m) i refl (λ c. refl)
owned-item xs (warmed r m) s w i n = quiet xs w (warmed r m) i refl (λ c. refl)
owned-item xs (gave_up r) s w i n = cc
owned-item xs (returned r used) s w i n = leaves xs w (returned r used) r i refl (λ c. refl) (λ c h p. returner-ready xs s.1 r c s.0 h p)
owned-item xs (pinned_by r) s w i n = cc
owned-item xs (established c how m) s w i n = fewer xs w (established c how m) c i refl (λ c. refl)
owned-item xs (failed c service) s w i n = fewer xs w (failed c service) c i refl (λ c. refl)
owned-item xs (replicated c) s w i n = cc
owned-item xs (taken r c) s w i n = cc
owned-item xs (unpinned c) s w i n = quiet xs w (unpinned c) i refl (λ c. refl)
owned-item xs (created c m) s w i n = cc
owned-item xs (closed c) s w i n = fewer xs w (closed c) c i refl (λ c. refl)
owned-item xs (checked_in c m) s w i n = quiet xs w (checked_in c m) i refl (λ c. refl)
owned-item xs (granted r c) s w i n = gains xs w r c
owned-item xs (ended r end) s w i n = let e : MayEnd xs r end = s.0 in leaves xs w (ended r end) r i refl (λ c. refl) (λ c h p. ender-ready xs s.1 w.simple r c end e.so h p)
owned-item xs (raised service error) s w i n = quiet xs w (raised service error) i refl (λ c. refl)
owned-item xs pool_created s w i n = quiet xs w pool_created i refl (λ c. refl)
owned-item xs pool_ready s w i n = quiet xs w pool_ready i refl (λ c. refl)
owned-item xs pool_closed s w i n = quiet xs w pool_closed i refl (λ c. refl)

-- a creation and its grant
owned-pair : (xs : List PoolItem) (c m r : ℕ) → IsOwned xs → IsOwned (granted r c ∷ created c m ∷ xs)
owned-pair xs c m r w = record { simple = w.simple; each = each }
  where
    each : (d : ℕ) → has d (pending_list xs ++ c ∷ []) ≡ true → (k : ℕ) × (has k (if c == d then r ∷ parties xs d else parties xs d) ≡ true)
    each d h = go (c == d) (sym (has-append d c (pending_list xs)) ∙ h)
      where
        go : (b : Bool) → (has d (pending_list xs) || b) ≡ true → (k : ℕ) × (has k (if b then r ∷ parties xs d else parties xs d) ≡ true)
        go true e = (r, rw ((Decides-eqb r r).1 refl) refl)
        go false e = w.each d (drop-or (has d (pending_list xs)) e)
          where
            drop-or : (b : Bool) → (b || false) ≡ true → b ≡ true
            drop-or true e = refl
            drop-or false e = e

-- ---- the facts of an answer

if-item : (b : Bool) (x : PoolItem) (xs : List PoolItem) → Sound (if_so b x xs) → IsOwned xs → is_simple x ≡ true → is_creation x ≡ false → IsOwned (if_so b x xs)
if-item true x xs s w i n = owned-item xs x s w i n
if-item false x xs s w i n = w

-- a fact that creates no connection
owned-fact : (p m : ℕ) (f : Fact) (xs : List PoolItem) → IsUncreating f → Sound (after_fact p m f xs) → IsOwned xs → IsOwned (after_fact p m f xs)
owned-fact p m (Pool q (PoolCreated e)) xs u s w = if-item (q == p) _ xs s w refl refl
owned-fact p m (Pool q (PoolReady e)) xs u s w = if-item (q == p) _ xs s w refl refl
owned-fact p m (Pool q (PoolClosed e)) xs u s w = if-item (q == p) _ xs s w refl refl
owned-fact p m (Pool q (ConnectionCreated e)) xs u s w = absurd u
owned-fact p m (Pool q (ConnectionClosed e)) xs u s w = if-item (q == p) _ xs s w refl refl
owned-fact p m (Pool q (ConnectionCheckedIn e)) xs u s w = if-item (q == p) _ xs s w refl refl
owned-fact p m (Granted r q c) xs u s w = if-item (q == p) _ xs s w refl refl
owned-fact p m (Ended r end) xs u s w = if-item (has_asked xs r) _ xs s w refl refl
owned-fact p m (Raised q service error) xs u s w = if-item (q == p) _ xs s w refl refl
owned-fact p m _ xs u s w = w

-- a creation, and the grant that comes next
pair-fact : (p m q c d r k : ℕ) (xs : List PoolItem) → k ≡ q → d ≡ c → IsOwned xs → IsOwned (if_so (k == p) (granted r d) (if_so (q == p) (created c m) xs))
pair-fact p m q c d r k xs same one w = subst (λ (j : ℕ). IsOwned (if_so (j == p) (granted r d) (if_so (q == p) (created c m) xs))) (sym same) (subst (λ (j : ℕ). IsOwned (if_so (q == p) (granted r j) (if_so (q == p) (created c m) xs))) (sym one) (go (q == p)))
  where
    go : (b : Bool) → IsOwned (if_so b (granted r c) (if_so b (created c m) xs))
    go true = owned-pair xs c m r w
    go false = w

-- what is sound with facts more was sound without them
if-sound : (b : Bool) (x : PoolItem) (xs : List PoolItem) → Sound (if_so b x xs) → Sound xs
if-sound true x xs s = s.1
if-sound false x xs s = s

before-fact : (p m : ℕ) (f : Fact) (xs : List PoolItem) → Sound (after_fact p m f xs) → Sound xs
before-fact p m (Pool q (PoolCreated e)) xs s = if-sound (q == p) _ xs s
before-fact p m (Pool q (PoolReady e)) xs s = if-sound (q == p) _ xs s
before-fact p m (Pool q (PoolClosed e)) xs s = if-sound (q == p) _ xs s
before-fact p m (Pool q (ConnectionCreated e)) xs s = if-sound (q == p) _ xs s
before-fact p m (Pool q (ConnectionClosed e)) xs s = if-sound (q == p) _ xs s
before-fact p m (Pool q (ConnectionCheckedIn e)) xs s = if-sound (q == p) _ xs s
before-fact p m (Granted r q c) xs s = if-sound (q == p) _ xs s
before-fact p m (Ended r end) xs s = if-sound (has_asked xs r) _ xs s
before-fact p m (Raised q service error) xs s = if-sound (q == p) _ xs s
before-fact p m _ xs s = s

pub before-facts : (p m : ℕ) (fs : List Fact) (xs : List PoolItem) → Sound (after_facts p m fs xs) → Sound xs
before-facts p m [] xs s = s
before-facts p m (f ∷ fs) xs s = before-fact p m f xs (before-facts p m fs (after_fact p m f xs) s)

-- a connection was just created, and the next fact grants it
record IsBegun (p m : ℕ) (fs : List Fact) (xs : List PoolItem) : Type 0 where
  before : List PoolItem
  pool : ℕ
  id : ℕ
  owned : IsOwned before
  is : xs ≡ if_so (pool == p) (created id m) before
  next : IsGrantedNext pool id fs

owned-go : (p m : ℕ) (fs : List Fact) (xs : List PoolItem) → ArePaired fs → Sound (after_facts p m fs xs) → IsOwned xs ⊎ IsBegun p m fs xs → IsOwned (after_facts p m fs xs)
owned-go p m [] xs a s (inl w) = w
owned-go p m [] xs a s (inr b) = absurd b.next
owned-go p m (f ∷ fs) xs a s (inl w) = owned-go p m fs (after_fact p m f xs) a.1 s (first f a.0 (before-facts p m fs (after_fact p m f xs) s))
  where
    first : (f : Fact) → IsPaired f fs → Sound (after_fact p m f xs) → IsOwned (after_fact p m f xs) ⊎ IsBegun p m fs (after_fact p m f xs)
    first (Pool q (ConnectionCreated e)) n s = inr (record { before = xs; pool = q; id = e.connection_id; owned = w; is = refl; next = n })
    first f n s = inl (owned-fact p m f xs tt s w)
owned-go p m (f ∷ fs) xs a s (inr b) = owned-go p m fs (after_fact p m f xs) a.1 s (inl (second f b.next))
  where
    second : (f : Fact) → IsGrantedNext b.pool b.id (f ∷ fs) → IsOwned (after_fact p m f xs)
    second (Granted r k d) n = subst (λ (ys : List PoolItem). IsOwned (if_so (k == p) (granted r d) ys)) (sym b.is) (pair-fact p m b.pool b.id d r k b.before n.0 n.1 b.owned)
    second _ n = absurd n

pub owned-facts : (p m : ℕ) (fs : List Fact) (xs : List PoolItem) → ArePaired fs → Sound (after_facts p m fs xs) → IsOwned xs → IsOwned (after_facts p m fs xs)
owned-facts p m fs xs a s w = owned-go p m fs xs a s (inl w)
