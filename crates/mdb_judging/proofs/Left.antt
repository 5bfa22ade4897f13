-- Nothing is wrong after an entry where nothing was before it, and nothing is with what the entry touched.
use Rattle.std.proofs.lemmas.Grind.{common_steps}
use Rattle.std.proofs.Common.{ℕ, ◌+◌, ◌≤◌, nat_lt, nat_le, if◌then◌else◌, arith, ◌≡◌, ◌==◌, Bool, true, false, ◌&&◌, ◌||◌, is_some, length, filter, List, [], ◌∷◌, Option, ◌⊎◌, inl, inr, refl, sym, ap, ◌∙◌}
use Rattle.std.specs.List.{list_any}
use Rattle.std.proofs.Math.Bool.{and-false}
use Rattle.mdb_log.specs.declared.options.PoolOptions.{PoolOptions}
use Rattle.mdb_log.specs.History.{Item, is_number, of_pool}
use Rattle.mdb_log.specs.Connections.{has}
use Rattle.mdb_log.specs.Legal.{first}
use Rattle.mdb_log.specs.PlainRequests.{requests, pool_of, waiting}
use Rattle.mdb_log.specs.PlainState.{could_be_granted}
use Rattle.mdb_log.specs.PlainLegal.{InPlace, OnePlace, NoneLeftWaiting}
use Rattle.mdb_log.proofs.Numbers.{same-number}
use Rattle.mdb_tallies.specs.declared.connection.Place.{Place}
use Rattle.mdb_tallies.specs.declared.pools.Pool.{Pool}
use Rattle.mdb_tallies.specs.declared.tables.Tables.{Tables}
use Rattle.mdb_judging.specs.declared.touched.Touched.{Touched}
use Rattle.mdb_tallies.specs.Standing.{connection_of, party_of, pool_stands}
use Rattle.mdb_tallies.specs.declared.connection.Connection.{Connection}
use Rattle.mdb_log.specs.PlainHolders.{is_pinned, has_returned}
use Rattle.mdb_pins.specs.declared.story.PinStory.{PinStory}
use Rattle.mdb_pins.specs.Following.{pinned_now}
use Rattle.mdb_pins.specs.Standing.{PinsStand, weigh}
use Rattle.mdb_pins.proofs.Weights.{weigh-counted}
use Rattle.mdb_tallies.specs.Tables.{at}
use Rattle.mdb_tallies.specs.Kept.{Stands}
use Rattle.mdb_judging.specs.Taking.{all_in_place, is_left_at, is_left}
use Rattle.mdb_judging.specs.Touching.{has_place, Tracks}
use Rattle.mdb_log.specs.Connections.{one_if}
use Rattle.mdb_tallies.specs.Changes.{pending_now}
use Rattle.mdb_tallies.specs.Verdicts.{in_place_now, places_now, could_grant_now, waits_now}
use Rattle.mdb_tallies.proofs.Counted.{in-place, in-place-not, could-grant}
use Rattle.mdb_judging.proofs.FirstCome.{asked-here, is-some}
use Rattle.mdb_tallies.proofs.Placed.{same}
use Rattle.mdb_tallies.proofs.PartyDoings.{left-false, right-false}
use Rattle.mdb_judging.proofs.Queued.{waiting-filter, requests-asked}
use Rattle.mdb_judging.proofs.Tracked.{left-true}

right-true : (a b : Bool) → a && b ≡ true → b ≡ true
right-true true b e = e
right-true false b e = cc

-- the connection is in place, by the tables and the pins
abbrev placed_now : Tables → PinStory → ℕ → ℕ → Bool
placed_now t s p c = in_place_now (at t.connections p c 0) (pinned_now s (at t.connections p c 0).kept p c)

few-is : (n : ℕ) → nat_le n 1 ≡ true → n ≤ 1
few-is n e = grind (arith, common_steps)

many-is : (n k l m : ℕ) → nat_le k 1 ≡ false → nat_le (n + (k + l) + m) 1 ≡ false
many-is n k l m e = grind (arith, common_steps)

-- what one party at most keeps is pinned or not; what more keep is not in place either way
either : (x : Connection) (a b : Bool) → (x.kept ≤ 1 → a ≡ b) → in_place_now x a ≡ in_place_now x b
either x a b e = by (nat_le x.kept 1) refl
  where
    here : ℕ
    here = one_if (pending_now x) + one_if x.is_available

    lent : ℕ
    lent = if pending_now x then 0 else x.lent

    by : (t : Bool) → nat_le x.kept 1 ≡ t → in_place_now x a ≡ in_place_now x b
    by true u = ap (in_place_now x) (e (few-is x.kept u))
    by false u = go (nat_lt 0 x.creations)
      where
        go : (t : Bool) → (if t then ((places_now x a + x.closings == x.creations) && nat_le (places_now x a) 1) else (x.closings == 0)) ≡ (if t then ((places_now x b + x.closings == x.creations) && nat_le (places_now x b) 1) else (x.closings == 0))
        go true = (λ i. (places_now x a + x.closings == x.creations) && many-is here x.kept lent (one_if a) u i) ∙ and-false (places_now x a + x.closings == x.creations) ∙ sym (and-false (places_now x b + x.closings == x.creations)) ∙ (λ i. (places_now x b + x.closings == x.creations) && sym (many-is here x.kept lent (one_if b) u) i)
        go false = refl

-- the tables and the pins say of a connection what the history says
placed-is : (o : PoolOptions) (k : List Item) (t : Tables) (s : PinStory) (p c : ℕ) → Stands o k t → PinsStand k s → placed_now t s p c ≡ in_place_now (connection_of k p c) (is_pinned p k c)
placed-is o k t s p c y z = ap (λ x. in_place_now x (pinned_now s (at t.connections p c 0).kept p c)) (y.connections p c) ∙ either (connection_of k p c) (pinned_now s (at t.connections p c 0).kept p c) (is_pinned p k c) (λ q. ap (λ n. pinned_now s n p c) kept ∙ (z.fits p c).pinned_is (rw (← counted) q))
  where
    counted : (connection_of k p c).kept ≡ weigh (λ r. 1) (of_pool p k) (has_returned k) c
    counted = weigh-counted (of_pool p k) (has_returned k) c

    kept : (at t.connections p c 0).kept ≡ weigh (λ r. 1) (of_pool p k) (has_returned k) c
    kept = ap (λ x. x.kept) (y.connections p c) ∙ counted

-- one of the places that are all in place
pub all-touched : (t : Tables) (s : PinStory) (xs : List Place) (p c : ℕ) → all_in_place t s xs ≡ true → has_place xs p c ≡ true → placed_now t s p c ≡ true
all-touched t s [] p c e f = cc
all-touched t s (x ∷ xs) p c e f = by (all-touched t s xs p c) (x.pool == p) (x.id == c) refl refl
  where
    by : (all_in_place t s xs ≡ true → has_place xs p c ≡ true → placed_now t s p c ≡ true) → (a b : Bool) → (x.pool == p) ≡ a → (x.id == c) ≡ b → placed_now t s p c ≡ true
    by rest true true u v = ap (λ n. placed_now t s n c) (sym (same x.pool p u)) ∙ ap (λ n. placed_now t s x.pool n) (sym (same x.id c v)) ∙ left-true (placed_now t s x.pool x.id) (all_in_place t s xs) e
    by rest true false u v = rest (right-true (placed_now t s x.pool x.id) (all_in_place t s xs) e) (rw (u, v) at f)
    by rest false b u v = rest (right-true (placed_now t s x.pool x.id) (all_in_place t s xs) e) (rw u at f)

-- all of them, where each connection is
pub all-placed : (t : Tables) (s : PinStory) (xs : List Place) → ((p c : ℕ) → placed_now t s p c ≡ true) → all_in_place t s xs ≡ true
all-placed t s [] e = refl
all-placed t s (x ∷ xs) e = rw (e x.pool x.id) (all-placed t s xs e)

pub one-place : (o : PoolOptions) (h k : List Item) (t : Tables) (y : PinStory) (x : Touched) → OnePlace h → Stands o k t → PinsStand k y → ((p c : ℕ) → has_place x.places.items p c ≡ false → InPlace p h c → InPlace p k c) → all_in_place t y x.places.items ≡ true → OnePlace k
one-place o h k t y x placed s z still e = λ p c. by p c (has_place x.places.items p c) refl
  where
    by : (p c : ℕ) (b : Bool) → has_place x.places.items p c ≡ b → InPlace p k c
    by p c true f = in-place p k c (sym (placed-is o k t y p c s z) ∙ all-touched t y x.places.items p c e f)
    by p c false f = still p c f (placed p c)

pub not-one-place : (o : PoolOptions) (k : List Item) (t : Tables) (y : PinStory) (xs : List Place) → Stands o k t → PinsStand k y → all_in_place t y xs ≡ false → OnePlace k → ⊥
not-one-place o k t y xs s z e placed = let all : true ≡ false = sym (all-placed t y xs (λ p c. placed-is o k t y p c s z ∙ in-place-not p k c (placed p c))) ∙ e in cc

-- nobody passes
none-passes : (f : ℕ → Bool) (ks : List ℕ) → ((k : ℕ) → has k ks ≡ true → f k ≡ false) → filter f ks ≡ []
none-passes f [] e = refl
none-passes f (k ∷ ks) e = rw (e k (rw (same-number k) refl)) (none-passes f ks (λ j u. e j (later j u)))
  where
    later : (j : ℕ) → has j ks ≡ true → (k == j) || has j ks ≡ true
    later j u = rw u (ends (k == j))
      where
        ends : (b : Bool) → b || true ≡ true
        ends true = refl
        ends false = refl

-- who passes is there
passes : (f : ℕ → Bool) (ks : List ℕ) (k : ℕ) → filter f ks ≡ [] → has k ks ≡ true → f k ≡ false
passes f [] k e u = cc
passes f (j ∷ js) k e u = by (passes f js k) (f j) (j == k) refl refl
  where
    by : (filter f js ≡ [] → has k js ≡ true → f k ≡ false) → (a b : Bool) → f j ≡ a → (j == k) ≡ b → f k ≡ false
    by rest true b v w = let none : (j ∷ filter f js) ≡ [] = rw v at e in cc
    by rest false true v w = ap f (sym (same j k w)) ∙ v
    by rest false false v w = rest (rw v at e) (rw w at u)

waits-asked : (h : List Item) (p r : ℕ) → waits_now p (party_of h r) ≡ true → has r (requests h) ≡ true
waits-asked h p r e = requests-asked h r ∙ asked-here h r p (is-some (pool_of h r) p (left-true (is_number (pool_of h r) p) _ (left-true _ _ e)))

-- nobody waits where nobody waited, and nobody waits who did not
pub nobody-waits : (p : ℕ) (h k : List Item) → ((r : ℕ) → waits_now p (party_of k r) ≡ true → waits_now p (party_of h r) ≡ true) → waiting p h ≡ [] → waiting p k ≡ []
nobody-waits p h k e none = waiting-filter p k ∙ none-passes (λ r. waits_now p (party_of k r)) (requests k) (λ r u. by r (waits_now p (party_of k r)) refl)
  where
    by : (r : ℕ) (b : Bool) → waits_now p (party_of k r) ≡ b → b ≡ false
    by r false u = refl
    by r true u =
        let w : waits_now p (party_of h r) ≡ true = e r u in
        let n : waits_now p (party_of h r) ≡ false = passes (λ q. waits_now p (party_of h q)) (requests h) r (sym (waiting-filter p h) ∙ none) (waits-asked h p r w) in
        sym w ∙ n

one-of : (f : ℕ → Bool) (ks : List ℕ) (k : ℕ) → list_any f ks ≡ false → has k ks ≡ true → f k ≡ false
one-of f [] k e u = cc
one-of f (j ∷ js) k e u = by (one-of f js k) (j == k) refl
  where
    by : (list_any f js ≡ false → has k js ≡ true → f k ≡ false) → (b : Bool) → (j == k) ≡ b → f k ≡ false
    by rest true w = ap f (sym (same j k w)) ∙ left-false (f j) (list_any f js) e
    by rest false w = rest (right-false (f j) (list_any f js) e) (rw w at u)

none-of : (f : ℕ → Bool) (ks : List ℕ) → ((k : ℕ) → f k ≡ false) → list_any f ks ≡ false
none-of f [] e = refl
none-of f (k ∷ ks) e = rw (e k) (none-of f ks e)

pub none-left : (o : PoolOptions) (h k : List Item) (start t : Tables) (x : Touched) → Stands o h start → NoneLeftWaiting o h → Stands o k t → Tracks start t x → is_left o k x.pools.items ≡ false → NoneLeftWaiting o k
none-left o h k start t x was none s tracks e = λ p. by p (has p x.pools.items) refl
  where
    apart : (p : ℕ) (ks : List ℕ) (could : Bool) → is_some (first ks) && could ≡ false → (ks ≡ []) ⊎ (could ≡ false)
    apart p [] could u = inl refl
    apart p (r ∷ rs) could u = inr u

    same_could : (p : ℕ) → has p x.pools.items ≡ false → could_be_granted o p k ≡ could_be_granted o p h
    same_could p u = could-grant o p k ∙ ap (could_grant_now o) (sym (s.pools p) ∙ tracks.pools p u ∙ was.pools p) ∙ sym (could-grant o p h)

    waited : (p : ℕ) → has p x.pools.items ≡ false → (r : ℕ) → waits_now p (party_of k r) ≡ true → waits_now p (party_of h r) ≡ true
    waited p u r w = ap (waits_now p) (sym (was.parties r)) ∙ tracks.waits p u r (ap (waits_now p) (s.parties r) ∙ w)

    still : (p : ℕ) → has p x.pools.items ≡ false → (waiting p h ≡ []) ⊎ (could_be_granted o p h ≡ false) → (waiting p k ≡ []) ⊎ (could_be_granted o p k ≡ false)
    still p u (inl a) = inl (nobody-waits p h k (waited p u) a)
    still p u (inr a) = inr (same_could p u ∙ a)

    by : (p : ℕ) (b : Bool) → has p x.pools.items ≡ b → (waiting p k ≡ []) ⊎ (could_be_granted o p k ≡ false)
    by p true u = apart p (waiting p k) (could_be_granted o p k) (one-of (is_left_at o k) x.pools.items p e u)
    by p false u = still p u (none p)

pub not-none-left : (o : PoolOptions) (k : List Item) (pools : List ℕ) → is_left o k pools ≡ true → NoneLeftWaiting o k → ⊥
not-none-left o k pools e none = let all : true ≡ false = sym e ∙ none-of (is_left_at o k) pools (λ p. by p (none p)) in cc
  where
    by : (p : ℕ) → (waiting p k ≡ []) ⊎ (could_be_granted o p k ≡ false) → is_left_at o k p ≡ false
    by p (inl a) = rw a refl
    by p (inr a) = rw (a, and-false (is_some (first (waiting p k)))) refl

-- one pool after the other

pub left-on : (o : PoolOptions) (h : List Item) (rest : List ℕ) (p : ℕ) (more : List ℕ) (b : Bool) → rest ≡ p ∷ more → b ≡ is_left_at o h p → b ≡ false → is_left o h rest ≡ is_left o h more
left-on o h rest p more b e u v = ap (is_left o h) e ∙ ap (λ z. z || is_left o h more) (sym u ∙ v)

pub left-found : (o : PoolOptions) (h : List Item) (rest : List ℕ) (p : ℕ) (more : List ℕ) (b : Bool) → rest ≡ p ∷ more → b ≡ is_left_at o h p → b ≡ true → is_left o h rest ≡ true
left-found o h rest p more b e u v = ap (is_left o h) e ∙ ap (λ z. z || is_left o h more) (sym u ∙ v)

pub left-none : (o : PoolOptions) (h : List Item) (rest : List ℕ) → length rest ≡ 0 → is_left o h rest ≡ false
left-none o h [] e = refl
left-none o h (p ∷ more) e = cc

-- what the auditor makes of a pool
pub left-known : (o : PoolOptions) (h : List Item) (p : ℕ) (x : Pool) (could b : Bool) (found : Option ℕ) → x ≡ pool_stands o h p → could ≡ could_grant_now o x → found ≡ first (waiting p h) → b ≡ is_some found && could → b ≡ is_left_at o h p
left-known o h p x could b found e u f v = v ∙ ap (λ z. is_some z && could) f ∙ ap (λ z. is_some (first (waiting p h)) && z) (u ∙ ap (could_grant_now o) e ∙ sym (could-grant o p h))
