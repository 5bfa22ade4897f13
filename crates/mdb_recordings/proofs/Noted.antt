-- What is kept stands for one event more.
use Rattle.std.proofs.Common.{ℕ, ◌+◌, ◌<◌, ◌≡◌, ◌==◌, Bool, true, false, ◌&&◌, ◌||◌, not, if◌then◌else◌, List, [], ◌∷◌, Option, Some, None, refl, sym, ap, subst, ◌∙◌, arith}
use Rattle.mdb_recordings.specs.Events.{begins, clears, pauses, id_of, starts_one, ends_check_out, ends_wait}
use Rattle.mdb_recordings.specs.Lives.{onto, life, lives, count, numbered, waits, is_checking_out, place, connection_of, connection_named, caller_of, caller_numbered, facts_of, former_after, former_of, hands_out, turns_of}
use Rattle.mdb_recordings.specs.Noting.{SetsNamed, SetsNumbered, GoesOn}
use Rattle.mdb_recordings.specs.Rules.{glance_of}
use Rattle.mdb_recordings.specs.Standing.{Stands}
use Rattle.mdb_recordings.specs.Steps.{caller_after, connection_after, facts_after, former_after_event, turns_after}
use Rattle.mdb_recordings.specs.Tables.{pool_at, connection_at, no_connection, caller_at, no_caller, same_key}
use Rattle.mdb_recordings.specs.declared.caller.Caller.{Caller}
use Rattle.mdb_recordings.specs.declared.callers.Callers.{Callers}
use Rattle.mdb_recordings.specs.declared.connection.Connection.{Connection}
use Rattle.mdb_recordings.specs.declared.connections.Connections.{Connections}
use Rattle.mdb_recordings.specs.declared.event.Recorded.{Recorded}
use Rattle.mdb_recordings.specs.declared.event.Told.{Told}
use Rattle.mdb_recordings.specs.declared.event.Told.TheVariants.{PoolCreated, PoolReady, PoolCleared, PoolClosed, ConnectionCreated, ConnectionReady, ConnectionClosed, CheckOutStarted, CheckOutFailed, CheckedOut, CheckedIn}
use Rattle.mdb_recordings.specs.declared.facts.Facts.{Facts}
use Rattle.mdb_recordings.specs.declared.former.Former.{Former}
use Rattle.mdb_recordings.specs.declared.glance.Glance.{Glance}
use Rattle.mdb_recordings.specs.declared.judge.Judge.{Judge}
use Rattle.mdb_recordings.specs.declared.pools.Pool.{Pool}
use Rattle.mdb_recordings.specs.declared.turns.Turns.{Turns}

same-number : (k : ℕ) → (k == k) ≡ true
same-number k = grind arith

same : (q p : ℕ) → (q == p) ≡ true → q ≡ p
same q p e = grind arith

-- what one event more tells of the pool
facts-step : (p n : ℕ) (at o : Option ℕ) (t : Told) (l : List Recorded) → facts_of (record { pool = p; line = n; event = record { at = at; caller = o; told = t } } ∷ l) ≡ facts_after t n (connection_named (id_of t) l) (facts_of l)
facts-step p n at o (PoolCreated limits) l = refl
facts-step p n at o PoolReady l = refl
facts-step p n at o (PoolCleared true) l = refl
facts-step p n at o (PoolCleared false) l = refl
facts-step p n at o PoolClosed l = refl
facts-step p n at o (ConnectionCreated i) l = refl
facts-step p n at o (ConnectionReady i) l = refl
facts-step p n at o (ConnectionClosed i reason) l = refl
facts-step p n at o CheckOutStarted l = refl
facts-step p n at o (CheckOutFailed reason) l = refl
facts-step p n at o (CheckedOut i) l = refl
facts-step p n at o (CheckedIn i) l = refl

-- the first where the number is the second's own, or else the second
abbrev if_named : {A : Type 0} → Option ℕ → ℕ → A → A → A
if_named None j new old = old
if_named (Some i) j new old = if i == j then new else old

-- what one event more tells of the pools before the last
former-step : (t : Told) (l : List Recorded) (x : Former) → former_after t l x ≡ former_after_event t (connection_named (id_of t) l) (facts_of l) x
former-step (PoolCreated limits) l x = refl
former-step PoolReady l x = refl
former-step (PoolCleared all) l x = refl
former-step PoolClosed l x = refl
former-step (ConnectionCreated i) l x = refl
former-step (ConnectionReady i) l x = refl
former-step (ConnectionClosed i reason) l x = refl
former-step CheckOutStarted l x = refl
former-step (CheckOutFailed reason) l x = refl
former-step (CheckedOut i) l x = refl
former-step (CheckedIn i) l x = refl

-- what one event more tells of a connection
connection-step : (p n : ℕ) (at o : Option ℕ) (t : Told) (l : List Recorded) (j : ℕ) → connection_of j (record { pool = p; line = n; event = record { at = at; caller = o; told = t } } ∷ l) ≡ if_named (id_of t) j (connection_after t at n (facts_of l) (connection_of j l)) (connection_of j l)
connection-step p n at o (PoolCreated limits) l j = refl
connection-step p n at o PoolReady l j = refl
connection-step p n at o (PoolCleared all) l j = refl
connection-step p n at o PoolClosed l j = refl
connection-step p n at o CheckOutStarted l j = refl
connection-step p n at o (CheckOutFailed reason) l j = refl
connection-step p n at o (ConnectionCreated i) l j = go (i == j)
  where
    old : Connection
    old = connection_of j l

    go : (b : Bool) → record {
      is_created = b || old.is_created;
      is_wanted = if b then hands_out (facts_of l) else old.is_wanted;
      is_readied = not b && old.is_readied;
      is_closed = not b && old.is_closed;
      is_out = if b then false else old.is_out;
      was_out = not b && old.was_out;
      generation = if b then count clears l else old.generation;
      readied_after = if b then 0 else old.readied_after;
      rested_at = if b then None else old.rested_at;
      lines = record {
        created = if b then Some n else old.lines.created;
        readied = if b then None else old.lines.readied;
        moved = if b then Some n else old.lines.moved;
        rested = if b then None else old.lines.rested;
        closed = if b then None else old.lines.closed;
      };
    } ≡ (if b then connection_after (ConnectionCreated i) at n (facts_of l) old else old)
    go true = refl
    go false = refl
connection-step p n at o (ConnectionReady i) l j = go (i == j)
  where
    old : Connection
    old = connection_of j l

    go : (b : Bool) → record old { is_readied = b || old.is_readied; readied_after = if b then count pauses l else old.readied_after; rested_at = if b then at else old.rested_at; lines = record old.lines { readied = if b then Some n else old.lines.readied; rested = if b then Some n else old.lines.rested } }
        ≡ (if b then connection_after (ConnectionReady i) at n (facts_of l) old else old)
    go true = refl
    go false = refl
connection-step p n at o (ConnectionClosed i reason) l j = go (i == j)
  where
    old : Connection
    old = connection_of j l

    go : (b : Bool) → record old { is_closed = b || old.is_closed; lines = record old.lines { closed = if b then Some n else old.lines.closed } } ≡ (if b then connection_after (ConnectionClosed i reason) at n (facts_of l) old else old)
    go true = refl
    go false = refl
connection-step p n at o (CheckedOut i) l j = go (i == j)
  where
    old : Connection
    old = connection_of j l

    go : (b : Bool) → record old { is_out = if b then true else old.is_out; was_out = b || old.was_out; lines = record old.lines { moved = if b then Some n else old.lines.moved } } ≡ (if b then connection_after (CheckedOut i) at n (facts_of l) old else old)
    go true = refl
    go false = refl
connection-step p n at o (CheckedIn i) l j = go (i == j)
  where
    old : Connection
    old = connection_of j l

    go : (b : Bool) → record old { is_out = if b then false else old.is_out; rested_at = if b then at else old.rested_at; lines = record old.lines { moved = if b then Some n else old.lines.moved; rested = if b then Some n else old.lines.rested } }
        ≡ (if b then connection_after (CheckedIn i) at n (facts_of l) old else old)
    go true = refl
    go false = refl

abbrev caller_made : Bool → Bool → ℕ → Option ℕ → Caller
caller_made b c place ended = record { is_waiting = b; is_checking_out = c; place = place; ended = ended }

-- what one event more tells of a numbered check-out
caller-step : (p n : ℕ) (at o : Option ℕ) (t : Told) (l : List Recorded) (j : ℕ) → caller_of j (record { pool = p; line = n; event = record { at = at; caller = o; told = t } } ∷ l) ≡ if_named o j (caller_after t n (1 + numbered l) (caller_of j l)) (caller_of j l)
caller-step p n at None t l j = refl
caller-step p n at (Some i) t l j = go (i == j) (starts_one t) (ends_wait t) (ends_check_out t)
  where
    old : Caller
    old = caller_of j l

    go : (b s e d : Bool)
        → caller_made (if b && s then true else (if b && e then false else old.is_waiting)) (if b && s then true else (if b && d then false else old.is_checking_out)) (if b && s then 1 + numbered l else old.place) (if b && d then Some n else old.ended)
        ≡ (if b then (if s then caller_made true true (1 + numbered l) (if d then Some n else old.ended) else caller_made (not e && old.is_waiting) (not d && old.is_checking_out) old.place (if d then Some n else old.ended)) else old)
    go true true e true = refl
    go true true e false = refl
    go true false true true = refl
    go true false true false = refl
    go true false false true = refl
    go true false false false = refl
    go false s e d = refl

-- what one event more tells of the order of check-outs
turns-step : (p n : ℕ) (at o : Option ℕ) (t : Told) (l : List Recorded) → turns_of (record { pool = p; line = n; event = record { at = at; caller = o; told = t } } ∷ l) ≡ turns_after t n o (caller_numbered o l) (turns_of l)
turns-step p n at o t l = refl

-- what is named is this one, where its number is
named-same : {A : Type 0} (o : Option ℕ) (j : ℕ) (named : Option ℕ → A) (of : ℕ → A) (f : A → A) (old : A) → ((i : ℕ) → named (Some i) ≡ of i) → if_named o j (f (named o)) old ≡ if_named o j (f (of j)) old
named-same None j named of f old own = refl
named-same (Some i) j named of f old own = go (i == j) refl
  where
    go : (b : Bool) → (i == j) ≡ b → (if b then f (named (Some i)) else old) ≡ (if b then f (of j) else old)
    go true u = ap f (own i ∙ ap of (same i j u))
    go false u = refl

-- a table in which what is named was replaced
abbrev if_key : {A : Type 0} → Option ℕ → ℕ → ℕ → ℕ → ℕ → ℕ → A → A → A
if_key None p n q m j new old = old
if_key (Some i) p n q m j new old = if same_key p n i q m j then new else old

named-replaced : (o : Option ℕ) (p n : ℕ) (c : Connection) (old new : Connections) → SetsNamed o p n c old new → (q m j : ℕ) → connection_at new q m j ≡ if_key o p n q m j c (connection_at old q m j)
named-replaced None p n c old new e q m j = ap (λ t. connection_at t q m j) e
named-replaced (Some i) p n c old new e q m j = e q m j

numbered-replaced : (o : Option ℕ) (p n : ℕ) (c : Caller) (old new : Callers) → SetsNumbered o p n c old new → (q m j : ℕ) → caller_at new q m j ≡ if_key o p n q m j c (caller_at old q m j)
numbered-replaced None p n c old new e q m j = ap (λ t. caller_at t q m j) e
numbered-replaced (Some i) p n c old new e q m j = e q m j

-- at its own place the number decides
if_key-here : {A : Type 0} (o : Option ℕ) (p n j : ℕ) (new old : A) → if_key o p n p n j new old ≡ if_named o j new old
if_key-here None p n j new old = refl
if_key-here (Some i) p n j new old = rw (same-number p, same-number n) refl

-- elsewhere nothing was replaced
if_key-elsewhere : {A : Type 0} (o : Option ℕ) (p n q m j : ℕ) (new old : A) → ((p == q) && (n == m)) ≡ false → if_key o p n q m j new old ≡ old
if_key-elsewhere None p n q m j new old u = refl
if_key-elsewhere (Some i) p n q m j new old u = rw u refl

abbrev pool_made : ℕ → Former → Facts → Turns → Pool
pool_made n x f t = record { lives = n; former = x; facts = f; turns = t }

apart : (p q n m : ℕ) → (p == q) ≡ false → ((p == q) && (n == m)) ≡ false
apart p q n m u = rw u refl

-- no pool begins with the event
lives-stay : (r : Recorded) (h : List Recorded) → begins r.event.told ≡ false → (q : ℕ) → lives q (r ∷ h) ≡ lives q h
lives-stay r h goes q = ap (λ b. if (r.pool == q) && b then 1 + lives q h else lives q h) goes ∙ stay (r.pool == q)
  where
    stay : (b : Bool) → (if b && false then 1 + lives q h else lives q h) ≡ lives q h
    stay true = refl
    stay false = refl

-- A table of what has a number in a pool: it stood for the events of each pool, and what the event names was replaced.
module _ {A : Type 0} (r : Recorded) (h : List Recorded) (n : ℕ) (goes : begins r.event.told ≡ false) (own : n ≡ lives r.pool h) (o : Option ℕ) (of : ℕ → List Recorded → A) (c none : A) (old new : ℕ → ℕ → ℕ → A)
    (stands : (p i : ℕ) → old p (lives p h) i ≡ of i (life p h)) (fresh : (p m i : ℕ) → lives p h < m → old p m i ≡ none)
    (replaced : (q m j : ℕ) → new q m j ≡ if_key o r.pool n q m j c (old q m j))
    (step : (j : ℕ) → if_named o j c (of j (life r.pool h)) ≡ of j (r ∷ life r.pool h)) where
  -- it stands for the event too
  kept : (q j : ℕ) → new q (lives q (r ∷ h)) j ≡ of j (life q (r ∷ h))
  kept q j = ap (λ m. new q m j) (lives-stay r h goes q) ∙ go (r.pool == q) refl
    where
      here : new r.pool (lives r.pool h) j ≡ of j (onto r (life r.pool h))
      here =
          replaced r.pool (lives r.pool h) j
          ∙ ap (λ m. if_key o r.pool m r.pool (lives r.pool h) j c (old r.pool (lives r.pool h) j)) own
          ∙ if_key-here o r.pool (lives r.pool h) j c (old r.pool (lives r.pool h) j)
          ∙ ap (λ x. if_named o j c x) (stands r.pool j)
          ∙ step j
          ∙ ap (λ b. of j (if b then r ∷ [] else r ∷ life r.pool h)) (sym goes)

      go : (b : Bool) → (r.pool == q) ≡ b → new q (lives q h) j ≡ of j (if b then onto r (life q h) else life q h)
      go true u = subst (λ k. new k (lives k h) j ≡ of j (onto r (life k h))) (same r.pool q u) here
      go false u = replaced q (lives q h) j ∙ if_key-elsewhere o r.pool n q (lives q h) j c (old q (lives q h) j) (apart r.pool q n (lives q h) u) ∙ stands q j

  -- and has nothing of pools to come
  kept-fresh : (q m j : ℕ) → lives q (r ∷ h) < m → new q m j ≡ none
  kept-fresh q m j below = replaced q m j ∙ if_key-elsewhere o r.pool n q m j c (old q m j) (go ((r.pool == q) && (n == m)) refl) ∙ fresh q m j above
    where
      above : lives q h < m
      above = rw (lives-stay r h goes q) at below

      go : (b : Bool) → ((r.pool == q) && (n == m)) ≡ b → ((r.pool == q) && (n == m)) ≡ false
      go true u = absurd (clash (r.pool == q) (n == m) refl refl u)
        where
          clash : (b d : Bool) → (r.pool == q) ≡ b → (n == m) ≡ d → (b && d) ≡ true → ⊥
          clash true true v w x =
              let there : lives q h ≡ m = ap (λ k. lives k h) (sym (same r.pool q v)) ∙ sym own ∙ same n m w in
              omega (arith, there, above)
          clash true false v w x = cc
          clash false d v w x = cc
      go false u = u

module _ (r : Recorded) (g : Glance) (h : List Recorded) (old new : Judge) (n : ℕ) (stands : Stands h old) (known : g ≡ glance_of h r) (goes : begins r.event.told ≡ false) (own : n ≡ lives r.pool h) (step : GoesOn r g n old new) where
  -- what is known of each pool after the event
  noted-pools : (q : ℕ) → pool_at new.pools q ≡ pool_made (lives q (r ∷ h)) (former_of q (r ∷ h)) (facts_of (life q (r ∷ h))) (turns_of (life q (r ∷ h)))
  noted-pools q = step.pools q ∙ go (r.pool == q) refl
    where
      l : List Recorded
      l = life r.pool h

      made : Glance → Pool
      made x = pool_made n (former_after_event r.event.told x.connection x.facts x.former) (facts_after r.event.told r.line x.connection x.facts) (turns_after r.event.told r.line r.event.caller x.caller x.turns)

      told : made g ≡ pool_made n (former_after r.event.told l (former_of r.pool h)) (facts_of (r ∷ l)) (turns_of (r ∷ l))
      told =
          ap made known
          ∙ ap (λ x. pool_made n x (facts_after r.event.told r.line (connection_named (id_of r.event.told) l) (facts_of l)) (turns_of (r ∷ l))) (sym (former-step r.event.told l (former_of r.pool h)))
          ∙ ap (λ f. pool_made n (former_after r.event.told l (former_of r.pool h)) f (turns_of (r ∷ l))) (sym (facts-step r.pool r.line r.event.at r.event.caller r.event.told l))

      after : Bool → ℕ → Pool
      after b k = pool_made (if b then 1 + lives k h else lives k h) (former_after r.event.told (life k h) (former_of k h)) (facts_of (if b then r ∷ [] else r ∷ life k h)) (turns_of (if b then r ∷ [] else r ∷ life k h))

      here : made g ≡ after (begins r.event.told) r.pool
      here = told ∙ ap (λ m. pool_made m (former_after r.event.told l (former_of r.pool h)) (facts_of (r ∷ l)) (turns_of (r ∷ l))) own ∙ ap (λ b. after b r.pool) (sym goes)

      go : (b : Bool) → (r.pool == q) ≡ b → (if b then made g else pool_at old.pools q) ≡ pool_made (if b && begins r.event.told then 1 + lives q h else lives q h) (if b then former_after r.event.told (life q h) (former_of q h) else former_of q h) (facts_of (if b then onto r (life q h) else life q h)) (turns_of (if b then onto r (life q h) else life q h))
      go true u = here ∙ ap (λ k. after (begins r.event.told) k) (same r.pool q u)
      go false u = stands.pools q

  named-step : (j : ℕ) → if_named (id_of r.event.told) j (connection_after r.event.told r.event.at r.line g.facts g.connection) (connection_of j (life r.pool h)) ≡ connection_of j (r ∷ life r.pool h)
  named-step j =
      ap (λ x. if_named (id_of r.event.told) j (connection_after r.event.told r.event.at r.line x.facts x.connection) (connection_of j (life r.pool h))) known
      ∙ named-same (id_of r.event.told) j (λ o. connection_named o (life r.pool h)) (λ i. connection_of i (life r.pool h)) (connection_after r.event.told r.event.at r.line (facts_of (life r.pool h))) (connection_of j (life r.pool h)) (λ i. refl)
      ∙ sym (connection-step r.pool r.line r.event.at r.event.caller r.event.told (life r.pool h) j)

  numbered-step : (j : ℕ) → if_named r.event.caller j (caller_after r.event.told r.line (1 + g.turns.started) g.caller) (caller_of j (life r.pool h)) ≡ caller_of j (r ∷ life r.pool h)
  numbered-step j =
      ap (λ x. if_named r.event.caller j (caller_after r.event.told r.line (1 + x.turns.started) x.caller) (caller_of j (life r.pool h))) known
      ∙ named-same r.event.caller j (λ o. caller_numbered o (life r.pool h)) (λ i. caller_of i (life r.pool h)) (caller_after r.event.told r.line (1 + numbered (life r.pool h))) (caller_of j (life r.pool h)) (λ i. refl)
      ∙ sym (caller-step r.pool r.line r.event.at r.event.caller r.event.told (life r.pool h) j)

  -- what is kept stands for the event too
  pub noted : Stands (r ∷ h) new
  noted = record {
    pools = noted-pools;
    connections = kept r h n goes own (id_of r.event.told) connection_of _ no_connection (connection_at old.connections) (connection_at new.connections) stands.connections stands.fresh (named-replaced (id_of r.event.told) r.pool n _ old.connections new.connections step.connections) named-step;
    fresh = kept-fresh r h n goes own (id_of r.event.told) connection_of _ no_connection (connection_at old.connections) (connection_at new.connections) stands.connections stands.fresh (named-replaced (id_of r.event.told) r.pool n _ old.connections new.connections step.connections) named-step;
    callers = kept r h n goes own r.event.caller caller_of _ no_caller (caller_at old.callers) (caller_at new.callers) stands.callers stands.fresh-callers (numbered-replaced r.event.caller r.pool n _ old.callers new.callers step.callers) numbered-step;
    fresh-callers = kept-fresh r h n goes own r.event.caller caller_of _ no_caller (caller_at old.callers) (caller_at new.callers) stands.callers stands.fresh-callers (numbered-replaced r.event.caller r.pool n _ old.callers new.callers step.callers) numbered-step;
  }
