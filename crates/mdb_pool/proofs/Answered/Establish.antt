-- What an established connection does is the answer to its step.
use Rattle.std.proofs.Common.{ℕ, ◌≡◌, ◌-◌, Bool, true, false, List, [], ◌∷◌, ◌++◌, Some, None, is_some, refl, sym, ◌∙◌, subst, ap, Option, ◌||◌, append_assoc}
use Rattle.mdb_events.specs.declared.fact.Fact.{Fact}
use Rattle.mdb_events.specs.declared.fact.Fact.TheVariants.{Ended}
use Rattle.mdb_events.specs.declared.end.End.TheVariants.{Filled}
use Rattle.mdb_log.specs.declared.step.Act.TheVariants.{Established as EstablishedAct}
use Rattle.mdb_log.specs.declared.step.Established.{Established}
use Rattle.mdb_log.specs.declared.reply.Reply.TheVariants.{Done}
use Rattle.mdb_pool.specs.Now.{queries}
use Rattle.mdb_pool.specs.declared.kept.connection.Connection.{Connection}
use Rattle.mdb_pool.specs.declared.kept.connection.Place.TheVariants.{Pending, Available}
use Rattle.mdb_pool.specs.declared.kept.request.Request.{Request}
use Rattle.mdb_pool.specs.declared.kept.request.Phase.{Phase}
use Rattle.mdb_pool.specs.declared.kept.request.Phase.TheVariants.{Queued, Given, Over, Ended as EndedPhase}
use Rattle.mdb_pool.specs.Core.{PoolCore}
use Rattle.mdb_log.specs.History.{PoolItem, established, ended, after_facts, has_asked, closed, checked_in}
use Rattle.mdb_pool_rules.specs.Facts.{act_facts, check_in, checked_out_fact, ready_fact}
use Rattle.mdb_slots.specs.Keyed.{others}
use Rattle.mdb_log.specs.Own.{shuts}
use Rattle.mdb_pool_rules.proofs.Fair.{fair-append, own-append, shut-append}
use Rattle.mdb_log.proofs.Frame.{asked-facts}
use Rattle.mdb_pool.proofs.Answered.Fail.{holder-some, holder-none}
use Rattle.mdb_pool.specs.Standing.{Fits, Accepts, SameHome}
use Rattle.mdb_pool.specs.Acts.Doing.{Serves, SameNotes}
use Rattle.mdb_pool.specs.Kept.Values.{connection_at, request_at, asked_at_of, warm_of, given_in, given_of, holder_at, holder_request, is_shut, reason_now}
use Rattle.mdb_pool.specs.Acts.Changes.{establishing, pooling, back_facts, forgetting, pooling_for, filling_for, parting, ending}
use Rattle.mdb_pool.proofs.Answered.Act.{accepts, live-errored, live-dropped, given-open}
use Rattle.mdb_pool_rules.proofs.Listed.Values.{entry_at-key, entry_at-swap, others-swap}
use Rattle.mdb_log.proofs.Numbers.{same-number}
use Rattle.mdb_pool.proofs.Follows.Fits.{establish-fits, pool-fits, pool-drop-fits, rest-fits, part-fits, skip-fits, late-end-fits, late-end-fits_closed, late-end-fits_skipped, asked-known}
use Rattle.mdb_log.specs.Connections.{has, held, granted_to, service_of, known_service}
use Rattle.mdb_log.specs.Requests.{end_of}
use Rattle.mdb_pool.specs.Kept.Places.{is_pending}
use Rattle.mdb_events.specs.declared.reasons.ConnectionClosedReason.{ConnectionClosedReason}
use Rattle.mdb_pool.proofs.Follows.CheckIn.{check-in-is, back-fair, back-own, back-open, back-fits}
use Rattle.mdb_pool.proofs.Follows.Stale.{live-created, stale-in}
use Rattle.mdb_pool.proofs.SameAnswers.StaysHome.{stays-home}

-- a pending connection
module _ (s : PoolCore) (xs : List PoolItem) (z : Fits s xs) (n : ℕ) (x : Connection) (how : Established) where
  abbrev ys : List PoolItem
  ys = established x.id how n ∷ xs

  abbrev up-facts : Request → List Fact
  up-facts q = ready_fact s.pool s.address x.id (n - x.created_at) ∷ checked_out_fact s.pool s.address x.id (n - q.asked_at) ∷ []

  abbrev up_x : Connection
  up_x = record x { service = how.service_id; wire = Some how.wire }

  abbrev why : Option ConnectionClosedReason
  why = reason_now s up_x

  abbrev said : List Fact
  said = ready_fact s.pool s.address x.id (n - x.created_at) ∷ back_facts s up_x why

  -- what a check-in would say
  check-in-here : connection_at s x.id ≡ Some x → check_in s.pool s.address s.options ys x.id ≡ back_facts s up_x why
  check-in-here at_x = check-in-is s ys up_x z.matches.clearing.status named (live-errored s xs z.matches x.id x at_x) (stale-in s xs z.matches ys x.id how.service_id (live-created s xs z.matches x.id x at_x) served (λ t. refl) (λ t. refl)) (live-dropped s xs z.matches x.id x at_x)
    where
      named : known_service ys x.id ≡ how.service_id
      named = rw (same-number x.id) refl

      served : service_of ys x.id ≡ how.service_id
      served = rw (same-number x.id) refl

  -- whoever waits for it has not ended
  party-is : (r : ℕ) → connection_at s x.id ≡ Some x → x.place ≡ Pending → x.holder ≡ Some r → granted_to xs x.id ≡ Some r
  party-is r at_x place held = z.matches.connections.granted_to x.id x at_x ∙ z.matches.links.waits x.id x r at_x (ap is_pending place) held

  still-open : (r : ℕ) → connection_at s x.id ≡ Some x → x.holder ≡ Some r → end_of xs r ≡ None
  still-open r at_x held = z.matches.requests.ends r ∙ given-open (request_at s r) x.id (z.matches.links.owned x.id r (ap holder_at at_x ∙ held))

  -- its party, a caller, has it
  up-are : (q : Request) → connection_at s x.id ≡ Some x → x.place ≡ Pending → x.holder ≡ Some q.number → request_at s q.number ≡ Some q → q.warm ≡ false → act_facts s.pool s.address s.options n xs ys (EstablishedAct s.pool x.id how) ≡ up-facts q
  up-are q at_x place held at_q cold =
      rw (z.matches.connections.created_at x.id x at_x, party-is q.number at_x place held, still-open q.number at_x held, z.matches.requests.warm q.number ∙ (ap warm_of at_q ∙ cold), z.matches.requests.asked_at q.number ∙ ap asked_at_of at_q) refl

  -- its party is a warm request
  fill-are : (q : Request) → connection_at s x.id ≡ Some x → x.place ≡ Pending → x.holder ≡ Some q.number → request_at s q.number ≡ Some q → q.warm ≡ true → act_facts s.pool s.address s.options n xs ys (EstablishedAct s.pool x.id how) ≡ said ++ Ended q.number Filled ∷ []
  fill-are q at_x place held at_q hot =
      rw (z.matches.connections.created_at x.id x at_x, party-is q.number at_x place held, still-open q.number at_x held, z.matches.requests.warm q.number ∙ (ap warm_of at_q ∙ hot)) (ap (λ k. ready_fact s.pool s.address x.id (n - x.created_at) ∷ k ++ Ended q.number Filled ∷ []) (check-in-here at_x))

  -- its party gave up
  pooled-are : (k : ℕ) → connection_at s x.id ≡ Some x → x.place ≡ Pending → x.holder ≡ None → x.party ≡ Some k → act_facts s.pool s.address s.options n xs ys (EstablishedAct s.pool x.id how) ≡ said
  pooled-are k at_x place alone party =
      let over : is_some (end_of xs k) ≡ true = ap is_some (z.matches.requests.ends k) ∙ z.matches.links.left_by x.id x k at_x (ap is_pending place) alone party in
      rw (z.matches.connections.created_at x.id x at_x, z.matches.connections.granted_to x.id x at_x ∙ party, over) (ap (λ k. ready_fact s.pool s.address x.id (n - x.created_at) ∷ k) (check-in-here at_x))

  -- it has no party
  rest-are : connection_at s x.id ≡ Some x → x.party ≡ None → act_facts s.pool s.address s.options n xs ys (EstablishedAct s.pool x.id how) ≡ ready_fact s.pool s.address x.id (n - x.created_at) ∷ []
  rest-are at_x nobody = rw (z.matches.connections.created_at x.id x at_x, z.matches.connections.granted_to x.id x at_x ∙ nobody) refl

  pub established-accepts : (s1 t : PoolCore) (before f1 after : List Fact) (q : Request) → connection_at s x.id ≡ Some x → x.place ≡ Pending → x.holder ≡ Some q.number → request_at s q.number ≡ Some q → q.warm ≡ false → s1 ≡ establishing s n x how → f1 ≡ before ++ up-facts q → SameHome s1 t → SameNotes s1 t
      → ((k : List PoolItem) → Fits s1 k → Serves s1 t n f1 after k)
      → Accepts s t before after n (EstablishedAct s.pool x.id how) Done xs ys
  established-accepts s1 t before f1 after q at_x place held at_q cold s1_is f1_is home notes serves =
      accepts s s1 t t before f1 after n (EstablishedAct s.pool x.id how) Done (up-facts q) xs ys
      (up-are q at_x place held at_q cold)
      f1_is (rw s1_is (stays-home refl refl refl refl)) (rw s1_is (establish-fits s xs z n x how q.number at_x place held (ap warm_of at_q ∙ cold))) serves
      (λ zs v. v)
      (λ claims own zs m. refl)
      tt
      (ap is_shut (notes.status ∙ ap (λ k. k.kept.status) s1_is))
      (λ r. ap (has r) (notes.settled ∙ ap (λ k. k.kept.settled) s1_is))
      (λ c. ap (has c) (notes.claimed ∙ ap (λ k. k.kept.claimed) s1_is))
      (tt, (tt, tt))
      (refl, (refl, tt))

  pub rest-accepts : (s1 t : PoolCore) (before f1 after : List Fact) → connection_at s x.id ≡ Some x → x.place ≡ Pending → x.holder ≡ None → x.party ≡ None → s1 ≡ pooling s n x how → f1 ≡ before ++ ready_fact s.pool s.address x.id (n - x.created_at) ∷ [] → SameHome s1 t → SameNotes s1 t
      → ((k : List PoolItem) → Fits s1 k → Serves s1 t n f1 after k)
      → Accepts s t before after n (EstablishedAct s.pool x.id how) Done xs ys
  rest-accepts s1 t before f1 after at_x place alone nobody s1_is f1_is home notes serves =
      accepts s s1 t t before f1 after n (EstablishedAct s.pool x.id how) Done (ready_fact s.pool s.address x.id (n - x.created_at) ∷ []) xs ys
      (rest-are at_x nobody)
      f1_is (rw s1_is (stays-home refl refl refl refl)) (rw s1_is (rest-fits s xs z n x how at_x place alone nobody)) serves
      (λ zs v. v)
      (λ claims own zs m. refl)
      tt
      (ap is_shut (notes.status ∙ ap (λ k. k.kept.status) s1_is))
      (λ r. ap (has r) (notes.settled ∙ ap (λ k. k.kept.settled) s1_is))
      (λ c. ap (has c) (notes.claimed ∙ ap (λ k. k.kept.claimed) s1_is))
      (tt, tt)
      (refl, tt)

  pool-fits-for : connection_at s x.id ≡ Some x → x.place ≡ Pending → x.holder ≡ None → (o : Option ConnectionClosedReason) → Fits (pooling_for s n x how o) (after_facts s.pool n (back_facts s up_x o) ys)
  pool-fits-for at_x place alone None = back-fits s (pooling s n x how) n up_x None ys (λ f. pool-fits s xs z n x how at_x place alone) (λ w f. drops w f)
    where
      drops : (w : ConnectionClosedReason) → ◌≡◌ {A = Option ConnectionClosedReason} None (Some w) → Fits (pooling s n x how) (closed x.id ∷ checked_in x.id n ∷ ys)
      drops w f = cc
  pool-fits-for at_x place alone (Some w) = back-fits s (forgetting s n x) n up_x (Some w) ys (λ f. keeps f) (λ v f. pool-drop-fits s xs z n x how at_x place alone)
    where
      keeps : ◌≡◌ {A = Option ConnectionClosedReason} (Some w) None → Fits (forgetting s n x) (checked_in x.id n ∷ ys)
      keeps f = cc

  pool-home-for : (o : Option ConnectionClosedReason) → SameHome s (pooling_for s n x how o)
  pool-home-for None = stays-home refl refl refl refl
  pool-home-for (Some w) = stays-home refl refl refl refl

  pool-notes-for : (o : Option ConnectionClosedReason) → SameNotes s (pooling_for s n x how o)
  pool-notes-for None = record { settled = refl; claimed = refl; status = refl }
  pool-notes-for (Some w) = record { settled = refl; claimed = refl; status = refl }

  pub pooled-accepts : (s1 t : PoolCore) (before f1 after : List Fact) (k : ℕ) → connection_at s x.id ≡ Some x → x.place ≡ Pending → x.holder ≡ None → x.party ≡ Some k → s1 ≡ pooling_for s n x how why → f1 ≡ before ++ ready_fact s.pool s.address x.id (n - x.created_at) ∷ back_facts s up_x why → SameHome s1 t → SameNotes s1 t
      → ((k : List PoolItem) → Fits s1 k → Serves s1 t n f1 after k)
      → Accepts s t before after n (EstablishedAct s.pool x.id how) Done xs ys
  pooled-accepts s1 t before f1 after k at_x place alone party s1_is f1_is home notes serves =
      accepts s s1 t t before f1 after n (EstablishedAct s.pool x.id how) Done (ready_fact s.pool s.address x.id (n - x.created_at) ∷ back_facts s up_x why) xs ys
      (pooled-are k at_x place alone party)
      f1_is (rw s1_is (pool-home-for why)) (rw s1_is (pool-fits-for at_x place alone why)) serves
      (λ zs v. v)
      (λ claims own zs m. refl)
      tt
      (ap is_shut (notes.status ∙ (ap (λ k. k.kept.status) s1_is ∙ (pool-notes-for why).status)) ∙ ap (λ b. b || is_shut s.kept.status) (sym (back-open s up_x why)))
      (λ r. ap (has r) (notes.settled ∙ (ap (λ k. k.kept.settled) s1_is ∙ (pool-notes-for why).settled)))
      (λ c. ap (has c) (notes.claimed ∙ (ap (λ k. k.kept.claimed) s1_is ∙ (pool-notes-for why).claimed)))
      (tt, back-fair s n up_x why ys)
      (refl, back-own s n up_x why ys)

  -- the request ends by the way, and the connection then has nobody
  abbrev apart : Request → PoolCore
  apart q = parting s x q Filled

  abbrev apart_x : Connection
  apart_x = record x { holder = None }

  fill-fits-for : (q : Request) → connection_at s x.id ≡ Some x → x.place ≡ Pending → request_at s q.number ≡ Some q → q.phase ≡ Given x.id → (o : Option ConnectionClosedReason) → Fits (filling_for s n x how q o) (after_facts s.pool n ((ready_fact s.pool s.address x.id (n - x.created_at) ∷ back_facts s up_x o) ++ Ended q.number Filled ∷ []) ys)
  fill-fits-for q at_x place at_q phase o = on o
    where
      asked : has_asked xs q.number ≡ true
      asked = asked-known s xs z q.number ∙ z.matches.links.known x.id x q.number at_x (z.matches.links.waits x.id x q.number at_x (ap is_pending place) (sym (ap holder_at at_x) ∙ z.matches.links.taken q.number x.id (ap given_of at_q ∙ ap given_in phase)))

      at_u : connection_at (apart q) x.id ≡ Some apart_x
      at_u = entry_at-swap (λ (y : Connection). y.id) x.id apart_x s.kept.connections (ap is_some at_x) ∙ rw (same-number x.id) refl

      zu : Fits (apart q) (ended q.number Filled ∷ xs)
      zu = part-fits s xs z n x q Filled at_x at_q phase place

      same_others : others (λ y. y.id) x.id (apart q).kept.connections ≡ others (λ y. y.id) x.id s.kept.connections
      same_others = others-swap (λ (y : Connection). y.id) apart_x s.kept.connections

      kept : Fits (ending (pooling s n x how) q Filled) (checked_in x.id n ∷ established x.id how n ∷ ended q.number Filled ∷ xs)
      kept = subst (λ cs. Fits (record s { kept = record s.kept { last = n; connections = cs ++ record x { place = Available; holder = None; service = how.service_id; wire = Some how.wire; since = n } ∷ []; requests = (apart q).kept.requests } }) (checked_in x.id n ∷ established x.id how n ∷ ended q.number Filled ∷ xs)) same_others (pool-fits (apart q) (ended q.number Filled ∷ xs) zu n apart_x how at_u place refl)

      gone : Fits (ending (forgetting s n x) q Filled) (closed x.id ∷ checked_in x.id n ∷ established x.id how n ∷ ended q.number Filled ∷ xs)
      gone = subst (λ cs. Fits (record s { kept = record s.kept { last = n; connections = cs; requests = (apart q).kept.requests } }) (closed x.id ∷ checked_in x.id n ∷ established x.id how n ∷ ended q.number Filled ∷ xs)) same_others (pool-drop-fits (apart q) (ended q.number Filled ∷ xs) zu n apart_x how at_u place refl)

      shut : (b : Bool) (w : ConnectionClosedReason) → is_shut s.kept.status ≡ b → Fits (ending (forgetting s n x) q Filled) (after_facts s.pool n ((ready_fact s.pool s.address x.id (n - x.created_at) ∷ back_facts s up_x (Some w)) ++ Ended q.number Filled ∷ []) ys)
      shut true w e = rw (e, same-number s.pool, asked) (late-end-fits_skipped (ending (forgetting s n x) q Filled) xs x.id n q.number how Filled (skip-fits (ending (forgetting s n x) q Filled) (established x.id how n ∷ ended q.number Filled ∷ xs) x.id n gone))
      shut false w e = rw (e, same-number s.pool, asked) (late-end-fits_closed (ending (forgetting s n x) q Filled) xs x.id n q.number how Filled gone)

      on : (o : Option ConnectionClosedReason) → Fits (filling_for s n x how q o) (after_facts s.pool n ((ready_fact s.pool s.address x.id (n - x.created_at) ∷ back_facts s up_x o) ++ Ended q.number Filled ∷ []) ys)
      on None = rw (same-number s.pool, asked) (late-end-fits (ending (pooling s n x how) q Filled) xs x.id n q.number how Filled kept)
      on (Some w) = shut (is_shut s.kept.status) w refl

  pub fill-accepts : (s1 t : PoolCore) (before f1 after : List Fact) (q : Request) → connection_at s x.id ≡ Some x → x.place ≡ Pending → x.holder ≡ Some q.number → request_at s q.number ≡ Some q → q.warm ≡ true → s1 ≡ filling_for s n x how q why → f1 ≡ before ++ said ++ Ended q.number Filled ∷ [] → SameHome s1 t → SameNotes s1 t
      → ((k : List PoolItem) → Fits s1 k → Serves s1 t n f1 after k)
      → Accepts s t before after n (EstablishedAct s.pool x.id how) Done xs ys
  unfolding queries
  fill-accepts s1 t before f1 after q at_x place held at_q hot s1_is f1_is home notes serves =
      let phase : q.phase ≡ Given x.id = given-phase q.phase x.id (ap given_of (sym at_q) ∙ z.matches.links.owned x.id q.number (ap holder_at at_x ∙ held)) in
      let asked : has_asked ys q.number ≡ true = asked-known s xs z q.number ∙ z.matches.links.known x.id x q.number at_x (z.matches.links.waits x.id x q.number at_x (ap is_pending place) held) in
      let open_then : shuts (said ++ Ended q.number Filled ∷ []) ≡ false = shut-append s.pool s.address s.options n said (Ended q.number Filled ∷ []) ∙ rw (back-open s up_x why) refl in
      accepts s s1 t t before f1 after n (EstablishedAct s.pool x.id how) Done (said ++ Ended q.number Filled ∷ []) xs ys
      (fill-are q at_x place held at_q hot)
      (f1_is ∙ append_assoc before said (Ended q.number Filled ∷ [])) (rw s1_is (record { pool = (pool-home-for why).pool; address = (pool-home-for why).address; options = (pool-home-for why).options; alone = (pool-home-for why).alone })) (rw s1_is (fill-fits-for q at_x place at_q phase why)) serves
      (λ zs v. v)
      (λ claims own zs m. refl)
      tt
      (ap is_shut (notes.status ∙ (ap (λ k. k.kept.status) s1_is ∙ (pool-notes-for why).status)) ∙ ap (λ b. b || is_shut s.kept.status) (sym open_then))
      (λ r. ap (has r) (notes.settled ∙ (ap (λ k. k.kept.settled) s1_is ∙ (pool-notes-for why).settled)))
      (λ c. ap (has c) (notes.claimed ∙ (ap (λ k. k.kept.claimed) s1_is ∙ (pool-notes-for why).claimed)))
      (fair-append s.pool s.address s.options n said (Ended q.number Filled ∷ []) ys (tt, back-fair s n up_x why ys) (tt, tt))
      (own-append s.pool s.address s.options n said (Ended q.number Filled ∷ []) ys (refl, back-own s n up_x why ys) (asked-facts s.pool n q.number said ys ∙ asked, tt))
    where
      given-phase : (p : Phase) (c : ℕ) → given_in p ≡ Some c → p ≡ Given c
      given-phase Queued c e = cc
      given-phase (Given d) c e = let w : d ≡ c = cc in ap Given w
      given-phase Over c e = cc
      given-phase (EndedPhase end) c e = cc

-- an act does what its step says, by the numbers that its calls are given
pub established-of : (s s1 t : PoolCore) (before f1 after : List Fact) (n c : ℕ) (x : Connection) (q : Request) (how : Established) (xs : List PoolItem) → Fits s xs → connection_at s c ≡ Some x → x.place ≡ Pending → holder_request s x ≡ Some q → q.warm ≡ false → s1 ≡ establishing s n x how
    → f1 ≡ before ++ ready_fact s.pool s.address x.id (n - x.created_at) ∷ checked_out_fact s.pool s.address x.id (n - q.asked_at) ∷ [] → SameHome s1 t → SameNotes s1 t → ((k : List PoolItem) → Fits s1 k → Serves s1 t n f1 after k)
    → Accepts s t before after n (EstablishedAct s.pool c how) Done xs (established c how n ∷ xs)
established-of s s1 t before f1 after n c x q how xs z at_c place asker cold s1_is f1_is home notes serves =
    let e : x.id ≡ c = entry_at-key (λ (y : Connection). y.id) c x s.kept.connections at_c in
    let v : (x.holder ≡ Some q.number) × (request_at s q.number ≡ Some q) = holder-some s x q asker in
    subst (λ d. Accepts s t before after n (EstablishedAct s.pool d how) Done xs (established d how n ∷ xs)) e (established-accepts s xs z n x how s1 t before f1 after q (subst (λ d. connection_at s d ≡ Some x) (sym e) at_c) place v.0 v.1 cold s1_is f1_is home notes serves)

pub fill-of : (s s1 t : PoolCore) (before f1 after : List Fact) (n c : ℕ) (x : Connection) (q : Request) (how : Established) (o : Option ConnectionClosedReason) (xs : List PoolItem) → Fits s xs → connection_at s c ≡ Some x → x.place ≡ Pending → holder_request s x ≡ Some q → q.warm ≡ true → o ≡ reason_now s (record x { service = how.service_id; wire = Some how.wire }) → s1 ≡ filling_for s n x how q o
    → f1 ≡ before ++ (ready_fact s.pool s.address x.id (n - x.created_at) ∷ back_facts s (record x { service = how.service_id; wire = Some how.wire }) o) ++ Ended q.number Filled ∷ [] → SameHome s1 t → SameNotes s1 t → ((k : List PoolItem) → Fits s1 k → Serves s1 t n f1 after k)
    → Accepts s t before after n (EstablishedAct s.pool c how) Done xs (established c how n ∷ xs)
fill-of s s1 t before f1 after n c x q how o xs z at_c place asker hot reason s1_is f1_is home notes serves =
    let e : x.id ≡ c = entry_at-key (λ (y : Connection). y.id) c x s.kept.connections at_c in
    let v : (x.holder ≡ Some q.number) × (request_at s q.number ≡ Some q) = holder-some s x q asker in
    subst (λ d. Accepts s t before after n (EstablishedAct s.pool d how) Done xs (established d how n ∷ xs)) e (fill-accepts s xs z n x how s1 t before f1 after q (subst (λ d. connection_at s d ≡ Some x) (sym e) at_c) place v.0 v.1 hot (s1_is ∙ ap (filling_for s n x how q) reason) (f1_is ∙ ap (λ k. before ++ (ready_fact s.pool s.address x.id (n - x.created_at) ∷ back_facts s (record x { service = how.service_id; wire = Some how.wire }) k) ++ Ended q.number Filled ∷ []) reason) home notes serves)

pub pooled-of : (s s1 t : PoolCore) (before f1 after : List Fact) (n c : ℕ) (x : Connection) (how : Established) (o : Option ConnectionClosedReason) (xs : List PoolItem) → Fits s xs → connection_at s c ≡ Some x → x.place ≡ Pending → holder_request s x ≡ None → is_some x.party ≡ true → o ≡ reason_now s (record x { service = how.service_id; wire = Some how.wire }) → s1 ≡ pooling_for s n x how o
    → f1 ≡ before ++ ready_fact s.pool s.address x.id (n - x.created_at) ∷ back_facts s (record x { service = how.service_id; wire = Some how.wire }) o → SameHome s1 t → SameNotes s1 t → ((k : List PoolItem) → Fits s1 k → Serves s1 t n f1 after k)
    → Accepts s t before after n (EstablishedAct s.pool c how) Done xs (established c how n ∷ xs)
pooled-of s s1 t before f1 after n c x how o xs z at_c place none some_party reason s1_is f1_is home notes serves = on x.party refl
  where
    e : x.id ≡ c
    e = entry_at-key (λ (y : Connection). y.id) c x s.kept.connections at_c

    at_x : connection_at s x.id ≡ Some x
    at_x = subst (λ d. connection_at s d ≡ Some x) (sym e) at_c

    on : (p : Option ℕ) → x.party ≡ p → Accepts s t before after n (EstablishedAct s.pool c how) Done xs (established c how n ∷ xs)
    on None f = let k : is_some x.party ≡ false = ap is_some f in cc
    on (Some k) f = subst (λ d. Accepts s t before after n (EstablishedAct s.pool d how) Done xs (established d how n ∷ xs)) e (pooled-accepts s xs z n x how s1 t before f1 after k at_x place (holder-none s xs z x at_x none) f (s1_is ∙ ap (pooling_for s n x how) reason) (f1_is ∙ ap (λ k. before ++ ready_fact s.pool s.address x.id (n - x.created_at) ∷ back_facts s (record x { service = how.service_id; wire = Some how.wire }) k) reason) home notes serves)

pub rest-of : (s s1 t : PoolCore) (before f1 after : List Fact) (n c : ℕ) (x : Connection) (how : Established) (xs : List PoolItem) → Fits s xs → connection_at s c ≡ Some x → x.place ≡ Pending → holder_request s x ≡ None → is_some x.party ≡ false → s1 ≡ pooling s n x how
    → f1 ≡ before ++ ready_fact s.pool s.address x.id (n - x.created_at) ∷ [] → SameHome s1 t → SameNotes s1 t → ((k : List PoolItem) → Fits s1 k → Serves s1 t n f1 after k)
    → Accepts s t before after n (EstablishedAct s.pool c how) Done xs (established c how n ∷ xs)
rest-of s s1 t before f1 after n c x how xs z at_c place none no_party s1_is f1_is home notes serves =
    let e : x.id ≡ c = entry_at-key (λ (y : Connection). y.id) c x s.kept.connections at_c in
    let at_x : connection_at s x.id ≡ Some x = subst (λ d. connection_at s d ≡ Some x) (sym e) at_c in
    subst (λ d. Accepts s t before after n (EstablishedAct s.pool d how) Done xs (established d how n ∷ xs)) e (rest-accepts s xs z n x how s1 t before f1 after at_x place (holder-none s xs z x at_x none) (no-number x.party no_party) s1_is f1_is home notes serves)
  where
    no-number : (o : Option ℕ) → is_some o ≡ false → o ≡ None
    no-number None f = refl
    no-number (Some k) f = cc
