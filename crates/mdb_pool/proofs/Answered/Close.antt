-- What a close does is the answer to its step.
use Rattle.std.proofs.Common.{ℕ, ◌≡◌, ◌-◌, Bool, true, false, ◌||◌, List, [], ◌∷◌, ◌++◌, map, filter, Option, Some, None, is_some, not, refl, sym, ◌∙◌, ap, subst, append_assoc, append-nil, if◌then◌else◌}
use Rattle.mdb_events.specs.declared.fact.Fact.{Fact}
use Rattle.mdb_events.specs.declared.end.End.TheVariants.{Closed as ClosedEnd}
use Rattle.mdb_events.specs.declared.reasons.ConnectionClosedReason.TheVariants.{PoolClosed as PoolClosedReason}
use Rattle.mdb_log.specs.declared.step.Act.TheVariants.{Close as CloseAct}
use Rattle.mdb_log.specs.declared.reply.Reply.TheVariants.{Done}
use Rattle.mdb_pool.specs.declared.kept.status.Status.{Status}
use Rattle.mdb_pool.specs.declared.kept.status.Status.TheVariants.{New, Ready, Paused, Closed}
use Rattle.mdb_pool.specs.declared.kept.connection.Connection.{Connection}
use Rattle.mdb_pool.specs.declared.kept.request.Request.{Request}
use Rattle.mdb_pool.specs.declared.kept.request.Phase.{Phase}
use Rattle.mdb_pool.specs.declared.kept.request.Phase.TheVariants.{Queued, Given, Over, Ended as EndedPhase}
use Rattle.mdb_pool.specs.Core.{PoolCore}
use Rattle.mdb_log.specs.History.{PoolItem, closed, ended, pool_closed, after_fact, after_facts, has_asked, given}
use Rattle.mdb_log.specs.Connections.{has, pending_list, available_list, known_service}
use Rattle.mdb_log.specs.Requests.{requests, is_unserved, queued, end_of}
use Rattle.mdb_log.specs.State.{state_of}
use Rattle.mdb_pool_rules.specs.Facts.{all_ends, close_facts, closed_fact, pool_closed_fact}
use Rattle.mdb_pool.specs.Kept.Values.{connection_at, request_at, given_in, given_of, end_in, end_at, state_in, is_shut, unserved_in, holder_at, is_asked_at, numbers_asked, with_requests}
use Rattle.mdb_pool.specs.Kept.Places.{is_pending, is_available, is_queued}
use Rattle.std.specs.List.{filter_map}
use Rattle.mdb_pool.proofs.Turns.EndUnserved.{found-unserved, all-ended}
use Rattle.mdb_pool.specs.Acts.Ended.{ended_all}
use Rattle.mdb_pool.specs.Acts.Changes.{closing, closing_facts, shut_facts, off_facts, available_ones, pending_ones, unserved_ones, over_facts}
use Rattle.mdb_log.specs.Legal.{AllFirstCome}
use Rattle.mdb_log.specs.Own.{AllOwn, shuts}
use Rattle.mdb_pool.specs.Standing.{Fits, Accepts, SameHome}
use Rattle.mdb_pool.specs.Acts.Doing.{Serves, SameNotes}
use Rattle.mdb_pool_rules.proofs.Listed.Values.{In, here, there, passes, has-where, member-at, one_if-le}
use Rattle.mdb_pool.proofs.Answered.Act.{accepts, live-service, pending-is}
use Rattle.mdb_log.proofs.Numbers.{same-number}
use Rattle.mdb_log.proofs.Later.{after-append}
use Rattle.mdb_pool.proofs.Follows.Fits.{later-fits, asked-known}
use Rattle.mdb_pool.proofs.Follows.Stale.{shut-status}
use Rattle.mdb_pool.proofs.Follows.Serving.{queued-known}
use Rattle.mdb_log.proofs.Frame.{asked-facts}
use Rattle.mdb_pool_rules.proofs.Fair.{fair-append, own-append}
use Rattle.mdb_pool.proofs.Turns.EndFacts.{over-is, over-known, over-fair, over-own}
use Rattle.mdb_pool_rules.proofs.ManyClosed.{closings, endings}
use Rattle.mdb_pool.proofs.Follows.Closing.{id_of, number_of, shut_ids, over_numbers, shut_items, close-fits}
use Rattle.mdb_pool.proofs.SameAnswers.StaysHome.{stays-home}

-- a part of the list is of the list
module _ {T : Type 0} where
  in-head : (x y : T) (zs ys : List T) → (In x zs → In x ys) → In x (y ∷ zs) → In x (y ∷ ys)
  in-head x y zs ys f here = here
  in-head x y zs ys f (there i) = there (f i)

  pub in-filter : (p : T → Bool) (x : T) (xs : List T) → In x (filter p xs) → In x xs
  in-filter p x [] i = i
  in-filter p x (y ∷ ys) i = on (p y) refl (λ k. in-filter p x ys k) i
    where
      on : (b : Bool) → p y ≡ b → (In x (filter p ys) → In x ys) → In x (filter p (y ∷ ys)) → In x (y ∷ ys)
      on true e rest j = in-head x y (filter p ys) ys rest (subst (λ c. In x (if c then (y ∷ filter p ys) else filter p ys)) e j)
      on false e rest j = there (rest (subst (λ c. In x (if c then (y ∷ filter p ys) else filter p ys)) e j))

  passes-head : (p : T → Bool) (x y : T) (zs : List T) → p y ≡ true → (In x zs → p x ≡ true) → In x (y ∷ zs) → p x ≡ true
  passes-head p x y zs e f here = e
  passes-head p x y zs e f (there i) = f i

  -- what is there passes the test
  in-passes : (p : T → Bool) (x : T) (xs : List T) → In x (filter p xs) → p x ≡ true
  in-passes p x [] i = elim i [ ]
  in-passes p x (y ∷ ys) i = on (p y) refl (λ k. in-passes p x ys k) i
    where
      on : (b : Bool) → p y ≡ b → (In x (filter p ys) → p x ≡ true) → In x (filter p (y ∷ ys)) → p x ≡ true
      on true e rest j = passes-head p x y (filter p ys) e rest (subst (λ c. In x (if c then (y ∷ filter p ys) else filter p ys)) e j)
      on false e rest j = rest (subst (λ c. In x (if c then (y ∷ filter p ys) else filter p ys)) e j)

  in-both : (P : T → Type 0) (xs ys : List T) → ((x : T) → In x xs → P x) → ((x : T) → In x ys → P x) → (x : T) → In x (xs ++ ys) → P x
  in-both P [] ys f g x i = g x i
  in-both P (z ∷ xs) ys f g x here = f x here
  in-both P (z ∷ xs) ys f g x (there i) = in-both P xs ys (λ y j. f y (there j)) g x i

module _ (s : PoolCore) (xs : List PoolItem) (z : Fits s xs) (n : ℕ) where
  conn-at : (x : Connection) → In x s.kept.connections → connection_at s x.id ≡ Some x
  conn-at x i = member-at id_of x s.kept.connections i (rw (z.matches.counts.single x.id) (one_if-le (is_some (connection_at s x.id))))

  req-at : (q : Request) → In q s.kept.requests → request_at s q.number ≡ Some q
  req-at q i = member-at number_of q s.kept.requests i (rw (z.matches.requests.single_request q.number) (one_if-le (is_some (request_at s q.number))))

  -- the closes
  closes-are : (cs : List Connection) → ((x : Connection) → In x cs → connection_at s x.id ≡ Some x) → map (λ c. closed_fact s.pool s.address c PoolClosedReason (known_service xs c)) (map id_of cs) ≡ shut_facts s cs
  closes-are [] at = refl
  closes-are (x ∷ cs) at = rw (live-service s xs z.matches x.id x (at x here)) (ap (λ fs. closed_fact s.pool s.address x.id PoolClosedReason x.service ∷ fs) (closes-are cs (λ y i. at y (there i))))

  ids-append : (cs ds : List Connection) → map id_of cs ++ map id_of ds ≡ map id_of (cs ++ ds)
  ids-append [] ds = refl
  ids-append (x ∷ cs) ds = ap (λ ks. x.id ∷ ks) (ids-append cs ds)

  shut-all : map (λ c. closed_fact s.pool s.address c PoolClosedReason (known_service xs c)) (available_list xs ++ pending_list xs) ≡ shut_facts s (available_ones s ++ pending_ones s)
  shut-all = rw (z.matches.counts.available, z.matches.counts.pending, ids-append (available_ones s) (pending_ones s)) (closes-are (available_ones s ++ pending_ones s) (in-both (λ x. connection_at s x.id ≡ Some x) (available_ones s) (pending_ones s) (λ x i. conn-at x (in-filter (λ y. is_available y.place) x s.kept.connections i)) (λ x i. conn-at x (in-filter (λ y. is_pending y.place) x s.kept.connections i))))

  -- the ends
  unserved-is : (q : Request) → request_at s q.number ≡ Some q → is_unserved xs q.number ≡ unserved_in s q.phase
  unserved-is q e = on q.phase refl
    where
      there_queued : has q.number (queued xs) ≡ is_queued q.phase
      there_queued = ap (has q.number) z.matches.requests.queue ∙ (has-where number_of (λ r. is_queued r.phase) q.number s.kept.requests (z.matches.requests.single_request q.number) ∙ ap (passes number_of (λ r. is_queued r.phase)) e)

      end_is : end_of xs q.number ≡ end_in q.phase
      end_is = z.matches.requests.ends q.number ∙ ap end_at e

      given_is : given xs q.number ≡ given_in q.phase
      given_is = z.matches.requests.given q.number ∙ ap given_of e

      on : (p : Phase) → q.phase ≡ p → is_unserved xs q.number ≡ unserved_in s q.phase
      on Queued f = rw (there_queued, f) refl
      on (Given c) f = rw (there_queued, end_is, given_is, f, pending-is s xs z c) refl
      on Over f = rw (there_queued, end_is, given_is, f) refl
      on (EndedPhase end) f = rw (there_queued, end_is, given_is, f) refl

  -- they asked
  unserved-asked : (q : Request) → request_at s q.number ≡ Some q → unserved_in s q.phase ≡ true → is_asked_at (request_at s q.number) ≡ true
  unserved-asked q e u = on q.phase refl
    where
      at_pending : (c : ℕ) (x : Connection) → q.phase ≡ Given c → connection_at s c ≡ Some x → is_pending x.place ≡ true → is_asked_at (request_at s q.number) ≡ true
      at_pending c x f g h =
          let mine : holder_at (connection_at s c) ≡ Some q.number = z.matches.links.taken q.number c (ap given_of e ∙ ap given_in f) in
          z.matches.links.known c x q.number g (z.matches.links.waits c x q.number g h (sym (ap holder_at g) ∙ mine))

      at_connection : (c : ℕ) (o : Option Connection) → q.phase ≡ Given c → connection_at s c ≡ o → is_asked_at (request_at s q.number) ≡ true
      at_connection c None f g = let k : unserved_in s q.phase ≡ false = rw (f, g) refl in cc
      at_connection c (Some x) f g = let k : unserved_in s q.phase ≡ is_pending x.place = rw (f, g) refl in at_pending c x f g (sym k ∙ u)

      on : (p : Phase) → q.phase ≡ p → is_asked_at (request_at s q.number) ≡ true
      on Queued f = queued-known s xs z.matches q e (ap is_queued f)
      on (Given c) f = at_connection c (connection_at s c) f refl
      on Over f = let k : unserved_in s q.phase ≡ false = rw f refl in cc
      on (EndedPhase end) f = let k : unserved_in s q.phase ≡ false = rw f refl in cc

  numbers-of : (qs : List Request) → ((q : Request) → In q qs → request_at s q.number ≡ Some q) → filter (is_unserved xs) (numbers_asked qs) ≡ map number_of (filter (λ q. unserved_in s q.phase) qs)
  numbers-of [] at = refl
  numbers-of (q ∷ qs) at = on (unserved_in s q.phase) q.took refl refl (numbers-of qs (λ r i. at r (there i)))
    where
      on : (b d : Bool) → unserved_in s q.phase ≡ b → q.took ≡ d → filter (is_unserved xs) (numbers_asked qs) ≡ map number_of (filter (λ r. unserved_in s r.phase) qs) → filter (is_unserved xs) (numbers_asked (q ∷ qs)) ≡ map number_of (filter (λ r. unserved_in s r.phase) (q ∷ qs))
      on true true e d rest =
          let k : is_asked_at (Some q) ≡ true = sym (ap is_asked_at (at q here)) ∙ unserved-asked q (at q here) e in
          let w : is_asked_at (Some q) ≡ false = ap not d in
          cc
      on true false e d rest = let f : is_unserved xs q.number ≡ true = unserved-is q (at q here) ∙ e in rw (d, f, e) (ap (λ ks. q.number ∷ ks) rest)
      on false true e d rest = rw (d, e) rest
      on false false e d rest = let f : is_unserved xs q.number ≡ false = unserved-is q (at q here) ∙ e in rw (d, f, e) rest

  ends-are : (qs : List Request) → ((q : Request) → In q qs → request_at s q.number ≡ Some q) → all_ends s.pool s.address n xs ClosedEnd (map number_of qs) ≡ off_facts s n qs
  ends-are [] at = refl
  ends-are (q ∷ qs) at =
      ap (λ fs. fs ++ all_ends s.pool s.address n xs ClosedEnd (map number_of qs)) (over-is s xs z.matches n q ClosedEnd (at q here)) ∙ ap (λ fs. over_facts s q.number q.warm (n - q.asked_at) ClosedEnd ++ fs) (ends-are qs (λ r i. at r (there i)))

  unserved-at : (q : Request) → In q (unserved_ones s) → request_at s q.number ≡ Some q
  unserved-at q i = req-at q (in-filter (λ r. unserved_in s r.phase) q s.kept.requests i)

  over-all : all_ends s.pool s.address n xs ClosedEnd (filter (is_unserved xs) (requests xs)) ≡ off_facts s n (unserved_ones s)
  over-all = rw (z.order, numbers-of s.kept.requests (λ q i. req-at q i)) (ends-are (unserved_ones s) (λ q i. unserved-at q i))

  pub close-are : is_shut s.kept.status ≡ false → close_facts s.pool s.address s.options n xs ≡ closing_facts s n
  close-are unshut = on s.kept.status z.matches.clearing.status unshut
    where
      on : (u : Status) → state_of s.options xs ≡ state_in u → is_shut u ≡ false → close_facts s.pool s.address s.options n xs ≡ closing_facts s n
      on New e f = rw (e, shut-all, over-all) refl
      on Ready e f = rw (e, shut-all, over-all) refl
      on (Paused error) e f = rw (e, shut-all, over-all) refl
      on Closed e f = cc

  pub close-nothing : is_shut s.kept.status ≡ true → close_facts s.pool s.address s.options n xs ≡ []
  close-nothing shut = rw (z.matches.clearing.status, shut-status s.kept.status shut) refl

  -- what the facts say
  shut-known : (cs : List Connection) (ys : List PoolItem) → after_facts s.pool n (shut_facts s cs) ys ≡ closings (map id_of cs) ys
  shut-known [] ys = refl
  shut-known (x ∷ cs) ys =
      let first : after_fact s.pool n (closed_fact s.pool s.address x.id PoolClosedReason x.service) ys ≡ closed x.id ∷ ys = rw (same-number s.pool) refl in
      ap (after_facts s.pool n (shut_facts s cs)) first ∙ shut-known cs (closed x.id ∷ ys)

  off-known : (qs : List Request) (ys : List PoolItem) → ((q : Request) → In q qs → has_asked ys q.number ≡ true) → after_facts s.pool n (off_facts s n qs) ys ≡ endings ClosedEnd (map number_of qs) ys
  off-known [] ys asked = refl
  off-known (q ∷ qs) ys asked =
      after-append s.pool n (over_facts s q.number q.warm (n - q.asked_at) ClosedEnd) (off_facts s n qs) ys
      ∙ (ap (after_facts s.pool n (off_facts s n qs)) (over-known s s.pool n q.number (n - q.asked_at) ClosedEnd q.warm ys (asked q here)) ∙ off-known qs (ended q.number ClosedEnd ∷ ys) (λ r i. asked r (there i)))

  asked-then : (q : Request) → In q (unserved_ones s) → has_asked (after_facts s.pool n (shut_facts s (available_ones s ++ pending_ones s)) xs) q.number ≡ true
  asked-then q i = asked-facts s.pool n q.number (shut_facts s (available_ones s ++ pending_ones s)) xs ∙ (asked-known s xs z q.number ∙ unserved-asked q (unserved-at q i) (in-passes (λ r. unserved_in s r.phase) q s.kept.requests i))

  pub close-known : after_facts s.pool n (closing_facts s n) xs ≡ shut_items s xs z.matches n
  close-known =
      let ys : List PoolItem = after_facts s.pool n (shut_facts s (available_ones s ++ pending_ones s)) xs in
      let zs : List PoolItem = after_facts s.pool n (off_facts s n (unserved_ones s)) ys in
      let e : ys ≡ closings (shut_ids s xs z.matches n) xs = shut-known (available_ones s ++ pending_ones s) xs in
      let f : zs ≡ endings ClosedEnd (over_numbers s xs z.matches n) ys = off-known (unserved_ones s) ys asked-then in
      after-append s.pool n (shut_facts s (available_ones s ++ pending_ones s) ++ off_facts s n (unserved_ones s)) (pool_closed_fact s.pool s.address ∷ []) xs
      ∙ (ap (after_facts s.pool n (pool_closed_fact s.pool s.address ∷ [])) (after-append s.pool n (shut_facts s (available_ones s ++ pending_ones s)) (off_facts s n (unserved_ones s)) xs)
      ∙ (last zs ∙ ap (λ ks. pool_closed ∷ ks) (f ∙ ap (endings ClosedEnd (over_numbers s xs z.matches n)) e)))
    where
      last : (ks : List PoolItem) → after_facts s.pool n (pool_closed_fact s.pool s.address ∷ []) ks ≡ pool_closed ∷ ks
      last ks = rw (same-number s.pool) refl

  -- they are fair, the pool's own, and close it
  shut-fair : (cs : List Connection) (ys : List PoolItem) → AllFirstCome s.pool n ys (shut_facts s cs)
  shut-fair [] ys = tt
  shut-fair (x ∷ cs) ys = (tt, shut-fair cs _)

  off-fair : (qs : List Request) (ys : List PoolItem) → AllFirstCome s.pool n ys (off_facts s n qs)
  off-fair [] ys = tt
  off-fair (q ∷ qs) ys = fair-append s.pool s.address s.options n (over_facts s q.number q.warm (n - q.asked_at) ClosedEnd) (off_facts s n qs) ys (over-fair s s.pool n q.number (n - q.asked_at) ClosedEnd q.warm ys) (off-fair qs (after_facts s.pool n (over_facts s q.number q.warm (n - q.asked_at) ClosedEnd) ys))

  shut-own : (cs : List Connection) (ys : List PoolItem) → AllOwn s.pool n ys (shut_facts s cs)
  shut-own [] ys = tt
  shut-own (x ∷ cs) ys = (refl, shut-own cs _)

  off-own : (qs : List Request) (ys : List PoolItem) → ((q : Request) → In q qs → has_asked ys q.number ≡ true) → AllOwn s.pool n ys (off_facts s n qs)
  off-own [] ys asked = tt
  off-own (q ∷ qs) ys asked =
      let over : List Fact = over_facts s q.number q.warm (n - q.asked_at) ClosedEnd in
      own-append s.pool s.address s.options n over (off_facts s n qs) ys (over-own s s.pool n q.number (n - q.asked_at) ClosedEnd q.warm ys refl (asked q here)) (off-own qs (after_facts s.pool n over ys) (λ r i. asked-facts s.pool n r.number over ys ∙ asked r (there i)))

  pub close-fair : AllFirstCome s.pool n xs (closing_facts s n)
  close-fair = fair-append s.pool s.address s.options n (shut_facts s (available_ones s ++ pending_ones s) ++ off_facts s n (unserved_ones s)) (pool_closed_fact s.pool s.address ∷ []) xs
      (fair-append s.pool s.address s.options n (shut_facts s (available_ones s ++ pending_ones s)) (off_facts s n (unserved_ones s)) xs (shut-fair (available_ones s ++ pending_ones s) xs) (off-fair (unserved_ones s) (after_facts s.pool n (shut_facts s (available_ones s ++ pending_ones s)) xs)))
      (tt, tt)

  pub close-all-own : AllOwn s.pool n xs (closing_facts s n)
  close-all-own = own-append s.pool s.address s.options n (shut_facts s (available_ones s ++ pending_ones s) ++ off_facts s n (unserved_ones s)) (pool_closed_fact s.pool s.address ∷ []) xs
      (own-append s.pool s.address s.options n (shut_facts s (available_ones s ++ pending_ones s)) (off_facts s n (unserved_ones s)) xs (shut-own (available_ones s ++ pending_ones s) xs) (off-own (unserved_ones s) (after_facts s.pool n (shut_facts s (available_ones s ++ pending_ones s)) xs) asked-then))
      (refl, tt)

  pub close-shuts : shuts (closing_facts s n) ≡ true
  close-shuts = first (available_ones s ++ pending_ones s)
    where
      then_off : (qs : List Request) → shuts (off_facts s n qs ++ pool_closed_fact s.pool s.address ∷ []) ≡ true
      then_off [] = refl
      then_off (q ∷ qs) = on q.warm refl (then_off qs)
        where
          on : (b : Bool) → q.warm ≡ b → shuts (off_facts s n qs ++ pool_closed_fact s.pool s.address ∷ []) ≡ true → shuts (off_facts s n (q ∷ qs) ++ pool_closed_fact s.pool s.address ∷ []) ≡ true
          on true e rest = rw e rest
          on false e rest = rw e rest

      first : (cs : List Connection) → shuts ((shut_facts s cs ++ off_facts s n (unserved_ones s)) ++ pool_closed_fact s.pool s.address ∷ []) ≡ true
      first [] = then_off (unserved_ones s)
      first (x ∷ cs) = first cs

shut-split : (s : PoolCore) (cs ds : List Connection) → shut_facts s (cs ++ ds) ≡ shut_facts s cs ++ shut_facts s ds
shut-split s [] ds = refl
shut-split s (x ∷ cs) ds = ap (λ fs. closed_fact s.pool s.address x.id PoolClosedReason x.service ∷ fs) (shut-split s cs ds)

-- an accepted close of a pool that is open
pub close-accepts : (s s1 t : PoolCore) (before f1 after : List Fact) (n q : ℕ) (xs : List PoolItem) → Fits s xs → is_shut s.kept.status ≡ false → s1 ≡ closing s n
    → f1 ≡ (((before ++ shut_facts s (available_ones s)) ++ shut_facts s (pending_ones s)) ++ off_facts s n (unserved_ones s)) ++ pool_closed_fact s.pool s.address ∷ []
    → SameHome s1 t → SameNotes s1 t → ((k : List PoolItem) → Fits s1 k → Serves s1 t n f1 after k)
    → Accepts s t before after n (CloseAct q) Done xs xs
close-accepts s s1 t before f1 after n q xs z unshut s1_is f1_is home notes serves =
    let split : (before ++ shut_facts s (available_ones s)) ++ shut_facts s (pending_ones s) ≡ before ++ shut_facts s (available_ones s ++ pending_ones s) = append_assoc before (shut_facts s (available_ones s)) (shut_facts s (pending_ones s)) ∙ ap (λ k. before ++ k) (sym (shut-split s (available_ones s) (pending_ones s))) in
    accepts s s1 t t before f1 after n (CloseAct q) Done (closing_facts s n) xs xs
    (close-are s xs z n unshut)
    (f1_is ∙ (ap (λ k. (k ++ off_facts s n (unserved_ones s)) ++ pool_closed_fact s.pool s.address ∷ []) split ∙ (ap (λ k. k ++ pool_closed_fact s.pool s.address ∷ []) (append_assoc before (shut_facts s (available_ones s ++ pending_ones s)) (off_facts s n (unserved_ones s))) ∙ append_assoc before (shut_facts s (available_ones s ++ pending_ones s) ++ off_facts s n (unserved_ones s)) (pool_closed_fact s.pool s.address ∷ []))))
    (rw s1_is (stays-home refl refl refl refl))
    (rw s1_is (subst (Fits (closing s n)) (sym (close-known s xs z n)) (close-fits s xs z n)))
    serves
    (λ zs w. w)
    (λ claims own zs m. refl)
    tt
    (ap is_shut (notes.status ∙ ap (λ k. k.kept.status) s1_is) ∙ ap (λ b. b || is_shut s.kept.status) (sym (close-shuts s xs z n)))
    (λ r. ap (has r) (notes.settled ∙ ap (λ k. k.kept.settled) s1_is))
    (λ c. ap (has c) (notes.claimed ∙ ap (λ k. k.kept.claimed) s1_is))
    (close-fair s xs z n)
    (close-all-own s xs z n)

-- a close of a closed pool, which says nothing
pub closed-accepts : (s s1 t : PoolCore) (before after : List Fact) (n q : ℕ) (xs : List PoolItem) → Fits s xs → is_shut s.kept.status ≡ true → s1 ≡ record s { kept = record s.kept { last = n } } → SameHome s1 t → SameNotes s1 t
    → ((k : List PoolItem) → Fits s1 k → Serves s1 t n before after k)
    → Accepts s t before after n (CloseAct q) Done xs xs
closed-accepts s s1 t before after n q xs z shut s1_is home notes serves =
    accepts s s1 t t before before after n (CloseAct q) Done [] xs xs
    (close-nothing s xs z n shut)
    (sym (append-nil before)) (rw s1_is (stays-home refl refl refl refl)) (rw s1_is (later-fits s xs z n)) serves
    (λ zs w. w)
    (λ claims own zs m. refl)
    tt
    (ap is_shut (notes.status ∙ ap (λ k. k.kept.status) s1_is))
    (λ r. ap (has r) (notes.settled ∙ ap (λ k. k.kept.settled) s1_is))
    (λ c. ap (has c) (notes.claimed ∙ ap (λ k. k.kept.claimed) s1_is))
    tt
    tt

-- the requests with the numbers of the unserved ones are these
pub all-told : (s : PoolCore) (xs : List PoolItem) → Fits s xs → (ks : List ℕ) → ks ≡ map number_of (unserved_ones s) → filter (λ q. unserved_in s q.phase) (filter_map (request_at s) ks) ≡ unserved_ones s
all-told s xs z ks e = ap (λ js. filter (λ q. unserved_in s q.phase) (filter_map (request_at s) js)) e ∙ found-unserved s (λ q i. req-at s xs z 0 q i)

pub all-end : (s : PoolCore) (m : ℕ) (ks : List ℕ) → ks ≡ map number_of (unserved_ones s) → with_requests (closing s m) (ended_all s ks) ≡ closing s m
all-end s m ks e = ap (with_requests (closing s m)) (ap (ended_all s) e ∙ all-ended s)
