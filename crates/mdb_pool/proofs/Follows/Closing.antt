-- A close of the pool follows the items of the pool.
use Rattle.std.proofs.Common.{ℕ, ◌≡◌, ◌≤◌, ◌+◌, ◌-◌, arith, Bool, true, false, ◌||◌, ◌==◌, List, [], ◌∷◌, ◌++◌, length, map, filter, Option, Some, None, is_some, refl, sym, ◌∙◌, ap, subst, if◌then◌else◌, nat_lt}
use Rattle.std.proofs.lemmas.Grind.{common_steps}
use Rattle.std.proofs.lemmas.Bool.Decides.{nat_tests}
use Rattle.mdb_events.specs.declared.end.End.TheVariants.{Closed as ClosedEnd}
use Rattle.mdb_pool.specs.declared.kept.connection.Connection.{Connection}
use Rattle.mdb_pool.specs.declared.kept.connection.Place.{Place}
use Rattle.mdb_pool.specs.declared.kept.connection.Place.TheVariants.{Pending, Available, Held, Pinned}
use Rattle.mdb_pool.specs.declared.kept.request.Request.{Request}
use Rattle.mdb_pool.specs.declared.kept.request.Phase.{Phase}
use Rattle.mdb_pool.specs.declared.kept.request.Phase.TheVariants.{Queued, Given, Over, Ended as EndedPhase}
use Rattle.mdb_pool.specs.Core.{PoolCore}
use Rattle.mdb_log.specs.History.{PoolItem, pool_closed, given}
use Rattle.mdb_log.specs.Connections.{one_if, has, live, live_total, pending_list, available_list, parties, service_of, known_service, is_errored, is_dropped, last_use, wire_of}
use Rattle.mdb_log.specs.Requests.{queued, end_of}
use Rattle.mdb_pool.specs.Kept.Values.{connection_at, request_at, given_of, holder_at, service_at, end_at, asked_at_of, warm_of, one_party, numbers_where, is_pending_at, lasts, unserved_in, wire_at, pins_at, is_pinned_at, errored_at, dropped_at, is_asked_at, numbers_asked}
use Rattle.mdb_pool.specs.Standing.{Fits}
use Rattle.mdb_pool.specs.Kept.Matching.{Matches}
use Rattle.mdb_slots.specs.Keyed.{entry_at}
use Rattle.mdb_pool.specs.Kept.Places.{is_pending, is_available, is_queued, stays}
use Rattle.mdb_pool.specs.Acts.Changes.{closing, ended_request, available_ones, pending_ones, unserved_ones}
use Rattle.mdb_pool_rules.proofs.Listed.Values.{named, passes, has-where, one_if-le}
use Rattle.mdb_log.proofs.Pins.{pinned-again}
use Rattle.mdb_pool_rules.proofs.ManyClosed.{closings, endings, Still, still-both, leave, leave-all, leave-none, leave-one, live-closings, total-closings, pending-closings, available-closings, queued-closings, parties-closings, given-closings, end-closings, live-endings, total-endings, pending-endings, available-endings, queued-endings, parties-endings, given-endings, end-endings, entry_at-filter, named-filter, filter-none}

abbrev pub id_of : Connection → ℕ
id_of x = x.id

abbrev pub number_of : Request → ℕ
number_of q = q.number

abbrev is_kept : Connection → Bool
is_kept x = stays x.place

-- the connections of each place are all connections
places : (xs : List Connection) → length (filter (λ x. is_available x.place) xs) + length (filter (λ x. is_pending x.place) xs) + length (filter is_kept xs) ≡ length xs
places [] = refl
places (x ∷ xs) = on x.place refl (places xs)
  where
    on : (p : Place) → x.place ≡ p → length (filter (λ y. is_available y.place) xs) + length (filter (λ y. is_pending y.place) xs) + length (filter is_kept xs) ≡ length xs → length (filter (λ y. is_available y.place) (x ∷ xs)) + length (filter (λ y. is_pending y.place) (x ∷ xs)) + length (filter is_kept (x ∷ xs)) ≡ length (x ∷ xs)
    on Pending e rest = rw e (omega arith)
    on Available e rest = rw e (omega arith)
    on Held e rest = rw e (omega arith)
    on Pinned e rest = rw e (omega arith)

length-ids : (xs ys : List Connection) → length (map id_of (xs ++ ys)) ≡ length xs + length ys
length-ids xs ys = grind (arith, common_steps)

has-ids : (c : ℕ) (xs ys : List Connection) → has c (map id_of (xs ++ ys)) ≡ has c (map id_of xs) || has c (map id_of ys)
has-ids c [] ys = refl
has-ids c (x ∷ xs) ys = on (x.id == c) refl (has-ids c xs ys)
  where
    on : (b : Bool) → (x.id == c) ≡ b → has c (map id_of (xs ++ ys)) ≡ has c (map id_of xs) || has c (map id_of ys) → has c (map id_of ((x ∷ xs) ++ ys)) ≡ has c (map id_of (x ∷ xs)) || has c (map id_of ys)
    on true e rest = rw e refl
    on false e rest = rw e rest

kept-not : (p : Place) → stays p ≡ true → (is_pending p ≡ false) × (is_available p ≡ false)
kept-not Pending e = cc
kept-not Available e = cc
kept-not Held e = (refl, refl)
kept-not Pinned e = (refl, refl)

-- one request
module _ (s : PoolCore) where
  same-numbers : (qs : List Request) → numbers_asked (map (ended_request s) qs) ≡ numbers_asked qs
  same-numbers [] = refl
  same-numbers (q ∷ qs) = on (unserved_in s q.phase) q.took refl refl (same-numbers qs)
    where
      on : (b d : Bool) → unserved_in s q.phase ≡ b → q.took ≡ d → numbers_asked (map (ended_request s) qs) ≡ numbers_asked qs → numbers_asked (map (ended_request s) (q ∷ qs)) ≡ numbers_asked (q ∷ qs)
      on true true e f rest = rw (e, f) rest
      on true false e f rest = rw (e, f) (ap (λ ks. q.number ∷ ks) rest)
      on false true e f rest = rw (e, f) rest
      on false false e f rest = rw (e, f) (ap (λ ks. q.number ∷ ks) rest)

  named-ended : (r : ℕ) (qs : List Request) → named number_of r (map (ended_request s) qs) ≡ named number_of r qs
  named-ended r [] = refl
  named-ended r (q ∷ qs) = on (unserved_in s q.phase) refl (named-ended r qs)
    where
      on : (b : Bool) → unserved_in s q.phase ≡ b → named number_of r (map (ended_request s) qs) ≡ named number_of r qs → named number_of r (map (ended_request s) (q ∷ qs)) ≡ named number_of r (q ∷ qs)
      on true e rest = rw e (grind (arith, common_steps, rest))
      on false e rest = rw e (grind (arith, common_steps, rest))

  none-queued : (qs : List Request) → numbers_where is_queued (map (ended_request s) qs) ≡ []
  none-queued [] = refl
  none-queued (q ∷ qs) = on q.phase refl (none-queued qs)
    where
      at_pending : (c : ℕ) (b : Bool) → q.phase ≡ Given c → is_pending_at (connection_at s c) ≡ b → numbers_where is_queued (map (ended_request s) qs) ≡ [] → numbers_where is_queued (map (ended_request s) (q ∷ qs)) ≡ []
      at_pending c true e f rest = rw (e, f) rest
      at_pending c false e f rest = rw (e, f) rest

      on : (p : Phase) → q.phase ≡ p → numbers_where is_queued (map (ended_request s) qs) ≡ [] → numbers_where is_queued (map (ended_request s) (q ∷ qs)) ≡ []
      on Queued e rest = rw e rest
      on (Given c) e rest = at_pending c (is_pending_at (connection_at s c)) e refl rest
      on Over e rest = rw e rest
      on (EndedPhase end) e rest = rw e rest

  abbrev ended_of : Option Request → Option Request
  ended_of None = None
  ended_of (Some q) = Some (ended_request s q)

  request-ended : (r : ℕ) (qs : List Request) → entry_at number_of r (map (ended_request s) qs) ≡ ended_of (entry_at number_of r qs)
  request-ended r [] = refl
  request-ended r (q ∷ qs) = on (q.number == r) (unserved_in s q.phase) refl refl (request-ended r qs)
    where
      on : (a b : Bool) → (q.number == r) ≡ a → unserved_in s q.phase ≡ b → entry_at number_of r (map (ended_request s) qs) ≡ ended_of (entry_at number_of r qs) → entry_at number_of r (map (ended_request s) (q ∷ qs)) ≡ ended_of (entry_at number_of r (q ∷ qs))
      on true true e f rest = rw (f, e, f) refl
      on true false e f rest = rw (f, e, f) refl
      on false true e f rest = rw (f, e) rest
      on false false e f rest = rw (f, e) rest

module _ (s : PoolCore) (xs : List PoolItem) (m : Matches s xs) (n : ℕ) where
  abbrev pub shut_ids : List ℕ
  shut_ids = map id_of (available_ones s ++ pending_ones s)

  abbrev pub over_numbers : List ℕ
  over_numbers = map number_of (unserved_ones s)

  abbrev pub shut_items : List PoolItem
  shut_items = pool_closed ∷ endings ClosedEnd over_numbers (closings shut_ids xs)

  still : Still s.options xs (endings ClosedEnd over_numbers (closings shut_ids xs))
  still = still-both s.options ClosedEnd shut_ids over_numbers xs

  once : (c : ℕ) → named id_of c s.kept.connections ≤ 1
  once c = rw (m.counts.single c) (one_if-le (is_some (connection_at s c)))

  abbrev kept_of : Option Connection → Option Connection
  kept_of o = if passes id_of is_kept o then o else None

  at_conn : (c : ℕ) → connection_at (closing s n) c ≡ kept_of (connection_at s c)
  at_conn c = entry_at-filter id_of c is_kept s.kept.connections (once c)

  pub at_request : (r : ℕ) → request_at (closing s n) r ≡ ended_of s (request_at s r)
  at_request r = request-ended s r s.kept.requests

  -- which connections are closed, and which requests end
  shut-is : (c : ℕ) → has c shut_ids ≡ passes id_of (λ x. is_available x.place) (connection_at s c) || passes id_of (λ x. is_pending x.place) (connection_at s c)
  shut-is c = has-ids c (available_ones s) (pending_ones s) ∙ rw (has-where id_of (λ x. is_available x.place) c s.kept.connections (m.counts.single c), has-where id_of (λ x. is_pending x.place) c s.kept.connections (m.counts.single c)) refl

  over-is : (r : ℕ) → has r over_numbers ≡ passes number_of (λ q. unserved_in s q.phase) (request_at s r)
  over-is r = has-where number_of (λ q. unserved_in s q.phase) r s.kept.requests (m.requests.single_request r)

  pending-gone : (k : ℕ) → has k (pending_list xs) ≡ true → has k shut_ids ≡ true
  pending-gone k e =
      let f : passes id_of (λ x. is_pending x.place) (connection_at s k) ≡ true = sym (has-where id_of (λ x. is_pending x.place) k s.kept.connections (m.counts.single k)) ∙ (ap (has k) (sym m.counts.pending) ∙ e) in
      shut-is k ∙ rw f (or-true (passes id_of (λ x. is_available x.place) (connection_at s k)))
    where
      or-true : (b : Bool) → b || true ≡ true
      or-true true = refl
      or-true false = refl

  available-gone : (k : ℕ) → has k (available_list xs) ≡ true → has k shut_ids ≡ true
  available-gone k e =
      let f : passes id_of (λ x. is_available x.place) (connection_at s k) ≡ true = sym (has-where id_of (λ x. is_available x.place) k s.kept.connections (m.counts.single k)) ∙ (ap (has k) (sym m.counts.available) ∙ e) in
      shut-is k ∙ rw f refl

  queued-gone : (k : ℕ) → has k (queued xs) ≡ true → has k over_numbers ≡ true
  queued-gone k e =
      let f : passes number_of (λ q. is_queued q.phase) (request_at s k) ≡ true = sym (has-where number_of (λ q. is_queued q.phase) k s.kept.requests (m.requests.single_request k)) ∙ (ap (has k) (sym m.requests.queue) ∙ e) in
      over-is k ∙ on (request_at s k) f
    where
      at_phase : (p : Phase) → is_queued p ≡ true → unserved_in s p ≡ true
      at_phase Queued e = refl
      at_phase (Given c) e = cc
      at_phase Over e = cc
      at_phase (EndedPhase end) e = cc

      on : (o : Option Request) → passes number_of (λ q. is_queued q.phase) o ≡ true → passes number_of (λ q. unserved_in s q.phase) o ≡ true
      on None f = cc
      on (Some q) f = at_phase q.phase f

  -- a connection that stays was there, held or at its pin
  kept-was : (c : ℕ) (x : Connection) → connection_at (closing s n) c ≡ Some x → (connection_at s c ≡ Some x) × (stays x.place ≡ true)
  kept-was c x e = on (connection_at s c) refl
    where
      at_place : (y : Connection) (b : Bool) → connection_at s c ≡ Some y → stays y.place ≡ b → (connection_at s c ≡ Some x) × (stays x.place ≡ true)
      at_place y true f g = let k : Some x ≡ Some y = sym e ∙ (at_conn c ∙ rw (f, g) refl) in let v : x ≡ y = cc in (f ∙ sym k, rw v g)
      at_place y false f g = let k : connection_at (closing s n) c ≡ None = at_conn c ∙ rw (f, g) refl in cc

      on : (o : Option Connection) → connection_at s c ≡ o → (connection_at s c ≡ Some x) × (stays x.place ≡ true)
      on None f = let k : connection_at (closing s n) c ≡ None = at_conn c ∙ rw f refl in cc
      on (Some y) f = at_place y (stays y.place) f refl

  -- whoever was given a connection that is held keeps it, and one that is pending not
  given-over : (c r : ℕ) (x : Connection) → connection_at s c ≡ Some x → given_of (request_at s r) ≡ Some c → has r over_numbers ≡ is_pending x.place
  given-over c r x e f = over-is r ∙ on (request_at s r) refl
    where
      at_phase : (q : Request) (p : Phase) → request_at s r ≡ Some q → q.phase ≡ p → unserved_in s q.phase ≡ is_pending x.place
      at_phase q Queued g h = let k : given_of (request_at s r) ≡ None = rw (g, h) refl in cc
      at_phase q (Given d) g h = let k : given_of (request_at s r) ≡ Some d = rw (g, h) refl in let v : d ≡ c = cc in rw (h, v, e) refl
      at_phase q Over g h = let k : given_of (request_at s r) ≡ None = rw (g, h) refl in cc
      at_phase q (EndedPhase end) g h = let k : given_of (request_at s r) ≡ None = rw (g, h) refl in cc

      on : (o : Option Request) → request_at s r ≡ o → passes number_of (λ q. unserved_in s q.phase) o ≡ is_pending x.place
      on None g = let k : given_of (request_at s r) ≡ None = rw g refl in cc
      on (Some q) g = at_phase q q.phase g refl

  live-then : (c : ℕ) → live shut_items c ≡ one_if (is_some (connection_at (closing s n) c))
  live-then c =
      let few : live xs c ≤ 1 = rw (m.connections.live c) (one_if-le (is_some (connection_at s c))) in
      live-endings ClosedEnd over_numbers (closings shut_ids xs) c ∙ (live-closings shut_ids xs c few ∙ rw (shut-is c, m.connections.live c, at_conn c) (on (connection_at s c)))
    where
      at_place : (x : Connection) (p : Place) → x.place ≡ p → (if passes id_of (λ y. is_available y.place) (Some x) || passes id_of (λ y. is_pending y.place) (Some x) then 0 else one_if (is_some (Some x))) ≡ one_if (is_some (kept_of (Some x)))
      at_place x Pending e = rw e refl
      at_place x Available e = rw e refl
      at_place x Held e = rw e refl
      at_place x Pinned e = rw e refl

      on : (o : Option Connection) → (if passes id_of (λ x. is_available x.place) o || passes id_of (λ x. is_pending x.place) o then 0 else one_if (is_some o)) ≡ one_if (is_some (kept_of o))
      on None = refl
      on (Some x) = at_place x x.place refl

  total-then : live_total shut_items ≡ length (closing s n).kept.connections
  total-then =
      let a : live_total shut_items ≡ live_total xs - length shut_ids = total-endings ClosedEnd over_numbers (closings shut_ids xs) ∙ total-closings shut_ids xs in
      let b : length shut_ids ≡ length (available_ones s) + length (pending_ones s) = length-ids (available_ones s) (pending_ones s) in
      let d : length (available_ones s) + length (pending_ones s) + length (filter is_kept s.kept.connections) ≡ length s.kept.connections = places s.kept.connections in
      a ∙ rw (m.counts.live_all, b) (omega arith)

  parties-then : (c : ℕ) → parties shut_items c ≡ one_party (holder_at (connection_at (closing s n) c))
  parties-then c = parties-endings ClosedEnd over_numbers (closings shut_ids xs) c ∙ (ap (leave over_numbers) (parties-closings shut_ids xs c ∙ m.connections.parties c) ∙ on (connection_at s c) refl)
    where
      by_holder : (x : Connection) (h : Option ℕ) → connection_at s c ≡ Some x → x.holder ≡ h → leave over_numbers (one_party h) ≡ if is_pending x.place then [] else one_party h
      by_holder x None e f = leave-none over_numbers ∙ same (is_pending x.place)
        where
          same : (b : Bool) → ◌≡◌ {A = List ℕ} [] (if b then [] else [])
          same true = refl
          same false = refl
      by_holder x (Some r) e f = let g : given_of (request_at s r) ≡ Some c = m.links.owned c r (ap holder_at e ∙ f) in leave-one over_numbers r ∙ rw (given-over c r x e g) refl

      at_place : (x : Connection) (p : Place) → connection_at s c ≡ Some x → x.place ≡ p → leave over_numbers (one_party x.holder) ≡ one_party (holder_at (connection_at (closing s n) c))
      at_place x Pending e f = by_holder x x.holder e refl ∙ rw (f, at_conn c, e, f) refl
      at_place x Available e f = rw (m.links.free c x e (ap is_available f), at_conn c, e, f) (leave-none over_numbers)
      at_place x Held e f = by_holder x x.holder e refl ∙ rw (f, at_conn c, e, f) refl
      at_place x Pinned e f = by_holder x x.holder e refl ∙ rw (f, at_conn c, e, f) refl

      on : (o : Option Connection) → connection_at s c ≡ o → leave over_numbers (one_party (holder_at (connection_at s c))) ≡ one_party (holder_at (connection_at (closing s n) c))
      on None e = rw (at_conn c, e) (leave-none over_numbers)
      on (Some x) e = rw e (at_place x x.place e refl)

  given-then : (r : ℕ) → given shut_items r ≡ given_of (request_at (closing s n) r)
  given-then r = given-endings ClosedEnd over_numbers (closings shut_ids xs) r ∙ rw (over-is r, given-closings shut_ids xs r, m.requests.given r, at_request r) (on (request_at s r))
    where
      on : (o : Option Request) → (if passes number_of (λ q. unserved_in s q.phase) o then None else given_of o) ≡ given_of (ended_of s o)
      on None = refl
      on (Some q) = at_phase (unserved_in s q.phase) refl
        where
          at_phase : (b : Bool) → unserved_in s q.phase ≡ b → (if passes number_of (λ k. unserved_in s k.phase) (Some q) then None else given_of (Some q)) ≡ given_of (ended_of s (Some q))
          at_phase true e = rw e refl
          at_phase false e = rw e refl

  ends-then : (r : ℕ) → end_of shut_items r ≡ end_at (request_at (closing s n) r)
  ends-then r = end-endings ClosedEnd over_numbers (closings shut_ids xs) r ∙ rw (over-is r, end-closings shut_ids xs r, m.requests.ends r, at_request r) (on (request_at s r))
    where
      on : (o : Option Request) → (if passes number_of (λ q. unserved_in s q.phase) o then Some ClosedEnd else end_at o) ≡ end_at (ended_of s o)
      on None = refl
      on (Some q) = at_phase (unserved_in s q.phase) refl
        where
          at_phase : (b : Bool) → unserved_in s q.phase ≡ b → (if passes number_of (λ k. unserved_in s k.phase) (Some q) then Some ClosedEnd else end_at (Some q)) ≡ end_at (ended_of s (Some q))
          at_phase true e = rw e refl
          at_phase false e = rw e refl

  moment-then : (o : Option Request) → asked_at_of o ≡ asked_at_of (ended_of s o)
  moment-then None = refl
  moment-then (Some q) = on (unserved_in s q.phase) refl
    where
      on : (b : Bool) → unserved_in s q.phase ≡ b → asked_at_of (Some q) ≡ asked_at_of (ended_of s (Some q))
      on true e = rw e refl
      on false e = rw e refl

  warm-then : (o : Option Request) → warm_of o ≡ warm_of (ended_of s o)
  warm-then None = refl
  warm-then (Some q) = on (unserved_in s q.phase) refl
    where
      on : (b : Bool) → unserved_in s q.phase ≡ b → warm_of (Some q) ≡ warm_of (ended_of s (Some q))
      on true e = rw e refl
      on false e = rw e refl

  some-then : (o : Option Request) → is_some (ended_of s o) ≡ is_some o
  some-then None = refl
  some-then (Some q) = refl

  taken-then : (r c : ℕ) → given_of (request_at (closing s n) r) ≡ Some c → holder_at (connection_at (closing s n) c) ≡ Some r
  taken-then r c e = on (has r over_numbers) refl
    where
      was : given shut_items r ≡ Some c
      was = given-then r ∙ e

      at_place : (x : Connection) (p : Place) → given_of (request_at s r) ≡ Some c → has r over_numbers ≡ false → connection_at s c ≡ Some x → x.place ≡ p → holder_at (connection_at (closing s n) c) ≡ Some r
      at_place x Pending f g h p = let k : has r over_numbers ≡ true = given-over c r x h f ∙ ap is_pending p in cc
      at_place x Available f g h p = let k : holder_at (Some x) ≡ Some r = ap holder_at (sym h) ∙ m.links.taken r c f in let v : holder_at (Some x) ≡ None = m.links.free c x h (ap is_available p) in cc
      at_place x Held f g h p = rw (at_conn c, h, p) (ap holder_at (sym h) ∙ m.links.taken r c f)
      at_place x Pinned f g h p = rw (at_conn c, h, p) (ap holder_at (sym h) ∙ m.links.taken r c f)

      at_connection : (o : Option Connection) → given_of (request_at s r) ≡ Some c → has r over_numbers ≡ false → connection_at s c ≡ o → holder_at (connection_at (closing s n) c) ≡ Some r
      at_connection None f g h = let k : holder_at None ≡ Some r = ap holder_at (sym h) ∙ m.links.taken r c f in cc
      at_connection (Some x) f g h = at_place x x.place f g h refl

      on : (b : Bool) → has r over_numbers ≡ b → holder_at (connection_at (closing s n) c) ≡ Some r
      on true g = let w : given shut_items r ≡ Some c = was in let k : given shut_items r ≡ None = given-endings ClosedEnd over_numbers (closings shut_ids xs) r ∙ rw g refl in cc
      on false g = let k : given shut_items r ≡ given_of (request_at s r) = given-endings ClosedEnd over_numbers (closings shut_ids xs) r ∙ rw g (given-closings shut_ids xs r ∙ m.requests.given r) in at_connection (connection_at s c) (sym k ∙ was) g refl

  owned-then : (c r : ℕ) → holder_at (connection_at (closing s n) c) ≡ Some r → given_of (request_at (closing s n) r) ≡ Some c
  owned-then c r e = on (connection_at (closing s n) c) refl
    where
      on : (o : Option Connection) → connection_at (closing s n) c ≡ o → given_of (request_at (closing s n) r) ≡ Some c
      on None f = let k : holder_at None ≡ Some r = ap holder_at (sym f) ∙ e in cc
      on (Some x) f =
          let w : (connection_at s c ≡ Some x) × (stays x.place ≡ true) = kept-was c x f in
          let g : given_of (request_at s r) ≡ Some c = m.links.owned c r (ap holder_at w.0 ∙ (ap holder_at (sym f) ∙ e)) in
          let k : has r over_numbers ≡ false = given-over c r x w.0 g ∙ (kept-not x.place w.1).0 in
          sym (given-then r) ∙ (given-endings ClosedEnd over_numbers (closings shut_ids xs) r ∙ rw k (given-closings shut_ids xs r ∙ (m.requests.given r ∙ g)))

  -- what is said of a connection that lasts
  lasts-then : {A : Type 0} (c : ℕ) (v none : A) (says : Option Connection → A) → says None ≡ none → (if lasts s c then v else none) ≡ says (connection_at s c) → (if lasts (closing s n) c then v else none) ≡ says (connection_at (closing s n) c)
  lasts-then c v none says e f = on (connection_at s c) refl
    where
      created-yet : (x : Connection) → connection_at s c ≡ Some x → nat_lt s.kept.created c ≡ false
      created-yet x g = grind (arith, nat_tests, m.counts.unused c, g)

      at_place : (x : Connection) (p : Place) → connection_at s c ≡ Some x → x.place ≡ p → (if lasts (closing s n) c then v else none) ≡ says (connection_at (closing s n) c)
      at_place x Pending g p = rw (at_conn c, g, p, created-yet x g) (sym e)
      at_place x Available g p = rw (at_conn c, g, p, created-yet x g) (sym e)
      at_place x Held g p = let k : v ≡ says (Some x) = subst (λ o. (if is_some o || nat_lt s.kept.created c then v else none) ≡ says o) g f in rw (at_conn c, g, ap stays p) k
      at_place x Pinned g p = let k : v ≡ says (Some x) = subst (λ o. (if is_some o || nat_lt s.kept.created c then v else none) ≡ says o) g f in rw (at_conn c, g, ap stays p) k

      on : (o : Option Connection) → connection_at s c ≡ o → (if lasts (closing s n) c then v else none) ≡ says (connection_at (closing s n) c)
      on None g = rw (at_conn c, g) (subst (λ o. (if is_some o || nat_lt s.kept.created c then v else none) ≡ says o) g f)
      on (Some x) g = at_place x x.place g refl

  -- a connection that is closed is not pinned
  pins-then : (c : ℕ) → pins_at (connection_at s c) ≡ pins_at (connection_at (closing s n) c)
  pins-then c = on (connection_at s c) refl
    where
      at_kept : (x : Connection) (b : Bool) → connection_at s c ≡ Some x → stays x.place ≡ b → pins_at (connection_at s c) ≡ pins_at (connection_at (closing s n) c)
      at_kept x true e f = rw (at_conn c, e, f) refl
      at_kept x false e f = rw (at_conn c, e, f) (m.pinning.loose c x e f)

      on : (o : Option Connection) → connection_at s c ≡ o → pins_at (connection_at s c) ≡ pins_at (connection_at (closing s n) c)
      on None e = rw (at_conn c, e) refl
      on (Some x) e = at_kept x (stays x.place) e refl

  pinned-then : (c : ℕ) → is_pinned_at (connection_at s c) ≡ is_pinned_at (connection_at (closing s n) c)
  pinned-then c = rw (at_conn c) (on (connection_at s c))
    where
      at_place : (x : Connection) (p : Place) → x.place ≡ p → is_pinned_at (Some x) ≡ is_pinned_at (kept_of (Some x))
      at_place x Pending e = rw e refl
      at_place x Available e = rw e refl
      at_place x Held e = rw e refl
      at_place x Pinned e = rw e refl

      on : (o : Option Connection) → is_pinned_at o ≡ is_pinned_at (kept_of o)
      on None = refl
      on (Some x) = at_place x x.place refl

  asks-then : (o : Option Request) → is_asked_at o ≡ is_asked_at (ended_of s o)
  asks-then None = refl
  asks-then (Some q) = on (unserved_in s q.phase) refl
    where
      on : (b : Bool) → unserved_in s q.phase ≡ b → is_asked_at (Some q) ≡ is_asked_at (ended_of s (Some q))
      on true e = rw e refl
      on false e = rw e refl

  pub close-matches : Matches (closing s n) shut_items
  close-matches = record {
    counts = record {
      created = still.created ∙ m.counts.created;
      live_all = total-then;
      pending = pending-endings ClosedEnd over_numbers (closings shut_ids xs) ∙ (pending-closings shut_ids xs ∙ (leave-all shut_ids (pending_list xs) pending-gone ∙ sym (ap (map id_of) (filter-none id_of (λ x. is_pending x.place) is_kept s.kept.connections (λ x e. (kept-not x.place e).0)))));
      available = available-endings ClosedEnd over_numbers (closings shut_ids xs) ∙ (available-closings shut_ids xs ∙ (leave-all shut_ids (available_list xs) available-gone ∙ sym (ap (map id_of) (filter-none id_of (λ x. is_available x.place) is_kept s.kept.connections (λ x e. (kept-not x.place e).1)))));
      single = λ c. named-filter id_of c is_kept s.kept.connections (once c);
      unused = λ c h. at_conn c ∙ rw (m.counts.unused c h) refl;
    };
    connections = record {
      live = live-then;
      parties = parties-then;
      ungranted = λ c h. still.granted_to c ∙ m.connections.ungranted c h;
      granted_to = λ c x e. still.granted_to c ∙ m.connections.granted_to c x (kept-was c x e).0;
      created_at = λ c x e. still.created_at c ∙ m.connections.created_at c x (kept-was c x e).0;
      since = λ c x e f. let k : is_available x.place ≡ false = (kept-not x.place (kept-was c x e).1).1 in cc;
    };
    told = record {
      served = λ c. rw (still.served c) (lasts-then c (service_of xs c) None service_at refl (m.told.served c));
      service = λ c. rw (still.service c) (lasts-then c (known_service xs c) None service_at refl (m.told.service c));
      wire = λ c. rw (still.wire c) (lasts-then c (wire_of xs c) None wire_at refl (m.told.wire c));
    };
    requests = record {
      queue = queued-endings ClosedEnd over_numbers (closings shut_ids xs) ∙ (ap (leave over_numbers) (queued-closings shut_ids xs) ∙ (leave-all over_numbers (queued xs) queued-gone ∙ sym (none-queued s s.kept.requests)));
      given = given-then;
      single_request = λ r. named-ended s r s.kept.requests ∙ (m.requests.single_request r ∙ ap one_if (sym (some-then (request_at s r)) ∙ ap is_some (sym (at_request r))));
      asked_at = λ r. still.asked_at r ∙ (m.requests.asked_at r ∙ (moment-then (request_at s r) ∙ ap asked_at_of (sym (at_request r))));
      ends = ends-then;
      asks = λ r. still.asked r ∙ (m.requests.asks r ∙ (asks-then (request_at s r) ∙ ap is_asked_at (sym (at_request r))));
      warm = λ r. still.warm r ∙ (m.requests.warm r ∙ (warm-then (request_at s r) ∙ ap warm_of (sym (at_request r))));
    };
    links = record {
      taken = taken-then;
      owned = owned-then;
      known = λ c x r e f. sym (asks-then (request_at s r) ∙ ap is_asked_at (sym (at_request r))) ∙ m.links.known c x r (kept-was c x e).0 f;
      free = λ c x e f. m.links.free c x (kept-was c x e).0 f;
      busy = λ c x e f. m.links.busy c x (kept-was c x e).0 f;
      waits = λ c x r e f g. m.links.waits c x r (kept-was c x e).0 f g;
      left_by = λ c x r e f g h. let k : is_pending x.place ≡ false = (kept-not x.place (kept-was c x e).1).0 in cc;
      fills = λ c x r e f g. m.links.fills c x r (kept-was c x e).0 f (warm-then (request_at s r) ∙ (ap warm_of (sym (at_request r)) ∙ g));
    };
    pinning = record {
      pins = λ c. still.pins c ∙ (m.pinning.pins c ∙ pins-then c);
      loose = λ c x e f. m.pinning.loose c x (kept-was c x e).0 f;
      rests = λ c x e f. m.pinning.rests c x (kept-was c x e).0 f;
    };
    uses = record {
      errored = λ c. rw (still.errored c) (lasts-then c (is_errored xs c) false errored_at refl (m.uses.errored c));
      dropped = λ c. rw (still.use_of c) (lasts-then c (is_dropped (last_use xs c)) false dropped_at refl (m.uses.dropped c));
      calm = λ c x e f. ap (λ k. k + x.timeouts) (still.timeouts c) ∙ m.uses.calm c x (kept-was c x e).0 f;
    };
    clearing = record {
      status = refl;
      clears = λ t. still.clears t ∙ m.clearing.clears t;
      before = λ c t h. still.before c t ∙ m.clearing.before c t h;
      seen = m.clearing.seen;
    };
    at_pin = λ c. pinned-again (endings ClosedEnd over_numbers (closings shut_ids xs)) c ∙ (still.pinned c ∙ (m.at_pin c ∙ pinned-then c));
  }

pub close-fits : (s : PoolCore) (xs : List PoolItem) (z : Fits s xs) (n : ℕ) → Fits (closing s n) (shut_items s xs z.matches n)
close-fits s xs z n =
    let st : Still s.options xs (endings ClosedEnd (over_numbers s xs z.matches n) (closings (shut_ids s xs z.matches n) xs)) = still-both s.options ClosedEnd (shut_ids s xs z.matches n) (over_numbers s xs z.matches n) xs in
    record {
      matches = close-matches s xs z.matches n;
      asked = λ r. rw (st.asked r, st.taken r) (z.asked r ∙ (sym (some-then s xs z.matches n (request_at s r)) ∙ ap is_some (sym (at_request s xs z.matches n r))));
      order = st.order ∙ (z.order ∙ sym (same-numbers s s.kept.requests));
    }
