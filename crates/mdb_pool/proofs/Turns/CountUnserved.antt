-- How many requests nothing was handed to.
use Rattle.std.proofs.Common.{◌≡◌, ℕ, ◌<◌, ◌≤◌, ◌+◌, ◌==◌, Bool, true, false, cond, ◌&&◌, not, Option, Some, None, is_some, List, [], ◌∷◌, map, filter, length, refl, sym, ◌∙◌, ap, subst, arith}
use Rattle.std.proofs.lemmas.Grind.{common_steps}
use Rattle.std.proofs.lemmas.List.{length-map}
use Rattle.std.proofs.lemmas.List.Sums.{length-filter}
use Rattle.std.specs.List.{count_by}
use Rattle.mdb_log.specs.History.{PoolItem, without}
use Rattle.mdb_log.specs.Connections.{has}
use Rattle.mdb_log.proofs.Numbers.{same-number, has-without-is}
use Rattle.mdb_slots.specs.Keyed.{rest_of}
use Rattle.mdb_pool.specs.declared.kept.connection.Connection.{Connection}
use Rattle.mdb_pool.specs.declared.kept.request.Request.{Request}
use Rattle.mdb_pool.specs.declared.kept.request.Phase.{Phase}
use Rattle.mdb_pool.specs.declared.kept.request.Phase.TheVariants.{Queued, Given, Over, Ended as EndedPhase}
use Rattle.mdb_pool.specs.Core.{PoolCore}
use Rattle.mdb_pool.specs.Kept.Values.{connection_at, request_at, given_in, given_of, holder_at, is_pending_at, unserved_in}
use Rattle.mdb_pool.specs.Kept.Places.{is_pending, is_queued}
use Rattle.mdb_pool.specs.Acts.Changes.{pending_ones, unserved_ones}
use Rattle.mdb_pool.specs.Kept.Matching.{Matches}
use Rattle.mdb_pool.specs.Standing.{Fits}
use Rattle.mdb_pool.proofs.Listed.WalkBack.{count-more, count-yes, count-no}
use Rattle.mdb_pool_rules.proofs.Listed.Values.{named, passes, has-where, has-none, one_if-le, member-has, find-member, length-without_has}

-- values with numbers of their own are no more than the numbers of a list that has all of theirs
module _ {T : Type 0} (key : T → ℕ) (test : T → Bool) where
  pub count-within : (xs : List T) (ks : List ℕ) → ((k : ℕ) → named key k xs ≤ 1) → ((k : ℕ) → has k (map key (filter test xs)) ≡ true → has k ks ≡ true) → count_by test xs ≤ length ks
  count-within [] ks single all = omega arith
  count-within (x ∷ xs) ks single all = on (test x) refl (count-within xs)
    where
      rest-single : (k : ℕ) → named key k xs ≤ 1
      rest-single k = let e : named key k (x ∷ xs) ≤ 1 = single k in grind (arith, common_steps)

      rest-other : named key (key x) xs ≡ 0
      rest-other = let e : named key (key x) (x ∷ xs) ≤ 1 = single (key x) in let f : named key (key x) (x ∷ xs) ≡ 1 + named key (key x) xs = count-yes (λ y. key y == key x) x xs (same-number (key x)) in omega (arith, e, f)

      first-has : (k : ℕ) → test x ≡ true → has k (map key (filter test xs)) ≡ true → (key x == k) ≡ false
      first-has k w h = at (key x == k) refl
        where
          at : (b : Bool) → (key x == k) ≡ b → (key x == k) ≡ false
          at true e =
              let same : key x ≡ k = grind arith in
              let f : has k (map key (filter test xs)) ≡ false = has-none key test k xs (ap (λ j. named key j xs) (sym same) ∙ rest-other) in
              cc
          at false e = e

      on : (b : Bool) → test x ≡ b → ((js : List ℕ) → ((k : ℕ) → named key k xs ≤ 1) → ((k : ℕ) → has k (map key (filter test xs)) ≡ true → has k js ≡ true) → count_by test xs ≤ length js) → count_by test (x ∷ xs) ≤ length ks
      on true w more =
          let here : has (key x) ks ≡ true = all (key x) (rw (w, same-number (key x)) refl) in
          let fewer : length (without (key x) ks) < length ks = length-without_has (key x) ks here in
          let rest : count_by test xs ≤ length (without (key x) ks) = more (without (key x) ks) rest-single (λ k h. has-without-is k (key x) ks ∙ rw (first-has k w h, all k (later k w h)) refl) in
          let counts : count_by test (x ∷ xs) ≡ 1 + count_by test xs = count-yes test x xs w in
          omega (arith, fewer, rest, counts)
        where
          later : (k : ℕ) → test x ≡ true → has k (map key (filter test xs)) ≡ true → has k (map key (filter test (x ∷ xs))) ≡ true
          later k w h = rw (w, first-has k w h) h
      on false w more =
          let rest : count_by test xs ≤ length ks = more ks rest-single (λ k h. all k (rw w h)) in
          let counts : count_by test (x ∷ xs) ≡ count_by test xs = count-no test x xs w in
          omega (arith, rest, counts)

count-two : {T : Type 0} (p q : T → Bool) (xs : List T) → count_by q (filter p xs) ≡ count_by (λ x. p x && q x) xs
count-two p q [] = refl
count-two p q (x ∷ xs) = grind (arith, common_steps, count-two p q xs)

-- the connection of the request is pending
abbrev awaits : PoolCore → Phase → Bool
awaits s Queued = false
awaits s (Given c) = is_pending_at (connection_at s c)
awaits s Over = false
awaits s (EndedPhase end) = false

count-unserved : (s : PoolCore) (qs : List Request) → count_by (λ q. unserved_in s q.phase) qs ≡ count_by (λ q. is_queued q.phase) qs + count_by (λ q. awaits s q.phase) qs
count-unserved s [] = refl
count-unserved s (q ∷ qs) = omega (arith, count-more (λ r. unserved_in s r.phase) q qs, count-more (λ r. is_queued r.phase) q qs, count-more (λ r. awaits s r.phase) q qs, one q.phase, count-unserved s qs)
  where
    one : (p : Phase) → cond (unserved_in s p) 1 0 ≡ cond (is_queued p) 1 0 + cond (awaits s p) 1 0
    one Queued = refl
    one (Given c) = omega arith
    one Over = refl
    one (EndedPhase end) = refl

-- the connection is pending, and somebody's
abbrev is_awaited : Connection → Bool
is_awaited x = is_pending x.place && is_some x.holder

abbrev number_or : Option ℕ → ℕ
number_or None = 0
number_or (Some n) = n

abbrev id_of : Connection → ℕ
id_of x = x.id

abbrev number_of : Request → ℕ
number_of q = q.number

module _ (s : PoolCore) (xs : List PoolItem) (m : Matches s xs) where
  abbrev holders : List ℕ
  holders = map (λ x. number_or x.holder) (filter is_awaited s.kept.connections)

  abbrev given_ids : List ℕ
  given_ids = map (λ q. number_or (given_in q.phase)) (filter (λ q. awaits s q.phase) s.kept.requests)

  -- whose connection is pending is its holder
  awaiting-holds : (r : ℕ) → has r (map number_of (filter (λ q. awaits s q.phase) s.kept.requests)) ≡ true → has r holders ≡ true
  awaiting-holds r h = on (request_at s r) refl
    where
      meets : passes number_of (λ q. awaits s q.phase) (request_at s r) ≡ true
      meets = sym (has-where number_of (λ q. awaits s q.phase) r s.kept.requests (m.requests.single_request r)) ∙ h

      at_connection : (c : ℕ) (o : Option Connection) → given_of (request_at s r) ≡ Some c → connection_at s c ≡ o → is_pending_at o ≡ true → has r holders ≡ true
      at_connection c None f g u = cc
      at_connection c (Some x) f g u =
          let mine : x.holder ≡ Some r = ap holder_at (sym g) ∙ m.links.taken r c f in
          let its : number_or x.holder ≡ r = ap number_or mine in
          subst (λ k. has k holders ≡ true) its (member-has (λ y. number_or y.holder) is_awaited x s.kept.connections (find-member (λ y. y.id == c) x s.kept.connections g).0 (rw (u, mine) refl))

      at_phase : (q : Request) (p : Phase) → request_at s r ≡ Some q → q.phase ≡ p → awaits s p ≡ true → has r holders ≡ true
      at_phase q Queued e f u = cc
      at_phase q (Given c) e f u = at_connection c (connection_at s c) (ap given_of e ∙ ap given_in f) refl u
      at_phase q Over e f u = cc
      at_phase q (EndedPhase end) e f u = cc

      on : (o : Option Request) → request_at s r ≡ o → has r holders ≡ true
      on None e = let k : passes number_of (λ q. awaits s q.phase) (request_at s r) ≡ false = rw e refl in cc meets
      on (Some q) e = at_phase q q.phase e refl (ap (passes number_of (λ q. awaits s q.phase)) (sym e) ∙ meets)

  -- who holds a pending connection is given it
  holding-awaits : (c : ℕ) → has c (map id_of (filter is_awaited s.kept.connections)) ≡ true → has c given_ids ≡ true
  holding-awaits c h = on (connection_at s c) refl
    where
      meets : passes id_of is_awaited (connection_at s c) ≡ true
      meets = sym (has-where id_of is_awaited c s.kept.connections (m.counts.single c)) ∙ h

      at_phase : (r : ℕ) (q : Request) (p : Phase) → request_at s r ≡ Some q → q.phase ≡ p → given_in p ≡ Some c → is_pending_at (connection_at s c) ≡ true → has c given_ids ≡ true
      at_phase r q Queued e f g u = cc
      at_phase r q (Given d) e f g u =
          let same : d ≡ c = cc in
          let its : number_or (given_in q.phase) ≡ c = ap (λ p. number_or (given_in p)) f ∙ same in
          let meets_too : awaits s q.phase ≡ true = ap (awaits s) f ∙ (ap (λ k. is_pending_at (connection_at s k)) same ∙ u) in
          subst (λ k. has k given_ids ≡ true) its (member-has (λ k. number_or (given_in k.phase)) (λ k. awaits s k.phase) q s.kept.requests (find-member (λ k. k.number == r) q s.kept.requests e).0 meets_too)
      at_phase r q Over e f g u = cc
      at_phase r q (EndedPhase end) e f g u = cc

      at_request : (r : ℕ) (o : Option Request) → request_at s r ≡ o → given_of o ≡ Some c → is_pending_at (connection_at s c) ≡ true → has c given_ids ≡ true
      at_request r None e g u = cc
      at_request r (Some q) e g u = at_phase r q q.phase e refl g u

      at_holder : (x : Connection) (o : Option ℕ) → connection_at s c ≡ Some x → x.holder ≡ o → is_pending x.place ≡ true → is_some o ≡ true → has c given_ids ≡ true
      at_holder x None e f u w = cc
      at_holder x (Some r) e f u w =
          let mine : given_of (request_at s r) ≡ Some c = m.links.owned c r (ap holder_at e ∙ f) in
          at_request r (request_at s r) refl mine (ap is_pending_at e ∙ u)

      both : (a b : Bool) → (a && b) ≡ true → (a ≡ true) × (b ≡ true)
      both true b e = (refl, e)
      both false b e = cc

      on : (o : Option Connection) → connection_at s c ≡ o → has c given_ids ≡ true
      on None e = let k : passes id_of is_awaited (connection_at s c) ≡ false = rw e refl in cc meets
      on (Some x) e =
          let w = both (is_pending x.place) (is_some x.holder) (ap (passes id_of is_awaited) (sym e) ∙ meets) in
          at_holder x x.holder e refl w.0 w.1

  -- as many requests have a pending connection as pending connections a holder
  awaiting-count : count_by (λ q. awaits s q.phase) s.kept.requests ≡ count_by is_awaited s.kept.connections
  awaiting-count =
      let most : count_by (λ q. awaits s q.phase) s.kept.requests ≤ length holders = count-within number_of (λ q. awaits s q.phase) s.kept.requests holders (λ r. rw (m.requests.single_request r) (one_if-le (is_some (request_at s r)))) awaiting-holds in
      let least : count_by is_awaited s.kept.connections ≤ length given_ids = count-within id_of is_awaited s.kept.connections given_ids (λ c. rw (m.counts.single c) (one_if-le (is_some (connection_at s c)))) holding-awaits in
      let e : length holders ≡ count_by is_awaited s.kept.connections = length-map (filter is_awaited s.kept.connections) (λ x. number_or x.holder) ∙ length-filter is_awaited s.kept.connections in
      let f : length given_ids ≡ count_by (λ q. awaits s q.phase) s.kept.requests = length-map (filter (λ q. awaits s q.phase) s.kept.requests) (λ q. number_or (given_in q.phase)) ∙ length-filter (λ q. awaits s q.phase) s.kept.requests in
      omega (arith, most, least, e, f)

-- they are the queued ones and the holders of pending connections
pub unserved-count : (s : PoolCore) (xs : List PoolItem) → Fits s xs → length (unserved_ones s) ≡ count_by (λ q. is_queued q.phase) s.kept.requests + count_by (λ x. is_some x.holder) (pending_ones s)
unserved-count s xs z = length-filter (λ q. unserved_in s q.phase) s.kept.requests ∙ (count-unserved s s.kept.requests ∙ ap (λ n. count_by (λ q. is_queued q.phase) s.kept.requests + n) (awaiting-count s xs z.matches ∙ sym (count-two (λ x. is_pending x.place) (λ x. is_some x.holder) s.kept.connections)))

-- a walk through the pending connections takes off those that nobody has
count-both : {T : Type 0} (p : T → Bool) (xs : List T) → count_by p xs + count_by (λ x. not (p x)) xs ≡ length xs
count-both p [] = refl
count-both p (x ∷ xs) = grind (arith, common_steps, count-both p xs)

pub awaited-starts : (s : PoolCore) (n : ℕ) (at : Option Connection) → n ≡ count_by (λ x. is_pending x.place) s.kept.connections → rest_of id_of at (pending_ones s) ≡ pending_ones s
    → n ≡ count_by (λ x. is_some x.holder) (pending_ones s) + count_by (λ x. not (is_some x.holder)) (rest_of id_of at (pending_ones s))
awaited-starts s n at e f = rw f (e ∙ (sym (length-filter (λ x. is_pending x.place) s.kept.connections) ∙ sym (count-both (λ x. is_some x.holder) (pending_ones s))))

-- none is left
pub awaited-over : (s : PoolCore) (n : ℕ) (at : Option Connection) → at ≡ None
    → n ≡ count_by (λ x. is_some x.holder) (pending_ones s) + count_by (λ x. not (is_some x.holder)) (rest_of id_of at (pending_ones s)) → n ≡ count_by (λ x. is_some x.holder) (pending_ones s)
awaited-over s n at e f =
    let g : count_by (λ x. not (is_some x.holder)) (rest_of id_of at (pending_ones s)) ≡ 0 = rw e refl in
    omega (arith, f, g)
