-- The requests of a pool end that nothing was handed to, one after another.
use Rattle.std.proofs.Common.{◌≡◌, ℕ, ◌==◌, Bool, true, false, Option, Some, None, List, [], ◌∷◌, ◌++◌, map, refl, sym, ◌∙◌, ap, subst, arith, if◌then◌else◌, ◌-◌, filter, append_assoc, append-nil}
use Rattle.mdb_events.specs.declared.end.End.TheVariants.{Closed as ClosedEnd}
use Rattle.std.proofs.lemmas.Grind.{common_steps}
use Rattle.mdb_slots.specs.Keyed.{after_key, rest_of, entry_at, swap}
use Rattle.mdb_slots.specs.Lists.{has, apart}
use Rattle.mdb_slots.proofs.Lists.{apart-first, apart-rest}
use Rattle.mdb_slots.proofs.Numbers.{same-number}
use Rattle.mdb_events.specs.declared.fact.Fact.{Fact}
use Rattle.mdb_events.specs.declared.reasons.ConnectionClosedReason.TheVariants.{PoolClosed as PoolClosedReason}
use Rattle.mdb_pool.specs.declared.kept.connection.Connection.{Connection}
use Rattle.mdb_pool.specs.declared.kept.request.Request.{Request}
use Rattle.mdb_pool.specs.declared.kept.request.Phase.TheVariants.{Ended as EndedPhase}
use Rattle.mdb_pool.specs.Core.{PoolCore}
use Rattle.mdb_pool.specs.Kept.Values.{unserved_in, request_at, with_requests}
use Rattle.mdb_pool_rules.proofs.Listed.Values.{In, here, there, entry_at-key, member-has}
use Rattle.mdb_log.specs.Connections.{has as member}
use Rattle.mdb_log.proofs.Numbers.{has-append}
use Rattle.std.specs.List.{filter_map}
use Rattle.std.proofs.lemmas.List.Elements.{filter-append, filter_map-append}
use Rattle.mdb_pool.specs.Acts.Ended.{ended_all}
use Rattle.mdb_pool.specs.Acts.Changes.{ended_request, ended_one, over_facts, off_facts, shut_facts, unserved_ones}
use Rattle.mdb_pool_rules.specs.Facts.{closed_fact}

abbrev pub number_of : Request → ℕ
number_of q = q.number

pub ended-number : (s : PoolCore) (q : Request) → (ended_request s q).number ≡ q.number
ended-number s q = on (unserved_in s q.phase) refl
  where
    on : (b : Bool) → unserved_in s q.phase ≡ b → (ended_request s q).number ≡ q.number
    on true w = rw w refl
    on false w = rw w refl

pub ended-again : (s : PoolCore) (q : Request) → ended_request s (ended_request s q) ≡ ended_request s q
ended-again s q = on (unserved_in s q.phase) refl
  where
    on : (b : Bool) → unserved_in s q.phase ≡ b → ended_request s (ended_request s q) ≡ ended_request s q
    on true w = rw w refl
    on false w = rw (w, w) refl

-- the connections alone tell what is unserved
same-ends : (s t : PoolCore) (k : ℕ) → t ≡ with_requests s t.kept.requests → ended_one t k ≡ map (λ q. if q.number == k then ended_request s q else q) t.kept.requests
same-ends s t k e = ap (λ u. map (λ q. if q.number == k then ended_request u q else q) t.kept.requests) e ∙ each t.kept.requests
  where
    one : (q : Request) → ended_request (with_requests s t.kept.requests) q ≡ ended_request s q
    one q = refl

    each : (qs : List Request) → map (λ q. if q.number == k then ended_request (with_requests s t.kept.requests) q else q) qs ≡ map (λ q. if q.number == k then ended_request s q else q) qs
    each [] = refl
    each (q ∷ qs) = rw (one q, each qs) refl

pub none-ended : (s : PoolCore) → s ≡ with_requests s (ended_all s [])
none-ended s = ap (with_requests s) (each s.kept.requests)
  where
    each : (qs : List Request) → qs ≡ map (λ q. if member q.number [] then ended_request s q else q) qs
    each [] = refl
    each (q ∷ qs) = ap (λ rs. q ∷ rs) (each qs)

both : {x y : Request} {xs ys : List Request} → x ≡ y → xs ≡ ys → x ∷ xs ≡ y ∷ ys
both {x} {y} {xs} {ys} e f = ap (λ z. z ∷ xs) e ∙ ap (λ zs. y ∷ zs) f

-- one more of them ends
pub one-more-ended : (s t u : PoolCore) (rs : List ℕ) (k : ℕ) → t ≡ with_requests s (ended_all s rs) → u ≡ with_requests t (ended_one t k) → u ≡ with_requests s (ended_all s (rs ++ k ∷ []))
one-more-ended s t u rs k e f = f ∙ (ap (λ (c : PoolCore). with_requests c (ended_one t k)) e ∙ ap (with_requests s) changed)
  where
    each : (qs : List Request) → map (λ q. if q.number == k then ended_request s q else q) (map (λ q. if member q.number rs then ended_request s q else q) qs) ≡ map (λ q. if member q.number (rs ++ k ∷ []) then ended_request s q else q) qs
    each [] = refl
    each (q ∷ qs) = on (member q.number rs) (k == q.number) refl refl (each qs)
      where
        turned : (b : Bool) → (k == q.number) ≡ b → (q.number == k) ≡ b
        turned true w = grind arith
        turned false w = grind arith

        on : (a b : Bool) → member q.number rs ≡ a → (k == q.number) ≡ b → map (λ q. if q.number == k then ended_request s q else q) (map (λ q. if member q.number rs then ended_request s q else q) qs) ≡ map (λ q. if member q.number (rs ++ k ∷ []) then ended_request s q else q) qs
            → map (λ q. if q.number == k then ended_request s q else q) (map (λ q. if member q.number rs then ended_request s q else q) (q ∷ qs)) ≡ map (λ q. if member q.number (rs ++ k ∷ []) then ended_request s q else q) (q ∷ qs)
        on true true v w more = rw (has-append q.number k rs, v) (both (ap (λ b. if b then ended_request s (ended_request s q) else ended_request s q) (ap (λ n. n == k) (ended-number s q) ∙ turned true w) ∙ ended-again s q) more)
        on true false v w more = rw (has-append q.number k rs, v) (both (ap (λ b. if b then ended_request s (ended_request s q) else ended_request s q) (ap (λ n. n == k) (ended-number s q) ∙ turned false w)) more)
        on false true v w more = rw (has-append q.number k rs, v, w, turned true w) (both refl more)
        on false false v w more = rw (has-append q.number k rs, v, w, turned false w) (both refl more)

    changed : ended_one t k ≡ ended_all s (rs ++ k ∷ [])
    changed = same-ends s t k (e ∙ ap (with_requests s) (sym (ap (λ (c : PoolCore). c.kept.requests) e)))
        ∙ (ap (map (λ q. if q.number == k then ended_request s q else q)) (ap (λ (c : PoolCore). c.kept.requests) e) ∙ each s.kept.requests)

-- where they are those that nothing was handed to, all such requests end
pub all-ended : (s : PoolCore) → ended_all s (map number_of (unserved_ones s)) ≡ map (ended_request s) s.kept.requests
all-ended s = each s.kept.requests (λ q i. i)
  where
    each : (qs : List Request) → ((q : Request) → In q qs → In q s.kept.requests) → map (λ q. if member q.number (map number_of (unserved_ones s)) then ended_request s q else q) qs ≡ map (ended_request s) qs
    each [] all = refl
    each (q ∷ qs) all = on (unserved_in s q.phase) refl (each qs (λ r i. all r (there i)))
      where
        stays : (b : Bool) → unserved_in s q.phase ≡ false → (if b then ended_request s q else q) ≡ ended_request s q
        stays true u = refl
        stays false u = rw u refl

        on : (b : Bool) → unserved_in s q.phase ≡ b → map (λ q. if member q.number (map number_of (unserved_ones s)) then ended_request s q else q) qs ≡ map (ended_request s) qs → map (λ q. if member q.number (map number_of (unserved_ones s)) then ended_request s q else q) (q ∷ qs) ≡ map (ended_request s) (q ∷ qs)
        on true u more =
            let h : member q.number (map number_of (unserved_ones s)) ≡ true = member-has number_of (λ r. unserved_in s r.phase) q s.kept.requests (all q here) u in
            rw (h, more) refl
        on false u more = ap (λ r. r ∷ map (λ q. if member q.number (map number_of (unserved_ones s)) then ended_request s q else q) qs) (stays (member q.number (map number_of (unserved_ones s))) u) ∙ ap (λ rs. ended_request s q ∷ rs) more

-- a connection is closed, and the facts of those after it are left
pub shut-on : (s : PoolCore) (ys : List Connection) (before after : List Fact) (x : Connection) (at next : Option Connection) → at ≡ Some x → rest_of (λ x. x.id) next ys ≡ after_key (λ x. x.id) x.id ys
    → after ≡ before ++ closed_fact s.pool s.address x.id PoolClosedReason x.service ∷ []
    → after ++ shut_facts s (rest_of (λ x. x.id) next ys) ≡ before ++ shut_facts s (rest_of (λ x. x.id) at ys)
shut-on s ys before after x at next is e f = rw (e, f, is) (append_assoc before (closed_fact s.pool s.address x.id PoolClosedReason x.service ∷ []) (shut_facts s (after_key (λ x. x.id) x.id ys)))

-- what is told of one request
pub off-one : (s : PoolCore) (m : ℕ) (q : Request) → unserved_in s q.phase ≡ true → over_facts s q.number q.warm (m - q.asked_at) ClosedEnd ≡ off_facts s m (filter (λ q. unserved_in s q.phase) (q ∷ []))
off-one s m q u = rw u (sym (append-nil (over_facts s q.number q.warm (m - q.asked_at) ClosedEnd)))

pub off-none : (s : PoolCore) (m : ℕ) (before : List Fact) (q : Request) → unserved_in s q.phase ≡ false → before ≡ before ++ off_facts s m (filter (λ q. unserved_in s q.phase) (q ∷ []))
off-none s m before q u = rw u (sym (append-nil before))

-- what is told of more requests
off-told : (s : PoolCore) (m : ℕ) (qs ks : List Request) (first before after : List Fact) → before ≡ first ++ off_facts s m (filter (λ r. unserved_in s r.phase) qs) → after ≡ before ++ off_facts s m (filter (λ r. unserved_in s r.phase) ks)
    → after ≡ first ++ off_facts s m (filter (λ r. unserved_in s r.phase) (qs ++ ks))
off-told s m qs ks first before after e f =
    f ∙ (ap (λ fs. fs ++ off_facts s m (filter (λ r. unserved_in s r.phase) ks)) e
    ∙ (append_assoc first (off_facts s m (filter (λ r. unserved_in s r.phase) qs)) (off_facts s m (filter (λ r. unserved_in s r.phase) ks))
    ∙ ap (λ fs. first ++ fs) (sym (off-both (filter (λ r. unserved_in s r.phase) qs) (filter (λ r. unserved_in s r.phase) ks)) ∙ ap (off_facts s m) (sym (filter-append (λ r. unserved_in s r.phase) qs ks)))))
  where
    off-both : (rs ks : List Request) → off_facts s m (rs ++ ks) ≡ off_facts s m rs ++ off_facts s m ks
    off-both [] ks = refl
    off-both (r ∷ rs) ks = ap (λ fs. over_facts s r.number r.warm (m - r.asked_at) ClosedEnd ++ fs) (off-both rs ks) ∙ sym (append_assoc (over_facts s r.number r.warm (m - r.asked_at) ClosedEnd) (off_facts s m rs) (off_facts s m ks))

-- what is told of one more number
pub number-told : (s : PoolCore) (m : ℕ) (ks : List ℕ) (k : ℕ) (first before after : List Fact) → before ≡ first ++ off_facts s m (filter (λ r. unserved_in s r.phase) (filter_map (request_at s) ks))
    → after ≡ before ++ off_facts s m (filter (λ r. unserved_in s r.phase) (filter_map (request_at s) (k ∷ []))) → after ≡ first ++ off_facts s m (filter (λ r. unserved_in s r.phase) (filter_map (request_at s) (ks ++ k ∷ [])))
number-told s m ks k first before after e f =
    off-told s m (filter_map (request_at s) ks) (filter_map (request_at s) (k ∷ [])) first before after e f
    ∙ ap (λ rs. first ++ off_facts s m (filter (λ r. unserved_in s r.phase) rs)) (sym (filter_map-append (request_at s) ks (k ∷ [])))

-- what a number finds
pub found-one : (s : PoolCore) (k : ℕ) (q : Request) → request_at s k ≡ Some q → filter_map (request_at s) (k ∷ []) ≡ q ∷ []
found-one s k q e = rw e refl

pub found-none : (s : PoolCore) (k : ℕ) → request_at s k ≡ None → filter_map (request_at s) (k ∷ []) ≡ []
found-none s k e = rw e refl

-- those that the numbers of the unserved requests find are these
pub found-unserved : (s : PoolCore) → ((q : Request) → In q s.kept.requests → request_at s q.number ≡ Some q) → filter (λ q. unserved_in s q.phase) (filter_map (request_at s) (map number_of (unserved_ones s))) ≡ unserved_ones s
found-unserved s at = each s.kept.requests at
  where
    each : (qs : List Request) → ((q : Request) → In q qs → request_at s q.number ≡ Some q) → filter (λ q. unserved_in s q.phase) (filter_map (request_at s) (map number_of (filter (λ q. unserved_in s q.phase) qs))) ≡ filter (λ q. unserved_in s q.phase) qs
    each [] at = refl
    each (q ∷ qs) at = on (unserved_in s q.phase) refl (each qs (λ r i. at r (there i)))
      where
        on : (b : Bool) → unserved_in s q.phase ≡ b → filter (λ q. unserved_in s q.phase) (filter_map (request_at s) (map number_of (filter (λ q. unserved_in s q.phase) qs))) ≡ filter (λ q. unserved_in s q.phase) qs
            → filter (λ q. unserved_in s q.phase) (filter_map (request_at s) (map number_of (filter (λ q. unserved_in s q.phase) (q ∷ qs)))) ≡ filter (λ q. unserved_in s q.phase) (q ∷ qs)
        on true u more = rw (u, at q here, u) (ap (λ rs. q ∷ rs) more)
        on false u more = rw u more

-- where no two requests have one number, the one that is found is the only one that ends
none-ends : (s : PoolCore) (k : ℕ) (qs : List Request) → has k (map number_of qs) ≡ false → map (λ q. if q.number == k then ended_request s q else q) qs ≡ qs
none-ends s k [] e = refl
none-ends s k (q ∷ qs) e = on (q.number == k) refl (none-ends s k qs)
  where
    on : (b : Bool) → (q.number == k) ≡ b → (has k (map number_of qs) ≡ false → map (λ q. if q.number == k then ended_request s q else q) qs ≡ qs) → map (λ q. if q.number == k then ended_request s q else q) (q ∷ qs) ≡ q ∷ qs
    on true w more = let z : has k (map number_of (q ∷ qs)) ≡ true = rw w refl in cc
    on false w more = let g : has k (map number_of qs) ≡ false = grind (arith, common_steps, e, w) in rw w (ap (λ rs. q ∷ rs) (more g))

pub none-found : (s : PoolCore) (k : ℕ) (qs : List Request) → entry_at number_of k qs ≡ None → map (λ q. if q.number == k then ended_request s q else q) qs ≡ qs
none-found s k [] e = refl
none-found s k (q ∷ qs) e = on (q.number == k) refl (none-found s k qs)
  where
    on : (b : Bool) → (q.number == k) ≡ b → (entry_at number_of k qs ≡ None → map (λ q. if q.number == k then ended_request s q else q) qs ≡ qs) → map (λ q. if q.number == k then ended_request s q else q) (q ∷ qs) ≡ q ∷ qs
    on true w more =
        let f : entry_at number_of k (q ∷ qs) ≡ Some q = rw w refl in
        let z : None ≡ Some q = sym e ∙ f in cc
    on false w more =
        let f : entry_at number_of k qs ≡ None = subst (λ (b : Bool). (if b then Some q else entry_at number_of k qs) ≡ None) w e in
        rw w (ap (λ rs. q ∷ rs) (more f))

-- it is changed, as one that takes its place
pub one-found : (s : PoolCore) (k : ℕ) (qs : List Request) (x y : Request) → apart (map number_of qs) ≡ true → entry_at number_of k qs ≡ Some x → ended_request s x ≡ y → (y.number ≡ k) → map (λ q. if q.number == k then ended_request s q else q) qs ≡ swap number_of y qs
one-found s k qs x y a e f n = on k n e
  where
    each : (qs : List Request) → apart (map number_of qs) ≡ true → entry_at number_of y.number qs ≡ Some x → map (λ q. if q.number == y.number then ended_request s q else q) qs ≡ swap number_of y qs
    each [] a e = cc
    each (q ∷ qs) a e = at (q.number == y.number) refl (each qs (apart-rest q.number (map number_of qs) a))
      where
        unswapped : (qs : List Request) → has y.number (map number_of qs) ≡ false → qs ≡ swap number_of y qs
        unswapped [] e = refl
        unswapped (q ∷ qs) e = un (q.number == y.number) refl (unswapped qs)
          where
            un : (b : Bool) → (q.number == y.number) ≡ b → (has y.number (map number_of qs) ≡ false → qs ≡ swap number_of y qs) → q ∷ qs ≡ swap number_of y (q ∷ qs)
            un true w more = let z : has y.number (map number_of (q ∷ qs)) ≡ true = rw w refl in cc
            un false w more = let g : has y.number (map number_of qs) ≡ false = grind (arith, common_steps, e, w) in rw w (ap (λ rs. q ∷ rs) (more g))

        at : (b : Bool) → (q.number == y.number) ≡ b → (entry_at number_of y.number qs ≡ Some x → map (λ q. if q.number == y.number then ended_request s q else q) qs ≡ swap number_of y qs) → map (λ q. if q.number == y.number then ended_request s q else q) (q ∷ qs) ≡ swap number_of y (q ∷ qs)
        at true w more =
            let here : entry_at number_of y.number (q ∷ qs) ≡ Some q = rw w refl in
            let same : Some q ≡ Some x = sym here ∙ e in
            let is : q ≡ x = cc in
            let out : has y.number (map number_of qs) ≡ false = subst (λ j. has j (map number_of qs) ≡ false) (same-number q.number y.number w) (apart-first q.number (map number_of qs) a) in
            rw (w, none-ends s y.number qs out, ap (ended_request s) is ∙ f) (ap (λ rs. y ∷ rs) (unswapped qs out))
        at false w more =
            let f : entry_at number_of y.number qs ≡ Some x = subst (λ (b : Bool). (if b then Some q else entry_at number_of y.number qs) ≡ Some x) w e in
            rw w (ap (λ rs. q ∷ rs) (more f))

    on : (k : ℕ) → y.number ≡ k → entry_at number_of k qs ≡ Some x → map (λ q. if q.number == k then ended_request s q else q) qs ≡ swap number_of y qs
    on k n = subst (λ k. entry_at number_of k qs ≡ Some x → map (λ q. if q.number == k then ended_request s q else q) qs ≡ swap number_of y qs) n (each qs a)

-- and stays as it is where something was handed to it
pub one-stays : (s : PoolCore) (k : ℕ) (qs : List Request) (x : Request) → apart (map number_of qs) ≡ true → entry_at number_of k qs ≡ Some x → unserved_in s x.phase ≡ false → map (λ q. if q.number == k then ended_request s q else q) qs ≡ qs
one-stays s k [] x a e u = refl
one-stays s k (q ∷ qs) x a e u = on (q.number == k) refl (one-stays s k qs x (apart-rest q.number (map number_of qs) a))
  where
    on : (b : Bool) → (q.number == k) ≡ b → (entry_at number_of k qs ≡ Some x → unserved_in s x.phase ≡ false → map (λ q. if q.number == k then ended_request s q else q) qs ≡ qs) → map (λ q. if q.number == k then ended_request s q else q) (q ∷ qs) ≡ q ∷ qs
    on true w more =
        let here : entry_at number_of k (q ∷ qs) ≡ Some q = rw w refl in
        let same : Some q ≡ Some x = sym here ∙ e in
        let is : q ≡ x = cc in
        let out : has k (map number_of qs) ≡ false = subst (λ j. has j (map number_of qs) ≡ false) (same-number q.number k w) (apart-first q.number (map number_of qs) a) in
        let kept : unserved_in s q.phase ≡ false = ap (λ r. unserved_in s r.phase) is ∙ u in
        rw (w, kept, none-ends s k qs out) refl
    on false w more =
        let f : entry_at number_of k qs ≡ Some x = subst (λ (b : Bool). (if b then Some q else entry_at number_of k qs) ≡ Some x) w e in
        rw w (ap (λ rs. q ∷ rs) (more f u))

pub one-ends : (s : PoolCore) (k : ℕ) (x : Request) → apart (map number_of s.kept.requests) ≡ true → request_at s k ≡ Some x → unserved_in s x.phase ≡ true
    → ended_one s k ≡ swap number_of (record { number = k; asked_at = x.asked_at; warm = x.warm; took = x.took; phase = EndedPhase ClosedEnd }) s.kept.requests
one-ends s k x a e u = one-found s k s.kept.requests x _ a e (now-ended ∙ ap (λ n. record { number = n; asked_at = x.asked_at; warm = x.warm; took = x.took; phase = EndedPhase ClosedEnd }) key-is) refl
  where
    now-ended : ended_request s x ≡ record x { phase = EndedPhase ClosedEnd }
    now-ended = rw u refl

    key-is : x.number ≡ k
    key-is = entry_at-key number_of k x s.kept.requests e
