-- What is asked of requests that have not left is what is asked of all.
use Rattle.std.proofs.Common.{◌≡◌, ℕ, Bool, true, false, not, ◌==◌, ◌&&◌, if◌then◌else◌, is_some, Option, Some, None, ◌⊎◌, inl, inr, List, [], ◌∷◌, map, filter, refl, sym, ◌∙◌, ap, subst, arith}
use Rattle.std.specs.List.{filter_map}
use Rattle.std.proofs.lemmas.Grind.{common_steps}
use Rattle.mdb_log.specs.Connections.{has}
use Rattle.mdb_log.specs.History.{PoolItem}
use Rattle.mdb_events.specs.declared.end.End.{End}
use Rattle.mdb_log.proofs.Numbers.{same-number as own-number}
use Rattle.mdb_slots.specs.Keyed.{put, swap}
use Rattle.mdb_slots.specs.Lists.{apart, has as among}
use Rattle.mdb_slots.proofs.Lists.{apart-first, apart-rest}
use Rattle.mdb_slots.proofs.Numbers.{same-number}
use Rattle.mdb_pool.specs.declared.kept.connection.Connection.{Connection}
use Rattle.mdb_pool.specs.declared.kept.request.Request.{Request}
use Rattle.mdb_pool.specs.declared.kept.request.Phase.{Phase}
use Rattle.mdb_pool.specs.declared.kept.request.Phase.TheVariants.{Queued, Given, Over, Ended as EndedPhase}
use Rattle.mdb_pool.specs.Acts.Changes.{away, unserved_ones}
use Rattle.mdb_pool.specs.Core.{PoolCore}
use Rattle.mdb_pool.specs.Kept.Values.{candidate_now, blocked_now, connection_at, first_overdue, first_queued, given_in, given_of, held_connection, holder_request, if_lingers, is_asked_at, is_ended_at, is_gone, kept_holder, kept_request, kept_requests, lingers, overdue_now, request_at, request_in, unserved_in}
use Rattle.mdb_pool.specs.Now.{is_open_now, queries}
use Rattle.mdb_pool.specs.Kept.Places.{is_done, is_queued}
use Rattle.mdb_pool.specs.Standing.{Fits}
use Rattle.mdb_pool.proofs.KeptInLittle.RequestsThatStay.{number-of, queued-kept}
use Rattle.mdb_pool_rules.proofs.Listed.Values.{In, here, there, entry_at-key, entry_at-put, entry_at-swap_any, find-member}

-- what left was given nothing
pub given_kept : (ks : List ℕ) (o : Option Request) → given_of (if_lingers ks o) ≡ given_of o
given_kept ks None = refl
given_kept ks (Some q) = on q.phase refl
  where
    off : (b : Bool) → not (b && false) ≡ true
    off true = refl
    off false = refl

    undone : is_done q.phase ≡ false → given_of (if_lingers ks (Some q)) ≡ given_in q.phase
    undone e = rw (e, off (has q.number ks)) refl

    done : given_in q.phase ≡ None → given_of (if_lingers ks (Some q)) ≡ given_in q.phase
    done e = in-two (lingers ks q) refl
      where
        in-two : (b : Bool) → lingers ks q ≡ b → given_of (if_lingers ks (Some q)) ≡ given_in q.phase
        in-two true f = rw f refl
        in-two false f = rw (f, e) refl

    on : (p : Phase) → q.phase ≡ p → given_of (if_lingers ks (Some q)) ≡ given_in q.phase
    on Queued e = undone (rw e refl)
    on (Given c) e = undone (rw e refl)
    on Over e = done (rw e refl)
    on (EndedPhase end) e = done (rw e refl)

-- what is not settled has not left
pub unsettled_kept : (ks : List ℕ) (qs : List Request) (r : ℕ) → has r ks ≡ false → if_lingers ks (request_in qs r) ≡ request_in qs r
unsettled_kept ks qs r e = on (request_in qs r) refl
  where
    on : (o : Option Request) → request_in qs r ≡ o → if_lingers ks o ≡ o
    on None f = refl
    on (Some q) f = rw (entry_at-key number-of r q qs f, e) refl

pub unsettled_there : (ks : List ℕ) (qs : List Request) (r : ℕ) → has r ks ≡ false → is_gone ks (request_in qs r) ≡ false
unsettled_there ks qs r e = on (request_in qs r) refl
  where
    on : (o : Option Request) → request_in qs r ≡ o → is_gone ks o ≡ false
    on None f = refl
    on (Some q) f = rw (entry_at-key number-of r q qs f, e) refl

pub kept-some : (ks : List ℕ) (o : Option Request) (q : Request) → if_lingers ks o ≡ Some q → (o ≡ Some q) × (lingers ks q ≡ true)
kept-some ks None q e = cc
kept-some ks (Some p) q e = on (lingers ks p) refl
  where
    on : (b : Bool) → lingers ks p ≡ b → (Some p ≡ Some q) × (lingers ks q ≡ true)
    on true f = let was : if_lingers ks (Some p) ≡ Some p = rw f refl in let w : Some p ≡ Some q = sym was ∙ e in let v : p ≡ q = cc in (w, ap (lingers ks) (sym v) ∙ f)
    on false f = let was : if_lingers ks (Some p) ≡ None = rw f refl in let w : None ≡ Some q = sym was ∙ e in cc

module _ (s : PoolCore) where
  -- one that was found and has not left
  pub kept-is : (r : ℕ) (q : Request) → kept_request s r ≡ Some q → request_at s r ≡ Some q
  kept-is r q e = (kept-some s.kept.settled (request_at s r) q e).0

  pub kept-number : (r : ℕ) (q : Request) → kept_request s r ≡ Some q → q.number ≡ r
  kept-number r q e = entry_at-key number-of r q s.kept.requests (kept-is r q e)

  pub kept-there : (r : ℕ) (q : Request) → kept_request s r ≡ Some q → is_gone s.kept.settled (request_at s q.number) ≡ false
  kept-there r q e = ap (λ k. is_gone s.kept.settled (request_at s k)) (kept-number r q e) ∙ (ap (is_gone s.kept.settled) (kept-is r q e) ∙ rw (kept-some s.kept.settled (request_at s r) q e).1 refl)

  pub kept-came : (r : ℕ) (q : Request) → kept_request s r ≡ Some q → is_some (request_at s q.number) ≡ true
  kept-came r q e = ap (λ k. is_some (request_at s k)) (kept-number r q e) ∙ ap is_some (kept-is r q e)

  pub holder-is : (x : Connection) (q : Request) → kept_holder s x ≡ Some q → holder_request s x ≡ Some q
  holder-is x q e = on x.holder refl
    where
      on : (o : Option ℕ) → x.holder ≡ o → holder_request s x ≡ Some q
      on None f = let w : kept_holder s x ≡ None = rw f refl in cc
      on (Some r) f = let was : kept_holder s x ≡ kept_request s r = rw f refl in rw f (kept-is r q (sym was ∙ e))

  pub holder-there : (x : Connection) (q : Request) → kept_holder s x ≡ Some q → is_gone s.kept.settled (request_at s q.number) ≡ false
  holder-there x q e = on x.holder refl
    where
      on : (o : Option ℕ) → x.holder ≡ o → is_gone s.kept.settled (request_at s q.number) ≡ false
      on None f = let w : kept_holder s x ≡ None = rw f refl in cc
      on (Some r) f = let was : kept_holder s x ≡ kept_request s r = rw f refl in kept-there r q (sym was ∙ e)

  -- whoever has a connection has a request that was given it, which has not left
  pub holder-none : (c : ℕ) (x : Connection) (xs : List PoolItem) → Fits s xs → connection_at s c ≡ Some x → kept_holder s x ≡ None → holder_request s x ≡ None
  holder-none c x xs z stood e = on x.holder refl
    where
      stays : (r : ℕ) (o : Option Request) → given_of o ≡ Some c → if_lingers s.kept.settled o ≡ None → o ≡ None
      stays r None g f = refl
      stays r (Some q) g f = let w : given_of (if_lingers s.kept.settled (Some q)) ≡ Some c = given_kept s.kept.settled (Some q) ∙ g in let v : given_of (if_lingers s.kept.settled (Some q)) ≡ None = ap given_of f in cc

      on : (o : Option ℕ) → x.holder ≡ o → holder_request s x ≡ None
      on None f = rw f refl
      on (Some r) f =
          let given : given_of (request_at s r) ≡ Some c = z.matches.links.owned c r (rw stood f) in
          let was : kept_holder s x ≡ kept_request s r = rw f refl in
          let none : kept_request s r ≡ None = sym was ∙ e in
          rw f (stays r (request_at s r) given none)

  -- whoever holds one is there
  pub held_kept : (r : ℕ) → is_some (held_connection s r) ≡ true → is_some (kept_request s r) ≡ true
  held_kept r e = on (kept_request s r) refl
    where
      on : (o : Option Request) → kept_request s r ≡ o → is_some o ≡ true
      on None f =
          let g : given_of (request_at s r) ≡ None = sym (given_kept s.kept.settled (request_at s r)) ∙ ap given_of f in
          let h : held_connection s r ≡ None = rw g refl in
          let k : is_some (held_connection s r) ≡ false = ap is_some h in
          cc
      on (Some q) f = refl

  -- an open request
  both : (a b : Bool) → (a && not b) ≡ true → (a ≡ true) × (b ≡ false)
  both true true e = cc
  both true false e = (refl, refl)
  both false b e = cc

  pub open-asked : (r : ℕ) → is_open_now s r ≡ true → is_asked_at (request_at s r) ≡ true
  unfolding queries
  open-asked r e = (both (is_asked_at (request_at s r)) (has r s.kept.settled) e).0

  pub open_unsettled : (r : ℕ) → is_open_now s r ≡ true → has r s.kept.settled ≡ false
  unfolding queries
  open_unsettled r e = (both (is_asked_at (request_at s r)) (has r s.kept.settled) e).1

  -- a queued one, where no two have one number
  module _ (single : apart (map number-of s.kept.requests) ≡ true) where
    at-own : (qs : List Request) (q : Request) → apart (map number-of qs) ≡ true → In q qs → request_in qs q.number ≡ Some q
    at-own [] q a i = elim i [ ]
    at-own (p ∷ ps) q a here = grind (arith, common_steps)
    at-own (p ∷ ps) q a (there i) = on (p.number == q.number) refl (at-own ps q (apart-rest p.number (map number-of ps) a) i)
      where
        behind : (ys : List Request) → In q ys → among q.number (map number-of ys) ≡ true
        behind [] j = elim j [ ]
        behind (y ∷ ys) here = grind (arith, common_steps)
        behind (y ∷ ys) (there j) = grind (arith, common_steps, behind ys j)

        on : (b : Bool) → (p.number == q.number) ≡ b → request_in ps q.number ≡ Some q → request_in (p ∷ ps) q.number ≡ Some q
        on true e r =
            let f : among p.number (map number-of ps) ≡ false = apart-first p.number (map number-of ps) a in
            let g : among p.number (map number-of ps) ≡ true = subst (λ k. among k (map number-of ps) ≡ true) (sym (same-number p.number q.number e)) (behind ps i) in
            cc
        on false e r = rw e r

    pub queued-there : (q : Request) → In q s.kept.requests → is_queued q.phase ≡ true → is_gone s.kept.settled (request_at s q.number) ≡ false
    queued-there q i w = ap (is_gone s.kept.settled) (at-own s.kept.requests q single i) ∙ on q.phase refl w
      where
        off : (b : Bool) → not (not (b && false)) ≡ false
        off true = refl
        off false = refl

        on : (p : Phase) → q.phase ≡ p → is_queued p ≡ true → not (lingers s.kept.settled q) ≡ false
        on Queued e h = rw e (off (has q.number s.kept.settled))
        on (Given c) e h = cc
        on Over e h = cc
        on (EndedPhase end) e h = cc

    left-of : (a b : Bool) → (a && b) ≡ true → a ≡ true
    left-of true b e = refl
    left-of false b e = cc

    pub first-there : (q : Request) → first_queued s ≡ Some q → is_gone s.kept.settled (request_at s q.number) ≡ false
    first-there q e = let m = find-member (λ (p : Request). is_queued p.phase) q s.kept.requests e in queued-there q m.0 m.1

    pub candidate-there : (q : Request) → candidate_now s ≡ Some q → is_gone s.kept.settled (request_at s q.number) ≡ false
    candidate-there q e = let m = find-member (λ (p : Request). is_queued p.phase && not (p.warm && blocked_now s)) q s.kept.requests e in queued-there q m.0 (left-of (is_queued q.phase) _ m.1)

    pub overdue-there : (n : ℕ) (q : Request) → first_overdue s n ≡ Some q → is_gone s.kept.settled (request_at s q.number) ≡ false
    overdue-there n q e = let m = find-member (overdue_now s n) q s.kept.requests e in queued-there q m.0 (left-of (is_queued q.phase) _ m.1)

  -- those that nothing was handed to have not left
  served-not : (p : Phase) → unserved_in s p ≡ true → is_done p ≡ false
  served-not Queued e = refl
  served-not (Given c) e = refl
  served-not Over e = cc
  served-not (EndedPhase end) e = cc

  pub unserved-kept : filter (λ q. unserved_in s q.phase) (kept_requests s) ≡ unserved_ones s
  unserved-kept = queued-kept (λ q. unserved_in s q.phase) s.kept.settled s.kept.requests (λ q e. served-not q.phase e)

  -- one that left was served
  pub gone-served : (o : Option Request) → if_lingers s.kept.settled o ≡ None → (o ≡ None) ⊎ ((q : Request) × (o ≡ Some q) × (unserved_in s q.phase ≡ false))
  gone-served None e = inl refl
  gone-served (Some q) e = inr (q, refl, on (unserved_in s q.phase) refl)
    where
      off : (b : Bool) → not (b && false) ≡ true
      off true = refl
      off false = refl

      on : (b : Bool) → unserved_in s q.phase ≡ b → b ≡ false
      on true f = let l : lingers s.kept.settled q ≡ true = rw (served-not q.phase f) (off (has q.number s.kept.settled)) in let w : if_lingers s.kept.settled (Some q) ≡ Some q = rw l refl in cc
      on false f = refl

  pub none-off : (r : ℕ) → kept_request s r ≡ None → filter (λ q. unserved_in s q.phase) (filter_map (request_at s) (r ∷ [])) ≡ []
  none-off r e = on (gone-served (request_at s r) e)
    where
      on : (request_at s r ≡ None) ⊎ ((q : Request) × (request_at s r ≡ Some q) × (unserved_in s q.phase ≡ false)) → filter (λ q. unserved_in s q.phase) (filter_map (request_at s) (r ∷ [])) ≡ []
      on (inl f) = rw f refl
      on (inr h) = rw (h.1, h.2) refl

-- one that has ended came
pub ended-came : (o : Option Request) → is_ended_at o ≡ true → is_some o ≡ true
ended-came None e = cc
ended-came (Some q) e = refl

-- one that was put came
pub put-came : (q : Request) (qs : List Request) → is_some (request_in (put number-of q qs) q.number) ≡ true
put-came q qs = ap is_some (entry_at-put number-of q.number q qs) ∙ rw (own-number q.number) refl

-- one whose place another takes came, and does so still
pub swap-came : (q : Request) (qs : List Request) (r : ℕ) → is_some (request_in qs r) ≡ true → is_some (request_in (swap number-of q qs) r) ≡ true
swap-came q qs r e = ap is_some (entry_at-swap_any number-of r q qs) ∙ on (q.number == r) (request_in qs r) e
  where
    on : (b : Bool) (o : Option Request) → is_some o ≡ true → is_some (if b then (if is_some o then Some q else None) else o) ≡ true
    on true None f = cc
    on true (Some p) f = refl
    on false o f = f

-- a request that is turned away is not settled by that
pub away-settled : (s : PoolCore) (r m : ℕ) (warm : Bool) (o : Option End) → (away s r m warm o).kept.settled ≡ s.kept.settled
away-settled s r m warm None = refl
away-settled s r m warm (Some end) = refl

-- numbers that are apart stay so
fewer : (p : Request → Bool) (k : ℕ) (qs : List Request) → among k (map number-of qs) ≡ false → among k (map number-of (filter p qs)) ≡ false
fewer p k [] e = refl
fewer p k (q ∷ qs) e = grind (arith, common_steps, fewer p k qs, e)

pub filter-apart : (p : Request → Bool) (qs : List Request) → apart (map number-of qs) ≡ true → apart (map number-of (filter p qs)) ≡ true
filter-apart p [] a = refl
filter-apart p (q ∷ qs) a = on (p q) refl (filter-apart p qs (apart-rest q.number (map number-of qs) a))
  where
    on : (b : Bool) → p q ≡ b → apart (map number-of (filter p qs)) ≡ true → apart (map number-of (filter p (q ∷ qs))) ≡ true
    on true e r = rw (e, fewer p q.number qs (apart-first q.number (map number-of qs) a)) r
    on false e r = rw e r

pub kept-apart : (ks : List ℕ) (qs : List Request) → apart (map number-of qs) ≡ true → apart (map number-of (filter (lingers ks) qs)) ≡ true
kept-apart ks qs a = filter-apart (lingers ks) qs a
