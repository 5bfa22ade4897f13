-- A closed pool in which nothing lives: nobody holds a connection of it, and none of its requests is open.
use Rattle.std.proofs.Common.{◌≡◌, ℕ, Bool, true, false, not, ◌==◌, ◌&&◌, Option, Some, None, is_some, List, [], ◌∷◌, filter, length, refl, sym, ◌∙◌, ap, arith}
use Rattle.std.proofs.lemmas.Bool.Decides.{nat_tests}
use Rattle.mdb_log.specs.Connections.{has}
use Rattle.mdb_pool.specs.declared.kept.request.Request.{Request}
use Rattle.mdb_pool.specs.Core.{PoolCore}
use Rattle.mdb_pool.specs.Kept.Values.{connection_at, first_unclaimed, given_of, held_connection, held_given, id_at, is_asked_at, kept_requests, lingers, request_at, request_in}
use Rattle.mdb_pool.specs.Now.{has_job_now, held_now, holds_now, is_closed_now, is_live_now, is_open_now, is_pending_now, is_spent, pins_now, queries}
use Rattle.mdb_log.proofs.Bools.{both-true}
use Rattle.mdb_pool_rules.proofs.Listed.Values.{entry_at-key}

empty : {T : Type 0} (xs : List T) → (length xs == 0) ≡ true → xs ≡ []
empty [] e = refl
empty (x ∷ xs) e = let n : length (x ∷ xs) ≡ 0 = grind (arith, nat_tests) in absurd (omega arith)

-- a value that is found and passes is counted
counted : (p : Request → Bool) (r : ℕ) (q : Request) (qs : List Request) → request_in qs r ≡ Some q → p q ≡ true → (length (filter p qs) == 0) ≡ false
counted p r q [] e f = cc
counted p r q (x ∷ qs) e f = on (p x) (x.number == r) refl refl (counted p r q qs)
  where
    some : (ys : List Request) → (length (x ∷ ys) == 0) ≡ false
    some ys = grind (arith, nat_tests)

    on : (b d : Bool) → p x ≡ b → (x.number == r) ≡ d → (request_in qs r ≡ Some q → p q ≡ true → (length (filter p qs) == 0) ≡ false) → (length (filter p (x ∷ qs)) == 0) ≡ false
    on true d g h more = rw g (some (filter p qs))
    on false true g h more = let at : request_in (x ∷ qs) r ≡ Some x = rw h refl in let same : Some x ≡ Some q = sym at ∙ e in let w : x ≡ q = cc in let k : p x ≡ true = ap p w ∙ f in cc
    on false false g h more = let at : request_in (x ∷ qs) r ≡ request_in qs r = rw h refl in rw g (more (sym at ∙ e) f)

module _ (s : PoolCore) (spent : is_spent s ≡ true) where
  pub spent-shut : is_closed_now s ≡ true
  unfolding queries
  spent-shut = (both-true (is_closed_now s) ((length s.kept.connections == 0) && (length (kept_requests s) == 0)) spent).0

  rest : (length s.kept.connections == 0) && (length (kept_requests s) == 0) ≡ true
  unfolding queries
  rest = (both-true (is_closed_now s) ((length s.kept.connections == 0) && (length (kept_requests s) == 0)) spent).1

  no-connections : s.kept.connections ≡ []
  unfolding queries
  no-connections = empty s.kept.connections (both-true (length s.kept.connections == 0) (length (kept_requests s) == 0) rest).0

  none-kept : (length (kept_requests s) == 0) ≡ true
  unfolding queries
  none-kept = (both-true (length s.kept.connections == 0) (length (kept_requests s) == 0) rest).1

  none-there : (c : ℕ) → connection_at s c ≡ None
  none-there c = rw no-connections refl

  none-held : (r : ℕ) → held_connection s r ≡ None
  none-held r = on (given_of (request_at s r))
    where
      on : (o : Option ℕ) → held_given s o ≡ None
      on None = refl
      on (Some c) = rw (none-there c) refl

  none-unclaimed : first_unclaimed s ≡ None
  none-unclaimed = rw no-connections refl

  pub none-live : (c : ℕ) → is_live_now s c ≡ false
  unfolding queries
  none-live c = ap is_some (none-there c)

  pub nobody-holds : (r : ℕ) → held_now s r ≡ None
  unfolding queries
  nobody-holds r = ap id_at (none-held r)

  pub nobody-held : (r : ℕ) → holds_now s r ≡ false
  unfolding queries
  nobody-held r = ap is_some (none-held r)

  pub no-job : has_job_now s ≡ false
  unfolding queries
  no-job = ap is_some none-unclaimed

  pub none-pending : (c : ℕ) → is_pending_now s c ≡ false
  unfolding queries
  none-pending c = rw (none-there c) refl

  pub none-pinned : (c : ℕ) → pins_now s c ≡ 0
  unfolding queries
  none-pinned c = rw (none-there c) refl

  pub none-open : (r : ℕ) → is_open_now s r ≡ false
  unfolding queries
  none-open r = on (request_at s r) refl
    where
      off : (a b : Bool) → (a && not b) ≡ true → b ≡ false
      off true false e = refl
      off true true e = cc
      off false b e = cc

      on : (o : Option Request) → request_at s r ≡ o → is_open_now s r ≡ false
      on None e = rw e refl
      on (Some q) e = unopened (is_open_now s r) refl
        where
          unopened : (b : Bool) → is_open_now s r ≡ b → b ≡ false
          unopened false f = refl
          unopened true f =
              let unsettled : has r s.kept.settled ≡ false = off (is_asked_at (request_at s r)) (has r s.kept.settled) f in
              let own : q.number ≡ r = entry_at-key (λ (k : Request). k.number) r q s.kept.requests e in
              let stays : lingers s.kept.settled q ≡ true = rw (own, unsettled) refl in
              let some : (length (kept_requests s) == 0) ≡ false = counted (lingers s.kept.settled) r q s.kept.requests e stays in
              let none : (length (kept_requests s) == 0) ≡ true = none-kept in
              cc
