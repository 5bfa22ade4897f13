-- How many connections and requests a pool keeps, and the moments of the first ones, are what its items say.
use Rattle.std.proofs.Common.{ℕ, ◌≡◌, ◌+◌, ◌-◌, Bool, true, false, not, ◌&&◌, List, [], ◌∷◌, length, map, filter, find, Some, is_some, refl, sym, ◌∙◌, ap, arith}
use Rattle.std.specs.Prelude.{count_by}
use Rattle.std.specs.List.{list_any}
use Rattle.std.proofs.lemmas.List.{length-map}
use Rattle.std.proofs.lemmas.List.Sums.{length-filter}
use Rattle.mdb_pool.specs.declared.kept.connection.Connection.{Connection}
use Rattle.mdb_pool.specs.declared.kept.request.Request.{Request}
use Rattle.mdb_pool.specs.Core.{PoolCore}
use Rattle.mdb_log.specs.Connections.{available_list, pending_list}
use Rattle.mdb_log.specs.History.{PoolItem}
use Rattle.mdb_log.specs.Requests.{is_warm, queued, waiting}
use Rattle.mdb_pool_rules.specs.Facts.{perished}
use Rattle.mdb_pool.specs.Counted.{in_use_total}
use Rattle.mdb_pool.specs.Dues.{asked_by_first, first_asked, first_since, limit_after, next_due, next_expiry, next_maintenance, since_by_first, some_perished, timer_at, wants_filling}
use Rattle.mdb_pool.specs.Kept.Places.{is_available, is_pending, is_queued}
use Rattle.mdb_pool.specs.Kept.Values.{asked_at_of, asked_in, available_count, connection_at, due_now, expiry_now, fills_now, first_available, first_caller, first_perished, ids_where, in_use_count, maintenance_now, numbers_where, pending_count, perished_now, queued_count, request_at, since_in, timer_now, waiting_count, warm_of}
use Rattle.mdb_pool.specs.Standing.{Fits}
use Rattle.mdb_pool_rules.proofs.Listed.Values.{In, here, there, length-where, member-at, one_if-le}
use Rattle.mdb_pool.proofs.Listed.Beside.{both_apart}
use Rattle.mdb_pool.proofs.Listed.FirstOrLast.{is-available}
use Rattle.mdb_pool.proofs.Turns.MaintainMany.{fills-is}
use Rattle.mdb_pool.proofs.Turns.Serve.{perished-is}

abbrev id_of : Connection → ℕ
id_of x = x.id

abbrev number_of : Request → ℕ
number_of q = q.number

abbrev waits : Request → Bool
waits q = is_queued q.phase && not q.warm

-- what is left of two parts
other-part : (a b n : ℕ) → a + b ≡ n → n - a ≡ b
other-part a b n e = omega arith

module _ (s : PoolCore) (xs : List PoolItem) (z : Fits s xs) where
  pub available-count : available_count s ≡ length (available_list xs)
  available-count = sym (ap length z.matches.counts.available ∙ length-where id_of (λ x. is_available x.place) s.kept.connections)

  pub pending-total : pending_count s ≡ length (pending_list xs)
  pending-total = sym (ap length z.matches.counts.pending ∙ length-where id_of (λ x. is_pending x.place) s.kept.connections)

  pub in-use-count : in_use_count s ≡ in_use_total xs
  in-use-count = sym (rw (z.matches.counts.live_all, ← available-count, ← pending-total) refl)

  pub queued-total : queued_count s ≡ length (queued xs)
  queued-total = sym (ap length z.matches.requests.queue ∙ (length-map (filter (λ q. is_queued q.phase) s.kept.requests) number_of ∙ length-filter (λ q. is_queued q.phase) s.kept.requests))

  request-there : (q : Request) → In q s.kept.requests → request_at s q.number ≡ Some q
  request-there q i = member-at number_of q s.kept.requests i (rw (z.matches.requests.single_request q.number) (one_if-le (is_some (request_at s q.number))))

  connection-there : (x : Connection) → In x s.kept.connections → connection_at s x.id ≡ Some x
  connection-there x i = member-at id_of x s.kept.connections i (rw (z.matches.counts.single x.id) (one_if-le (is_some (connection_at s x.id))))

  callers-are : (qs : List Request) → ((q : Request) → In q qs → request_at s q.number ≡ Some q) → filter (λ r. not (is_warm xs r)) (numbers_where is_queued qs) ≡ map number_of (filter waits qs)
  callers-are [] at = refl
  callers-are (q ∷ qs) at = on (is_queued q.phase) q.warm refl refl (callers-are qs (λ k i. at k (there i)))
    where
      warm : is_warm xs q.number ≡ q.warm
      warm = z.matches.requests.warm q.number ∙ ap warm_of (at q here)

      on : (b w : Bool) → is_queued q.phase ≡ b → q.warm ≡ w → filter (λ r. not (is_warm xs r)) (numbers_where is_queued qs) ≡ map number_of (filter waits qs) → filter (λ r. not (is_warm xs r)) (numbers_where is_queued (q ∷ qs)) ≡ map number_of (filter waits (q ∷ qs))
      on false w e f rest = rw e rest
      on true true e f rest = rw (e, warm, f) rest
      on true false e f rest = rw (e, warm, f) (ap (λ ks. q.number ∷ ks) rest)

  waiting-are : waiting xs ≡ map number_of (filter waits s.kept.requests)
  waiting-are = ap (filter (λ r. not (is_warm xs r))) z.matches.requests.queue ∙ callers-are s.kept.requests request-there

  pub waiting-total : waiting_count s ≡ length (waiting xs)
  waiting-total =
      other-part (count_by (λ q. is_queued q.phase && q.warm) s.kept.requests) (count_by waits s.kept.requests) (count_by (λ q. is_queued q.phase) s.kept.requests) (both_apart (λ q. is_queued q.phase) (λ q. q.warm) s.kept.requests)
      ∙ sym (ap length waiting-are ∙ (length-map (filter waits s.kept.requests) number_of ∙ length-filter waits s.kept.requests))

  asked-are : (qs : List Request) → ((q : Request) → In q qs → request_at s q.number ≡ Some q) → asked_in (find waits qs) ≡ asked_by_first xs (map number_of (filter waits qs))
  asked-are [] at = refl
  asked-are (q ∷ qs) at = on (waits q) refl (asked-are qs (λ k i. at k (there i)))
    where
      on : (b : Bool) → waits q ≡ b → asked_in (find waits qs) ≡ asked_by_first xs (map number_of (filter waits qs)) → asked_in (find waits (q ∷ qs)) ≡ asked_by_first xs (map number_of (filter waits (q ∷ qs)))
      on false e rest = rw e rest
      on true e rest = rw e (ap Some (sym (z.matches.requests.asked_at q.number ∙ ap asked_at_of (at q here))))

  pub first-asked : asked_in (first_caller s) ≡ first_asked xs
  first-asked = asked-are s.kept.requests request-there ∙ ap (asked_by_first xs) (sym waiting-are)

  since-are : (cs : List Connection) → ((x : Connection) → In x cs → connection_at s x.id ≡ Some x) → since_in (find (λ x. is_available x.place) cs) ≡ since_by_first xs (ids_where is_available cs)
  since-are [] at = refl
  since-are (x ∷ cs) at = on (is_available x.place) refl (since-are cs (λ k i. at k (there i)))
    where
      on : (b : Bool) → is_available x.place ≡ b → since_in (find (λ y. is_available y.place) cs) ≡ since_by_first xs (ids_where is_available cs) → since_in (find (λ y. is_available y.place) (x ∷ cs)) ≡ since_by_first xs (ids_where is_available (x ∷ cs))
      on false e rest = rw e rest
      on true e rest = rw e (ap Some (sym (z.matches.connections.since x.id x (at x here) e)))

  pub first-since : since_in (first_available s) ≡ first_since xs
  first-since = since-are s.kept.connections connection-there ∙ ap (since_by_first xs) (sym z.matches.counts.available)

  pub fills : fills_now s ≡ wants_filling s.options xs
  fills = sym (fills-is s xs z 0)

  pub expiry : expiry_now s ≡ next_expiry s.options xs
  expiry = ap (limit_after s.options.max_wait) first-asked

  module _ (n : ℕ) where
    abbrev gone : Connection → Bool
    gone x = is_available x.place && is_some (perished_now s n x)

    gone-are : (cs : List Connection) → ((x : Connection) → In x cs → connection_at s x.id ≡ Some x) → is_some (find gone cs) ≡ list_any (λ c. is_some (perished s.options n xs c)) (ids_where is_available cs)
    gone-are [] at = refl
    gone-are (x ∷ cs) at = on (is_available x.place) (is_some (perished_now s n x)) refl refl (gone-are cs (λ k i. at k (there i)))
      where
        on : (b w : Bool) → is_available x.place ≡ b → is_some (perished_now s n x) ≡ w → is_some (find gone cs) ≡ list_any (λ c. is_some (perished s.options n xs c)) (ids_where is_available cs) → is_some (find gone (x ∷ cs)) ≡ list_any (λ c. is_some (perished s.options n xs c)) (ids_where is_available (x ∷ cs))
        on false w e f rest = rw e rest
        on true true e f rest = rw (e, perished-is s xs z n x (at x here) (is-available x.place e), f) refl
        on true false e f rest = rw (e, perished-is s xs z n x (at x here) (is-available x.place e), f) rest

    pub some-perished : is_some (first_perished s n) ≡ some_perished s.options n xs
    some-perished = gone-are s.kept.connections connection-there ∙ ap (list_any (λ c. is_some (perished s.options n xs c))) (sym z.matches.counts.available)

    pub maintenance : maintenance_now s n ≡ next_maintenance s.options n xs
    maintenance = rw (fills, some-perished, first-since) refl

    pub timer : timer_now s n ≡ timer_at s.options n xs
    timer = rw (expiry, maintenance) refl

    pub due : due_now s n ≡ next_due s.options n xs
    due = rw (expiry, maintenance) refl
