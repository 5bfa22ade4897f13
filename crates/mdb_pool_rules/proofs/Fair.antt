-- The serving is fair, and leaves nobody who could be served.
use Rattle.std.proofs.Common.{ℕ, zero, suc, ◌≡◌, ◌+◌, ◌-◌, ◌<◌, ◌≤◌, Bool, true, false, not, ◌&&◌, ◌||◌, List, [], ◌∷◌, ◌++◌, length, filter, Option, Some, None, ◌⊎◌, inl, inr, refl, sym, ◌∙◌, ap, subst, arith, if◌then◌else◌}
use Rattle.mdb_base.specs.declared.address.ServerAddress.{ServerAddress}
use Rattle.mdb_events.specs.declared.fact.Fact.{Fact}
use Rattle.mdb_events.specs.declared.fact.Fact.TheVariants.{Granted, Ended}
use Rattle.mdb_events.specs.declared.end.End.TheVariants.{Warmed}
use Rattle.mdb_events.specs.declared.reasons.ConnectionClosedReason.{ConnectionClosedReason}
use Rattle.mdb_events.specs.declared.reasons.ConnectionClosedReason.TheVariants.{Stale, Idle}
use Rattle.mdb_log.specs.declared.options.PoolOptions.{PoolOptions}
use Rattle.mdb_log.specs.History.{PoolItem, after_fact, after_facts, without}
use Rattle.mdb_log.specs.Connections.{has, created_total, available_list, known_service}
use Rattle.mdb_log.specs.State.{is_stale, state_of, ready, may_create, could_be_granted, is_empty, is_idle}
use Rattle.mdb_log.specs.Requests.{queued, is_warm, asked_at}
use Rattle.mdb_pool_rules.specs.Serving.{last_of, is_blocked, candidate, next_move, serve, serving, creation, wants_connection}
use Rattle.mdb_pool_rules.specs.Facts.{closed_fact, checked_out_fact}
use Rattle.mdb_log.specs.Legal.{NoneLeftWaiting, IsNext, AllFirstCome, first}
use Rattle.mdb_log.specs.Own.{AllOwn, is_closing, shuts}
use Rattle.mdb_pool_rules.proofs.Listed.Values.{length-without, length-without_has}
use Rattle.mdb_log.proofs.Later.{after-append}
use Rattle.mdb_log.proofs.Numbers.{same-number}
use Rattle.mdb_pool_rules.proofs.Listed.Last.{last_of-has, last_of-none}
use Rattle.mdb_log.proofs.Pins.{queued-asked}
use Rattle.std.proofs.Math.Bool.{and-false, or-false}

pub serve-nothing : (p : ℕ) (a : ServerAddress) (o : PoolOptions) (n left : ℕ) (xs : List PoolItem) → next_move p a o n xs ≡ [] → serve p a o n left xs ≡ []
serve-nothing p a o n zero xs e = refl
serve-nothing p a o n (suc left) xs e = rw e (serve-nothing p a o n left xs e)

module _ (p : ℕ) (a : ServerAddress) (o : PoolOptions) (n : ℕ) where
  pub candidate-has : (xs : List PoolItem) (r : ℕ) (rs : List ℕ) → candidate o xs rs ≡ Some r → has r rs ≡ true
  candidate-has xs r [] e = cc
  candidate-has xs r (q ∷ rs) e = on (is_blocked o xs q) refl (candidate-has xs r rs)
    where
      on : (b : Bool) → is_blocked o xs q ≡ b → (candidate o xs rs ≡ Some r → has r rs ≡ true) → has r (q ∷ rs) ≡ true
      on true f deeper = let g : candidate o xs rs ≡ Some r = subst (λ b. (if b then candidate o xs rs else Some q) ≡ Some r) f e in let v : has r rs ≡ true = deeper g in grind arith
      on false f deeper = let g : ◌≡◌ {A = Option ℕ} (Some q) (Some r) = subst (λ b. (if b then candidate o xs rs else Some q) ≡ Some r) f e in let w : q ≡ r = cc in grind arith

  blocked-warm : (xs : List PoolItem) (r : ℕ) → is_blocked o xs r ≡ true → is_warm xs r ≡ true
  blocked-warm xs r e = on (is_warm xs r) refl
    where
      on : (b : Bool) → is_warm xs r ≡ b → is_warm xs r ≡ true
      on true f = f
      on false f = let g : is_blocked o xs r ≡ false = rw f refl in cc

  pub candidate-none : (xs : List PoolItem) (rs : List ℕ) → candidate o xs rs ≡ None → filter (λ r. not (is_warm xs r)) rs ≡ []
  candidate-none xs [] e = refl
  candidate-none xs (q ∷ rs) e = on (is_blocked o xs q) refl (candidate-none xs rs)
    where
      on : (b : Bool) → is_blocked o xs q ≡ b → (candidate o xs rs ≡ None → filter (λ r. not (is_warm xs r)) rs ≡ []) → filter (λ r. not (is_warm xs r)) (q ∷ rs) ≡ []
      on true f deeper = let g : candidate o xs rs ≡ None = subst (λ b. (if b then candidate o xs rs else Some q) ≡ None) f e in rw (blocked-warm xs q f) (deeper g)
      on false f deeper = let g : ◌≡◌ {A = Option ℕ} (Some q) None = subst (λ b. (if b then candidate o xs rs else Some q) ≡ None) f e in cc

  pub candidate-first : (xs : List PoolItem) (r : ℕ) (rs : List ℕ) → candidate o xs rs ≡ Some r → is_warm xs r ≡ false → first (filter (λ q. not (is_warm xs q)) rs) ≡ Some r
  candidate-first xs r [] e w = cc
  candidate-first xs r (q ∷ rs) e w = on (is_blocked o xs q) refl (candidate-first xs r rs)
    where
      on : (b : Bool) → is_blocked o xs q ≡ b → (candidate o xs rs ≡ Some r → is_warm xs r ≡ false → first (filter (λ k. not (is_warm xs k)) rs) ≡ Some r) → first (filter (λ k. not (is_warm xs k)) (q ∷ rs)) ≡ Some r
      on true f deeper = let g : candidate o xs rs ≡ Some r = subst (λ b. (if b then candidate o xs rs else Some q) ≡ Some r) f e in rw (blocked-warm xs q f) (deeper g w)
      on false f deeper = let g : ◌≡◌ {A = Option ℕ} (Some q) (Some r) = subst (λ b. (if b then candidate o xs rs else Some q) ≡ Some r) f e in let k : q ≡ r = cc in let v : is_warm xs q ≡ false = ap (is_warm xs) k ∙ w in rw v g

  -- how many requests and connections a serving may still take away
  abbrev pub size : List PoolItem → ℕ
  size xs = length (queued xs) + length (available_list xs)

  -- the kinds of moves
  pub data Move (xs : List PoolItem) : Type 0 where
    nothing : next_move p a o n xs ≡ [] → NoneLeftWaiting o xs → Move xs
    closing : (c : ℕ) (why : ConnectionClosedReason) → next_move p a o n xs ≡ closed_fact p a c why (known_service xs c) ∷ [] → has c (available_list xs) ≡ true → Move xs
    granting : (r c : ℕ) → next_move p a o n xs ≡ Granted r p c ∷ checked_out_fact p a c (n - asked_at xs r) ∷ [] → has r (queued xs) ≡ true → IsNext xs r → Move xs
    creating : (r : ℕ) → next_move p a o n xs ≡ creation p a xs r → has r (queued xs) ≡ true → IsNext xs r → Move xs
    warming : (r : ℕ) → next_move p a o n xs ≡ Ended r Warmed ∷ [] → has r (queued xs) ≡ true → Move xs

  not-ready : (xs : List PoolItem) → ready (state_of o xs) ≡ false → could_be_granted o xs ≡ false
  not-ready xs e = rw e refl

  no-grant : (xs : List PoolItem) → available_list xs ≡ [] → may_create o xs ≡ false → could_be_granted o xs ≡ false
  no-grant xs e f = rw (e, f) (and-false (ready (state_of o xs)))

  pub move-of : (xs : List PoolItem) → Move xs
  move-of xs = at_status (ready (state_of o xs)) refl
    where
      at_room : (b : Bool) (r : ℕ) → may_create o xs ≡ b → ready (state_of o xs) ≡ true → candidate o xs (queued xs) ≡ Some r → is_warm xs r ≡ false → last_of (available_list xs) ≡ None → Move xs
      at_room true r room e f w l = creating r (rw (e, f, w, l, room) refl) (candidate-has xs r (queued xs) f) (rw w (candidate-first xs r (queued xs) f w))
      at_room false r room e f w l = nothing (rw (e, f, w, l, room) refl) (inr (no-grant xs (last_of-none (available_list xs) l) room))

      at_idle : (b : Bool) (r c : ℕ) → is_idle o n xs c ≡ b → is_stale o xs c ≡ false → ready (state_of o xs) ≡ true → candidate o xs (queued xs) ≡ Some r → is_warm xs r ≡ false → last_of (available_list xs) ≡ Some c → Move xs
      at_idle true r c i s e f w l = closing c Idle (rw (e, f, w, l, s, i) refl) (last_of-has c (available_list xs) l)
      at_idle false r c i s e f w l = granting r c (rw (e, f, w, l, s, i) refl) (candidate-has xs r (queued xs) f) (rw w (candidate-first xs r (queued xs) f w))

      at_stale : (b : Bool) (r c : ℕ) → is_stale o xs c ≡ b → ready (state_of o xs) ≡ true → candidate o xs (queued xs) ≡ Some r → is_warm xs r ≡ false → last_of (available_list xs) ≡ Some c → Move xs
      at_stale true r c s e f w l = closing c Stale (rw (e, f, w, l, s) refl) (last_of-has c (available_list xs) l)
      at_stale false r c s e f w l = at_idle (is_idle o n xs c) r c refl s e f w l

      at_last : (k : Option ℕ) (r : ℕ) → last_of (available_list xs) ≡ k → ready (state_of o xs) ≡ true → candidate o xs (queued xs) ≡ Some r → is_warm xs r ≡ false → Move xs
      at_last None r l e f w = at_room (may_create o xs) r refl e f w l
      at_last (Some c) r l e f w = at_stale (is_stale o xs c) r c refl e f w l

      at_wants : (b : Bool) (r : ℕ) → wants_connection o xs ≡ b → ready (state_of o xs) ≡ true → candidate o xs (queued xs) ≡ Some r → is_warm xs r ≡ true → Move xs
      at_wants true r v e f w = creating r (rw (e, f, w, v) refl) (candidate-has xs r (queued xs) f) (rw w (candidate-has xs r (queued xs) f))
      at_wants false r v e f w = warming r (rw (e, f, w, v) refl) (candidate-has xs r (queued xs) f)

      at_warm : (b : Bool) (r : ℕ) → is_warm xs r ≡ b → ready (state_of o xs) ≡ true → candidate o xs (queued xs) ≡ Some r → Move xs
      at_warm true r w e f = at_wants (wants_connection o xs) r refl e f w
      at_warm false r w e f = at_last (last_of (available_list xs)) r refl e f w

      at_candidate : (k : Option ℕ) → candidate o xs (queued xs) ≡ k → ready (state_of o xs) ≡ true → Move xs
      at_candidate None f e = nothing (rw (e, f) refl) (inl (candidate-none xs (queued xs) f))
      at_candidate (Some r) f e = at_warm (is_warm xs r) r refl e f

      at_status : (b : Bool) → ready (state_of o xs) ≡ b → Move xs
      at_status true e = at_candidate (candidate o xs (queued xs)) refl e
      at_status false e = nothing (rw e refl) (inr (not-ready xs e))

  -- a move takes something away, or there is none
  pub shrinks : (xs : List PoolItem) → Move xs → ((next_move p a o n xs ≡ []) × NoneLeftWaiting o xs) ⊎ (size (after_facts p n (next_move p a o n xs) xs) < size xs)
  shrinks xs (nothing e s) = inl (e, s)
  shrinks xs (closing c why e i) = inr (rw (e, same-number p) (let k : length (without c (available_list xs)) < length (available_list xs) = length-without_has c (available_list xs) i in omega arith))
  shrinks xs (granting r c e i f) = inr (rw (e, same-number p) (let k : length (without r (queued xs)) < length (queued xs) = length-without_has r (queued xs) i in omega (arith, length-without c (available_list xs))))
  shrinks xs (creating r e i f) = inr (rw (e, same-number p) (let k : length (without r (queued xs)) < length (queued xs) = length-without_has r (queued xs) i in omega (arith, length-without (created_total xs + 1) (available_list xs))))
  shrinks xs (warming r e i) = inr (rw (e, queued-asked xs r i) (let k : length (without r (queued xs)) < length (queued xs) = length-without_has r (queued xs) i in omega arith))

  pub fair-move : (xs : List PoolItem) → Move xs → AllFirstCome p n xs (next_move p a o n xs)
  fair-move xs (nothing e s) = rw e tt
  fair-move xs (closing c why e i) = rw e (tt, tt)
  fair-move xs (granting r c e i f) = rw e ((refl, f), (tt, tt))
  fair-move xs (creating r e i f) = rw (e, same-number p) (tt, ((refl, f), tt))
  fair-move xs (warming r e i) = rw e (tt, tt)

  pub own-move : (xs : List PoolItem) → Move xs → AllOwn p n xs (next_move p a o n xs)
  own-move xs (nothing e s) = rw e tt
  own-move xs (closing c why e i) = rw e (refl, tt)
  own-move xs (granting r c e i f) = rw e (refl, (refl, tt))
  own-move xs (creating r e i f) = rw e (refl, (refl, tt))
  own-move xs (warming r e i) = rw e (queued-asked xs r i, tt)

  pub own-append : (fs gs : List Fact) (xs : List PoolItem) → AllOwn p n xs fs → AllOwn p n (after_facts p n fs xs) gs → AllOwn p n xs (fs ++ gs)
  own-append [] gs xs i j = j
  own-append (f ∷ fs) gs xs i j = (i.0, own-append fs gs (after_fact p n f xs) i.1 j)

  pub serve-own : (k : ℕ) (xs : List PoolItem) → AllOwn p n xs (serve p a o n k xs)
  serve-own zero xs = tt
  serve-own (suc k) xs = own-append (next_move p a o n xs) (serve p a o n k (after_facts p n (next_move p a o n xs) xs)) xs (own-move xs (move-of xs)) (serve-own k (after_facts p n (next_move p a o n xs) xs))

  pub shut-append : (fs gs : List Fact) → shuts (fs ++ gs) ≡ shuts fs || shuts gs
  shut-append [] gs = refl
  shut-append (f ∷ fs) gs = on (is_closing f) refl (shut-append fs gs)
    where
      on : (b : Bool) → is_closing f ≡ b → shuts (fs ++ gs) ≡ shuts fs || shuts gs → shuts ((f ∷ fs) ++ gs) ≡ shuts (f ∷ fs) || shuts gs
      on true e rest = rw e refl
      on false e rest = rw e rest

  -- no move closes a pool
  move-open : (xs : List PoolItem) → Move xs → shuts (next_move p a o n xs) ≡ false
  move-open xs (nothing e s) = rw e refl
  move-open xs (closing c why e i) = rw e refl
  move-open xs (granting r c e i f) = rw e refl
  move-open xs (creating r e i f) = rw e refl
  move-open xs (warming r e i) = rw e refl

  serve-open : (k : ℕ) (xs : List PoolItem) → shuts (serve p a o n k xs) ≡ false
  serve-open zero xs = refl
  serve-open (suc k) xs = shut-append (next_move p a o n xs) (serve p a o n k (after_facts p n (next_move p a o n xs) xs)) ∙ rw (move-open xs (move-of xs)) (serve-open k (after_facts p n (next_move p a o n xs) xs))

  pub with-serve : (fs : List Fact) (k : ℕ) (xs : List PoolItem) → shuts (fs ++ serve p a o n k xs) ≡ shuts fs
  with-serve fs k xs = shut-append fs (serve p a o n k xs) ∙ rw (serve-open k xs) (or-false (shuts fs))

  pub fair-append : (fs gs : List Fact) (xs : List PoolItem) → AllFirstCome p n xs fs → AllFirstCome p n (after_facts p n fs xs) gs → AllFirstCome p n xs (fs ++ gs)
  fair-append [] gs xs i j = j
  fair-append (f ∷ fs) gs xs i j = (i.0, fair-append fs gs (after_fact p n f xs) i.1 j)

  -- the serving is fair
  pub serve-fair : (k : ℕ) (xs : List PoolItem) → AllFirstCome p n xs (serve p a o n k xs)
  serve-fair zero xs = tt
  serve-fair (suc k) xs = fair-append (next_move p a o n xs) (serve p a o n k (after_facts p n (next_move p a o n xs) xs)) xs (fair-move xs (move-of xs)) (serve-fair k (after_facts p n (next_move p a o n xs) xs))

  -- after the serving nobody waits who could be served
  pub serve-settles : (k : ℕ) (xs : List PoolItem) → size xs ≤ k → NoneLeftWaiting o (after_facts p n (serve p a o n k xs) xs)
  serve-settles zero xs l = on (shrinks xs (move-of xs))
    where
      on : ((next_move p a o n xs ≡ []) × NoneLeftWaiting o xs) ⊎ (size (after_facts p n (next_move p a o n xs) xs) < size xs) → NoneLeftWaiting o xs
      on (inl q) = q.1
      on (inr q) = absurd (omega arith)
  serve-settles (suc k) xs l = on (shrinks xs (move-of xs)) (serve-settles k (after_facts p n (next_move p a o n xs) xs))
    where
      on : ((next_move p a o n xs ≡ []) × NoneLeftWaiting o xs) ⊎ (size (after_facts p n (next_move p a o n xs) xs) < size xs) → (size (after_facts p n (next_move p a o n xs) xs) ≤ k → NoneLeftWaiting o (after_facts p n (serve p a o n k (after_facts p n (next_move p a o n xs) xs)) (after_facts p n (next_move p a o n xs) xs))) → NoneLeftWaiting o (after_facts p n (serve p a o n (suc k) xs) xs)
      on (inl q) deeper = rw (serve-nothing p a o n (suc k) xs q.0) q.1
      on (inr q) deeper = rw (after-append p n (next_move p a o n xs) (serve p a o n k (after_facts p n (next_move p a o n xs) xs)) xs) (deeper (omega arith))

  pub serving-settles : (xs : List PoolItem) → NoneLeftWaiting o (after_facts p n (serving p a o n xs) xs)
  serving-settles xs = serve-settles (size xs) xs (omega arith)

no-warm-filter : (xs : List PoolItem) → ((r : ℕ) → is_warm xs r ≡ false) → (rs : List ℕ) → filter (λ r. not (is_warm xs r)) rs ≡ rs
no-warm-filter xs w [] = refl
no-warm-filter xs w (r ∷ rs) = rw (w r) (ap (λ ks. r ∷ ks) (no-warm-filter xs w rs))

empty-list : (cs : List ℕ) → is_empty cs ≡ true → cs ≡ []
empty-list [] e = refl
empty-list (c ∷ cs) e = cc

-- where nobody is left who could be served, and no request is warm, the serving makes no fact, whatever the moment
module _ (p : ℕ) (a : ServerAddress) (o : PoolOptions) (n : ℕ) (xs : List PoolItem) (w : (r : ℕ) → is_warm xs r ≡ false) where
  hopeless : ready (state_of o xs) ≡ true → could_be_granted o xs ≡ false → (is_empty (available_list xs) ≡ true) × (may_create o xs ≡ false)
  hopeless e f = on (is_empty (available_list xs)) (may_create o xs) refl refl (subst (λ b. b && (not (is_empty (available_list xs)) || may_create o xs) ≡ false) e f)
    where
      on : (b c : Bool) → is_empty (available_list xs) ≡ b → may_create o xs ≡ c → (not (is_empty (available_list xs)) || may_create o xs) ≡ false → (is_empty (available_list xs) ≡ true) × (may_create o xs ≡ false)
      on true true g h k =
          let u : (not true || true) ≡ false = subst (λ b. (not b || true) ≡ false) g (subst (λ c. (not (is_empty (available_list xs)) || c) ≡ false) h k) in
          cc
      on true false g h k = (g, h)
      on false c g h k =
          let u : (not false || may_create o xs) ≡ false = subst (λ b. (not b || may_create o xs) ≡ false) g k in
          cc

  pub settled-moves : NoneLeftWaiting o xs → next_move p a o n xs ≡ []
  settled-moves i = at_status (ready (state_of o xs)) refl i
    where
      at_candidate : (k : Option ℕ) → candidate o xs (queued xs) ≡ k → ready (state_of o xs) ≡ true → could_be_granted o xs ≡ false → next_move p a o n xs ≡ []
      at_candidate None f e g = rw (e, f) refl
      at_candidate (Some r) f e g =
          let l : last_of (available_list xs) ≡ None = ap last_of (empty-list (available_list xs) (hopeless e g).0) in
          rw (e, f, w r, l, (hopeless e g).1) refl

      at_status : (b : Bool) → ready (state_of o xs) ≡ b → NoneLeftWaiting o xs → next_move p a o n xs ≡ []
      at_status false e i = rw e refl
      at_status true e (inl f) = let q : queued xs ≡ [] = sym (no-warm-filter xs w (queued xs)) ∙ f in rw (e, q) refl
      at_status true e (inr f) = at_candidate (candidate o xs (queued xs)) refl e f

  pub settled-serving : NoneLeftWaiting o xs → serving p a o n xs ≡ []
  settled-serving i = serve-nothing p a o n (length (queued xs) + length (available_list xs)) xs (settled-moves i)
