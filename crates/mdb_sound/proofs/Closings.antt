-- The close of a pool keeps the items sound.
use Rattle.std.proofs.Common.{ℕ, ◌≡◌, ◌+◌, ◌-◌, ◌≤◌, ◌==◌, Bool, true, false, not, ◌&&◌, ◌||◌, List, [], ◌∷◌, ◌++◌, map, filter, Option, Some, None, is_some, refl, sym, ◌∙◌, ap, subst, arith}
use Rattle.std.proofs.lemmas.Grind.{common_steps}
use Rattle.std.specs.List.{list_any}
use Rattle.mdb_base.specs.declared.address.ServerAddress.{ServerAddress}
use Rattle.mdb_events.specs.declared.fact.Fact.{Fact}
use Rattle.mdb_events.specs.declared.end.End.{End}
use Rattle.mdb_events.specs.declared.end.End.TheVariants.{Closed}
use Rattle.mdb_events.specs.declared.reasons.ConnectionClosedReason.TheVariants.{PoolClosed as PoolClosedReason}
use Rattle.mdb_log.specs.declared.options.PoolOptions.{PoolOptions}
use Rattle.mdb_log.specs.History.{PoolItem, closed, ended, pool_closed, after_facts, if_so, given, has_asked, without}
use Rattle.mdb_log.specs.Connections.{one_if, has, live, pending_list, available_list, parties, pins, known_service}
use Rattle.mdb_log.specs.Requests.{requests, queued, is_warm, end_of, is_unserved}
use Rattle.mdb_log.specs.State.{State, is_new, is_ready, is_paused, is_closed, state_of}
use Rattle.mdb_pool_rules.specs.Facts.{closed_fact, pool_closed_fact, end_facts, all_ends, close_facts}
use Rattle.mdb_log.proofs.Later.{after-append}
use Rattle.mdb_log.proofs.Numbers.{same-number, has-without-is}
use Rattle.mdb_log.proofs.Pins.{queued-asked}
use Rattle.mdb_sound.specs.Sound.{Sound, was_closed, in_use, lost, MayClose, MayEnd, MayShut}
use Rattle.mdb_sound.proofs.Connections.{connection-laws}
use Rattle.mdb_sound.proofs.Order.{times, times-filter, has-filter, times-none, requests-asked}
use Rattle.mdb_pool_rules.specs.Rested.{Rested}
use Rattle.mdb_sound.proofs.Calm.{one-lives, queued-unended, none-is, calm-close}
use Rattle.mdb_sound.proofs.Served.{Fine}
use Rattle.mdb_sound.proofs.Backs.{unshut-state, idle-unused}
use Rattle.mdb_sound.proofs.Ends.{all-fine, end-says, kept-closed}
use Rattle.mdb_sound.proofs.Establishes.{calm-rested}
use Rattle.mdb_sound.proofs.Lists.{another, times-both, available-once, pending-once, requests-once}

-- a connection that a close may end: it lives, without a pin, and is pending, or nobody has it
record Leaves (ys : List PoolItem) (c : ℕ) : Type 0 where
  lives : live ys c ≡ 1
  unused : not (has c (pending_list ys)) && list_any (λ r. not (is_warm ys r)) (parties ys c) ≡ false
  loose : pins ys c ≡ 0

leaves-close : (ys : List PoolItem) (c : ℕ) → Leaves ys c → MayClose ys c
leaves-close ys c w = record { lives = one-lives ys c w.lives; unused = on (not (has c (pending_list ys))) refl w.unused; unpinned = w.loose }
  where
    neither : (a b : Bool) → a && (b && false) ≡ false
    neither true true = refl
    neither true false = refl
    neither false b = refl

    on : (b : Bool) → not (has c (pending_list ys)) ≡ b → not (has c (pending_list ys)) && list_any (λ r. not (is_warm ys r)) (parties ys c) ≡ false → in_use ys c ≡ false
    on true e f = idle-unused ys c (subst (λ b. b && list_any (λ r. not (is_warm ys r)) (parties ys c) ≡ false) e f)
    on false e f = rw e refl

leaves-kept : (ys : List PoolItem) (c k : ℕ) → (c == k) ≡ false → Leaves ys k → Leaves (closed c ∷ ys) k
leaves-kept ys c k e w =
    let same : has k (without c (pending_list ys)) ≡ has k (pending_list ys) = grind (arith, has-without-is k c (pending_list ys)) in
    let l : live ys k ≡ 1 = w.lives in
    record { lives = rw e (omega arith); unused = rw same w.unused; loose = w.loose }

-- what closes leave as it was
record Closes (ys zs : List PoolItem) (cs : List ℕ) : Type 0 where
  queued_is : queued zs ≡ queued ys
  given_is : (r : ℕ) → given zs r ≡ given ys r
  ended_is : (r : ℕ) → end_of zs r ≡ end_of ys r
  asked_is : (r : ℕ) → has_asked zs r ≡ has_asked ys r
  closed_is : was_closed zs ≡ was_closed ys
  live_is : (k : ℕ) → live zs k ≡ live ys k - times k cs
  pending_is : (k : ℕ) → has k (pending_list zs) ≡ has k (pending_list ys) && not (has k cs)
  available_is : (k : ℕ) → has k (available_list zs) ≡ has k (available_list ys) && not (has k cs)

-- a list out of which all was taken
cut : (k c : ℕ) (ks cs : List ℕ) → has k (without c ks) && not (has k cs) ≡ has k ks && not (has k (c ∷ cs))
cut k c ks cs = grind (arith, has-without-is k c ks)

and-true : (b : Bool) → b ≡ b && true
and-true true = refl
and-true false = refl

empty-list : (ks : List ℕ) → ((k : ℕ) → has k ks ≡ false) → ks ≡ []
empty-list [] none = refl
empty-list (j ∷ ks) none = let e : has j (j ∷ ks) ≡ false = none j in let f : has j (j ∷ ks) ≡ true = rw (same-number j) refl in cc

all-out : (a b : Bool) → (a ≡ true → b ≡ true) → a && not b ≡ false
all-out true b all = rw (all refl) refl
all-out false b all = refl

filter-has : (f : ℕ → Bool) (k : ℕ) (ks : List ℕ) → f k ≡ true → has k ks ≡ true → has k (filter f ks) ≡ true
filter-has f k [] e h = cc
filter-has f k (j ∷ ks) e h = on (j == k) (f j) refl refl (filter-has f k ks e)
  where
    on : (b c : Bool) → (j == k) ≡ b → f j ≡ c → (has k ks ≡ true → has k (filter f ks) ≡ true) → has k (filter f (j ∷ ks)) ≡ true
    on true true g i deeper = grind arith
    on true false g i deeper = let l : j ≡ k = grind arith in let m : f j ≡ true = subst (λ n. f n ≡ true) (sym l) e in cc
    on false true g i deeper = let l : has k ks ≡ true = grind arith in let m : has k (filter f ks) ≡ true = deeper l in grind arith
    on false false g i deeper = let l : has k ks ≡ true = grind arith in let m : has k (filter f ks) ≡ true = deeper l in grind arith

module _ (p : ℕ) (a : ServerAddress) (o : PoolOptions) (m : ℕ) where
  abbrev shuts : List PoolItem → List ℕ → List Fact
  shuts ws cs = map (λ c. closed_fact p a c PoolClosedReason (known_service ws c)) cs

  says : (ws : List PoolItem) (c : ℕ) (cs : List ℕ) (ys : List PoolItem) → after_facts p m (shuts ws (c ∷ cs)) ys ≡ after_facts p m (shuts ws cs) (closed c ∷ ys)
  says ws c cs ys = ap (λ b. after_facts p m (shuts ws cs) (if_so b (closed c) ys)) (same-number p)

  or-right : (b : Bool) → b || true ≡ true
  or-right true = refl
  or-right false = refl

  shuts-fine : (ws : List PoolItem) (cs : List ℕ) (ys : List PoolItem) → Fine ys → ((k : ℕ) → has k cs ≡ true → Leaves ys k) → ((k : ℕ) → times k cs ≤ 1) → Fine (after_facts p m (shuts ws cs) ys)
  shuts-fine ws [] ys z each single = z
  shuts-fine ws (c ∷ cs) ys z each single =
      let w : Leaves ys c = each c (rw (same-number c) refl) in
      let rest : Fine (after_facts p m (shuts ws cs) (closed c ∷ ys)) = shuts-fine ws cs (closed c ∷ ys) ((leaves-close ys c w, z.0), calm-close ys c z.1) (λ k h. leaves-kept ys c k (another c k cs (single k) h) (each k (rw h (or-right (c == k))))) (λ k. let l : times k cs + one_if (c == k) ≤ 1 = single k in omega arith) in
      subst Fine (sym (says ws c cs ys)) rest

  shuts-keep : (ws : List PoolItem) (cs : List ℕ) (ys : List PoolItem) → Closes ys (after_facts p m (shuts ws cs) ys) cs
  shuts-keep ws [] ys = record { queued_is = refl; given_is = λ r. refl; ended_is = λ r. refl; asked_is = λ r. refl; closed_is = refl; live_is = λ k. omega arith; pending_is = λ k. and-true (has k (pending_list ys)); available_is = λ k. and-true (has k (available_list ys)) }
  shuts-keep ws (c ∷ cs) ys =
      let i : Closes (closed c ∷ ys) (after_facts p m (shuts ws cs) (closed c ∷ ys)) cs = shuts-keep ws cs (closed c ∷ ys) in
      subst (λ zs. Closes ys zs (c ∷ cs)) (sym (says ws c cs ys)) (record { queued_is = i.queued_is; given_is = i.given_is; ended_is = i.ended_is; asked_is = i.asked_is; closed_is = i.closed_is; live_is = λ k. let l : live (after_facts p m (shuts ws cs) (closed c ∷ ys)) k ≡ (live ys k - one_if (c == k)) - times k cs = i.live_is k in omega arith; pending_is = λ k. i.pending_is k ∙ cut k c (pending_list ys) cs; available_is = λ k. i.available_is k ∙ cut k c (available_list ys) cs })

  -- ends leave what no end changes
  ends-leave : {B : Type 0} (f : List PoolItem → B) → ((r : ℕ) (e : End) (zs : List PoolItem) → f (ended r e ∷ zs) ≡ f zs) → (ws : List PoolItem) (end : End) (rs : List ℕ) (ys : List PoolItem) → ((k : ℕ) → has k rs ≡ true → has_asked ys k ≡ true) → f (after_facts p m (all_ends p a m ws end rs) ys) ≡ f ys
  ends-leave f same ws end [] ys known = refl
  ends-leave f same ws end (r ∷ rs) ys known =
      let asked-it : has_asked ys r ≡ true = known r (rw (same-number r) refl) in
      ap f (after-append p m (end_facts p a m ws r end) (all_ends p a m ws end rs) ys) ∙ (ap (λ zs. f (after_facts p m (all_ends p a m ws end rs) zs)) (end-says p a o m ws ys r end asked-it) ∙ (ends-leave f same ws end rs (ended r end ∷ ys) (λ k h. known k (rw h (or-right (r == k)))) ∙ same r end ys))

  -- and take their requests out of the queue
  ends-queue : (ws : List PoolItem) (end : End) (rs : List ℕ) (ys : List PoolItem) → ((k : ℕ) → has k rs ≡ true → has_asked ys k ≡ true) → (k : ℕ) → has k (queued (after_facts p m (all_ends p a m ws end rs) ys)) ≡ has k (queued ys) && not (has k rs)
  ends-queue ws end [] ys known k = and-true (has k (queued ys))
  ends-queue ws end (r ∷ rs) ys known k =
      let asked-it : has_asked ys r ≡ true = known r (rw (same-number r) refl) in
      ap (λ zs. has k (queued zs)) (after-append p m (end_facts p a m ws r end) (all_ends p a m ws end rs) ys) ∙ (ap (λ zs. has k (queued (after_facts p m (all_ends p a m ws end rs) zs))) (end-says p a o m ws ys r end asked-it) ∙ (ends-queue ws end rs (ended r end ∷ ys) (λ j h. known j (rw h (or-right (r == j)))) k ∙ cut k r (queued ys) rs))

  times-some : (k : ℕ) (ks : List ℕ) → has k ks ≡ true → 1 ≤ times k ks
  times-some k [] e = cc
  times-some k (j ∷ ks) e = grind (arith, common_steps, times-some k ks)

  module _ (xs : List PoolItem) (s : Sound xs) (z : Rested xs) where
    abbrev going : List ℕ
    going = available_list xs ++ pending_list xs

    has-going : (k : ℕ) → has k going ≡ has k (available_list xs) || has k (pending_list xs)
    has-going k = has-both k (available_list xs) (pending_list xs)
      where
        has-both : (k : ℕ) (ks js : List ℕ) → has k (ks ++ js) ≡ has k ks || has k js
        has-both k [] js = refl
        has-both k (i ∷ ks) js = grind (arith, has-both k ks js)

    each : (k : ℕ) → has k going ≡ true → Leaves xs k
    each k h = on (has k (available_list xs)) refl (sym (has-going k) ∙ h)
      where
        neither : (b : Bool) → b && false ≡ false
        neither true = refl
        neither false = refl

        on : (b : Bool) → has k (available_list xs) ≡ b → has k (available_list xs) || has k (pending_list xs) ≡ true → Leaves xs k
        on true e f = record { lives = (connection-laws xs s k).available_lives e; unused = rw (z.free k e) (neither (not (has k (pending_list xs)))); loose = z.loose k e }
        on false e f = let g : has k (pending_list xs) ≡ true = subst (λ b. b || has k (pending_list xs) ≡ true) e f in record { lives = (connection-laws xs s k).pending_lives g; unused = rw g refl; loose = z.pending_loose k g }

    single : (k : ℕ) → times k going ≤ 1
    single k = on (has k (pending_list xs)) refl
      where
        on : (b : Bool) → has k (pending_list xs) ≡ b → times k going ≤ 1
        on true e =
            let n : times k (available_list xs) ≡ 0 = times-none k (available_list xs) (z.apart k e) in
            let l : times k (pending_list xs) ≤ 1 = pending-once xs s k in
            let t : times k going ≡ times k (available_list xs) + times k (pending_list xs) = times-both k (available_list xs) (pending_list xs) in
            omega arith
        on false e =
            let n : times k (pending_list xs) ≡ 0 = times-none k (pending_list xs) e in
            let l : times k (available_list xs) ≤ 1 = available-once xs k in
            let t : times k going ≡ times k (available_list xs) + times k (pending_list xs) = times-both k (available_list xs) (pending_list xs) in
            omega arith

    -- the requests that nothing was handed to may end then
    unserved : (zs : List PoolItem) → Closes xs zs going → (r : ℕ) → has r (filter (is_unserved xs) (requests xs)) ≡ true → MayEnd zs r Closed
    unserved zs keep r h = at_queue (has r (queued xs)) refl (has-filter (is_unserved xs) r (requests xs) h).0
      where
        known : has_asked xs r ≡ true
        known = sym (requests-asked xs r) ∙ (has-filter (is_unserved xs) r (requests xs) h).1

        gone : (c : ℕ) → given xs r ≡ Some c → has c (pending_list xs) ≡ true → lost zs r ≡ true
        gone c e f =
            let one : live xs c ≡ 1 = (connection-laws xs s c).pending_lives f in
            let here : has c going ≡ true = has-going c ∙ rw f (or-right (has c (available_list xs))) in
            let some : 1 ≤ times c going = times-some c going here in
            let after : live zs c ≡ live xs c - times c going = keep.live_is c in
            let none : live zs c ≡ 0 = omega arith in
            let has-it : given zs r ≡ Some c = keep.given_is r ∙ e in
            rw (has-it, none) refl

        at_given : (k : Option ℕ) → given xs r ≡ k → has r (queued xs) ≡ false → is_some (end_of xs r) ≡ false → is_unserved xs r ≡ true → MayEnd zs r Closed
        at_given None e f g u = let v : is_unserved xs r ≡ false = rw (f, g, e) refl in cc
        at_given (Some c) e f g u =
            let v : is_unserved xs r ≡ has c (pending_list xs) = rw (f, g, e) refl in
            let l : lost zs r ≡ true = gone c e (sym v ∙ u) in
            record { asked_for = keep.asked_is r ∙ known; unended = keep.ended_is r ∙ none-is (end_of xs r) g; so = rw l (or-right (has r (queued zs))) }

        at_end : (b : Bool) → is_some (end_of xs r) ≡ b → has r (queued xs) ≡ false → is_unserved xs r ≡ true → MayEnd zs r Closed
        at_end true g f u = let v : is_unserved xs r ≡ false = rw (f, g) refl in cc
        at_end false g f u = at_given (given xs r) refl f g u

        at_queue : (b : Bool) → has r (queued xs) ≡ b → is_unserved xs r ≡ true → MayEnd zs r Closed
        at_queue true e u = record { asked_for = keep.asked_is r ∙ known; unended = keep.ended_is r ∙ queued-unended xs s r e; so = rw (keep.queued_is, e) refl }
        at_queue false e u = at_end (is_some (end_of xs r)) refl e u

    shut-now : (state_of o xs ≡ is_closed → ⊥) → (zs : List PoolItem) → Closes xs zs going → MayShut (after_facts p m (all_ends p a m xs Closed (filter (is_unserved xs) (requests xs))) zs)
    shut-now n zs keep =
        let rs : List ℕ = filter (is_unserved xs) (requests xs) in
        let pending-out : (k : ℕ) → has k (pending_list zs) ≡ false = λ k. keep.pending_is k ∙ all-out (has k (pending_list xs)) (has k going) (λ e. has-going k ∙ rw e (or-right (has k (available_list xs)))) in
        let available-out : (k : ℕ) → has k (available_list zs) ≡ false = λ k. keep.available_is k ∙ all-out (has k (available_list xs)) (has k going) (λ e. has-going k ∙ rw e refl) in
        let unqueued : (k : ℕ) → has k (queued (after_facts p m (all_ends p a m xs Closed (filter (is_unserved xs) (requests xs))) zs)) ≡ false = λ k. ends-queue xs Closed (filter (is_unserved xs) (requests xs)) zs (known zs keep) k ∙ (ap (λ q. has k q && not (has k (filter (is_unserved xs) (requests xs)))) keep.queued_is ∙ all-out (has k (queued xs)) (has k (filter (is_unserved xs) (requests xs))) (λ e. filter-has (is_unserved xs) k (requests xs) (rw e refl) (requests-asked xs k ∙ queued-asked xs k e))) in
        record {
          unshut = ends-leave was_closed (λ r e ys. refl) xs Closed rs zs (known zs keep) ∙ (keep.closed_is ∙ unshut-state p a o m xs s n);
          none_pending = ends-leave pending_list (λ r e ys. refl) xs Closed rs zs (known zs keep) ∙ empty-list (pending_list zs) pending-out;
          none_available = ends-leave available_list (λ r e ys. refl) xs Closed rs zs (known zs keep) ∙ empty-list (available_list zs) available-out;
          none_queued = empty-list (queued (after_facts p m (all_ends p a m xs Closed rs) zs)) unqueued;
        }
      where
        known : (zs : List PoolItem) → Closes xs zs going → (k : ℕ) → has k (filter (is_unserved xs) (requests xs)) ≡ true → has_asked zs k ≡ true
        known zs keep k h = keep.asked_is k ∙ (sym (requests-asked xs k) ∙ (has-filter (is_unserved xs) k (requests xs) h).1)

    all-closed : (state_of o xs ≡ is_closed → ⊥) → Fine (after_facts p m (shuts xs going ++ all_ends p a m xs Closed (filter (is_unserved xs) (requests xs)) ++ pool_closed_fact p a ∷ []) xs)
    all-closed n =
        let ends : List Fact = all_ends p a m xs Closed (filter (is_unserved xs) (requests xs)) in
        let zs : List PoolItem = after_facts p m (shuts xs going) xs in
        let keep : Closes xs zs going = shuts-keep xs going xs in
        let shut : Fine zs = shuts-fine xs going xs (s, calm-rested xs z) each single in
        let once : (k : ℕ) → times k (filter (is_unserved xs) (requests xs)) ≤ 1 = λ k. let f : times k (filter (is_unserved xs) (requests xs)) ≤ times k (requests xs) = times-filter (is_unserved xs) k (requests xs) in let l : times k (requests xs) ≤ 1 = requests-once xs s k in omega arith in
        let over : Fine (after_facts p m ends zs) = all-fine p a o m xs Closed kept-closed (filter (is_unserved xs) (requests xs)) zs shut (unserved zs keep) once in
        let may : MayShut (after_facts p m ends zs) = shut-now n zs keep in
        let last : Fine (pool_closed ∷ after_facts p m ends zs) = ((may, over.0), record { free = over.1.free; loose = over.1.loose }) in
        let told : Fine (after_facts p m (pool_closed_fact p a ∷ []) (after_facts p m ends zs)) = subst (λ b. Fine (if_so b pool_closed (after_facts p m ends zs))) (sym (same-number p)) last in
        subst Fine (sym (after-append p m (shuts xs going ++ ends) (pool_closed_fact p a ∷ []) xs)) (subst (λ ys. Fine (after_facts p m (pool_closed_fact p a ∷ []) ys)) (sym (after-append p m (shuts xs going) ends xs)) told)

    pub closed-fine : Fine (after_facts p m (close_facts p a o m xs) xs)
    closed-fine = on (state_of o xs) refl
      where
        on : (t : State) → state_of o xs ≡ t → Fine (after_facts p m (close_facts p a o m xs) xs)
        on is_new e = rw e (all-closed (λ g. let h : is_new ≡ is_closed = sym e ∙ g in cc))
        on is_ready e = rw e (all-closed (λ g. let h : is_ready ≡ is_closed = sym e ∙ g in cc))
        on (is_paused why) e = rw e (all-closed (λ g. let h : is_paused why ≡ is_closed = sym e ∙ g in cc))
        on is_closed e = rw e (s, calm-rested xs z)
