-- The turns of a maintenance: closes of what has perished, and then creations.
use Rattle.std.proofs.Common.{ℕ, zero, suc, ◌≡◌, ◌+◌, ◌-◌, ◌<◌, ◌≤◌, Bool, true, false, ◌&&◌, ◌==◌, List, [], ◌∷◌, ◌++◌, length, find, Option, Some, None, is_some, nat_lt, refl, sym, ◌∙◌, ap, subst, arith, append_assoc, append-nil}
use Rattle.std.proofs.lemmas.Grind.{common_steps}
use Rattle.std.proofs.lemmas.Bool.Decides.{nat_tests}
use Rattle.mdb_base.specs.declared.address.ServerAddress.{ServerAddress}
use Rattle.mdb_events.specs.declared.fact.Fact.{Fact}
use Rattle.mdb_events.specs.declared.reasons.ConnectionClosedReason.{ConnectionClosedReason}
use Rattle.mdb_log.specs.declared.options.PoolOptions.{PoolOptions}
use Rattle.mdb_pool.specs.declared.kept.connection.Connection.{Connection}
use Rattle.mdb_pool.specs.declared.kept.connection.Place.TheVariants.{Available}
use Rattle.mdb_pool.specs.Core.{PoolCore}
use Rattle.mdb_log.specs.History.{PoolItem, created, closed, without, after_facts}
use Rattle.mdb_log.specs.Connections.{live_total, created_total, pending_list, available_list, known_service}
use Rattle.mdb_log.specs.State.{state_of, ready, min_size, max_connecting}
use Rattle.mdb_pool_rules.specs.Facts.{created_fact, closes, perished, sweep, fill, closed_fact}
use Rattle.mdb_pool.specs.Kept.Values.{connection_at, ids_where, perished_now, first_perished, fills_now, pending_count, is_ready_now}
use Rattle.mdb_pool.specs.Acts.Changes.{discarding, spawning}
use Rattle.mdb_pool.specs.Kept.Places.{is_available, is_pending}
use Rattle.mdb_pool.specs.Standing.{Fits, SameHome}
use Rattle.mdb_pool.specs.Acts.Doing.{Sweeps, Fills}
use Rattle.mdb_pool_rules.proofs.Listed.Values.{In, here, there, named, member-at, member-has, find-member, one_if-le, has-none, without-absent, length-without_has, map-filter-others, length-where}
use Rattle.mdb_pool.proofs.Listed.FirstOrLast.{is-available, perished-at}
use Rattle.mdb_pool.proofs.Follows.Stale.{ready-is}
use Rattle.mdb_pool.proofs.Follows.Fits.{discard-fits, spawn-fits}
use Rattle.mdb_log.proofs.Bools.{both-left, both-right}
use Rattle.mdb_log.proofs.Numbers.{same-number}
use Rattle.mdb_pool.proofs.Turns.Serve.{perished-is}
use Rattle.mdb_log.proofs.Later.{after-append}
use Rattle.mdb_pool.proofs.Answered.Act.{live-service}
use Rattle.mdb_pool_rules.proofs.SweepAndFill.{fill-none, fill-one}

abbrev id_of : Connection → ℕ
id_of x = x.id

-- a close leaves what the others are closed for
sweep-closed : (p : ℕ) (a : ServerAddress) (o : PoolOptions) (n c : ℕ) (ys : List PoolItem) (ds : List ℕ) → sweep p a o n (closed c ∷ ys) ds ≡ sweep p a o n ys ds
sweep-closed p a o n c ys [] = refl
sweep-closed p a o n c ys (d ∷ ds) = ap (λ fs. closes p a ys d (perished o n ys d) ++ fs) (sweep-closed p a o n c ys ds)

module _ (t : PoolCore) (ys : List PoolItem) (z : Fits t ys) (n : ℕ) where
  abbrev test : Connection → Bool
  test x = is_available x.place && is_some (perished_now t n x)

  abbrev swept : List Connection → List Fact
  swept cs = sweep t.pool t.address t.options n ys (ids_where is_available cs)

  -- with nothing perished nothing is closed
  sweep-none : (cs : List Connection) → ((x : Connection) → In x cs → connection_at t x.id ≡ Some x) → find test cs ≡ None → swept cs ≡ []
  sweep-none [] at e = refl
  sweep-none (x ∷ cs) at e = on (is_available x.place) (perished_now t n x) refl refl (sweep-none cs (λ y i. at y (there i)))
    where
      on : (b : Bool) (w : Option ConnectionClosedReason) → is_available x.place ≡ b → perished_now t n x ≡ w → (find test cs ≡ None → swept cs ≡ []) → swept (x ∷ cs) ≡ []
      on false w f g rest = let k : test x ≡ false = rw f refl in let r : find test cs ≡ None = sym (skip k) ∙ e in rw f (rest r)
        where
          skip : test x ≡ false → find test (x ∷ cs) ≡ find test cs
          skip k = rw k refl
      on true None f g rest =
          let k : test x ≡ false = rw (f, g) refl in
          let r : find test cs ≡ None = sym (skip k) ∙ e in
          let p : perished t.options n ys x.id ≡ None = perished-is t ys z n x (at x here) (is-available x.place f) ∙ g in
          rw (f, p) (rest r)
        where
          skip : test x ≡ false → find test (x ∷ cs) ≡ find test cs
          skip k = rw k refl
      on true (Some why) f g rest = let k : find test (x ∷ cs) ≡ Some x = found (rw (f, g) refl) in let w : ◌≡◌ {A = Option Connection} None (Some x) = sym e ∙ k in cc
        where
          found : test x ≡ true → find test (x ∷ cs) ≡ Some x
          found k = rw k refl

  -- what is left is closed after the first
  abbrev Leads : Connection → ConnectionClosedReason → List Connection → Type 0
  Leads x why cs = swept cs ≡ closed_fact t.pool t.address x.id why x.service ∷ sweep t.pool t.address t.options n (closed x.id ∷ ys) (without x.id (ids_where is_available cs))

  -- the first that has perished is closed first
  sweep-first : (x : Connection) (why : ConnectionClosedReason) → connection_at t x.id ≡ Some x → perished_now t n x ≡ Some why → (cs : List Connection) → ((y : Connection) → In y cs → connection_at t y.id ≡ Some y) → named id_of x.id cs ≤ 1 → find test cs ≡ Some x
      → swept cs ≡ closed_fact t.pool t.address x.id why x.service ∷ sweep t.pool t.address t.options n (closed x.id ∷ ys) (without x.id (ids_where is_available cs))
  sweep-first x why at_x old [] at once e = cc
  sweep-first x why at_x old (y ∷ cs) at once e = on (is_available y.place) (perished_now t n y) refl refl (sweep-first x why at_x old cs (λ k i. at k (there i)) fewer)
    where
      fewer : named id_of x.id cs ≤ 1
      fewer = grind (arith, common_steps)

      skip : test y ≡ false → find test cs ≡ Some x
      skip k = sym (rw k refl) ∙ e

      on : (b : Bool) (w : Option ConnectionClosedReason) → is_available y.place ≡ b → perished_now t n y ≡ w → (find test cs ≡ Some x → Leads x why cs) → Leads x why (y ∷ cs)
      on false w f g rest = let k : test y ≡ false = rw f refl in rw f (rest (skip k))
      on true None f g rest =
          let k : test y ≡ false = rw (f, g) refl in
          let p : perished t.options n ys y.id ≡ None = perished-is t ys z n y (at y here) (is-available y.place f) ∙ g in
          let other : (y.id == x.id) ≡ false = differs (y.id == x.id) refl in
          rw (f, other, p) (rest (skip k))
        where
          differs : (b : Bool) → (y.id == x.id) ≡ b → (y.id == x.id) ≡ false
          differs true h =
              let same : y.id ≡ x.id = grind arith in
              let one : connection_at t x.id ≡ Some y = subst (λ c. connection_at t c ≡ Some y) same (at y here) in
              let w : y ≡ x = some-same (sym one ∙ at_x) in
              let v : perished_now t n x ≡ None = subst (λ c. perished_now t n c ≡ None) w g in
              let u : ◌≡◌ {A = Option ConnectionClosedReason} None (Some why) = sym v ∙ old in
              cc
            where
              some-same : Some y ≡ Some x → y ≡ x
              some-same i = cc
          differs false h = h
      on true (Some v) f g rest =
          let k : find test (y ∷ cs) ≡ Some y = found (rw (f, g) refl) in
          let w : y ≡ x = some-same (sym k ∙ e) in
          let id_is : y.id ≡ x.id = ap id_of w in
          let u : perished t.options n ys y.id ≡ Some why = perished-is t ys z n y (at y here) (is-available y.place f) ∙ (ap (perished_now t n) w ∙ old) in
          let service : known_service ys y.id ≡ x.service = live-service t ys z.matches y.id y (at y here) ∙ ap (λ k. k.service) w in
          let none : named id_of x.id cs ≡ 0 = alone w in
          let gone : without x.id (y.id ∷ ids_where is_available cs) ≡ ids_where is_available cs = taken id_is ∙ without-absent x.id (ids_where is_available cs) (has-none id_of (λ k. is_available k.place) x.id cs none) in
          rw (f, gone, u, service, id_is) (ap (λ fs. closed_fact t.pool t.address x.id why x.service ∷ fs) (sym (sweep-closed t.pool t.address t.options n x.id ys (ids_where is_available cs))))
        where
          found : test y ≡ true → find test (y ∷ cs) ≡ Some y
          found k = rw k refl

          some-same : Some y ≡ Some x → y ≡ x
          some-same i = cc

          alone : y ≡ x → named id_of x.id cs ≡ 0
          alone i = let s : y.id ≡ x.id = ap id_of i in grind (arith, common_steps)

          taken : y.id ≡ x.id → without x.id (y.id ∷ ids_where is_available cs) ≡ without x.id (ids_where is_available cs)
          taken i = let s : (y.id == x.id) ≡ true = grind arith in rw s refl

  members : (x : Connection) → In x t.kept.connections → connection_at t x.id ≡ Some x
  members x i = member-at id_of x t.kept.connections i (rw (z.matches.counts.single x.id) (one_if-le (is_some (connection_at t x.id))))

  nothing-perished : first_perished t n ≡ None → sweep t.pool t.address t.options n ys (available_list ys) ≡ []
  nothing-perished e = ap (sweep t.pool t.address t.options n ys) z.matches.counts.available ∙ sweep-none t.kept.connections members e

  one-perished : (x : Connection) (why : ConnectionClosedReason) → first_perished t n ≡ Some x → perished_now t n x ≡ Some why → sweep t.pool t.address t.options n ys (available_list ys) ≡ closed_fact t.pool t.address x.id why x.service ∷ sweep t.pool t.address t.options n (closed x.id ∷ ys) (available_list (closed x.id ∷ ys))
  one-perished x why e f =
      let at_x : connection_at t x.id ≡ Some x = (perished-at t ys z.matches n x e).0 in
      ap (sweep t.pool t.address t.options n ys) z.matches.counts.available
      ∙ (sweep-first x why at_x f t.kept.connections members (rw (z.matches.counts.single x.id) (one_if-le (is_some (connection_at t x.id)))) e
      ∙ ap (λ cs. closed_fact t.pool t.address x.id why x.service ∷ sweep t.pool t.address t.options n (closed x.id ∷ ys) (without x.id cs)) (sym z.matches.counts.available))

  -- whether maintenance creates one more
  pub fills-is : (ready (state_of t.options ys) && (nat_lt (live_total ys) (min_size t.options) && (nat_lt (length (pending_list ys)) (max_connecting t.options) && nat_lt (created_total ys) t.options.limit_id))) ≡ fills_now t
  fills-is =
      let pending : length (pending_list ys) ≡ pending_count t = ap length z.matches.counts.pending ∙ length-where id_of (λ x. is_pending x.place) t.kept.connections in
      rw (z.matches.clearing.status, ready-is t.kept.status, z.matches.counts.live_all, pending, z.matches.counts.created) refl

-- how far the closes are
pub record Sweeping (s t : PoolCore) (n : ℕ) (before after : List Fact) (xs : List PoolItem) : Type 0 where
  pub done : List Fact
  pub facts : after ≡ before ++ done
  pub fits : Fits t (after_facts s.pool n done xs)
  pub rest : sweep s.pool s.address s.options n xs (available_list xs) ≡ done ++ sweep s.pool s.address s.options n (after_facts s.pool n done xs) (available_list (after_facts s.pool n done xs))

pub sweep-start : (s : PoolCore) (n : ℕ) (facts : List Fact) (xs : List PoolItem) → Fits s xs → Sweeping s s n facts facts xs
sweep-start s n facts xs z = record { done = []; facts = sym (append-nil facts); fits = z; rest = refl }

module _ (s t : PoolCore) (home : SameHome s t) (n : ℕ) (before after : List Fact) (xs : List PoolItem) (g : Sweeping s t n before after xs) where
  abbrev ys : List PoolItem
  ys = after_facts s.pool n g.done xs

  here-swept : (zs : List PoolItem) (cs : List ℕ) → sweep t.pool t.address t.options n zs cs ≡ sweep s.pool s.address s.options n zs cs
  here-swept zs cs = rw (home.pool, home.address, home.options) refl

  pub sweep-done : first_perished t n ≡ None → Sweeps s t n before after xs
  sweep-done e =
      let none : sweep s.pool s.address s.options n ys (available_list ys) ≡ [] = sym (here-swept ys (available_list ys)) ∙ nothing-perished t ys g.fits n e in
      let all : sweep s.pool s.address s.options n xs (available_list xs) ≡ g.done = g.rest ∙ (ap (λ k. g.done ++ k) none ∙ append-nil g.done) in
      record {
        facts = g.facts ∙ ap (λ k. before ++ k) (sym all);
        fits = subst (λ k. Fits t (after_facts s.pool n k xs)) (sym all) g.fits;
      }

  pub sweep-more : (u : PoolCore) (facts : List Fact) (x : Connection) (why : ConnectionClosedReason) → first_perished t n ≡ Some x → perished_now t n x ≡ Some why → u ≡ discarding t x → facts ≡ after ++ closed_fact t.pool t.address x.id why x.service ∷ [] → Sweeping s u n before facts xs
  sweep-more u facts x why e f new added =
      let at_x : (connection_at t x.id ≡ Some x) × (x.place ≡ Available) × (is_some (perished_now t n x) ≡ true) = perished-at t ys g.fits.matches n x e in
      let one : sweep s.pool s.address s.options n ys (available_list ys) ≡ closed_fact t.pool t.address x.id why x.service ∷ sweep s.pool s.address s.options n (closed x.id ∷ ys) (available_list (closed x.id ∷ ys)) =
      sym (here-swept ys (available_list ys)) ∙ (one-perished t ys g.fits n x why e f ∙ ap (λ fs. closed_fact t.pool t.address x.id why x.service ∷ fs) (here-swept (closed x.id ∷ ys) (available_list (closed x.id ∷ ys)))) in
      let heard : after_facts s.pool n (closed_fact t.pool t.address x.id why x.service ∷ []) ys ≡ closed x.id ∷ ys = rw (home.pool, same-number s.pool) refl in
      let known : after_facts s.pool n (g.done ++ closed_fact t.pool t.address x.id why x.service ∷ []) xs ≡ closed x.id ∷ ys = after-append s.pool n g.done (closed_fact t.pool t.address x.id why x.service ∷ []) xs ∙ heard in
      record {
        done = g.done ++ closed_fact t.pool t.address x.id why x.service ∷ [];
        facts = added ∙ (ap (λ k. k ++ closed_fact t.pool t.address x.id why x.service ∷ []) g.facts ∙ append_assoc before g.done (closed_fact t.pool t.address x.id why x.service ∷ []));
        fits = subst (Fits u) (sym known) (rw new (discard-fits t ys g.fits n x at_x.0 at_x.1));
        rest = g.rest ∙ (ap (λ k. g.done ++ k) one ∙ (sym (append_assoc g.done (closed_fact t.pool t.address x.id why x.service ∷ []) (sweep s.pool s.address s.options n (closed x.id ∷ ys) (available_list (closed x.id ∷ ys)))) ∙ ap (λ k. (g.done ++ closed_fact t.pool t.address x.id why x.service ∷ []) ++ sweep s.pool s.address s.options n k (available_list k)) (sym known)));
      }

-- one that is available goes with each close
pub sweep-smaller : (t u : PoolCore) (n : ℕ) (x : Connection) → first_perished t n ≡ Some x → u ≡ discarding t x → length (ids_where is_available u.kept.connections) < length (ids_where is_available t.kept.connections)
sweep-smaller t u n x e new =
    let i : In x t.kept.connections × ((is_available x.place && is_some (perished_now t n x)) ≡ true) = find-member (λ (y : Connection). is_available y.place && is_some (perished_now t n y)) x t.kept.connections e in
    rw (new, map-filter-others id_of (λ y. is_available y.place) x.id t.kept.connections) (length-without_has x.id (ids_where is_available t.kept.connections) (member-has id_of (λ y. is_available y.place) x t.kept.connections i.0 (both-left (is_available x.place) (is_some (perished_now t n x)) i.1)))

-- one that is first perished has a reason
pub has-perished : (t : PoolCore) (n : ℕ) (x : Connection) → first_perished t n ≡ Some x → is_some (perished_now t n x) ≡ true
has-perished t n x e = both-right (is_available x.place) (is_some (perished_now t n x)) (find-member (λ (y : Connection). is_available y.place && is_some (perished_now t n y)) x t.kept.connections e).1

-- how far the creations are
pub record Filling (s t : PoolCore) (n : ℕ) (before after : List Fact) (xs : List PoolItem) : Type 0 where
  pub done : List Fact
  pub left : ℕ
  pub facts : after ≡ before ++ done
  pub fits : Fits t (after_facts s.pool n done xs)
  pub rest : fill s.pool s.address s.options n (min_size s.options) xs ≡ done ++ fill s.pool s.address s.options n left (after_facts s.pool n done xs)
  pub enough : min_size s.options ≤ live_total (after_facts s.pool n done xs) + left

pub fill-start : (s : PoolCore) (n : ℕ) (facts : List Fact) (xs : List PoolItem) → Fits s xs → Filling s s n facts facts xs
fill-start s n facts xs z = record { done = []; left = min_size s.options; facts = sym (append-nil facts); fits = z; rest = refl; enough = omega arith }

module _ (s t : PoolCore) (home : SameHome s t) (n : ℕ) (before after : List Fact) (xs : List PoolItem) (g : Filling s t n before after xs) where
  abbrev zs : List PoolItem
  zs = after_facts s.pool n g.done xs

  may-is : (ready (state_of s.options zs) && (nat_lt (live_total zs) (min_size s.options) && (nat_lt (length (pending_list zs)) (max_connecting s.options) && nat_lt (created_total zs) s.options.limit_id))) ≡ fills_now t
  may-is = rw (← home.options) (fills-is t zs g.fits n)

  pub fill-done : fills_now t ≡ false → Fills s t n before after xs
  fill-done e =
      let none : fill s.pool s.address s.options n g.left zs ≡ [] = fill-none s.pool s.address s.options n g.left zs (may-is ∙ e) in
      let all : fill s.pool s.address s.options n (min_size s.options) xs ≡ g.done = g.rest ∙ (ap (λ k. g.done ++ k) none ∙ append-nil g.done) in
      record {
        facts = g.facts ∙ ap (λ k. before ++ k) (sym all);
        fits = subst (λ k. Fits t (after_facts s.pool n k xs)) (sym all) g.fits;
      }

  pub fill-more : (u : PoolCore) (facts : List Fact) → fills_now t ≡ true → u ≡ spawning t n → facts ≡ after ++ created_fact t.pool t.address (t.kept.created + 1) ∷ [] → Filling s u n before facts xs
  fill-more u facts e new added = on g.left g.rest g.enough
    where
      few : live_total zs < min_size s.options
      few = second-test (ready (state_of s.options zs)) (live_total zs) (min_size s.options) (nat_lt (length (pending_list zs)) (max_connecting s.options) && nat_lt (created_total zs) s.options.limit_id) (may-is ∙ e)
        where
          second-test : (a : Bool) (i k : ℕ) (b : Bool) → (a && (nat_lt i k && b)) ≡ true → i < k
          second-test true i k b f = less i k (first (nat_lt i k) b f)
            where
              first : (c d : Bool) → (c && d) ≡ true → c ≡ true
              first true d h = refl
              first false d h = cc

              less : (i k : ℕ) → nat_lt i k ≡ true → i < k
              less i k h = grind (arith, nat_tests)
          second-test false i k b f = cc

      fact_is : created_fact s.pool s.address (created_total zs + 1) ≡ created_fact t.pool t.address (t.kept.created + 1)
      fact_is = rw (g.fits.matches.counts.created, home.pool, home.address) refl

      heard : after_facts s.pool n (created_fact t.pool t.address (t.kept.created + 1) ∷ []) zs ≡ created (t.kept.created + 1) n ∷ zs
      heard = rw (home.pool, same-number s.pool) refl

      known : after_facts s.pool n (g.done ++ created_fact t.pool t.address (t.kept.created + 1) ∷ []) xs ≡ created (t.kept.created + 1) n ∷ zs
      known = after-append s.pool n g.done (created_fact t.pool t.address (t.kept.created + 1) ∷ []) xs ∙ heard

      on : (left : ℕ) → fill s.pool s.address s.options n (min_size s.options) xs ≡ g.done ++ fill s.pool s.address s.options n left zs → min_size s.options ≤ live_total zs + left → Filling s u n before facts xs
      on zero rest enough = let f : live_total zs < min_size s.options = few in absurd (omega arith)
      on (suc left) rest enough =
          let one : fill s.pool s.address s.options n (suc left) zs ≡ created_fact t.pool t.address (t.kept.created + 1) ∷ fill s.pool s.address s.options n left (after_facts s.pool n (created_fact t.pool t.address (t.kept.created + 1) ∷ []) zs) =
          fill-one s.pool s.address s.options n left zs (may-is ∙ e) ∙ ap (λ f. f ∷ fill s.pool s.address s.options n left (after_facts s.pool n (f ∷ []) zs)) fact_is in
          let after_one : after_facts s.pool n (created_fact t.pool t.address (t.kept.created + 1) ∷ []) zs ≡ after_facts s.pool n (g.done ++ created_fact t.pool t.address (t.kept.created + 1) ∷ []) xs = heard ∙ sym known in
          record {
            done = g.done ++ created_fact t.pool t.address (t.kept.created + 1) ∷ [];
            left = left;
            facts = added ∙ (ap (λ k. k ++ created_fact t.pool t.address (t.kept.created + 1) ∷ []) g.facts ∙ append_assoc before g.done (created_fact t.pool t.address (t.kept.created + 1) ∷ []));
            fits = subst (Fits u) (sym known) (rw new (spawn-fits t zs g.fits n));
            rest = rest ∙ (ap (λ k. g.done ++ k) (one ∙ ap (λ k. created_fact t.pool t.address (t.kept.created + 1) ∷ fill s.pool s.address s.options n left k) after_one) ∙ sym (append_assoc g.done (created_fact t.pool t.address (t.kept.created + 1) ∷ []) (fill s.pool s.address s.options n left (after_facts s.pool n (g.done ++ created_fact t.pool t.address (t.kept.created + 1) ∷ []) xs))));
            enough = subst (λ k. min_size s.options ≤ live_total k + left) (sym known) (omega arith);
          }

-- an id is left where maintenance creates a connection
pub fills-below : (t : PoolCore) → fills_now t ≡ true → t.kept.created < t.options.limit_id
fills-below t e = last (is_ready_now t.kept.status) (nat_lt (length t.kept.connections) (min_size t.options)) (nat_lt (pending_count t) (max_connecting t.options)) t.kept.created t.options.limit_id e
  where
    last : (a b c : Bool) (i k : ℕ) → (a && (b && (c && nat_lt i k))) ≡ true → i < k
    last true true true i k f = grind (arith, nat_tests)
    last true true false i k f = cc
    last true false c i k f = cc
    last false b c i k f = cc

-- with each creation one id less is left
pub spawn-smaller : (t u : PoolCore) (n : ℕ) → fills_now t ≡ true → u ≡ spawning t n → u.options.limit_id - u.kept.created < t.options.limit_id - t.kept.created
spawn-smaller t u n e new = let b : t.kept.created < t.options.limit_id = fills-below t e in rw new (omega arith)
