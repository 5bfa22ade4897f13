-- What the parts of a publication say of whole pools.
use Rattle.std.proofs.Common.{ℕ, ◌≡◌, ◌≢◌, ◌+◌, Bool, true, false, if◌then◌else◌, List, [], ◌∷◌, ◌++◌, length, map, Option, Some, None, refl, sym, ◌∙◌, ap}
use Rattle.std.specs.List.{list_any}
use Rattle.std.proofs.lemmas.List.{length_push}
use Rattle.mdb_base.specs.declared.address.ServerAddress.{ServerAddress}
use Rattle.mdb_base.specs.declared.options.Options.{Options}
use Rattle.mdb_describe.specs.declared.description.ServerDescription.{ServerDescription}
use Rattle.mdb_describe.specs.declared.topology.TopologyDescription.{TopologyDescription}
use Rattle.mdb_describe.specs.Topology.{server_at}
use Rattle.mdb_events.specs.declared.fact.Fact.{Fact}
use Rattle.mdb_events.specs.declared.fact.Fact.TheVariants.{Sdam}
use Rattle.mdb_events.specs.declared.sdam.SdamEvent.{SdamEvent}
use Rattle.mdb_events.specs.declared.end.End.TheVariants.{Closed}
use Rattle.mdb_events.specs.declared.reasons.ConnectionClosedReason.TheVariants.{PoolClosed as PoolClosedReason}
use Rattle.mdb_log.specs.declared.options.PoolOptions.{PoolOptions}
use Rattle.mdb_log.specs.History.{Item, PoolItem, of_pool, open_pool, with_facts}
use Rattle.mdb_log.specs.Homes.{homes}
use Rattle.mdb_log.specs.Connections.{available_list, pending_list, known_service}
use Rattle.mdb_log.specs.Requests.{requests, is_unserved}
use Rattle.mdb_log.specs.State.{State, is_new, is_ready, is_paused, is_closed, state_of}
use Rattle.mdb_log.specs.Opening.{pool_options}
use Rattle.mdb_pool_rules.specs.Facts.{closed_fact, all_ends, pool_ready_fact, pool_closed_fact, readied, close_facts}
use Rattle.std.specs.Prelude.{filter}
use Rattle.mdb_driver_rules.specs.Ready.{is_ready_type}
use Rattle.mdb_driver_rules.specs.Touching.{is_ready_server, is_ready_at}
use Rattle.mdb_driver_rules.specs.Turns.{in_turn}
use Rattle.mdb_driver_rules.specs.Publishing.{ready_pool, close_pool, description_changed, server_changed, server_closed, server_opened, opened_at}
use Rattle.mdb_driver_rules.proofs.NumbersWithinLimits.{any_out, out-append, all-ends-free}
use Rattle.mdb_laws.specs.Causes.{opened, told_created, closed, marks_of, readied_at, closed_at, opened_from}
use Rattle.mdb_laws.proofs.Marks.{any-append, marks-append, out-marks, is_opened, touches, out-untouched, out-unopened, Seen}
use Rattle.mdb_laws.proofs.Runs.{IsOfAddress}

-- no fact of a pool that is marked ready passes the test
readied-test : (test : Fact → Bool) (p : ℕ) (a : ServerAddress) (o : PoolOptions) (m : ℕ) (xs : List PoolItem) → test (pool_ready_fact p a) ≡ false → list_any test (readied p a o m xs) ≡ false
readied-test test p a o m xs e = on (state_of o xs) refl
  where
    on : (s : State) → state_of o xs ≡ s → list_any test (readied p a o m xs) ≡ false
    on is_new f = rw (f, e) refl
    on is_ready f = rw f refl
    on (is_paused error) f = rw (f, e) refl
    on is_closed f = rw f refl

module _ (o : Options) (m : ℕ) (a : ServerAddress) (k : List Item) (test : Fact → Bool) where
  ready-test : (x : Option ℕ) → ((p : ℕ) → x ≡ Some p → test (pool_ready_fact p a) ≡ false) → list_any test (ready_pool o m a x k) ≡ false
  ready-test None e = refl
  ready-test (Some p) e = readied-test test p a (pool_options o) m (of_pool p k) (e p refl)

  if-test : (b : Bool) (fs : List Fact) → list_any test fs ≡ false → list_any test (if b then fs else []) ≡ false
  if-test true fs e = e
  if-test false fs e = refl

  pub changed-test : (t u : TopologyDescription) → ((e : SdamEvent) → test (Sdam e) ≡ false) → ((p : ℕ) → open_pool k a ≡ Some p → test (pool_ready_fact p a) ≡ false) → list_any test (server_changed o m t u a k) ≡ false
  changed-test t u calm e = on (server_at a t.servers) (server_at a u.servers)
    where
      on : (x y : Option ServerDescription) → list_any test (description_changed o m u.topology_type a x y k) ≡ false
      on None y = refl
      on (Some old) None = refl
      on (Some old) (Some new) =
          any-append test (if is_ready_type u.topology_type new.server_type then ready_pool o m a (open_pool k a) k else []) _
          (if-test (is_ready_type u.topology_type new.server_type) (ready_pool o m a (open_pool k a) k) (ready-test (open_pool k a) e)) (rw (calm _) refl)

  -- where its new type does not say that its pool is ready, its pool is not touched
  pub unready-test : (t u : TopologyDescription) → ((e : SdamEvent) → test (Sdam e) ≡ false) → is_ready_at u a ≡ false → list_any test (server_changed o m t u a k) ≡ false
  unready-test t u calm e = on (server_at a t.servers) (server_at a u.servers) e
    where
      on : (x y : Option ServerDescription) → is_ready_server u.topology_type y ≡ false → list_any test (description_changed o m u.topology_type a x y k) ≡ false
      on None y f = refl
      on (Some old) None f = refl
      on (Some old) (Some new) f = rw (f, calm _) refl

-- the connections and requests of a pool that is closed
module _ (p : ℕ) (a : ServerAddress) (o : PoolOptions) (m : ℕ) (xs : List PoolItem) where
  abbrev ends : List Fact
  ends = map (λ c. closed_fact p a c PoolClosedReason (known_service xs c)) (available_list xs ++ pending_list xs) ++ all_ends p a m xs Closed (filter (is_unserved xs) (requests xs))

  connections-out : (cs : List ℕ) → any_out (map (λ c. closed_fact p a c PoolClosedReason (known_service xs c)) cs) ≡ false
  connections-out [] = refl
  connections-out (c ∷ cs) = connections-out cs

  ends-out : any_out ends ≡ false
  ends-out =
      let cs : List ℕ = available_list xs ++ pending_list xs in
      let rs : List ℕ = filter (is_unserved xs) (requests xs) in
      out-append (map (λ c. closed_fact p a c PoolClosedReason (known_service xs c)) cs) (all_ends p a m xs Closed rs) ∙ rw (connections-out cs, all-ends-free p a o m xs Closed rs) refl

  close-test : (test : Fact → Bool) → ((fs : List Fact) → any_out fs ≡ false → list_any test fs ≡ false) → test (pool_closed_fact p a) ≡ false → list_any test (close_facts p a o m xs) ≡ false
  close-test test out e = on (state_of o xs) refl
    where
      whole : list_any test (ends ++ pool_closed_fact p a ∷ []) ≡ false
      whole = any-append test ends (pool_closed_fact p a ∷ []) (out ends ends-out) (rw e refl)

      on : (s : State) → state_of o xs ≡ s → list_any test (close_facts p a o m xs) ≡ false
      on is_new f = rw f whole
      on is_ready f = rw f whole
      on (is_paused error) f = rw f whole
      on is_closed f = rw f refl

  close-marks : state_of o xs ≢ is_closed → marks_of (close_facts p a o m xs) ≡ closed p a ∷ []
  close-marks unclosed = on (state_of o xs) refl
    where
      whole : marks_of (ends ++ pool_closed_fact p a ∷ []) ≡ closed p a ∷ []
      whole = marks-append ends (pool_closed_fact p a ∷ []) ∙ rw (out-marks ends ends-out) refl

      on : (s : State) → state_of o xs ≡ s → marks_of (close_facts p a o m xs) ≡ closed p a ∷ []
      on is_new f = rw f whole
      on is_ready f = rw f whole
      on (is_paused error) f = rw f whole
      on is_closed f = absurd (unclosed f)

module _ (o : Options) (m : ℕ) where
  module _ (t u : TopologyDescription) where
    -- a changed server touches its pool alone
    pub changed-part : IsOfAddress (server_changed o m t u)
    changed-part = record {
      quiet = λ a k. changed-test o m a k is_opened t u (λ e. refl) (λ p e. refl);
      apart = λ a k p other. changed-test o m a k (touches p) t u (λ e. refl) (λ q e. other q e);
    }

    pub changed-marks : (h j : List Item) (a : ServerAddress) (p : ℕ) (old new : ServerDescription) → server_at a t.servers ≡ Some old → server_at a u.servers ≡ Some new → open_pool h a ≡ Some p
        → state_of (pool_options o) (of_pool p h) ≢ is_closed → Seen (pool_options o) h j a p → marks_of (server_changed o m t u a j) ≡ readied_at o h u a (open_pool h a)
    changed-marks h j a p old new was now there unclosed z = on (is_ready_type u.topology_type new.server_type) (state_of (pool_options o) (of_pool p h)) refl refl
      where
        on : (b : Bool) (s : State) → is_ready_type u.topology_type new.server_type ≡ b → state_of (pool_options o) (of_pool p h) ≡ s → marks_of (server_changed o m t u a j) ≡ readied_at o h u a (open_pool h a)
        on false s f g = rw (there, was, now, f) refl
        on true is_new f g = rw (there, was, now, z.here, f, z.state, g) refl
        on true is_ready f g = rw (there, was, now, z.here, f, z.state, g) refl
        on true (is_paused error) f g = rw (there, was, now, z.here, f, z.state, g) refl
        on true is_closed f g = absurd (unclosed g)

  close-pool-test : (test : Fact → Bool) → ((fs : List Fact) → any_out fs ≡ false → list_any test fs ≡ false) → (a : ServerAddress) (k : List Item) (x : Option ℕ) → ((p : ℕ) → x ≡ Some p → test (pool_closed_fact p a) ≡ false) → list_any test (close_pool o m a x k) ≡ false
  close-pool-test test out a k None e = refl
  close-pool-test test out a k (Some p) e = close-test p a (pool_options o) m (of_pool p k) test out (e p refl)

  -- a server that goes touches its pool alone
  pub closed-part : IsOfAddress (server_closed o m)
  closed-part = record {
    quiet = λ a k. close-pool-test is_opened out-unopened a k (open_pool k a) (λ p e. refl);
    apart = λ a k p other. close-pool-test (touches p) (out-untouched p) a k (open_pool k a) (λ q e. other q e);
  }

  pub closed-marks : (h j : List Item) (a : ServerAddress) (p : ℕ) → open_pool h a ≡ Some p → state_of (pool_options o) (of_pool p h) ≢ is_closed → Seen (pool_options o) h j a p
      → marks_of (server_closed o m a j) ≡ closed_at a (open_pool h a)
  closed-marks h j a p there unclosed z = rw (there, z.here) (close-marks p a (pool_options o) m (of_pool p j) (λ f. unclosed (sym z.state ∙ f)))

  -- servers that come get the next numbers
  pub opened-marks : (xs : List ServerAddress) (k : List Item) → marks_of (in_turn m (map (server_opened o) xs) k) ≡ opened_from (length (homes k)) xs
  opened-marks [] k = refl
  opened-marks (a ∷ xs) k =
      let n : ℕ = length (homes k) in
      let j : List Item = with_facts m (opened_at o a n) k in
      let more : length (homes j) ≡ n + 1 = length_push (homes k) (record { number = n; address = a }) in
      ap (λ ms. opened n a ∷ told_created n a ∷ ms) (opened-marks xs j ∙ ap (λ i. opened_from i xs) more)
