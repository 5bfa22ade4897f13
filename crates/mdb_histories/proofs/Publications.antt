-- What is published may come after a sound history.
use Rattle.std.proofs.Common.{ℕ, ◌≡◌, ◌≢◌, ◌==◌, Bool, true, false, if◌then◌else◌, List, [], ◌∷◌, ◌++◌, length, map, Option, Some, None, refl, sym, ◌∙◌, subst, arith}
use Rattle.mdb_base.specs.Equality.{same_address}
use Rattle.mdb_base.specs.declared.address.ServerAddress.{ServerAddress}
use Rattle.mdb_base.specs.declared.options.Options.{Options}
use Rattle.mdb_describe.specs.declared.description.ServerDescription.{ServerDescription}
use Rattle.mdb_describe.specs.declared.topology.TopologyDescription.{TopologyDescription}
use Rattle.mdb_describe.specs.declared.diff.Diff.{Diff}
use Rattle.mdb_describe.specs.Differences.{difference}
use Rattle.mdb_describe.specs.Topology.{opened, stopped, synced, server_at}
use Rattle.mdb_describe.specs.Update.{updated}
use Rattle.mdb_events.specs.declared.fact.Fact.{Fact}
use Rattle.mdb_events.specs.declared.fact.Fact.TheVariants.{Opened, Pool, Sdam}
use Rattle.mdb_events.specs.declared.sdam.SdamEvent.TheVariants.{ServerDescriptionChanged, ServerOpening, ServerClosed}
use Rattle.mdb_log.specs.History.{Item, made, of_pool, open_pool, with_facts, after_facts, pool_created}
use Rattle.mdb_log.specs.Homes.{homes}
use Rattle.mdb_log.specs.Opening.{pool_options, created}
use Rattle.mdb_log.specs.Own.{shuts}
use Rattle.mdb_log.specs.State.{State, is_new, is_ready, is_paused, is_closed, state_of}
use Rattle.mdb_log.proofs.Frame.{other-number}
use Rattle.mdb_log.proofs.Numbers.{same-number}
use Rattle.mdb_pool_rules.specs.Facts.{readied, close_facts}
use Rattle.mdb_sound.specs.Sound.{Sound}
use Rattle.mdb_sound.proofs.Closings.{closed-fine}
use Rattle.mdb_sound.proofs.Maintains.{readied-fine}
use Rattle.mdb_pool_rules.specs.Rested.{Rested}
use Rattle.mdb_sound.proofs.Served.{Fine}
use Rattle.mdb_driver_rules.specs.Description.{Rule, opens, updates, syncs, tells_time, stops, begins_with, unopened}
use Rattle.mdb_driver_rules.specs.Publishing.{ready_pool, close_pool, description_changed, server_changed, server_closed, topology_changed, server_opened, telling, publication, topology_opening, topology_closed, told_by}
use Rattle.mdb_driver_rules.specs.Ready.{is_ready_type}
use Rattle.mdb_histories.specs.SoundHistory.{SoundHistory, MayCome}
use Rattle.mdb_histories.proofs.Comes.{AllMayCome, calm-come}
use Rattle.mdb_histories.proofs.Numbered.{next-unopened}
use Rattle.mdb_histories.proofs.Opened.{open-opened, unopened-empty, now-opened}
use Rattle.mdb_histories.proofs.Owns.{readied-own, close-own}
use Rattle.mdb_histories.proofs.Parties.{each-sound}
use Rattle.mdb_histories.proofs.Resting.{ready-rested, created-fine, created-rested, close-shuts}
use Rattle.mdb_histories.proofs.Turns.{ComeTurn, IsGood, AllGood, good-append, good-map, turn-both, calm-turn, own-turn}

module _ (o : Options) (m : ℕ) where
  -- an open pool is marked ready
  ready-good : (a : ServerAddress) → IsGood m (λ k. ready_pool o m a (open_pool k a) k)
  ready-good a k z = on (open_pool k a) refl
    where
      at-rest : (p : ℕ) → Rested (of_pool p k) → Rested (after_facts p m (readied p a (pool_options o) m (of_pool p k)) (of_pool p k))
      at-rest p r = by (state_of (pool_options o) (of_pool p k)) refl
        where
          by : (t : State) → state_of (pool_options o) (of_pool p k) ≡ t → Rested (after_facts p m (readied p a (pool_options o) m (of_pool p k)) (of_pool p k))
          by is_new e = rw (e, same-number p) (ready-rested (of_pool p k) r)
          by is_ready e = rw e r
          by (is_paused error) e = rw (e, same-number p) (ready-rested (of_pool p k) r)
          by is_closed e = rw e r

      on : (x : Option ℕ) → open_pool k a ≡ x → ComeTurn m k (ready_pool o m a x k)
      on None e = record { come = tt; turn = z }
      on (Some p) e = own-turn p m (readied p a (pool_options o) m (of_pool p k)) k z (open-opened k a p e) (readied-own p a (pool_options o) m (of_pool p k)) (readied-fine p a (pool_options o) m (of_pool p k) (z.fine p)) (λ f. at-rest p (z.rest a p e))

  -- an open pool is closed
  close-good : (a : ServerAddress) → IsGood m (λ k. close_pool o m a (open_pool k a) k)
  close-good a k z = on (open_pool k a) refl
    where
      at-rest : (p : ℕ) → Rested (of_pool p k) → shuts (close_facts p a (pool_options o) m (of_pool p k)) ≡ false → Rested (after_facts p m (close_facts p a (pool_options o) m (of_pool p k)) (of_pool p k))
      at-rest p r f = rw (close-shuts p a (pool_options o) m (of_pool p k) f) r

      on : (x : Option ℕ) → open_pool k a ≡ x → ComeTurn m k (close_pool o m a x k)
      on None e = record { come = tt; turn = z }
      on (Some p) e = own-turn p m (close_facts p a (pool_options o) m (of_pool p k)) k z (open-opened k a p e) (close-own p a (pool_options o) m (of_pool p k))
          (closed-fine p a (pool_options o) m (of_pool p k) (each-sound k z.sound p) (z.rest a p e)) (at-rest p (z.rest a p e))

  changed-good : (t u : TopologyDescription) (a : ServerAddress) → IsGood m (server_changed o m t u a)
  changed-good t u a k z = on (server_at a t.servers) (server_at a u.servers)
    where
      if-ready : (b : Bool) → ComeTurn m k (if b then ready_pool o m a (open_pool k a) k else [])
      if-ready true = ready-good a k z
      if-ready false = record { come = tt; turn = z }

      on : (x y : Option ServerDescription) → ComeTurn m k (description_changed o m u.topology_type a x y k)
      on None y = record { come = tt; turn = z }
      on (Some old) None = record { come = tt; turn = z }
      on (Some old) (Some new) =
          let fact : List Fact = Sdam (ServerDescriptionChanged (record { address = a; topology_id = o.topology_id; previous_description = old; new_description = new })) ∷ [] in
          let first : ComeTurn m k (if is_ready_type u.topology_type new.server_type then ready_pool o m a (open_pool k a) k else []) = if-ready (is_ready_type u.topology_type new.server_type) in
          turn-both m (if is_ready_type u.topology_type new.server_type then ready_pool o m a (open_pool k a) k else []) fact k first (calm-turn m fact _ (tt, tt) first.turn)

  gone-good : (a : ServerAddress) → IsGood m (server_closed o m a)
  gone-good a k z =
      let fact : List Fact = Sdam (ServerClosed (record { address = a; topology_id = o.topology_id })) ∷ [] in
      let first : ComeTurn m k fact = calm-turn m fact k (tt, tt) z in
      turn-both m fact (close_pool o m a (open_pool k a) k) k first (same (close-good a (with_facts m fact k) first.turn))
    where
      j : List Item
      j = made m (Sdam (ServerClosed (record { address = a; topology_id = o.topology_id }))) ∷ k

      at : (x : Option ℕ) → ComeTurn m j (close_pool o m a x j) → ComeTurn m j (close_pool o m a x k)
      at None c = c
      at (Some p) c = c

      same : ComeTurn m j (close_pool o m a (open_pool j a) j) → ComeTurn m j (close_pool o m a (open_pool k a) k)
      same c = at (open_pool k a) c

  -- a pool is opened with the next number, and created
  opened-good : (a : ServerAddress) → IsGood m (server_opened o a)
  opened-good a k z =
      let first : MayCome k (made m (Opened n a)) = record { in_each = each-sound k z.sound; names = refl } in
      let s1 : SoundHistory k1 = (first, z.sound) in
      let second : MayCome k1 (made m (Pool n (created (pool_options o) a))) = record { in_each = λ q. at-each q (n == q) refl; names = now-opened m n a k } in
      let s2 : SoundHistory k2 = (second, s1) in
      let third : AllMayCome m k2 told = calm-come m told k2 s2 (tt, tt) in
      record { come = (first, (second, third)); turn = record { sound = (third.0, s2); fine = λ q. is-fine q (n == q) refl; rest = λ b q e. at-rest b q e (n == q) refl } }
    where
      n : ℕ
      n = length (homes k)

      told : List Fact
      told = Sdam (ServerOpening (record { address = a; topology_id = o.topology_id })) ∷ []

      k1 : List Item
      k1 = made m (Opened n a) ∷ k

      k2 : List Item
      k2 = made m (Pool n (created (pool_options o) a)) ∷ k1

      new : of_pool n k ≡ []
      new = unopened-empty k z.sound n (next-unopened k z.sound n refl)

      here : of_pool n k2 ≡ pool_created ∷ []
      here = rw (same-number n, new) refl

      there : (q : ℕ) → n ≢ q → of_pool q k2 ≡ of_pool q k
      there q ne = rw (other-number n q ne) refl

      is-fine : (q : ℕ) (b : Bool) → (n == q) ≡ b → Fine (of_pool q k2)
      is-fine q true e = let same : n ≡ q = grind arith in subst (λ p. Fine (of_pool p k2)) same (subst Fine (sym here) created-fine)
      is-fine q false e = let ne : n ≢ q = grind arith in subst Fine (sym (there q ne)) (z.fine q)

      at-each : (q : ℕ) (b : Bool) → (n == q) ≡ b → Sound (of_pool q k2)
      at-each q b e = (is-fine q b e).0

      at-rest : (b : ServerAddress) (q : ℕ) → open_pool k1 b ≡ Some q → (c : Bool) → (n == q) ≡ c → Rested (of_pool q k2)
      at-rest b q e true f = let same : n ≡ q = grind arith in subst (λ p. Rested (of_pool p k2)) same (subst Rested (sym here) created-rested)
      at-rest b q e false f = let ne : n ≢ q = grind arith in subst Rested (sym (there q ne)) (z.rest b q (before (same_address a b) refl e))
        where
          before : (d : Bool) → same_address a b ≡ d → (if same_address a b then Some n else open_pool k b) ≡ Some q → open_pool k b ≡ Some q
          before true g e = let w : Some n ≡ Some q = sym (rw g refl) ∙ e in let same : n ≡ q = cc in let v : (n == q) ≡ true = grind arith in cc
          before false g e = sym (rw g refl) ∙ e

  telling-good : (t u : TopologyDescription) (d : Option Diff) → AllGood m (telling o m t u d)
  telling-good t u None = tt
  telling-good t u (Some d) =
      good-append m (map (server_changed o m t u) d.changed ++ map (server_closed o m) d.removed) (topology_changed o t u ∷ map (server_opened o) d.added)
      (good-append m (map (server_changed o m t u) d.changed) (map (server_closed o m) d.removed) (good-map m (server_changed o m t u) d.changed (changed-good t u)) (good-map m (server_closed o m) d.removed gone-good))
      (λ k z. calm-turn m (topology_changed o t u k) k (tt, tt) z, good-map m (server_opened o) d.added opened-good)

  publication-good : (t u : TopologyDescription) → AllGood m (publication o m t u)
  publication-good t u = telling-good t u (difference t.servers u.servers)

  -- what a rule tells
  pub told-good : (rule : Option Rule) (t : TopologyDescription) → AllGood m (told_by o m rule t)
  told-good None t = tt
  told-good (Some (opens q)) t = (
    λ k z. calm-turn m (topology_opening o k) k (tt, tt) z,
    good-append m (publication o m (unopened q) (opened q)) (publication o m (opened q) (begins_with q)) (publication-good (unopened q) (opened q)) (publication-good (opened q) (begins_with q)),
  )
  told-good (Some (updates s)) t = publication-good t (updated t s)
  told-good (Some (syncs hosts)) t = publication-good t (synced hosts t)
  told-good (Some (tells_time time)) t = tt
  told-good (Some stops) t = good-append m (publication o m t (stopped t)) (topology_closed o ∷ []) (publication-good t (stopped t)) (λ k z. calm-turn m (topology_closed o k) k (tt, tt) z, tt)
