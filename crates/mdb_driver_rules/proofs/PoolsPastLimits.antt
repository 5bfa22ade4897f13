-- What a publication takes past a limit: of the facts of its parts only the openings take numbers.
use Rattle.std.proofs.Common.{ℕ, ◌≡◌, ◌+◌, Bool, true, false, List, [], ◌∷◌, ◌++◌, length, map, Option, Some, None, nat_lt, refl, sym, ◌∙◌, ap, arith}
use Rattle.std.specs.Prelude.{unwrap_or, filter}
use Rattle.std.proofs.lemmas.List.{length-append}
use Rattle.std.proofs.lemmas.Bool.Decides.{nat_tests}
use Rattle.mdb_base.specs.declared.address.ServerAddress.{ServerAddress}
use Rattle.mdb_base.specs.declared.options.Options.{Options}
use Rattle.mdb_srv.specs.declared.topology_type.TopologyType.{TopologyType}
use Rattle.mdb_describe.specs.declared.description.ServerDescription.{ServerDescription}
use Rattle.mdb_describe.specs.declared.topology.TopologyDescription.{TopologyDescription}
use Rattle.mdb_describe.specs.declared.diff.Diff.{Diff}
use Rattle.mdb_describe.specs.Topology.{server_at}
use Rattle.mdb_events.specs.declared.fact.Fact.{Fact}
use Rattle.mdb_events.specs.declared.fact.Fact.TheVariants.{Opened}
use Rattle.mdb_events.specs.declared.end.End.TheVariants.{Closed}
use Rattle.mdb_events.specs.declared.reasons.ConnectionClosedReason.TheVariants.{PoolClosed as PoolClosedReason}
use Rattle.mdb_log.specs.declared.options.PoolOptions.{PoolOptions}
use Rattle.mdb_log.specs.History.{Item, PoolItem, made, of_pool, open_pool, with_facts}
use Rattle.mdb_log.specs.Homes.{homes}
use Rattle.mdb_log.specs.State.{State, is_new, is_ready, is_paused, is_closed, state_of}
use Rattle.mdb_log.specs.Connections.{available_list, pending_list, known_service}
use Rattle.mdb_log.specs.Requests.{is_unserved, requests}
use Rattle.mdb_log.specs.Opening.{pool_options}
use Rattle.mdb_pool_rules.specs.Facts.{closed_fact, pool_closed_fact, all_ends, readied, close_facts}
use Rattle.mdb_driver_rules.specs.Ready.{is_ready_type}
use Rattle.mdb_driver_rules.specs.Turns.{in_turn}
use Rattle.mdb_driver_rules.specs.Publishing.{ready_pool, close_pool, description_changed, server_changed, server_closed, topology_changed, server_opened, opened_at, telling}
use Rattle.mdb_driver_rules.specs.Refusal.{first_past, sooner}
use Rattle.mdb_driver_rules.specs.Limits.{past_last}
use Rattle.mdb_driver_rules.proofs.NumbersWithinLimits.{takes_number, take_numbers, free-append, first-free, out-free, all-ends-free}
use Rattle.mdb_driver_rules.proofs.FactsPastLimits.{past-append}
use Rattle.mdb_driver_rules.proofs.LeavesAsItIs.{turn-append}

-- facts that take no number open no pool
pub free-homes : (m : ℕ) (fs : List Fact) (k : List Item) → take_numbers fs ≡ false → homes (with_facts m fs k) ≡ homes k
free-homes m [] k e = refl
free-homes m (f ∷ fs) k e = on (takes_number f) refl e (free-homes m fs (made m f ∷ k))
  where
    one : (f : Fact) → takes_number f ≡ false → homes (made m f ∷ k) ≡ homes k
    one (Opened p a) e = cc
    one _ e = refl

    on : (b : Bool) → takes_number f ≡ b → take_numbers (f ∷ fs) ≡ false → (take_numbers fs ≡ false → homes (with_facts m fs (made m f ∷ k)) ≡ homes (made m f ∷ k)) → homes (with_facts m (f ∷ fs) k) ≡ homes k
    on true g d rest = let w : take_numbers (f ∷ fs) ≡ true = rw g refl in let t : true ≡ false = sym w ∙ d in cc
    on false g d rest = let w : take_numbers fs ≡ false = sym (rw g refl) ∙ d in rest w ∙ one f g

module _ (p : ℕ) (a : ServerAddress) (o : PoolOptions) (m : ℕ) where
  readied-free : (xs : List PoolItem) → take_numbers (readied p a o m xs) ≡ false
  readied-free xs = on (state_of o xs) refl
    where
      on : (t : State) → state_of o xs ≡ t → take_numbers (readied p a o m xs) ≡ false
      on is_new e = rw e refl
      on is_ready e = rw e refl
      on (is_paused error) e = rw e refl
      on is_closed e = rw e refl

  closed-free : (xs : List PoolItem) (cs : List ℕ) → take_numbers (map (λ c. closed_fact p a c PoolClosedReason (known_service xs c)) cs) ≡ false
  closed-free xs [] = refl
  closed-free xs (c ∷ cs) = closed-free xs cs

  close-free : (xs : List PoolItem) → take_numbers (close_facts p a o m xs) ≡ false
  close-free xs = on (state_of o xs) refl
    where
      open_free : (cs rs : List ℕ) (last : Fact) → takes_number last ≡ false → take_numbers (map (λ c. closed_fact p a c PoolClosedReason (known_service xs c)) cs ++ all_ends p a m xs Closed rs ++ last ∷ []) ≡ false
      open_free cs rs last e =
          free-append (map (λ c. closed_fact p a c PoolClosedReason (known_service xs c)) cs ++ all_ends p a m xs Closed rs) (last ∷ [])
          ∙ rw (free-append (map (λ c. closed_fact p a c PoolClosedReason (known_service xs c)) cs) (all_ends p a m xs Closed rs), closed-free xs cs, out-free (all_ends p a m xs Closed rs) (all-ends-free p a o m xs Closed rs), e) refl

      on : (t : State) → state_of o xs ≡ t → take_numbers (close_facts p a o m xs) ≡ false
      on is_new e = rw e (open_free (available_list xs ++ pending_list xs) (filter (is_unserved xs) (requests xs)) (pool_closed_fact p a) refl)
      on is_ready e = rw e (open_free (available_list xs ++ pending_list xs) (filter (is_unserved xs) (requests xs)) (pool_closed_fact p a) refl)
      on (is_paused error) e = rw e (open_free (available_list xs ++ pending_list xs) (filter (is_unserved xs) (requests xs)) (pool_closed_fact p a) refl)
      on is_closed e = rw e refl

module _ (o : Options) (m : ℕ) where
  ready-free : (a : ServerAddress) (x : Option ℕ) (k : List Item) → take_numbers (ready_pool o m a x k) ≡ false
  ready-free a None k = refl
  ready-free a (Some p) k = readied-free p a (pool_options o) m (of_pool p k)

  shut-free : (a : ServerAddress) (x : Option ℕ) (k : List Item) → take_numbers (close_pool o m a x k) ≡ false
  shut-free a None k = refl
  shut-free a (Some p) k = close-free p a (pool_options o) m (of_pool p k)

  -- a server that changed, and one that goes
  description-free : (kind : TopologyType) (a : ServerAddress) (x y : Option ServerDescription) (k : List Item) → take_numbers (description_changed o m kind a x y k) ≡ false
  description-free kind a None y k = refl
  description-free kind a (Some old) None k = refl
  description-free kind a (Some old) (Some new) k = on (is_ready_type kind new.server_type) refl
    where
      on : (b : Bool) → is_ready_type kind new.server_type ≡ b → take_numbers (description_changed o m kind a (Some old) (Some new) k) ≡ false
      on true e = rw e (free-append (ready_pool o m a (open_pool k a) k) _ ∙ rw (ready-free a (open_pool k a) k) refl)
      on false e = rw e refl

  changed-free : (t u : TopologyDescription) (list : List ServerAddress) (k : List Item) → take_numbers (in_turn m (map (server_changed o m t u) list) k) ≡ false
  changed-free t u [] k = refl
  changed-free t u (a ∷ list) k =
      let facts : List Fact = server_changed o m t u a k in
      free-append facts (in_turn m (map (server_changed o m t u) list) (with_facts m facts k))
      ∙ rw (description-free u.topology_type a (server_at a t.servers) (server_at a u.servers) k, changed-free t u list (with_facts m facts k)) refl

  gone-free : (list : List ServerAddress) (k : List Item) → take_numbers (in_turn m (map (server_closed o m) list) k) ≡ false
  gone-free [] k = refl
  gone-free (a ∷ list) k =
      let facts : List Fact = server_closed o m a k in
      free-append facts (in_turn m (map (server_closed o m) list) (with_facts m facts k))
      ∙ rw (shut-free a (open_pool k a) k, gone-free list (with_facts m facts k)) refl

  -- The servers that come take one number after another, so the last of them is past the limit where one is.
  pub opens-past : (list : List ServerAddress) (k : List Item) → first_past o m k (in_turn m (map (server_opened o) list) k) ≡ past_last o (length (homes k)) list
  opens-past [] k = refl
  opens-past (a ∷ list) k = on (nat_lt limit n) refl list (opens-past list (with_facts m (opened_at o a (length (homes k))) k) ∙ ap (λ x. past_last o x list) (length-append (homes k) _))
    where
      limit : ℕ
      limit = unwrap_or o.limit_pool 4294967295

      n : ℕ
      n = length (homes k)

      facts : List Fact
      facts = opened_at o a n

      later : List Item
      later = with_facts m facts k

      rest : List Fact
      rest = in_turn m (map (server_opened o) list) later

      on : (b : Bool) → nat_lt limit n ≡ b → (bs : List ServerAddress) → first_past o m later rest ≡ past_last o (n + 1) bs → first_past o m k (facts ++ rest) ≡ past_last o n (a ∷ bs)
      on true e bs d = let w : nat_lt limit (n + length bs) ≡ true = grind (arith, nat_tests) in rw (e, w) refl
      on false e [] d = let w : nat_lt limit (n + 0) ≡ false = grind (arith, nat_tests) in rw (e, w) d
      on false e (b ∷ bs) d = let w : n + 1 + length bs ≡ n + length (b ∷ bs) = omega arith in rw (e, sym w) d

  module _ (t u : TopologyDescription) (d : Diff) (k : List Item) where
    abbrev changes : List (List Item → List Fact)
    changes = map (server_changed o m t u) d.changed

    abbrev gone : List (List Item → List Fact)
    gone = map (server_changed o m t u) d.changed ++ map (server_closed o m) d.removed

    abbrev k1 : List Item
    k1 = with_facts m (in_turn m changes k) k

    abbrev k2 : List Item
    k2 = with_facts m (in_turn m gone k) k

    abbrev k3 : List Item
    k3 = with_facts m (topology_changed o t u k2) k2

    pub gone-away : take_numbers (in_turn m gone k) ≡ false
    gone-away =
        ap take_numbers (turn-append m changes (map (server_closed o m) d.removed) k)
        ∙ (free-append (in_turn m changes k) (in_turn m (map (server_closed o m) d.removed) k1) ∙ rw (changed-free t u d.changed k, gone-free d.removed k1) refl)

    first-in : (parts more : List (List Item → List Fact)) → take_numbers (in_turn m parts k) ≡ false
        → first_past o m k (in_turn m (parts ++ more) k) ≡ first_past o m (with_facts m (in_turn m parts k) k) (in_turn m more (with_facts m (in_turn m parts k) k))
    first-in parts more free =
        ap (first_past o m k) (turn-append m parts more k)
        ∙ (past-append o m k (in_turn m parts k) (in_turn m more (with_facts m (in_turn m parts k) k))
        ∙ ap (λ x. sooner x (first_past o m (with_facts m (in_turn m parts k) k) (in_turn m more (with_facts m (in_turn m parts k) k)))) (first-free o m k (in_turn m parts k) free))

    -- a publication takes past a limit what the servers that come do
    pub telling-past : first_past o m k (in_turn m (telling o m t u (Some d)) k) ≡ past_last o (length (homes k)) d.added
    telling-past =
        first-in gone (topology_changed o t u ∷ map (server_opened o) d.added) gone-away
        ∙ (opens-past d.added k3 ∙ ap (λ x. past_last o (length x) d.added) (free-homes m (in_turn m gone k) k gone-away))
