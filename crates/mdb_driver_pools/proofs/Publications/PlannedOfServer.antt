-- The parts of a publication, planned: a server that changed and readies its pool or not, one that goes, and one that comes.
use Rattle.std.proofs.Common.{ℕ, ◌≡◌, ◌&&◌, ◌||◌, Bool, true, false, not, is_some, if◌then◌else◌, List, [], ◌∷◌, ◌++◌, set, Option, Some, None, refl, sym, ◌∙◌, ap, subst, append-nil}
use Rattle.std.specs.Prelude.{slice_get}
use Rattle.mdb_base.specs.Equality.{same_address}
use Rattle.mdb_base.specs.declared.address.ServerAddress.{ServerAddress}
use Rattle.mdb_base.specs.declared.options.Options.{Options}
use Rattle.mdb_describe.specs.declared.description.ServerDescription.{ServerDescription}
use Rattle.mdb_describe.specs.declared.topology.TopologyDescription.{TopologyDescription}
use Rattle.mdb_describe.specs.Servers.{is_listed}
use Rattle.mdb_describe.specs.Topology.{server_at}
use Rattle.mdb_events.specs.declared.fact.Fact.{Fact}
use Rattle.mdb_log.specs.declared.step.Act.{Act}
use Rattle.mdb_log.specs.History.{Item, open_pool}
use Rattle.mdb_log.specs.Opening.{pool_options}
use Rattle.mdb_describe.proofs.Addresses.{own-address, same-address}
use Rattle.mdb_pool.specs.Core.{PoolCore}
use Rattle.mdb_pool.specs.Now.{last_now}
use Rattle.mdb_pool.specs.Planning.{IsDone}
use Rattle.mdb_driver_pools.specs.declared.pool_change.PoolChange.{PoolChange}
use Rattle.mdb_driver_pools.specs.declared.pool_change.PoolChange.TheVariants.{Alter, Open}
use Rattle.mdb_driver_pools.specs.Acting.{readying, closing, step_of, PlansOne, PlansAt}
use Rattle.mdb_driver_rules.specs.Events.{changed_fact, gone_fact, topology_fact}
use Rattle.mdb_driver_rules.specs.Publishing.{ready_pool, close_pool, server_changed, server_closed, topology_changed, opened_at, server_opened}
use Rattle.mdb_driver_rules.specs.Ready.{is_ready_type}
use Rattle.mdb_driver_pools.specs.Standing.{at_address, PoolsStand}
use Rattle.mdb_driver_pools.specs.Planned.{CanTake, LeavesOpen, PlansMore}
use Rattle.mdb_driver_pools.specs.Telling.{Makes}
use Rattle.mdb_driver_rules.specs.Touching.{is_ready_at, readies_one}
use Rattle.mdb_driver_pools.proofs.Publications.OpenThen.{ready-open, close-leaves}
use Rattle.mdb_driver_rules.proofs.General.Truth.{and-or-same}
use Rattle.mdb_driver_pools.proofs.Publications.OneMorePool.{IsFresh}
use Rattle.mdb_driver_pools.proofs.Publications.AtOpenPool.{ready-none, ready-made, close-none, close-made, changed-made, closed-made}
use Rattle.mdb_driver_pools.proofs.Publications.PlannedInTurn.{can-less, planned-wider}
use Rattle.mdb_driver_pools.proofs.Publications.PlannedPart.{planned-still, leaves-still, planned-alter, leaves-alter, planned-open, leaves-opened}
use Rattle.mdb_driver_pools.proofs.PartsInTurn.{tells-none, tells-one, comes-calm, comes-as, comes-none}

-- nothing is planned yet
pub plans-none : (o : Options) (m : ℕ) (pools : List PoolCore) (n : ℕ) (touched : ServerAddress → Bool) (changes : List PoolChange) (facts : List Fact) → PlansMore o m pools n touched [] [] [] changes changes facts facts
plans-none o m pools n touched changes facts = record {
  added = [];
  behind = sym (append-nil changes);
  opens = refl;
  leaves = leaves-still o m pools n touched;
  planned_are = planned-still o m pools n touched [] facts facts (λ now z. tells-none o m now facts);
}

module _ (o : Options) (m : ℕ) (pools : List PoolCore) (n : ℕ) (earlier changes : List PoolChange) where
  -- no change is added
  pub plans-still : (touched : ServerAddress → Bool) (part : List Item → List Fact) (gone : List ServerAddress) (before after : List Fact) → changes ≡ earlier → LeavesOpen o m pools n touched [] gone []
      → ((now : List PoolCore) → CanTake m pools now n touched → Makes o m part now now before after) → PlansMore o m pools n touched (part ∷ []) gone [] earlier changes before after
  plans-still touched part gone before after same leaves makes = record {
    added = [];
    behind = same ∙ sym (append-nil earlier);
    opens = refl;
    leaves = leaves;
    planned_are = planned-still o m pools n touched (part ∷ []) before after (λ now z. tells-one o m part now now before after (makes now z));
  }

  -- what more addresses are touched is no matter
  pub plans-wider : (touched more : ServerAddress → Bool) (parts : List (List Item → List Fact)) (gone opened : List ServerAddress) (before after : List Fact) → ((b : ServerAddress) → touched b ≡ true → more b ≡ true)
      → PlansMore o m pools n touched parts gone opened earlier changes before after → PlansMore o m pools n more parts gone opened earlier changes before after
  plans-wider touched more parts gone opened before after within p = record {
    added = p.added;
    behind = p.behind;
    opens = p.opens;
    leaves = λ now later k b z l y. p.leaves now later k b (can-less o m pools n touched more now within z) l y;
    planned_are = planned-wider o m pools n touched more parts p.added before after within p.planned_are;
  }

  -- the topology is told
  pub plans-told : (t u : TopologyDescription) (before after : List Fact) → changes ≡ earlier
      → after ≡ before ++ topology_fact o t u ∷ []
      → PlansMore o m pools n (λ b. false) (topology_changed o t u ∷ []) [] [] earlier changes before after
  plans-told t u before after same added =
      plans-still (λ b. false) (topology_changed o t u) [] before after same (leaves-still o m pools n (λ b. false))
      (λ now z k y. comes-calm o m now before after (topology_fact o t u) k tt added y)

  module _ (a : ServerAddress) where
    -- the pool that is open at the address does an act
    pub plans-alter : (act : ℕ → Act) (part : List Item → List Fact) (gone : List ServerAddress) (i : ℕ) (first second before after : List Fact) → at_address pools a ≡ Some i → (d : PlansOne pools i m act earlier changes first second)
        → ((now : List PoolCore) (t : PoolCore) (k : List Item) (b : ServerAddress) → at_address now a ≡ Some i → slice_get now i ≡ Some d.pool → IsDone d.pool t (step_of m act d.pool.pool) d.answered → PoolsStand (pool_options o) now k
        → (same_address a b ≡ false → at_address (set now i t) b ≡ at_address now b) → is_some (at_address (set now i t) b) ≡ (is_some (at_address now b) && not (is_listed gone b)) || false)
        → ((now : List PoolCore) (t : PoolCore) → at_address now a ≡ Some i → slice_get now i ≡ Some d.pool → IsDone d.pool t (step_of m act d.pool.pool) d.answered → Makes o m part now (set now i t) before after)
        → PlansMore o m pools n (same_address a) (part ∷ []) gone [] earlier changes before after
    plans-alter act part gone i first second before after here d leaves makes = record {
      added = Alter i d.plan ∷ [];
      behind = d.behind;
      opens = refl;
      leaves =
          leaves-alter o m pools a i d.pool d.plan here d.there d.made (λ t p. (d.does t p).home) (λ t p. (d.does t p).last) n gone
          (λ now t k b at get p y elsewhere. leaves now t k b at get (d.does t p) y elsewhere);
      planned_are =
          planned-alter o m pools a i d.pool d.plan here d.there d.made (λ t p. (d.does t p).home) (λ t p. (d.does t p).last) n (part ∷ []) before after
          (λ now t at get p. tells-one o m part now (set now i t) before after (makes now t at get (d.does t p)));
    }

    pub plans-open : (core : PoolCore) (before after : List Fact) → core.pool ≡ n → core.address ≡ a → core.options ≡ pool_options o → IsFresh core → last_now core ≡ 0 → at_address pools a ≡ None
        → changes ≡ earlier ++ Open core ∷ [] → after ≡ before ++ opened_at o a n → PlansMore o m pools n (same_address a) (server_opened o a ∷ []) [] (a ∷ []) earlier changes before after
    plans-open core before after number at options fresh last absent behind added = record {
      added = Open core ∷ [];
      behind = behind;
      opens = ap (λ (b : ServerAddress). b ∷ []) at;
      leaves = leaves-opened o m pools a n core number at options fresh last absent;
      planned_are = planned-open o m pools a n core number at options fresh last absent before after added;
    }

    -- a server that goes
    -- where none is open none is closed
    none-closed : at_address pools a ≡ None → LeavesOpen o m pools n (same_address a) [] (a ∷ []) []
    none-closed none now later k b z l y =
        ap (λ (w : List PoolCore). is_some (at_address w b)) l ∙ on (same_address a b) refl
      where
        absent : same_address a b ≡ true → at_address now b ≡ None
        absent e = ap (at_address now) (sym (same-address a b e)) ∙ ((z.agrees a (own-address a)).0 ∙ none)

        on : (c : Bool) → same_address a b ≡ c → is_some (at_address now b) ≡ (is_some (at_address now b) && not (is_listed (a ∷ []) b)) || false
        on true e = rw (absent e) refl
        on false e = sym (rw e (and-or-same (is_some (at_address now b))))

    pub plans-closed : (before between after : List Fact) → between ≡ before ++ gone_fact o a ∷ [] → PlansAt pools (at_address pools a) m closing earlier changes between after
        → PlansMore o m pools n (same_address a) (server_closed o m a ∷ []) (a ∷ []) [] earlier changes before after
    plans-closed before between after told d = on (at_address pools a) refl d
      where
        on : (x : Option ℕ) → at_address pools a ≡ x → PlansAt pools x m closing earlier changes between after → PlansMore o m pools n (same_address a) (server_closed o m a ∷ []) (a ∷ []) [] earlier changes before after
        on None none e =
            plans-still (same_address a) (server_closed o m a) (a ∷ []) before after e.0 (none-closed none)
            (λ now z. closed-made o m a now now before between after told
            (subst (λ fs. Makes o m (λ k. close_pool o m a (open_pool k a) k) now now between fs) (sym e.1) (close-none o m a now between ((z.agrees a (own-address a)).0 ∙ none))))
        on (Some i) here e =
            plans-alter closing (server_closed o m a) (a ∷ []) i between after before after here e
            (λ now t k b at get done y elsewhere. close-leaves (pool_options o) now k y a i e.pool t at get done.home m e.pool.pool e.answered.facts e.answered.reply done.does b elsewhere)
            (λ now t at get done. closed-made o m a now (set now i t) before between after told
            (close-made o m a now i e.pool t at get done.home e.answered.facts e.answered.reply between after e.told e.pool.pool done.does))

    -- a server that changed,
    -- and isn't known before and after
    pub plans-unknown : (t u : TopologyDescription) (facts : List Fact) → changes ≡ earlier → ((k : List Item) → server_changed o m t u a k ≡ []) → PlansMore o m pools n (readies_one u a) (server_changed o m t u a ∷ []) [] [] earlier changes facts facts
    plans-unknown t u facts same silent =
        plans-still (readies_one u a) (server_changed o m t u a) [] facts facts same (leaves-still o m pools n (readies_one u a))
        (λ now z k y. comes-as o m (server_changed o m t u a k) [] now facts facts k (sym (silent k)) (comes-none o m now facts k y))

    module _ (t u : TopologyDescription) (old new : ServerDescription) (before between after : List Fact) (was : server_at a t.servers ≡ Some old) (is : server_at a u.servers ≡ Some new)
        (told : after ≡ between ++ changed_fact o a old new ∷ []) where
      abbrev Changed : (ServerAddress → Bool) → Type 0
      Changed touched = PlansMore o m pools n touched (server_changed o m t u a ∷ []) [] [] earlier changes before after

      here-ready : is_ready_type u.topology_type new.server_type ≡ true → (b : ServerAddress) → same_address a b ≡ true → readies_one u a b ≡ true
      here-ready ready b e =
          let w : is_ready_at u b ≡ true = ap (is_ready_at u) (sym (same-address a b e)) ∙ rw is ready in
          rw (e, w) refl

      ready-where : is_ready_type u.topology_type new.server_type ≡ true → (x : Option ℕ) → at_address pools a ≡ x → PlansAt pools x m readying earlier changes before between → Changed (same_address a)
      ready-where ready None none e =
          plans-still (same_address a) (server_changed o m t u a) [] before after e.0 (leaves-still o m pools n (same_address a))
          (λ now z. changed-made o m a t u old new true now now before between after was is ready
          (subst (λ fs. Makes o m (λ k. ready_pool o m a (open_pool k a) k) now now before fs) (sym e.1) (ready-none o m a now before ((z.agrees a (own-address a)).0 ∙ none))) told)
      ready-where ready (Some i) here e =
          plans-alter readying (server_changed o m t u a) [] i before between before after here e
          (λ now next k b at get done y elsewhere. ready-open (pool_options o) now k y a i e.pool next at get done.home m e.pool.pool e.answered.facts e.answered.reply done.does b ∙ sym (and-or-same (is_some (at_address now b))))
          (λ now next at get done. changed-made o m a t u old new true now (set now i next) before between after was is ready
          (ready-made o m a now i e.pool next at get done.home e.answered.facts e.answered.reply before between e.told e.pool.pool done.does) told)

      pub plans-changed : PlansAt pools (if is_ready_type u.topology_type new.server_type then at_address pools a else None) m readying earlier changes before between → Changed (readies_one u a)
      plans-changed d = on (is_ready_type u.topology_type new.server_type) refl d
        where
          on : (b : Bool) → is_ready_type u.topology_type new.server_type ≡ b → PlansAt pools (if b then at_address pools a else None) m readying earlier changes before between → Changed (readies_one u a)
          on true ready e =
              plans-wider (same_address a) (readies_one u a) (server_changed o m t u a ∷ []) [] [] before after (here-ready ready) (ready-where ready (at_address pools a) refl e)
          on false ready e =
              plans-still (readies_one u a) (server_changed o m t u a) [] before after e.0 (leaves-still o m pools n (readies_one u a))
              (λ now z. changed-made o m a t u old new false now now before between after was is ready
              (subst (λ fs. Makes o m (λ k. []) now now before fs) (sym e.1) (λ k y. comes-none o m now before k y)) told)
