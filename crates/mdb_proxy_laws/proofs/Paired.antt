-- A driver that maintains no pool creates connections for callers alone: right after each creation comes its grant.
use Rattle.std.proofs.Common.{ℕ, zero, suc, ◌≡◌, ◌+◌, Bool, true, false, List, [], ◌∷◌, ◌++◌, length, Option, Some, None, refl}
use Rattle.std.specs.Prelude.{⊤, flat_map}
use Rattle.mdb_base.specs.declared.address.ServerAddress.{ServerAddress}
use Rattle.mdb_base.specs.declared.options.Options.{Options}
use Rattle.mdb_events.specs.declared.cmap.CmapEvent.TheVariants.{ConnectionCreated}
use Rattle.mdb_events.specs.declared.fact.Fact.{Fact}
use Rattle.mdb_events.specs.declared.fact.Fact.TheVariants.{Pool, Granted}
use Rattle.mdb_events.specs.declared.reasons.ConnectionClosedReason.{ConnectionClosedReason}
use Rattle.mdb_log.specs.declared.options.PoolOptions.{PoolOptions}
use Rattle.mdb_log.specs.declared.step.Step.{Step}
use Rattle.mdb_log.specs.History.{Item, PoolItem, of_pool, with_facts, after_facts}
use Rattle.mdb_log.specs.Connections.{available_list}
use Rattle.mdb_log.specs.Requests.{queued, is_warm}
use Rattle.mdb_log.specs.State.{state_of, ready, may_create}
use Rattle.mdb_log.specs.Homes.{Home, homes}
use Rattle.mdb_log.specs.Opening.{pool_options}
use Rattle.mdb_pool_rules.specs.Facts.{perished}
use Rattle.mdb_pool_rules.specs.Serving.{last_of, candidate, wants_connection, caller_move, meet, warm_move, move_for, next_move, serve, serving}
use Rattle.mdb_driver_rules.specs.Description.{description_of, rule_after}
use Rattle.mdb_driver_rules.specs.Facts.{trouble, clear_of, clearing, asking, own_facts, serve_all, parts, step_facts}
use Rattle.mdb_driver_rules.specs.Homes.{home_of, begun}
use Rattle.mdb_driver_rules.specs.Monitors.{heartbeat}
use Rattle.mdb_driver_rules.specs.Publishing.{told_by}
use Rattle.mdb_driver_rules.specs.Turns.{in_turn}
use Rattle.mdb_topology.proofs.OfMonitors.FactsOfCheck.{heartbeat-calm}
use Rattle.mdb_histories.proofs.Troubles.{asking-calm}
use Rattle.mdb_proxy_laws.proofs.Uncreating.{IsUncreating, AreUncreating, is_maintaining, calm-uncreating, act-uncreating}
use Rattle.mdb_proxy_laws.proofs.Published.{PartsUncreating, told-uncreating, clearing-uncreating}

-- the next fact grants the connection
abbrev pub IsGrantedNext : ℕ → ℕ → List Fact → Type 0
IsGrantedNext q c (Granted r p d ∷ fs) = (p ≡ q) × (d ≡ c)
IsGrantedNext q c _ = ⊥

abbrev pub IsPaired : Fact → List Fact → Type 0
IsPaired (Pool q (ConnectionCreated e)) fs = IsGrantedNext q e.connection_id fs
IsPaired _ fs = ⊤

abbrev pub ArePaired : List Fact → Type 0
ArePaired [] = ⊤
ArePaired (f ∷ fs) = IsPaired f fs × ArePaired fs

granted-more : (q c : ℕ) (fs gs : List Fact) → IsGrantedNext q c fs → IsGrantedNext q c (fs ++ gs)
granted-more q c (Granted r p d ∷ fs) gs h = h
granted-more q c _ gs h = absurd h

paired-more : (f : Fact) (fs gs : List Fact) → IsPaired f fs → IsPaired f (fs ++ gs)
paired-more (Pool q (ConnectionCreated e)) fs gs h = granted-more q e.connection_id fs gs h
paired-more _ fs gs h = tt

pub paired-both : (fs gs : List Fact) → ArePaired fs → ArePaired gs → ArePaired (fs ++ gs)
paired-both [] gs a b = b
paired-both (f ∷ fs) gs a b = (paired-more f fs gs a.0, paired-both fs gs a.1 b)

uncreating-one : (f : Fact) (fs : List Fact) → IsUncreating f → IsPaired f fs
uncreating-one (Pool q (ConnectionCreated e)) fs u = absurd u
uncreating-one _ fs u = tt

uncreating-paired : (fs : List Fact) → AreUncreating fs → ArePaired fs
uncreating-paired [] u = tt
uncreating-paired (f ∷ fs) u = (uncreating-one f fs u.0, uncreating-paired fs u.1)

-- ---- the serving of a pool

module _ (q : ℕ) (a : ServerAddress) (o : PoolOptions) (m : ℕ) where
  met-paired : (ws : List PoolItem) (r c : ℕ) (why : Option ConnectionClosedReason) → ArePaired (meet q a o m ws r c why)
  met-paired ws r c None = (tt, (tt, tt))
  met-paired ws r c (Some why) = (tt, tt)

  called-paired : (ws : List PoolItem) (r : ℕ) (k : Option ℕ) → ArePaired (caller_move q a o m ws r k)
  called-paired ws r (Some c) = met-paired ws r c (perished o m ws c)
  called-paired ws r None = on (may_create o ws) refl
    where
      on : (b : Bool) → may_create o ws ≡ b → ArePaired (caller_move q a o m ws r None)
      on true g = rw g ((refl, refl), (tt, tt))
      on false g = rw g tt

  warmed-paired : (ws : List PoolItem) (r : ℕ) → ArePaired (warm_move q a o ws r)
  warmed-paired ws r = on (wants_connection o ws) refl
    where
      on : (b : Bool) → wants_connection o ws ≡ b → ArePaired (warm_move q a o ws r)
      on true g = rw g ((refl, refl), (tt, tt))
      on false g = rw g (tt, tt)

  move-paired : (ws : List PoolItem) (k : Option ℕ) → ArePaired (move_for q a o m ws k)
  move-paired ws None = tt
  move-paired ws (Some r) = on (is_warm ws r) refl
    where
      on : (b : Bool) → is_warm ws r ≡ b → ArePaired (move_for q a o m ws (Some r))
      on true w = rw w (warmed-paired ws r)
      on false w = rw w (called-paired ws r (last_of (available_list ws)))

  next-paired : (ws : List PoolItem) → ArePaired (next_move q a o m ws)
  next-paired ws = on (ready (state_of o ws)) refl
    where
      on : (b : Bool) → ready (state_of o ws) ≡ b → ArePaired (next_move q a o m ws)
      on true e = rw e (move-paired ws (candidate o ws (queued ws)))
      on false e = rw e tt

  serve-paired : (n : ℕ) (ws : List PoolItem) → ArePaired (serve q a o m n ws)
  serve-paired zero ws = tt
  serve-paired (suc n) ws = paired-both (next_move q a o m ws) (serve q a o m n (after_facts q m (next_move q a o m ws) ws)) (next-paired ws) (serve-paired n (after_facts q m (next_move q a o m ws) ws))

  serving-paired : (ws : List PoolItem) → ArePaired (serving q a o m ws)
  serving-paired ws = serve-paired (length (queued ws) + length (available_list ws)) ws

-- ---- the parts of an answer

module _ (o : Options) (m : ℕ) where
  servings-paired : (k : List Item) (hs : List Home) → ArePaired (flat_map (λ x. serving x.number x.address (pool_options o) m (of_pool x.number k)) hs)
  servings-paired k [] = tt
  servings-paired k (x ∷ hs) =
      paired-both (serving x.number x.address (pool_options o) m (of_pool x.number k)) (flat_map (λ (y : Home). serving y.number y.address (pool_options o) m (of_pool y.number k)) hs) (serving-paired x.number x.address (pool_options o) m (of_pool x.number k)) (servings-paired k hs)

  PartsPaired : List (List Item → List Fact) → Type 0
  PartsPaired [] = ⊤
  PartsPaired (part ∷ parts) = ((k : List Item) → ArePaired (part k)) × PartsPaired parts

  uncreating-parts : (parts more : List (List Item → List Fact)) → PartsUncreating parts → PartsPaired more → PartsPaired (parts ++ more)
  unfolding PartsPaired
  uncreating-parts [] more a b = b
  uncreating-parts (part ∷ parts) more a b = (λ k. uncreating-paired (part k) (a.0 k), uncreating-parts parts more a.1 b)

  turns-paired : (parts : List (List Item → List Fact)) → PartsPaired parts → (k : List Item) → ArePaired (in_turn m parts k)
  unfolding PartsPaired
  turns-paired [] w k = tt
  turns-paired (part ∷ parts) w k = paired-both (part k) (in_turn m parts (with_facts m (part k) k)) (w.0 k) (turns-paired parts w.1 (with_facts m (part k) k))

module _ (o : Options) (h : List Item) (step : Step) where
  own-uncreating : is_maintaining step.act ≡ false → (x : Option Home) (k : List Item) → AreUncreating (own_facts o h step x k)
  own-uncreating e None k = tt
  own-uncreating e (Some x) k = act-uncreating x.number x.address (pool_options o) step.moment (of_pool x.number h) (of_pool x.number k) step.act e

  -- The facts of a step that maintains no pool are paired.
  pub step-paired : is_maintaining step.act ≡ false → ArePaired (step_facts o h step)
  unfolding PartsPaired
  step-paired e = turns-paired o step.moment (parts o h step) (
    λ k. uncreating-paired (heartbeat o h step.act) (calm-uncreating (heartbeat o h step.act) (heartbeat-calm o h step.act)),
    uncreating-parts o step.moment (told_by o step.moment (rule_after o h step) (description_of o h)) (clearing o step.moment (trouble o h step) (clear_of o h step) ∷ asking o (trouble o h step) (clear_of o h step) ∷ own_facts o h step (home_of h step.act) ∷ serve_all o step.moment ∷ []) (told-uncreating o step.moment (rule_after o h step) (description_of o h)) (
      λ k. uncreating-paired (clearing o step.moment (trouble o h step) (clear_of o h step) k) (clearing-uncreating o step.moment (trouble o h step) (clear_of o h step) k),
      (
        λ k. uncreating-paired (asking o (trouble o h step) (clear_of o h step) k) (calm-uncreating (asking o (trouble o h step) (clear_of o h step) k) (asking-calm o (trouble o h step) (clear_of o h step) k)),
        (
          λ k. uncreating-paired (own_facts o h step (home_of h step.act) k) (own-uncreating e (home_of h step.act) k),
          (λ k. servings-paired o step.moment k (homes k), tt),
        ),
      ),
    ),
  ) (begun h step)
