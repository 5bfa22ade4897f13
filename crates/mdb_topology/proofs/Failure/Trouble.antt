-- What a failure tells of its error: whether it is current, what its trouble is, and what it marks, clears and asks.
use Rattle.std.proofs.Common.{ℕ, ◌≡◌, ◌==◌, ◌&&◌, Bool, true, false, not, if◌then◌else◌, List, ◌∷◌, Option, Some, None, is_some, refl, sym, ◌∙◌, ap, arith}
use Rattle.std.specs.Prelude.{slice_get, pos, nat_le, unwrap_or}
use Rattle.mdb_base.specs.declared.error.Error.{Error}
use Rattle.mdb_base.specs.declared.object_id.ObjectId.{ObjectId}
use Rattle.mdb_base.specs.declared.options.Options.{Options}
use Rattle.mdb_base.specs.Errors.{is_incompatible, is_state_change}
use Rattle.mdb_describe.specs.declared.topology.TopologyDescription.{TopologyDescription}
use Rattle.mdb_describe.specs.Topology.{server_at}
use Rattle.mdb_log.specs.declared.step.Act.{Act}
use Rattle.mdb_log.specs.declared.step.Act.TheVariants as Do
use Rattle.mdb_log.specs.declared.step.FailedAt.{FailedAt}
use Rattle.mdb_log.specs.declared.step.FailedAt.TheVariants.{Pre, Post}
use Rattle.mdb_log.specs.History.{Item, PoolItem, failed as failed_item, service_in, of_pool, open_pool, is_number}
use Rattle.mdb_log.specs.Connections.{service_of, wire_of}
use Rattle.mdb_log.specs.Opening.{pool_options}
use Rattle.mdb_log.specs.State.{generation_of, generation_before}
use Rattle.mdb_log.proofs.Numbers.{same-number}
use Rattle.mdb_pool.specs.Core.{PoolCore}
use Rattle.mdb_pool.specs.Now.{clears_before_now, clears_now, is_live_now, wire_now}
use Rattle.mdb_pool.specs.Standing.{Fits}
use Rattle.mdb_log.proofs.Bools.{both-true}
use Rattle.mdb_pool.proofs.Told.OfQueries.{before-is, clears-are, wire-is}
use Rattle.mdb_topology.specs.declared.topology.TopologyCore.{TopologyCore}
use Rattle.mdb_driver_rules.specs.Current.{Complaint, establishing, known_version, may_tell, is_of_generation, is_current, in_handshake, complaint_of}
use Rattle.mdb_driver_rules.specs.Errors.{Case, state_change, lost, Trouble, is_loss, case_of, current_trouble, complaint_trouble, trouble_of}
use Rattle.mdb_topology.specs.Failing.{is_uncleared, is_timely, regards_now}
use Rattle.mdb_driver_rules.specs.Homes.{begun}
use Rattle.mdb_topology.specs.Standing.{StandsFor}
use Rattle.mdb_driver_pools.specs.Standing.{at_address, is_here_among}
use Rattle.mdb_driver_pools.proofs.Failure.PoolsStand.{failing, failed-here}
use Rattle.mdb_topology.proofs.Failure.RefusedByItsPool.{home-numbered}
use Rattle.mdb_driver_pools.proofs.OnePool.FoundAt.{fits-at, number-at}

not-not : (b : Bool) → not (not b) ≡ b
not-not true = refl
not-not false = refl

-- the generation of the connection, with its failure
module _ (o : Options) (s : PoolCore) (xs : List PoolItem) (fits : Fits s xs) (c : ℕ) (live : is_live_now s c ≡ true) where
  of-now : (t : Option ObjectId) → (clears_before_now s c t == clears_now s t) ≡ is_uncleared s c t
  of-now t = refl

  timely-is : (at : FailedAt) → is_of_generation o (failed_item c (service_in at) ∷ xs) c (establishing at) ≡ is_timely o.load_balanced s c at
  timely-is Pre = on o.load_balanced
    where
      on : (b : Bool) → not b && nat_le (generation_of xs None) (generation_before xs c None) ≡ is_timely b s c Pre
      on true = refl
      on false = rw (clears-are s xs fits None, before-is s xs fits c live None) refl
  timely-is (Post service) = rw (same-number c) (on o.load_balanced service)
    where
      same : (t : Option ObjectId) → (generation_before xs c t == generation_of xs t) ≡ is_uncleared s c t
      same t = rw (clears-are s xs fits t, before-is s xs fits c live t) refl

      on : (b : Bool) (t : Option ObjectId) →
          not (not (b && not (is_some (if b then t else None))) && not (generation_before xs c (if b then t else None) == generation_of xs (if b then t else None))) ≡ is_timely b s c (Post t)
      on false t = ap (λ d. not (not d)) (same None) ∙ not-not (is_uncleared s c None)
      on true None = refl
      on true (Some t) = ap (λ d. not (not d)) (same (Some t)) ∙ not-not (is_uncleared s c (Some t))

module _ (w : TopologyCore) (h : List Item) (z : StandsFor w h) (m i : ℕ) (s : PoolCore) (there : slice_get w.pools.cores.items i ≡ Some s) (c : ℕ) (live : is_live_now s c ≡ true) (at : FailedAt) (e : Error) where
  abbrev o : Options
  o = w.options

  abbrev t : TopologyDescription
  t = w.description

  abbrev pools : List PoolCore
  pools = w.pools.cores.items

  abbrev act : Act
  act = Do.Failed s.pool c at e

  abbrev k : List Item
  k = begun h (failing m s.pool c at e)

  abbrev xs : List PoolItem
  xs = of_pool s.pool h

  abbrev ws : List PoolItem
  ws = failed_item c (service_in at) ∷ xs

  fits : Fits s xs
  fits = fits-at (pool_options o) pools h z.pools.fit i s there

  known : of_pool s.pool k ≡ ws
  known = failed-here m s.pool c at e h

  abbrev said : Complaint
  said = record { pool = s.pool; address = s.address; connection = c; phase = establishing at; error = e }

  said-is : complaint_of k act ≡ Some said
  said-is = ap (in_handshake c at e) (home-numbered o pools h z.pools.fit i s there)

  abbrev current-by : Bool → Bool → Bool
  current-by here timely = not (is_incompatible e.kind) && (here && (may_tell (known_version (server_at s.address t.servers)) e.topology_version && timely))

  current-is : is_current o k t said ≡ regards_now w s c at e
  current-is =
      ap (λ ys. current-by (is_number (open_pool k s.address) s.pool) (is_of_generation o ys c (establishing at))) known
      ∙ (ap (current-by (is_number (open_pool k s.address) s.pool)) (timely-is o s xs fits c live at)
      ∙ ap (λ y. current-by (is_number y s.pool) (is_timely o.load_balanced s c at)) (z.pools.fit.open_are s.address))

  -- the trouble of the row
  abbrev pub met : Case → Trouble
  met row = record { row = row; pool = s.pool; address = s.address; error = e; wire = unwrap_or (wire_now s c) (pos 0); service = service_in at }

  abbrev met-of : Option Case → Option Trouble
  met-of None = None
  met-of (Some row) = Some (met row)

  met-row : (y : Option Case) → current_trouble k said y ≡ met-of y
  met-row None = refl
  met-row (Some row) =
      let wired : wire_of (of_pool s.pool k) c ≡ wire_now s c = ap (λ ys. wire_of ys c) known ∙ wire-is s xs fits c live in
      let served : service_of (of_pool s.pool k) c ≡ service_in at = ap (λ ys. service_of ys c) known ∙ rw (same-number c) refl in
      rw (wired, served) refl

  -- a current error of a row is its trouble
  pub failed-told : (row : Case) → regards_now w s c at e ≡ true → case_of (establishing at) e ≡ Some row → trouble_of o k t act ≡ Some (met row)
  failed-told row current case =
      ap (complaint_trouble o k t) said-is
      ∙ (ap (λ b. if b then current_trouble k said (case_of (establishing at) e) else None) (current-is ∙ current)
      ∙ (ap (current_trouble k said) case ∙ met-row (Some row)))

  -- and no other is one
  pub failed-none : regards_now w s c at e && is_some (case_of (establishing at) e) ≡ false → trouble_of o k t act ≡ None
  failed-none none = ap (complaint_trouble o k t) said-is ∙ (ap (λ b. if b then current_trouble k said (case_of (establishing at) e) else None) current-is ∙ on (regards_now w s c at e) (case_of (establishing at) e) none)
    where
      on : (b : Bool) (y : Option Case) → b && is_some y ≡ false → (if b then current_trouble k said y else None) ≡ None
      on false y f = refl
      on true None f = refl
      on true (Some row) f = cc

  -- the pool of a current one is the open one of its address
  pub failed-place : regards_now w s c at e ≡ true → at_address pools s.address ≡ Some i
  failed-place current =
      let first = both-true (not (is_incompatible e.kind)) (is_here_among pools s.address s.pool && (may_tell (known_version (server_at s.address t.servers)) e.topology_version && is_timely o.load_balanced s c at)) current in
      let second = both-true (is_here_among pools s.address s.pool) (may_tell (known_version (server_at s.address t.servers)) e.topology_version && is_timely o.load_balanced s c at) first.1 in
      on (at_address pools s.address) refl second.0
    where
      on : (y : Option ℕ) → at_address pools s.address ≡ y → is_here_among pools s.address s.pool ≡ true → at_address pools s.address ≡ Some i
      on None f g = let w2 : is_here_among pools s.address s.pool ≡ false = rw f refl in let t2 : true ≡ false = sym g ∙ w2 in cc
      on (Some q) f g = let w2 : (q == s.pool) ≡ true = sym (rw f refl) ∙ g in let n : q ≡ s.pool = grind arith in f ∙ ap Some (n ∙ number-at (pool_options o) pools h z.pools.fit i s there)

-- the row of an error about a pending connection
pub data Row (at : FailedAt) (e : Error) : Type 0 where
  changes : is_state_change e.kind ≡ true → case_of (establishing at) e ≡ Some state_change → Row at e
  loses : is_state_change e.kind ≡ false → case_of (establishing at) e ≡ Some lost → Row at e

pub row-of : (at : FailedAt) (e : Error) → is_some (case_of (establishing at) e) ≡ true → Row at e
row-of at e row = on (is_state_change e.kind) (is_loss (establishing at) e) refl refl
  where
    on : (b d : Bool) → is_state_change e.kind ≡ b → is_loss (establishing at) e ≡ d → Row at e
    on true d f g = changes f (rw f refl)
    on false true f g = loses f (rw (f, g) refl)
    on false false f g = let no : is_some (case_of (establishing at) e) ≡ false = rw (f, g) refl in let t : true ≡ false = sym row ∙ no in cc
