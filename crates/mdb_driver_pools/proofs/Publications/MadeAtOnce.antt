-- A publication whose changes are made at once.
use Rattle.std.proofs.Common.{ℕ, ◌≡◌, ◌+◌, ◌≤◌, ◌&&◌, ◌||◌, Bool, true, false, not, if◌then◌else◌, List, [], ◌∷◌, ◌++◌, length, map, Some, None, is_some, refl, sym, ◌∙◌, ap, subst, arith, length-append}
use Rattle.std.specs.Prelude.{All}
use Rattle.std.proofs.lemmas.List.{length-map}
use Rattle.mdb_base.specs.declared.address.ServerAddress.{ServerAddress}
use Rattle.mdb_base.specs.declared.options.Options.{Options}
use Rattle.mdb_describe.specs.declared.description.ServerDescription.{ServerDescription}
use Rattle.mdb_describe.specs.declared.topology.TopologyDescription.{TopologyDescription}
use Rattle.mdb_describe.specs.declared.diff.Diff.{Diff}
use Rattle.mdb_describe.specs.Differences.{changed, missing, is_empty, difference, are_in_both}
use Rattle.mdb_describe.specs.Servers.{is_known, is_listed}
use Rattle.mdb_events.specs.declared.fact.Fact.{Fact}
use Rattle.mdb_log.specs.History.{Item}
use Rattle.mdb_log.specs.Homes.{Home}
use Rattle.mdb_log.specs.Opening.{pool_options}
use Rattle.mdb_log.specs.declared.options.PoolOptions.{PoolOptions}
use Rattle.mdb_pool_rules.specs.Serving.{IsServed}
use Rattle.mdb_pool.specs.Core.{PoolCore}
use Rattle.mdb_pool.specs.Now.{last_now}
use Rattle.mdb_driver_pools.specs.declared.pool_change.PoolChange.{PoolChange}
use Rattle.mdb_driver_pools.specs.Opening.{Publishes}
use Rattle.mdb_driver_pools.specs.Planned.{LeadsAll, CanTake, PlansMore, opened_by}
use Rattle.mdb_driver_rules.specs.Publishing.{telling, publication}
use Rattle.mdb_driver_pools.specs.Standing.{home, at_address, PoolsStand}
use Rattle.mdb_driver_pools.specs.Telling.{Tells}
use Rattle.mdb_driver_rules.specs.Touching.{touches}
use Rattle.mdb_driver_rules.proofs.ServersThen.{known-now, of-difference}
use Rattle.mdb_driver_pools.proofs.Publications.PlannedWhole.{known-then}
use Rattle.mdb_driver_pools.proofs.PartsInTurn.{tells-none}
use Rattle.mdb_driver_rules.proofs.General.Truth.{and-or-same}

abbrev whole : TopologyDescription → TopologyDescription → Diff
whole t u = record { changed = changed t.servers u.servers; removed = missing t.servers u.servers; added = missing u.servers t.servers }

length-missing : (servers others : List ServerDescription) → length (missing servers others) ≤ length servers
length-missing [] others = omega arith
length-missing (s ∷ servers) others = on (is_known s.address others) refl (length-missing servers others)
  where
    on : (b : Bool) → is_known s.address others ≡ b → length (missing servers others) ≤ length servers → length (missing (s ∷ servers) others) ≤ length (s ∷ servers)
    on true e deeper = rw e (omega arith)
    on false e deeper = rw e (omega arith)

-- at most as many come as there then are
pub few-added : (t u : TopologyDescription) (d : Diff) → difference t.servers u.servers ≡ Some d → length d.added ≤ length u.servers
few-added t u d different =
    let same : whole t u ≡ d = of-difference (whole t u) d different in
    subst (λ (x : Diff). length x.added ≤ length u.servers) same (length-missing u.servers t.servers)

-- on the pools that they were planned on changes can be made
pub can-now : (m : ℕ) (pools : List PoolCore) (touched : ServerAddress → Bool) → All (λ s. last_now s ≤ m) pools → CanTake m pools pools (length pools) touched
can-now m pools touched early = record { agrees = λ a e. (refl, λ i f. refl); count = refl; early = early }

pub publishes : (o : Options) (m : ℕ) (t u : TopologyDescription) (d : Diff) (pools later : List PoolCore) (changes : List PoolChange) (before after : List Fact)
    → difference t.servers u.servers ≡ Some d → are_in_both t.servers u.servers d.changed ≡ true → All (λ s. last_now s ≤ m) pools → ((a : ServerAddress) → is_some (at_address pools a) ≡ is_known a t.servers)
    → PlansMore o m pools (length pools) (touches u d) (publication o m t u) d.removed d.added [] changes before after → LeadsAll changes pools later → Publishes o m t u pools later before after
publishes o m t u d pools later changes before after different in_both early known p l =
    let can : CanTake m pools pools (length pools) (touches u d) = can-now m pools (touches u d) early in
    let leads : LeadsAll p.added pools later = subst (λ (xs : List PoolChange). LeadsAll xs pools later) p.behind l in
    let address : Home → ServerAddress = λ x. x.address in
    let e1 : length (map home later) ≡ length later = length-map later home in
    let e2 : length (map home pools) ≡ length pools = length-map pools home in
    let e3 : length (map home later) ≡ length (map home pools ++ opened_by p.added) = ap length (p.planned_are.homes pools later can leads) in
    let e4 : length (map home pools ++ opened_by p.added) ≡ length (map home pools) + length (opened_by p.added) = length-append (map home pools) (opened_by p.added) in
    let e5 : length (map address (opened_by p.added)) ≡ length (opened_by p.added) = length-map (opened_by p.added) address in
    let e6 : length (map address (opened_by p.added)) ≡ length d.added = ap length p.opens in
    let e7 : length d.added ≤ length u.servers = few-added t u d different in
    record {
      tells = p.planned_are.tells pools later can leads;
      early = p.planned_are.early pools later can leads;
      open_for = λ k z a. known-then t u d different in_both o m pools (length pools) (touches u d) p.added p.leaves pools later k can leads z known a;
      count = omega arith;
    }

none-left : (xs : List ServerAddress) → is_empty xs ≡ true → xs ≡ []
none-left [] e = refl
none-left (x ∷ xs) e = cc

both-empty : (p q r : Bool) → p && (q && r) ≡ true → (q ≡ true) × (r ≡ true)
both-empty true true true e = (refl, refl)
both-empty true true false e = cc
both-empty true false r e = cc
both-empty false q r e = cc

-- where nothing differs nothing is done
pub publishes-nothing : (o : Options) (m : ℕ) (t u : TopologyDescription) (pools : List PoolCore) (facts : List Fact)
    → difference t.servers u.servers ≡ None → All (λ s. last_now s ≤ m) pools → ((a : ServerAddress) → is_some (at_address pools a) ≡ is_known a t.servers) → Publishes o m t u pools pools facts facts
publishes-nothing o m t u pools facts same early known = record {
  tells = subst (λ (parts : List (List Item → List Fact)). Tells o m parts pools pools facts facts) (sym (ap (telling o m t u) same)) (tells-none o m pools facts);
  early = early;
  open_for = λ k z a. known a ∙ stays a;
  count = omega arith;
}
  where
    empty : (b : Bool) → (if b then None else Some (whole t u)) ≡ None → b ≡ true
    empty true e = refl
    empty false e = cc

    empties : (is_empty (missing t.servers u.servers) ≡ true) × (is_empty (missing u.servers t.servers) ≡ true)
    empties = both-empty (is_empty (changed t.servers u.servers)) (is_empty (missing t.servers u.servers)) (is_empty (missing u.servers t.servers))
        (empty (is_empty (changed t.servers u.servers) && (is_empty (missing t.servers u.servers) && is_empty (missing u.servers t.servers))) same)

    stays : (a : ServerAddress) → is_known a t.servers ≡ is_known a u.servers
    stays a =
        let r : missing t.servers u.servers ≡ [] = none-left (missing t.servers u.servers) empties.0 in
        let s : missing u.servers t.servers ≡ [] = none-left (missing u.servers t.servers) empties.1 in
        sym (and-or-same (is_known a t.servers)) ∙ (ap (λ xs. (is_known a t.servers && not (is_listed xs a)) || false) (sym r)
        ∙ (ap (λ xs. (is_known a t.servers && not (is_listed (missing t.servers u.servers) a)) || is_listed xs a) (sym s) ∙ known-now a t.servers u.servers))

empty-served : (o : PoolOptions) → IsServed o []
empty-served o p a n = refl

-- no pool stands for no history
pub empty-stand : (o : Options) → PoolsStand (pool_options o) [] []
empty-stand o = record {
  fit = record {
    each = λ p s e. cc;
    rest = λ p e. refl;
    homes_are = refl;
    open_are = λ a. refl;
    single = λ a p q s t e f g h. cc;
    names = λ r. refl;
    apart = λ r p q s t e f g h. cc;
    requested = λ r. refl;
    opens = λ r. refl;
    noted = λ p s r e f. cc;
    claims = λ p s c e. cc;
    unclaimed = λ p c e. refl;
  };
  served = λ p. empty-served (pool_options o);
  quiet = λ p f. refl;
  within = λ p. record { pending = omega arith; live = omega arith };
}
