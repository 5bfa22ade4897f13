-- The opening of a driver opens a pool for each seed, and does nothing else to pools.
use Rattle.std.specs.Prelude.{not, ◌||◌, nat_lt, unwrap_or}
use Rattle.std.proofs.Common.{◌≡◌, ◌==◌, ◌-◌, ◌&&◌, Bool, true, false, is_some, List, [], ◌∷◌, ◌++◌, length, None, refl, sym, ◌∙◌, ap, subst, arith, append-nil}
use Rattle.mdb_base.specs.OptionRules.{are_seeds, is_size, first_broken, broken_rule}
use Rattle.mdb_base.specs.declared.options.BadOption.{BadOption}
use Rattle.mdb_base.specs.declared.options.BadOption.TheVariants as Bad
use Rattle.mdb_base.specs.declared.address.ServerAddress.{ServerAddress}
use Rattle.mdb_base.specs.declared.options.Options.{Options}
use Rattle.mdb_describe.specs.Differences.{difference}
use Rattle.mdb_describe.specs.Servers.{in_order}
use Rattle.mdb_describe.specs.Topology.{opened}
use Rattle.mdb_describe.proofs.InOrder.{added_in_order}
use Rattle.mdb_events.specs.declared.fact.Fact.{Fact}
use Rattle.mdb_log.specs.declared.step.Act.TheVariants.{Open}
use Rattle.mdb_log.specs.History.{Item, with_facts}
use Rattle.mdb_describe.proofs.Addresses.{own-address}
use Rattle.mdb_driver_rules.specs.Homes.{begun}
use Rattle.mdb_topology.specs.Logging.{opening_step}
use Rattle.mdb_driver_rules.specs.Turns.{in_turn}
use Rattle.mdb_driver_rules.specs.Description.{begins_with, unopened, description_of}
use Rattle.mdb_driver_rules.specs.Publishing.{publication, topology_opening, opening}
use Rattle.mdb_driver_rules.specs.Facts.{step_facts, serve_all}
use Rattle.mdb_driver_rules.proofs.LeavesAsItIs.{turn-append}
use Rattle.mdb_topology.proofs.WholeSteps.CheckThenRule.{told-first}
use Rattle.mdb_laws.specs.Causes.{marks_of, changes, caused}
use Rattle.mdb_laws.proofs.Marks.{marks-append, out-marks}
use Rattle.mdb_laws.proofs.Published.{IsSound, IsFresh, says-published}
use Rattle.mdb_laws.proofs.Rules.{same-servers}
use Rattle.mdb_laws.proofs.Said.{servings-out}
use Rattle.mdb_log.specs.Homes.{homes}

-- before the opening no pool is open, and no server known
pub nothing-sound : (o : Options) → IsSound o (description_of o []) []
nothing-sound o = record { alone = λ a b p e f. cc; unclosed = λ a p e. cc; open_for = λ a. refl; ordered = refl }

-- none of the rules is broken
skip : (b : Bool) (why : BadOption) (rules : List (Bool × BadOption)) → first_broken ((b, why) ∷ rules) ≡ None → (b ≡ false) × (first_broken rules ≡ None)
skip true why rules e = cc
skip false why rules e = (refl, e)

-- behind a load balancer there is one seed
module _ (o : Options) where
  abbrev later_rules : List (Bool × BadOption)
  later_rules =
      (o.direct && o.load_balanced, Bad.DirectAndBalanced) ∷
      (o.load_balanced && is_some o.set_name, Bad.SetName) ∷
      (not (is_size o.max_pool_size 1 && is_size o.max_connecting 1), Bad.MaxOrConnecting) ∷
      (not (is_size o.min_pool_size 0), Bad.Min) ∷
      (nat_lt (unwrap_or o.limit_pool 4294967295) (length o.seeds - 1), Bad.PoolLimit) ∷ []

  abbrev rules_from : List (Bool × BadOption)
  rules_from = ((o.direct || o.load_balanced) && not (length o.seeds == 1), Bad.OneSeed) ∷ later_rules

  one-seed : broken_rule o ≡ None → o.load_balanced ≡ true → (length o.seeds == 1) ≡ true
  one-seed kept balanced =
      let first : (not (are_seeds o.seeds) ≡ false) × (first_broken rules_from ≡ None) = skip (not (are_seeds o.seeds)) Bad.Seeds rules_from kept in
      let second : ((o.direct || o.load_balanced) && not (length o.seeds == 1) ≡ false) × (first_broken later_rules ≡ None) = skip ((o.direct || o.load_balanced) && not (length o.seeds == 1)) Bad.OneSeed later_rules first.1 in
      on o.direct (length o.seeds == 1) second.0
    where
      on : (d k : Bool) → (d || o.load_balanced) && not k ≡ false → k ≡ true
      on d true f = refl
      on true false f = cc
      on false false f = let w : (false || o.load_balanced) && not false ≡ true = rw balanced refl in let t : true ≡ false = sym w ∙ f in cc

-- the options of one seed behind a load balancer
abbrev balanced_options : Options → ServerAddress → Options
balanced_options q a = record q { seeds = a ∷ []; load_balanced = true }

-- what the opening tells, and what it causes
abbrev told : Options → List Fact
told o = in_turn 0 (opening o 0 o) (begun [] (opening_step o))

abbrev Right : Options → Type 0
Right o = marks_of (told o) ≡ changes o [] (begins_with o) (difference [] (begins_with o).servers)

balanced-right : (a : ServerAddress) (q : Options) → Right (balanced_options q a)
balanced-right a q = rw (own-address a, own-address a, own-address a, own-address a, own-address a, own-address a) refl

module _ (o : Options) where
  abbrev k0 : List Item
  k0 = begun [] (opening_step o)

  abbrev k1 : List Item
  k1 = with_facts 0 (topology_opening o k0) k0

  abbrev A : List (List Item → List Fact)
  A = publication o 0 (unopened o) (opened o)

  abbrev B : List (List Item → List Fact)
  B = publication o 0 (opened o) (begins_with o)

  ordered : in_order (opened o).servers ≡ true
  ordered = added_in_order o.seeds [] refl

  fresh : IsFresh o [] k1
  fresh = record { below = λ a p e. e; seen = λ a p e. cc; same = refl }

  first-says : marks_of (in_turn 0 A k1) ≡ changes o [] (opened o) (difference [] (opened o).servers)
  first-says = says-published o 0 [] (unopened o) (opened o) (nothing-sound o) ordered k1 fresh

  plain-right : o.load_balanced ≡ false → Right o
  plain-right e =
      let same : begins_with o ≡ opened o = rw e refl in
      let none : in_turn 0 B (with_facts 0 (in_turn 0 A k1) k1) ≡ [] = rw (same, same-servers (opened o).servers ordered) refl in
      ap marks_of (turn-append 0 A B k1) ∙ (ap (λ fs. marks_of (in_turn 0 A k1 ++ fs)) none ∙ (ap marks_of (append-nil (in_turn 0 A k1)) ∙ rw same first-says))

  seeded : (xs : List ServerAddress) → o.seeds ≡ xs → o.load_balanced ≡ true → (length o.seeds == 1) ≡ true → Right o
  seeded [] e balanced one = let w : (length o.seeds == 1) ≡ false = rw e refl in let t : true ≡ false = sym one ∙ w in cc
  seeded (a ∷ b ∷ more) e balanced one = let w : (length o.seeds == 1) ≡ false = rw e (grind arith) in let t : true ≡ false = sym one ∙ w in cc
  seeded (a ∷ []) e balanced one =
      let same : balanced_options o a ≡ o = ap (λ s. record o { seeds = s; load_balanced = true }) (sym e) ∙ ap (λ b. record o { seeds = o.seeds; load_balanced = b }) (sym balanced) in
      subst Right same (balanced-right a o)

  right : broken_rule o ≡ None → Right o
  right kept = on o.load_balanced refl
    where
      on : (b : Bool) → o.load_balanced ≡ b → Right o
      on true e = seeded o.seeds refl e (one-seed o kept e)
      on false e = plain-right e

  abbrev k : List Item
  k = with_facts 0 (told o) k0

  -- nobody is served
  serves : marks_of (serve_all o 0 k) ≡ []
  serves = out-marks (serve_all o 0 k) (servings-out o 0 k (homes k))

  pub opening-marks : broken_rule o ≡ None → marks_of (step_facts o [] (opening_step o)) ≡ caused o [] (opening_step o)
  opening-marks kept =
      let rest : marks_of (serve_all o 0 k ++ []) ≡ [] = ap marks_of (append-nil (serve_all o 0 k)) ∙ serves in
      let both : marks_of (told o ++ (serve_all o 0 k ++ [])) ≡ marks_of (told o) ++ [] = marks-append (told o) (serve_all o 0 k ++ []) ∙ ap (λ ms. marks_of (told o) ++ ms) rest in
      ap marks_of (told-first o [] 0 (Open o)) ∙ (both ∙ ap (λ ms. ms ++ []) (right kept))
