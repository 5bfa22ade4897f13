-- A server is marked Unknown: what is told of it, with the clear of its pool and what its monitor is asked.
use Rattle.std.proofs.Common.{ℕ, ◌≡◌, ◌≤◌, ◌+◌, ◌^◌, ◌&&◌, ◌||◌, Bool, true, false, List, [], ◌∷◌, ◌++◌, map, length, Option, Some, None, is_some, refl, sym, ◌∙◌, ap, subst, append-nil, arith}
use Rattle.std.proofs.lemmas.List.{append_assoc}
use Rattle.mdb_base.specs.Equality.{same_address}
use Rattle.mdb_base.specs.declared.address.ServerAddress.{ServerAddress}
use Rattle.mdb_base.specs.declared.error.Error.{Error}
use Rattle.mdb_base.specs.declared.options.Options.{Options}
use Rattle.mdb_describe.specs.declared.topology.TopologyDescription.{TopologyDescription}
use Rattle.mdb_describe.specs.declared.diff.Diff.{Diff}
use Rattle.mdb_describe.specs.Descriptions.{failed}
use Rattle.mdb_describe.specs.Differences.{difference}
use Rattle.mdb_describe.specs.Servers.{is_known}
use Rattle.mdb_describe.specs.Update.{updated}
use Rattle.mdb_events.specs.declared.fact.Fact.{Fact}
use Rattle.mdb_log.specs.History.{Item}
use Rattle.mdb_log.specs.Homes.{Home}
use Rattle.mdb_log.specs.Opening.{pool_options}
use Rattle.mdb_describe.proofs.Addresses.{same-address}
use Rattle.mdb_pool.specs.Core.{PoolCore}
use Rattle.mdb_driver_pools.specs.declared.pool_change.PoolChange.{PoolChange}
use Rattle.mdb_driver_pools.specs.declared.trouble.Asked.{Asked}
use Rattle.mdb_driver_pools.specs.declared.trouble.Asked.TheVariants.{Nothing, CheckNow, CancelIfCleared}
use Rattle.mdb_topology.specs.declared.topology.TopologyCore.{TopologyCore}
use Rattle.mdb_topology.specs.Changing.{IsTold}
use Rattle.mdb_driver_rules.specs.Errors.{Trouble, Clear, nothing, whole, where_so}
use Rattle.mdb_driver_rules.specs.Facts.{clear_by, clearing, asking}
use Rattle.mdb_topology.specs.Marking.{IsOfPool, after_trouble}
use Rattle.mdb_driver_pools.specs.Clearing.{Clears, asked_of}
use Rattle.mdb_driver_pools.specs.Planned.{LeadsAll, PlansMore, IsPlanned, opened_by}
use Rattle.mdb_driver_rules.specs.Publishing.{telling, publication}
use Rattle.mdb_topology.specs.Standing.{StandsForSome}
use Rattle.mdb_driver_pools.specs.Standing.{at_address, PoolsStand}
use Rattle.mdb_driver_pools.specs.Telling.{Comes}
use Rattle.mdb_driver_rules.specs.Touching.{touches, touched_by}
use Rattle.mdb_topology.proofs.Marks.ClearsPool.{plans-clear}
use Rattle.mdb_topology.proofs.Publications.OfDifference.{open-known}
use Rattle.mdb_driver_rules.proofs.StaysKnown.{marked-known, none-gone, none-come, untouched}
use Rattle.mdb_driver_rules.proofs.General.Truth.{and-or-same}
use Rattle.mdb_driver_pools.proofs.Publications.PlannedInTurn.{plans-then}
use Rattle.mdb_driver_pools.proofs.Publications.PlannedPart.{leaves-still}
use Rattle.mdb_driver_pools.proofs.Publications.PlannedOfServer.{plans-still}
use Rattle.mdb_driver_pools.proofs.PartsInTurn.{comes-as, comes-none, comes-calm}

pub no-address : (xs : List Home) → map (λ (x : Home). x.address) xs ≡ [] → xs ≡ []
no-address [] e = refl
no-address (x ∷ xs) e = cc

-- what the monitor is asked is of no pool
asked-comes : (o : Options) (m : ℕ) (asked : Asked) (b : Bool) (a : ServerAddress) (pools : List PoolCore) (before after : List Fact) (k : List Item) → after ≡ before ++ asked_of asked b a → PoolsStand (pool_options o) pools k
    → Comes o m (asked_of asked b a) pools before after k
asked-comes o m Nothing b a pools before after k e z = subst (λ fs. Comes o m [] pools before fs k) (sym (e ∙ append-nil before)) (comes-none o m pools before k z)
asked-comes o m CheckNow b a pools before after k e z = comes-calm o m pools before after _ k tt e z
asked-comes o m CancelIfCleared true a pools before after k e z = comes-calm o m pools before after _ k tt e z
asked-comes o m CancelIfCleared false a pools before after k e z = subst (λ fs. Comes o m [] pools before fs k) (sym (e ∙ append-nil before)) (comes-none o m pools before k z)

module _ (w : TopologyCore) (st : StandsForSome w) (m : ℕ) (a : ServerAddress) (error : Error) where
  abbrev o : Options
  o = w.options

  abbrev t : TopologyDescription
  t = w.description

  abbrev u : TopologyDescription
  u = updated t (failed a error)

  abbrev pools : List PoolCore
  pools = w.pools.cores.items

  abbrev n : ℕ
  n = length pools

  -- the publication of the mark, which closes and opens no pool
  pub mark-published : (d : Diff) (changes : List PoolChange) (before after : List Fact) → difference t.servers u.servers ≡ Some d
      → PlansMore o m pools n (touches u d) (publication o m t u) d.removed d.added [] changes before after
      → PlansMore o m pools n (touches u d) (telling o m t u (Some d)) [] [] [] changes before after
  mark-published d changes before after e p =
      subst (λ xs. PlansMore o m pools n (touches u d) (telling o m t u (Some d)) [] xs [] changes before after) (none-come a error t d e)
      (subst (λ xs. PlansMore o m pools n (touches u d) (telling o m t u (Some d)) xs d.added [] changes before after) (none-gone a error t d e)
      (subst (λ y. PlansMore o m pools n (touches u d) (telling o m t u y) d.removed d.added [] changes before after) e p))

  pub mark-planned : (later : TopologyDescription) (y : Option Diff) (d : Diff) (changes : List PoolChange) (before after : List Fact) → later ≡ u → y ≡ Some d → difference t.servers later.servers ≡ y
      → PlansMore o m pools n (touches later d) (publication o m t later) d.removed d.added [] changes before after
      → PlansMore o m pools n (touched_by later y) (telling o m t later y) [] [] [] changes before after
  mark-planned later y d changes before after e f g p =
      subst (λ v. PlansMore o m pools n (touched_by v y) (telling o m t v y) [] [] [] changes before after) (sym e)
      (subst (λ q. PlansMore o m pools n (touched_by u q) (telling o m t u q) [] [] [] changes before after) (sym f)
      (mark-published d changes before after (ap (λ (v : TopologyDescription). difference t.servers v.servers) (sym e) ∙ (g ∙ f))
      (subst (λ v. PlansMore o m pools n (touches v d) (publication o m t v) d.removed d.added [] changes before after) e p)))

  pub mark-few : (later : TopologyDescription) (y : Option Diff) (d : Diff) → later ≡ u → y ≡ Some d → difference t.servers later.servers ≡ y → n + length d.added ≤ 2 ^ 32
  mark-few later y d e f g =
      let none : length d.added ≡ 0 = ap length (none-come a error t d (ap (λ (v : TopologyDescription). difference t.servers v.servers) (sym e) ∙ (g ∙ f))) in
      let all : n ≤ 2 ^ 32 = st.1.numbers in
      omega arith

  module _ (i : ℕ) (here : at_address pools a ≡ Some i) (d : Option Diff) (differs : difference t.servers u.servers ≡ d) where
    known-here : is_known a t.servers ≡ true
    known-here = sym (open-known w st a) ∙ ap is_some here

    pub away : touched_by u d a ≡ false
    away = untouched a error t known-here st.1.described.ordered d differs

    abbrev touched : ServerAddress → Bool
    touched b = touched_by u d b || same_address a b

    apart : (b : ServerAddress) → same_address a b ≡ true → touched_by u d b ≡ false
    apart b e = ap (touched_by u d) (sym (same-address a b e)) ∙ away

    or-first : (b : ServerAddress) → touched_by u d b ≡ true → touched b ≡ true
    or-first b e = rw e refl

    or-second : (b : ServerAddress) → same_address a b ≡ true → touched b ≡ true
    or-second b e = on (touched_by u d b)
      where
        on : (c : Bool) → c || same_address a b ≡ true
        on true = refl
        on false = e

    module _ (x : Trouble) (clears : Bool) (asked : Asked) (of : IsOfPool o x i a error clears asked) where
      abbrev c : Clear
      c = where_so (is_some d && clears) whole

      abbrev parts_of : Option Diff → Clear → List (List Item → List Fact)
      parts_of y c = telling o m t u y ++ clearing o m (Some x) c ∷ asking o (Some x) c ∷ []

      pub parts-are : publication o m t u ++ after_trouble o m t u x ≡ parts_of d c
      parts-are = ap (λ y. parts_of y (clear_by o (is_some y) (Some x))) differs ∙ ap (parts_of d) (of.clear (is_some d))

      module _ (changes later : List PoolChange) (facts between after : List Fact)
          (p : PlansMore o m pools n (touched_by u d) (telling o m t u d) [] [] [] changes [] facts) (cleared : Clears (is_some d && clears) pools i m None error changes later facts between)
          (told : after ≡ between ++ asked_of asked (is_some d && clears) a) where
        -- the clear
        clear-planned : PlansMore o m pools n (same_address a) (clearing o m (Some x) c ∷ []) [] [] changes later facts between
        clear-planned = on (is_some d && clears) cleared
          where
            on : (b : Bool) → Clears b pools i m None error changes later facts between → PlansMore o m pools n (same_address a) (clearing o m (Some x) (where_so b whole) ∷ []) [] [] changes later facts between
            on true e =
                let number : e.0.pool.pool ≡ i = (st.1.pools.fit.each i e.0.pool e.0.there).number in
                plans-clear o m pools n changes later a i None error facts between here e.0 x (of.pool ∙ sym number) of.address of.error_is
            on false e =
                plans-still o m pools n changes later (same_address a) (clearing o m (Some x) nothing) [] facts between e.0 (leaves-still o m pools n (same_address a))
                (λ now z k y. subst (λ fs. Comes o m [] now facts fs k) (sym e.1) (comes-none o m now facts k y))

        -- what is asked
        ask-planned : PlansMore o m pools n (λ b. false) (asking o (Some x) c ∷ []) [] [] later later between after
        ask-planned =
            plans-still o m pools n later later (λ b. false) (asking o (Some x) c) [] between after refl (leaves-still o m pools n (λ b. false))
            (λ now z k y. comes-as o m (asking o (Some x) c k) (asked_of asked (is_some d && clears) a) now between after k (sym (of.asks_are (is_some d && clears))) (asked-comes o m asked (is_some d && clears) a now between after k told y))

        all-planned : PlansMore o m pools n touched (parts_of d c) [] [] [] later [] after
        all-planned =
            subst (λ ps. PlansMore o m pools n touched ps [] [] [] later [] after) (append_assoc (telling o m t u d) (clearing o m (Some x) c ∷ []) (asking o (Some x) c ∷ []))
            (plans-then o m pools n n touched (λ b. false) touched (telling o m t u d ++ clearing o m (Some x) c ∷ []) (asking o (Some x) c ∷ []) [] [] [] [] [] later later [] between after
            (omega arith) (λ b e. cc) (λ b e. cc) (λ b e. e) (λ b e. cc)
            (plans-then o m pools n n (touched_by u d) (same_address a) touched (telling o m t u d) (clearing o m (Some x) c ∷ []) [] [] [] [] [] changes later [] facts between
            (omega arith) (λ b e. cc) apart or-first or-second p clear-planned)
            ask-planned)

        -- no pool is opened
        pub opens-none : opened_by later ≡ []
        opens-none = ap opened_by all-planned.behind ∙ no-address (opened_by all-planned.added) all-planned.opens

        pub mark-told : IsTold o m pools n u (publication o m t u ++ after_trouble o m t u x) later after
        mark-told = record {
          touched = touched;
          planned =
              subst (λ ps. IsPlanned o m pools n touched ps later [] after) (sym parts-are)
              (subst (λ cs. IsPlanned o m pools n touched (parts_of d c) cs [] after) (sym all-planned.behind) all-planned.planned_are);
          few = let count : length (opened_by later) ≡ 0 = ap length opens-none in let all : n ≤ 2 ^ 32 = st.1.numbers in omega arith;
          open_for = λ others k can leads z b.
              all-planned.leaves pools others k b can (subst (λ cs. LeadsAll cs pools others) all-planned.behind leads) z
              ∙ (and-or-same (is_some (at_address pools b)) ∙ (open-known w st b ∙ sym (marked-known a error t b)));
        }
