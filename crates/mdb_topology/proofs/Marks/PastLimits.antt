-- What a mark takes past a limit: the generation of the pool that it clears, and nothing else.
use Rattle.std.proofs.Common.{ℕ, ◌≡◌, ◌&&◌, Bool, true, false, if◌then◌else◌, List, [], ◌∷◌, ◌++◌, Option, Some, None, is_some, refl, sym, ◌∙◌, ap, subst}
use Rattle.std.specs.Prelude.{slice_get}
use Rattle.mdb_base.specs.declared.address.ServerAddress.{ServerAddress}
use Rattle.mdb_base.specs.declared.error.Error.{Error}
use Rattle.mdb_base.specs.declared.options.Options.{Options}
use Rattle.mdb_describe.specs.declared.topology.TopologyDescription.{TopologyDescription}
use Rattle.mdb_describe.specs.declared.diff.Diff.{Diff}
use Rattle.mdb_describe.specs.Descriptions.{failed}
use Rattle.mdb_describe.specs.Differences.{difference}
use Rattle.mdb_describe.specs.Update.{updated}
use Rattle.mdb_events.specs.declared.fact.Fact.{Fact}
use Rattle.mdb_log.specs.declared.reply.What.{What}
use Rattle.mdb_log.specs.declared.reply.What.TheVariants.{Generation}
use Rattle.mdb_log.specs.History.{Item, of_pool, with_facts}
use Rattle.mdb_log.specs.Opening.{pool_options}
use Rattle.mdb_pool.specs.Core.{PoolCore}
use Rattle.mdb_pool_rules.specs.Facts.{clear_facts}
use Rattle.mdb_pool.specs.Now.{exhausted_now}
use Rattle.mdb_pool_rules.specs.Refusal.{is_exhausted}
use Rattle.mdb_pool.specs.Standing.{Fits}
use Rattle.mdb_pool.proofs.Told.OfQueries.{exhausted-is}
use Rattle.mdb_driver_pools.specs.declared.trouble.Asked.{Asked}
use Rattle.mdb_driver_pools.specs.declared.trouble.Asked.TheVariants.{Nothing, CheckNow, CancelIfCleared}
use Rattle.mdb_topology.specs.declared.topology.TopologyCore.{TopologyCore}
use Rattle.mdb_driver_rules.specs.Errors.{Trouble, whole, where_so}
use Rattle.mdb_driver_rules.specs.Facts.{clearing, asking}
use Rattle.mdb_topology.specs.Marking.{IsOfPool}
use Rattle.mdb_driver_pools.specs.Clearing.{asked_of}
use Rattle.mdb_driver_rules.specs.Publishing.{telling}
use Rattle.mdb_driver_rules.specs.Refusal.{first_past, sooner}
use Rattle.mdb_topology.specs.Standing.{StandsForSome}
use Rattle.mdb_driver_pools.specs.Standing.{at_address, PoolFits, PoolsStand}
use Rattle.mdb_driver_rules.specs.Turns.{in_turn}
use Rattle.mdb_topology.proofs.Marks.ClearsPool.{past-clear}
use Rattle.mdb_topology.proofs.Publications.OfDifference.{open-known}
use Rattle.mdb_topology.proofs.Failure.FactsOf.{calm-same}
use Rattle.mdb_topology.proofs.Failure.MarkOfNoPool.{Constant, mark-constant}
use Rattle.mdb_driver_rules.proofs.NumbersWithinLimits.{take_numbers, first-free}
use Rattle.mdb_driver_rules.proofs.LeavesAsItIs.{turn-append}
use Rattle.mdb_driver_rules.proofs.FactsPastLimits.{past-append}

-- what a monitor is asked takes no number
asked-free : (asked : Asked) (b : Bool) (a : ServerAddress) → take_numbers (asked_of asked b a ++ []) ≡ false
asked-free Nothing b a = refl
asked-free CheckNow b a = refl
asked-free CancelIfCleared true a = refl
asked-free CancelIfCleared false a = refl

sooner-none : (x : Option What) → sooner x None ≡ x
sooner-none None = refl
sooner-none (Some what) = refl

module _ (w : TopologyCore) (st : StandsForSome w) (m : ℕ) (a : ServerAddress) (error : Error) (k : List Item) (begins : PoolsStand (pool_options w.options) w.pools.cores.items k) where
  abbrev o : Options
  o = w.options

  abbrev t : TopologyDescription
  t = w.description

  abbrev u : TopologyDescription
  u = updated t (failed a error)

  abbrev pools : List PoolCore
  pools = w.pools.cores.items

  module _ (i : ℕ) (here : at_address pools a ≡ Some i) (d : Option Diff) (differs : difference t.servers u.servers ≡ d) (s : PoolCore) (there : slice_get pools i ≡ Some s) where
    -- the publication is of no pool, and takes no number
    told : Constant m (telling o m t u d)
    told = mark-constant a error t (sym (open-known w st a) ∙ ap is_some here) st.1.described.ordered o m d differs

    abbrev j : List Item
    j = with_facts m told.facts k

    -- so the pool of the server is as it was
    known-then : of_pool s.pool j ≡ of_pool s.pool k
    known-then = (calm-same m told.facts k k told.calm (record { items = λ p. refl; homes_are = refl; open_are = λ b. refl; names = λ r. refl; asks = λ r. refl; leaving = λ r. refl; tells = λ r. refl; claims = λ p q. refl })).items s.pool

    fits-then : PoolFits (pool_options o) k i s
    fits-then = begins.fit.each i s there

    exhausted-then : is_exhausted (pool_options o) (of_pool s.pool j) None ≡ exhausted_now s None
    exhausted-then =
        let fits : Fits s (of_pool s.pool k) = subst (λ q. Fits s (of_pool q k)) (sym fits-then.number) fits-then.fits in
        ap (λ xs. is_exhausted (pool_options o) xs None) known-then
        ∙ (ap (λ c. is_exhausted c (of_pool s.pool k) None) (sym fits-then.options) ∙ exhausted-is s (of_pool s.pool k) fits None)

    module _ (x : Trouble) (clears : Bool) (asked : Asked) (of : IsOfPool o x i a error clears asked) where
      abbrev parts_for : Bool → List (List Item → List Fact)
      parts_for b = clearing o m (Some x) (where_so b whole) ∷ asking o (Some x) (where_so b whole) ∷ []

      past-clearing : (b : Bool) → first_past o m j (clearing o m (Some x) (where_so b whole) j) ≡ (if b && exhausted_now s None then Some Generation else None)
      past-clearing false = refl
      past-clearing true =
          ap (λ q. first_past o m j (clear_facts q x.address (pool_options o) m (of_pool q j) None x.error)) (of.pool ∙ sym fits-then.number)
          ∙ (past-clear o m j s.pool x.address x.error None ∙ ap (λ b. if b then Some Generation else None) exhausted-then)

      past-then : (b : Bool) → first_past o m j (in_turn m (parts_for b) j) ≡ first_past o m j (clearing o m (Some x) (where_so b whole) j)
      past-then b =
          let first : List Fact = clearing o m (Some x) (where_so b whole) j in
          let rest : List Fact = asking o (Some x) (where_so b whole) (with_facts m first j) ++ [] in
          let free : take_numbers rest ≡ false = ap (λ fs. take_numbers (fs ++ [])) (of.asks_are b) ∙ asked-free asked b a in
          past-append o m j first rest
          ∙ (ap (sooner (first_past o m j first)) (first-free o m (with_facts m first j) rest free) ∙ sooner-none (first_past o m j first))

      -- a mark passes the limit of the generation, where it clears and the generation is at it
      pub past-mark : (b : Bool) → first_past o m k (in_turn m (telling o m t u d ++ parts_for b) k) ≡ (if b && exhausted_now s None then Some Generation else None)
      past-mark b =
          ap (first_past o m k) (turn-append m (telling o m t u d) (parts_for b) k ∙ ap (λ fs. fs ++ in_turn m (parts_for b) (with_facts m fs k)) (told.same k))
          ∙ (past-append o m k told.facts (in_turn m (parts_for b) j)
          ∙ (ap (λ y. sooner y (first_past o m j (in_turn m (parts_for b) j))) (first-free o m k told.facts told.free)
          ∙ (past-then b ∙ past-clearing b)))
