-- What the mark of a server comes to, with the clear of its pool.
use Rattle.std.proofs.Common.{ℕ, ◌≡◌, ◌≤◌, ◌&&◌, Bool, true, false, if◌then◌else◌, List, [], ◌++◌, length, Option, Some, None, is_some, refl, sym, ◌∙◌, ap}
use Rattle.std.specs.Prelude.{slice_get}
use Rattle.mdb_base.specs.declared.address.ServerAddress.{ServerAddress}
use Rattle.mdb_base.specs.declared.error.Error.{Error}
use Rattle.mdb_base.specs.declared.options.Options.{Options}
use Rattle.mdb_describe.specs.declared.topology.TopologyDescription.{TopologyDescription}
use Rattle.mdb_describe.specs.declared.diff.Diff.{Diff}
use Rattle.mdb_describe.specs.Descriptions.{failed}
use Rattle.mdb_describe.specs.Differences.{difference}
use Rattle.mdb_describe.specs.Update.{updated}
use Rattle.mdb_events.specs.declared.fact.Fact.{Fact}
use Rattle.mdb_log.specs.declared.reply.Refused.{Refused as Cause}
use Rattle.mdb_log.specs.declared.reply.Refused.TheVariants.{Exhausted}
use Rattle.mdb_log.specs.declared.reply.Reply.{Reply}
use Rattle.mdb_log.specs.declared.reply.What.TheVariants.{Generation}
use Rattle.mdb_log.specs.declared.step.Step.{Step}
use Rattle.mdb_log.specs.History.{Item}
use Rattle.mdb_pool.specs.Core.{PoolCore}
use Rattle.mdb_pool.specs.Now.{exhausted_now}
use Rattle.mdb_pool_rules.specs.Refusal.{wrong_service}
use Rattle.mdb_driver_pools.specs.declared.pool_change.PoolChange.{PoolChange}
use Rattle.mdb_driver_pools.specs.declared.trouble.Asked.{Asked}
use Rattle.mdb_topology.specs.declared.topology.TopologyCore.{TopologyCore}
use Rattle.mdb_driver_rules.specs.Errors.{Trouble}
use Rattle.mdb_topology.specs.Marking.{IsOfPool, HasParts, MarkPasses, MarkTold}
use Rattle.mdb_driver_pools.specs.Clearing.{Clears, asked_of}
use Rattle.mdb_driver_pools.specs.Planned.{PlansMore}
use Rattle.mdb_driver_rules.specs.Publishing.{telling}
use Rattle.mdb_driver_rules.specs.Refusal.{first_past}
use Rattle.mdb_topology.specs.Standing.{StandsForSome}
use Rattle.mdb_driver_pools.specs.Standing.{at_address}
use Rattle.mdb_driver_rules.specs.Touching.{touched_by}
use Rattle.mdb_driver_rules.specs.Turns.{in_turn}
use Rattle.mdb_topology.proofs.Marks.PastLimits.{past-mark}
use Rattle.mdb_topology.proofs.Marks.Tells.{parts-are, opens-none, mark-told}
use Rattle.mdb_topology.proofs.Marks.AtItsLimit.{clear-refused, some-place}

-- the same parts with an equal next
pub as-parts : {o : Options} {h : List Item} {t : TopologyDescription} {next later : Option TopologyDescription} {step : Step} {reply told : Reply} {stops ends : Bool} {parts : List (List Item → List Fact)}
    → HasParts o h t next step reply stops parts → later ≡ next → told ≡ reply → ends ≡ stops → HasParts o h t later step told ends parts
as-parts c e f g = record { passes = c.passes; known = c.known ∙ sym e; tells = c.tells; replies = λ z. c.replies z ∙ sym f; stop = c.stop ∙ sym g }

-- where it would be exhausted it would be refused
pub not-exhausted : (b : Bool) → (if b then Some (Exhausted Generation) else None) ≡ None → b ≡ false
not-exhausted true e = cc
not-exhausted false e = refl

pub cause-is : (b : Bool) (why : Cause) → (if b then Some (Exhausted Generation) else None) ≡ Some why → (b ≡ true) × (Exhausted Generation ≡ why)
cause-is true why e = (refl, cc)
cause-is false why e = cc

module _ (w : TopologyCore) (st : StandsForSome w) (m : ℕ) (l : w.pools.last ≤ m) (a : ServerAddress) (error : Error) (x : Trouble) where
  abbrev o : Options
  o = w.options

  abbrev t : TopologyDescription
  t = w.description

  abbrev u : TopologyDescription
  u = updated t (failed a error)

  abbrev pools : List PoolCore
  pools = w.pools.cores.items

  module _ (i : ℕ) (here : at_address pools a ≡ Some i) (d : Option Diff) (differs : difference t.servers u.servers ≡ d) (clears : Bool) (asked : Asked) (of : IsOfPool o x i a error clears asked) where
    -- the limit that the mark passes, or none
    pub mark-passes : (s : PoolCore) → slice_get pools i ≡ Some s → (b : Bool) → (is_some d && clears) && exhausted_now s None ≡ b → MarkPasses w m u x (if b then Some Generation else None)
    mark-passes s there b e k begins =
        ap (λ ps. first_past o m k (in_turn m ps k)) (parts-are w st m a error i here d differs x clears asked of)
        ∙ (past-mark w st m a error k begins i here d differs s there x clears asked of (is_some d && clears) ∙ ap (λ c. if c then Some Generation else None) e)

    module _ (normal : o.load_balanced ≡ false) (changes later : List PoolChange) (facts between : List Fact) (p : PlansMore o m pools (length pools) (touched_by u d) (telling o m t u d) [] [] [] changes [] facts) where
      spare : Clears (is_some d && clears) pools i m None error changes later facts between → MarkPasses w m u x None
      spare cleared = on (is_some d && clears) refl cleared
        where
          on : (b : Bool) → is_some d && clears ≡ b → Clears b pools i m None error changes later facts between → MarkPasses w m u x None
          on false e f = let s = some-place pools a i here in mark-passes s.0 s.1 false (ap (λ b. b && exhausted_now s.0 None) e)
          on true e f =
              let s : PoolCore = f.0.pool in
              let no : exhausted_now s None ≡ false = not-exhausted (exhausted_now s None) (sym (clear-refused w st i s f.0.there m l None error (ap (λ b. wrong_service b None) normal)) ∙ f.1) in
              mark-passes s f.0.there false (ap (λ b. b && exhausted_now s None) e ∙ no)

      -- the mark is told
      pub mark-comes : (after : List Fact) (changed : Bool) → Clears (is_some d && clears) pools i m None error changes later facts between → after ≡ between ++ asked_of asked (is_some d && clears) a → changed ≡ is_some d
          → MarkTold w m u x after later changed
      mark-comes after changed cleared told e = record {
        told = mark-told w st m a error i here d differs x clears asked of changes later facts between after p cleared told;
        opens = opens-none w st m a error i here d differs x clears asked of changes later facts between after p cleared told;
        changed_is = e ∙ ap is_some (sym differs);
        spare = spare cleared;
      }
