-- Steps that tell of an error: what its rule tells, what is cleared, and what the monitor is asked.
use Rattle.std.specs.Prelude.{ℕ, ◌≡◌, ◌&&◌, Bool, true, false, not, List, [], ◌∷◌, ◌++◌, length, Option, Some, None, is_some}
use Rattle.mdb_base.specs.declared.address.ServerAddress.{ServerAddress}
use Rattle.mdb_base.specs.declared.options.Options.{Options}
use Rattle.mdb_base.specs.declared.error.Error.{Error}
use Rattle.mdb_base.specs.declared.object_id.ObjectId.{ObjectId}
use Rattle.mdb_describe.specs.declared.topology.TopologyDescription.{TopologyDescription}
use Rattle.mdb_describe.specs.Descriptions.{failed}
use Rattle.mdb_describe.specs.Differences.{difference}
use Rattle.mdb_describe.specs.Update.{updated}
use Rattle.mdb_events.specs.declared.fact.Fact.{Fact}
use Rattle.mdb_log.specs.declared.step.Step.{Step}
use Rattle.mdb_log.specs.declared.checked.BeatenResult.{BeatenResult}
use Rattle.mdb_log.specs.declared.checked.BeatenResult.TheVariants as Beaten
use Rattle.mdb_log.specs.declared.reply.Refused.TheVariants.{Exhausted}
use Rattle.mdb_log.specs.declared.reply.What.{What}
use Rattle.mdb_log.specs.declared.reply.What.TheVariants.{Generation}
use Rattle.mdb_log.specs.declared.reply.Reply.{Reply}
use Rattle.mdb_log.specs.declared.reply.Reply.TheVariants.{Changed}
use Rattle.mdb_log.specs.History.{Item}
use Rattle.mdb_pool.specs.Core.{PoolCore}
use Rattle.mdb_pool.specs.Now.{exhausted_now}
use Rattle.mdb_driver_pools.specs.declared.pool_change.PoolChange.{PoolChange}
use Rattle.mdb_driver_pools.specs.declared.trouble.Asked.{Asked}
use Rattle.mdb_topology.specs.declared.monitors.monitoring.Monitoring.{Monitoring}
use Rattle.mdb_topology.specs.declared.monitors.monitoring.Monitoring.TheVariants.{Same}
use Rattle.mdb_topology.specs.declared.transition.Transition.{Transition}
use Rattle.mdb_topology.specs.declared.transition.Decision.{Decision}
use Rattle.mdb_topology.specs.declared.transition.Decision.TheVariants as Then
use Rattle.mdb_topology.specs.declared.topology.TopologyCore.{TopologyCore}
use Rattle.mdb_events.specs.declared.sdam.SdamEvent.{SdamEvent}
use Rattle.mdb_log.specs.Opening.{pool_options}
use Rattle.mdb_driver_rules.specs.Turns.{in_turn}
use Rattle.mdb_driver_rules.specs.Errors.{Trouble, Clear, whole, only, where_so, asks}
use Rattle.mdb_driver_rules.specs.Description.{rule_after, description_of, is_stop, known_after}
use Rattle.mdb_driver_rules.specs.Facts.{trouble, clear_by, clear_of, is_clear, clearing, asking}
use Rattle.mdb_driver_rules.specs.Publishing.{told_by, publication}
use Rattle.mdb_driver_rules.specs.Refusal.{first_refusal, first_past}
use Rattle.mdb_driver_rules.specs.Answer.{reply_to}
use Rattle.mdb_topology.specs.Changing.{IsTelling, IsTold, IsUnchanged, IsWithCheck}
use Rattle.mdb_driver_pools.specs.Standing.{PoolsStand}
use Rattle.mdb_driver_pools.specs.Planned.{opened_by}
use Rattle.mdb_driver_pools.specs.Clearing.{asked_of}

-- what an act that concerns no pool by itself tells
abbrev pub spoken : Options → List Item → Step → List (List Item → List Fact)
spoken o h step =
    told_by o step.moment (rule_after o h step) (description_of o h)
    ++ clearing o step.moment (trouble o h step) (clear_of o h step)
    ∷ asking o (trouble o h step) (clear_of o h step)
    ∷ []

-- The step is accepted but for its numbers, and tells these parts after the facts of its check; next is what is known after it, where it applies a rule.
pub record HasParts (o : Options) (h : List Item) (t : TopologyDescription) (next : Option TopologyDescription) (step : Step) (reply : Reply) (stops : Bool) (parts : List (List Item → List Fact)) : Type 0 where
  pub passes : first_refusal o h step ≡ None
  pub known : known_after (rule_after o h step) t ≡ next
  pub tells : (k : List Item) → in_turn step.moment (spoken o h step) k ≡ in_turn step.moment parts k
  pub replies : (z : List Item) → reply_to o h step z step.act ≡ reply
  pub stop : is_stop step.act ≡ stops

-- what is known after some server was marked Unknown by an error
abbrev pub IsMarkOf : TopologyDescription → TopologyDescription → Type 0
IsMarkOf t u = (a : ServerAddress) × (e : Error) × (u ≡ updated t (failed a e))

-- the clear of a whole pool, or for a service of it
abbrev pub clear_with : Option ObjectId → Clear
clear_with None = whole
clear_with (Some s) = only s

-- The trouble is of the pool with the number at the address: where its server changes, the pool is cleared, if it clears.
pub record IsOfPool (o : Options) (x : Trouble) (p : ℕ) (a : ServerAddress) (error : Error) (clears : Bool) (asked : Asked) : Type 0 where
  pub pool : x.pool ≡ p
  pub address : x.address ≡ a
  pub error_is : x.error ≡ error
  pub clear : (b : Bool) → clear_by o b (Some x) ≡ where_so (b && clears) whole
  pub asks_are : (b : Bool) → asks o.load_balanced x.row x.error (where_so b whole) x.address ≡ asked_of asked b a

-- what is cleared and asked after a change from t to u
abbrev pub after_trouble : Options → ℕ → TopologyDescription → TopologyDescription → Trouble → List (List Item → List Fact)
after_trouble o m t u x =
    clearing o m (Some x) (clear_by o (is_some (difference t.servers u.servers)) (Some x))
    ∷ asking o (Some x) (clear_by o (is_some (difference t.servers u.servers)) (Some x))
    ∷ []

-- what a trouble tells that marks a server, which makes u known
abbrev pub mark_parts : TopologyCore → ℕ → TopologyDescription → Trouble → List (List Item → List Fact)
mark_parts w m u x = publication w.options m w.description u ++ after_trouble w.options m w.description u x

-- The trouble of the step marks a server, which makes u known.
abbrev pub IsMarking : TopologyCore → List Item → Step → TopologyDescription → Trouble → Type 0
IsMarking w h step u x =
    HasParts w.options h w.description (Some u) step (Changed (is_some (difference w.description.servers u.servers))) false (mark_parts w step.moment u x)

-- The trouble of the step marks nothing, and clears c.
abbrev pub IsClearing : TopologyCore → List Item → Step → Trouble → Clear → Type 0
IsClearing w h step x c = IsTelling step.act × HasParts w.options h w.description None step (Changed (is_clear c)) false (clearing w.options step.moment (Some x) c ∷ [])

-- what the mark takes past a limit
abbrev pub MarkPasses : TopologyCore → ℕ → TopologyDescription → Trouble → Option What → Type 0
MarkPasses w m u x past = (k : List Item) → PoolsStand (pool_options w.options) w.pools.cores.items k → first_past w.options m k (in_turn m (mark_parts w m u x) k) ≡ past

-- The change to u by the trouble is told, with what is cleared and asked; it opens no pool, and takes no number past a limit.
pub record MarkTold (w : TopologyCore) (m : ℕ) (u : TopologyDescription) (x : Trouble) (facts : List Fact) (changes : List PoolChange) (changed : Bool) : Type 0 where
  pub told : IsTold w.options m w.pools.cores.items (length w.pools.cores.items) u (mark_parts w m u x) changes facts
  pub opens : opened_by changes ≡ []
  pub changed_is : changed ≡ is_some (difference w.description.servers u.servers)
  pub spare : MarkPasses w m u x None

-- What a step makes of a driver by a mark that is told, but for what it does at the monitors.
pub record IsMarked (w : TopologyCore) (m : ℕ) (u : TopologyDescription) (x : Trouble) (n : Transition) : Type 0 where
  pub changed : Bool
  pub told : MarkTold w m u x n.facts.items n.changes.items changed
  pub reply : n.reply ≡ Changed changed
  pub known : n.description ≡ Some u
  pub goes_on : n.stops ≡ false
  pub monitors : n.monitors.items ≡ []
  pub nothing : n.monitoring ≡ Same

-- what becomes of the step by it
abbrev pub MarksTo : TopologyCore → ℕ → TopologyDescription → Trouble → Decision → Type 0
MarksTo w m u x (Then.Refused why) = (why ≡ Exhausted Generation) × MarkPasses w m u x (Some Generation)
MarksTo w m u x (Then.Accepted n) = IsMarked w m u x n
MarksTo w m u x (Then.Repeated n s) = ⊥

-- A failed check marks its server, and makes nothing known once the driver was stopped.
abbrev pub FailsTo : TopologyCore → ℕ → TopologyDescription → Trouble → Bool → Transition → Type 0
FailsTo w m u x false n = IsMarked w m u x n
FailsTo w m u x true n = IsUnchanged n

-- A failed check marks its server, with what the check does at the monitors, and its event first.
abbrev pub FailsAs : TopologyCore → ℕ → Monitoring → SdamEvent → TopologyDescription → Trouble → Transition → Type 0
FailsAs w m monitoring event u x n = (y : Transition) × FailsTo w m u x w.stopped y × IsWithCheck y n monitoring event

-- The check that ended so failed, and the mark of the server at the address would clear its pool s past the limit of the generation.
abbrev pub check_spends : TopologyCore → PoolCore → ServerAddress → BeatenResult → Bool
check_spends w s a (Beaten.Err error) = not w.stopped && ((is_some (difference w.description.servers (updated w.description (failed a error)).servers) && true) && exhausted_now s None)
check_spends w s a _ = false
