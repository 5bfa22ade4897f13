-- Which pools a step opens, marks ready, clears and closes, and by what.
use Rattle.std.specs.Prelude.{ℕ, ◌≡◌, ◌+◌, ◌==◌, true, not, ◌&&◌, if◌then◌else◌, List, [], ◌∷◌, ◌++◌, flat_map, length, is_some, Option, Some, None}
use Rattle.mdb_base.specs.declared.address.ServerAddress.{ServerAddress}
use Rattle.mdb_base.specs.declared.object_id.ObjectId.{ObjectId}
use Rattle.mdb_base.specs.declared.options.Options.{Options}
use Rattle.mdb_base.specs.declared.error.Error.{Error}
use Rattle.mdb_describe.specs.declared.topology.TopologyDescription.{TopologyDescription}
use Rattle.mdb_describe.specs.declared.diff.Diff.{Diff}
use Rattle.mdb_describe.specs.Servers.{is_known, is_listed}
use Rattle.mdb_events.specs.declared.cmap.CmapEvent.TheVariants.{PoolCreated, PoolReady, PoolCleared, PoolClosed}
use Rattle.mdb_events.specs.declared.fact.Fact.{Fact}
use Rattle.mdb_events.specs.declared.fact.Fact.TheVariants.{Opened, Pool, Raised}
use Rattle.mdb_log.specs.declared.step.Step.{Step}
use Rattle.mdb_log.specs.Answer.{Answer}
use Rattle.mdb_log.specs.History.{Item, of_pool, open_pool, same_service, with_answer}
use Rattle.mdb_log.specs.Connections.{one_if}
use Rattle.mdb_log.specs.Homes.{homes}
use Rattle.mdb_log.specs.State.{state_of, ready, generation_of}
use Rattle.mdb_log.specs.Opening.{pool_options}
use Rattle.mdb_driver_rules.specs.Errors.{Clear, nothing, whole, only, Trouble}
use Rattle.mdb_driver_rules.specs.Description.{description_of, rule_after, applied, change_by}
use Rattle.mdb_driver_rules.specs.Facts.{trouble, clear_of}
use Rattle.mdb_driver_rules.specs.Touching.{is_ready_at}
use Rattle.mdb_driver_rules.specs.Answer.{answer}

-- What becomes of a pool as a whole.
pub data Mark : Type 0 where
  -- the pool of this number is opened at the address
  opened : ℕ → ServerAddress → Mark
  -- it is marked ready
  readied : ℕ → ServerAddress → Mark
  -- it is closed
  closed : ℕ → ServerAddress → Mark
  -- it is cleared, as a whole or for the service, by the error
  cleared : ℕ → Option ObjectId → Error → Mark
  -- the events of its creation at the address, and of a clear of the pool there
  told_created : ℕ → ServerAddress → Mark
  told_cleared : ℕ → ServerAddress → Option ObjectId → Mark

-- what a fact says of a pool as a whole
abbrev pub mark_of : Fact → List Mark
mark_of (Opened p a) = opened p a ∷ []
mark_of (Pool p (PoolCreated e)) = told_created p e.address ∷ []
mark_of (Pool p (PoolReady e)) = readied p e.address ∷ []
mark_of (Pool p (PoolClosed e)) = closed p e.address ∷ []
mark_of (Raised p service error) = cleared p service error ∷ []
mark_of (Pool p (PoolCleared e)) = told_cleared p e.address e.service_id ∷ []
mark_of _ = []

abbrev pub marks_of : List Fact → List Mark
marks_of facts = flat_map mark_of facts

-- The causes, each of a part of what changed between the history h and the description u.

-- a server changed: the pool that is open there becomes ready, where the new type says so and the pool is not ready
abbrev pub readied_at : Options → List Item → TopologyDescription → ServerAddress → Option ℕ → List Mark
readied_at o h u a None = []
readied_at o h u a (Some p) = if is_ready_at u a && not (ready (state_of (pool_options o) (of_pool p h))) then (readied p a ∷ []) else []

-- a server went: the pool that is open there is closed
abbrev pub closed_at : ServerAddress → Option ℕ → List Mark
closed_at a None = []
closed_at a (Some p) = closed p a ∷ []

-- servers came: their pools have the next numbers
abbrev pub opened_from : ℕ → List ServerAddress → List Mark
opened_from n [] = []
opened_from n (a ∷ more) = opened n a ∷ told_created n a ∷ opened_from (n + 1) more

abbrev pub changes : Options → List Item → TopologyDescription → Option Diff → List Mark
changes o h u None = []
changes o h u (Some d) =
    flat_map (λ a. readied_at o h u a (open_pool h a)) d.changed
    ++ flat_map (λ a. closed_at a (open_pool h a)) d.removed
    ++ opened_from (length (homes h)) d.added

-- a clear as a whole is told where the pool is ready
abbrev pub told_if_ready : Options → List Item → ℕ → ServerAddress → List Mark
told_if_ready o h p a = if ready (state_of (pool_options o) (of_pool p h)) then (told_cleared p a None ∷ []) else []

-- there is a trouble: its pool is cleared as far as its row says
abbrev pub clears : Options → List Item → Option Trouble → Clear → List Mark
clears o h None clear = []
clears o h (Some x) nothing = []
clears o h (Some x) whole = cleared x.pool None x.error ∷ told_if_ready o h x.pool x.address
clears o h (Some x) (only s) = cleared x.pool (Some s) x.error ∷ told_cleared x.pool x.address (Some s) ∷ []

-- what the step changes
abbrev pub difference_by : Options → List Item → Step → Option Diff
difference_by o h step = change_by (rule_after o h step) (description_of o h)

-- what is known after it
abbrev pub described_after : Options → List Item → Step → TopologyDescription
described_after o h step = applied (rule_after o h step) (description_of o h)

-- What becomes of pools by their causes, in order.
abbrev pub caused : Options → List Item → Step → List Mark
caused o h step = changes o h (described_after o h step) (difference_by o h step) ++ clears o h (trouble o h step) (clear_of o h step)

-- the servers that the step takes away
abbrev pub gone : Option Diff → List ServerAddress
gone None = []
gone (Some d) = d.removed

-- how many of the marks clear the pool, for the service or as a whole where there is none
abbrev pub clears_among : ℕ → Option ObjectId → List Mark → ℕ
clears_among p s [] = 0
clears_among p s (cleared q t error ∷ marks) = clears_among p s marks + one_if ((q == p) && same_service t s)
clears_among p s (_ ∷ marks) = clears_among p s marks

-- What the answer to an accepted step tells of whole pools is what the step causes, no less and no more. Then a pool is open exactly where a server is known, and none at the address of a server that went; and its generations are greater by its clears.
pub record TellsCauses (o : Options) (h : List Item) (step : Step) (a : Answer) : Type 0 where
  pub marks_are : marks_of a.facts ≡ caused o h step
  pub open_for : (b : ServerAddress) → is_some (open_pool (with_answer step a.reply a.facts h) b) ≡ is_known b (description_of o (with_answer step a.reply a.facts h)).servers
  pub none_left : (b : ServerAddress) → is_listed (gone (difference_by o h step)) b ≡ true → open_pool (with_answer step a.reply a.facts h) b ≡ None
  pub generation_is : (p : ℕ) (s : Option ObjectId) → generation_of (of_pool p (with_answer step a.reply a.facts h)) s ≡ generation_of (of_pool p h) s + clears_among p s (caused o h step)

-- A driver's own answer does.
abbrev pub HasCauses : Options → List Item → Step → Type 0
HasCauses o h step = TellsCauses o h step (answer o h step)
