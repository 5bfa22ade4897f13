-- Two histories that tell the same: each query has one value over both.
use Rattle.std.specs.Prelude.{ℕ, ◌≡◌, false, List, [], Option}
use Rattle.mdb_base.specs.declared.address.ServerAddress.{ServerAddress}
use Rattle.mdb_base.specs.declared.object_id.ObjectId.{ObjectId}
use Rattle.mdb_base.specs.declared.options.Options.{Options}
use Rattle.mdb_log.specs.declared.options.PoolOptions.{PoolOptions}
use Rattle.mdb_log.specs.declared.step.Step.{Step}
use Rattle.mdb_log.specs.declared.reply.Reply.TheVariants.{Changed}
use Rattle.mdb_log.specs.Answer.{Answer}
use Rattle.mdb_log.specs.History.{Item, of_pool, open_pool, has_asked, with_answer}
use Rattle.mdb_log.specs.Connections.{live, live_total, created_total, created_at, pending, pending_list, parties, held, holding, pins, pinned, available, available_list, since, service_of, wire_of, last_use, is_errored}
use Rattle.mdb_log.specs.Requests.{queued, waiting, asked_at, outcome_of, some_act, names_party, told, is_open, is_claimed}
use Rattle.mdb_log.specs.State.{state_of, generation_of, generation_before, is_stale, is_idle, is_interrupted, could_be_granted}
use Rattle.mdb_log.specs.Homes.{homes}
use Rattle.mdb_log.specs.Opening.{pool_options}
use Rattle.mdb_pool_rules.specs.Facts.{close_reason, perished}
use Rattle.mdb_driver_rules.specs.Monitors.{monitor_items, fresh, watchers_of, average, check_count}
use Rattle.mdb_driver_rules.specs.Description.{description_of, published, is_stopped, changed}
use Rattle.mdb_driver_rules.specs.Answer.{answer}

-- of each connection of each pool: that it lives, its four places, its service and wire version, what decides on its close, and the reason for one
pub record ConnectionsAlike (o : PoolOptions) (h k : List Item) : Type 0 where
  pub live_is : (p c : ℕ) → live (of_pool p k) c ≡ live (of_pool p h) c
  pub created_is : (p c : ℕ) → created_at (of_pool p k) c ≡ created_at (of_pool p h) c
  pub pending_is : (p c : ℕ) → pending (of_pool p k) c ≡ pending (of_pool p h) c
  pub available_is : (p c : ℕ) → available (of_pool p k) c ≡ available (of_pool p h) c
  pub since_is : (p c : ℕ) → since (of_pool p k) c ≡ since (of_pool p h) c
  pub held_is : (p c : ℕ) → held (of_pool p k) c ≡ held (of_pool p h) c
  pub parties_are : (p c : ℕ) → parties (of_pool p k) c ≡ parties (of_pool p h) c
  pub holding_is : (p r : ℕ) → holding (of_pool p k) r ≡ holding (of_pool p h) r
  pub pins_are : (p c : ℕ) → pins (of_pool p k) c ≡ pins (of_pool p h) c
  pub pinned_is : (p c : ℕ) → pinned (of_pool p k) c ≡ pinned (of_pool p h) c
  pub service_is : (p c : ℕ) → service_of (of_pool p k) c ≡ service_of (of_pool p h) c
  pub wire_is : (p c : ℕ) → wire_of (of_pool p k) c ≡ wire_of (of_pool p h) c
  pub use_is : (p c : ℕ) → last_use (of_pool p k) c ≡ last_use (of_pool p h) c
  pub errored_is : (p c : ℕ) → is_errored (of_pool p k) c ≡ is_errored (of_pool p h) c
  pub stale_is : (p c : ℕ) → is_stale o (of_pool p k) c ≡ is_stale o (of_pool p h) c
  pub idle_is : (p m c : ℕ) → is_idle o m (of_pool p k) c ≡ is_idle o m (of_pool p h) c
  pub reason_is : (p c : ℕ) → close_reason o (of_pool p k) c ≡ close_reason o (of_pool p h) c
  pub perished_is : (p m c : ℕ) → perished o m (of_pool p k) c ≡ perished o m (of_pool p h) c
  pub interrupted_is : (p c : ℕ) → is_interrupted o (of_pool p k) c ≡ is_interrupted o (of_pool p h) c

-- of each pool: the one that is open at an address, its state, its generations and those before its connections, its sizes, and whether it could grant
pub record PoolsAlike (o : PoolOptions) (h k : List Item) : Type 0 where
  pub homes_are : homes k ≡ homes h
  pub open_is : (a : ServerAddress) → open_pool k a ≡ open_pool h a
  pub state_is : (p : ℕ) → state_of o (of_pool p k) ≡ state_of o (of_pool p h)
  pub generation_is : (p : ℕ) (s : Option ObjectId) → generation_of (of_pool p k) s ≡ generation_of (of_pool p h) s
  pub before_is : (p c : ℕ) (s : Option ObjectId) → generation_before (of_pool p k) c s ≡ generation_before (of_pool p h) c s
  pub created_are : (p : ℕ) → created_total (of_pool p k) ≡ created_total (of_pool p h)
  pub living_are : (p : ℕ) → live_total (of_pool p k) ≡ live_total (of_pool p h)
  pub pending_are : (p : ℕ) → pending_list (of_pool p k) ≡ pending_list (of_pool p h)
  pub available_are : (p : ℕ) → available_list (of_pool p k) ≡ available_list (of_pool p h)
  pub could_is : (p : ℕ) → could_be_granted o (of_pool p k) ≡ could_be_granted o (of_pool p h)

-- of each request: the pool that it belongs to, whether it is queued or waits, its outcome, how often that was told, whether it is open; and which connections were claimed
pub record RequestsAlike (h k : List Item) : Type 0 where
  pub queued_are : (p : ℕ) → queued (of_pool p k) ≡ queued (of_pool p h)
  pub waiting_are : (p : ℕ) → waiting (of_pool p k) ≡ waiting (of_pool p h)
  pub belongs_is : (p r : ℕ) → has_asked (of_pool p k) r ≡ has_asked (of_pool p h) r
  pub asked_is : (p r : ℕ) → asked_at (of_pool p k) r ≡ asked_at (of_pool p h) r
  pub outcome_is : (p r : ℕ) → outcome_of p (of_pool p k) r ≡ outcome_of p (of_pool p h) r
  pub named_is : (r : ℕ) → some_act names_party k r ≡ some_act names_party h r
  pub told_is : (r : ℕ) → told k r ≡ told h r
  pub open_is : (r : ℕ) → is_open k r ≡ is_open h r
  pub claimed_is : (p c : ℕ) → is_claimed k p c ≡ is_claimed h p c

-- of the servers: what is known of them, whether a later step would change it, how often it was published, what each monitor goes by, and who asks for checks
pub record ServersAlike (o : Options) (h k : List Item) : Type 0 where
  pub described_is : description_of o k ≡ description_of o h
  pub changed_is : (later : Step) → changed o k later ≡ changed o h later
  pub published_is : published o k ≡ published o h
  pub stopped_is : is_stopped k ≡ is_stopped h
  pub checks_are : (p : ℕ) → monitor_items k p ≡ monitor_items h p
  pub average_is : (p : ℕ) → average o k p ≡ average o h p
  pub numbers_are : fresh k ≡ fresh h
  pub watchers_are : watchers_of k ≡ watchers_of h
  pub count_is : check_count k ≡ check_count h

-- Each query has one value over both histories. The moment of the last step is none of these queries.
pub record TellsAlike (o : Options) (h k : List Item) : Type 0 where
  pub connections : ConnectionsAlike (pool_options o) h k
  pub pools : PoolsAlike (pool_options o) h k
  pub requests : RequestsAlike h k
  pub servers : ServersAlike o h k

-- The step is answered that nothing changed, makes no fact, and leaves every query as it was.
pub record IsWithoutEffectBy (o : Options) (h : List Item) (step : Step) (a : Answer) : Type 0 where
  pub answered : a ≡ record { reply = Changed false; facts = [] }
  pub alike : TellsAlike o h (with_answer step (Changed false) [] h)

-- So is a driver's own answer.
abbrev pub IsWithoutEffect : Options → List Item → Step → Type 0
IsWithoutEffect o h step = IsWithoutEffectBy o h step (answer o h step)
