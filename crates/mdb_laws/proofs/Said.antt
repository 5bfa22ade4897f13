-- What the parts of a step beside its rule say of whole pools.
use Rattle.std.proofs.Common.{ℕ, ◌≡◌, ◌≢◌, ◌==◌, Bool, true, false, List, [], ◌∷◌, Option, Some, None, is_some, refl, ◌∙◌, if◌then◌else◌}
use Rattle.std.specs.Prelude.{flat_map}
use Rattle.std.specs.List.{list_any}
use Rattle.mdb_base.specs.Errors.{is_auth}
use Rattle.mdb_base.specs.declared.address.ServerAddress.{ServerAddress}
use Rattle.mdb_base.specs.declared.error.Error.{Error}
use Rattle.mdb_base.specs.declared.object_id.ObjectId.{ObjectId}
use Rattle.mdb_base.specs.declared.options.Options.{Options}
use Rattle.mdb_events.specs.declared.end.End.TheVariants.{Cleared}
use Rattle.mdb_events.specs.declared.fact.Fact.{Fact}
use Rattle.mdb_events.specs.declared.fact.Fact.TheVariants.{Sdam}
use Rattle.mdb_events.specs.declared.sdam.SdamEvent.{SdamEvent}
use Rattle.mdb_log.specs.declared.options.PoolOptions.{PoolOptions}
use Rattle.mdb_log.specs.declared.step.Act.{Act}
use Rattle.mdb_log.specs.declared.step.Act.TheVariants as Do
use Rattle.mdb_log.specs.declared.step.FailedAt.TheVariants.{Pre, Post}
use Rattle.mdb_log.specs.Acts.{IsDriverAct}
use Rattle.mdb_log.specs.History.{Item, PoolItem, asked, warmed, gave_up, returned, pinned_by, established, failed, replicated, taken, unpinned, of_pool, is_number, has_asked, given, after_act}
use Rattle.mdb_log.specs.Homes.{Home}
use Rattle.mdb_log.specs.Requests.{queued}
use Rattle.mdb_log.specs.State.{State, is_new, is_ready, is_paused, is_closed, state_of, ready}
use Rattle.mdb_log.specs.Opening.{pool_options}
use Rattle.mdb_pool_rules.specs.Facts.{all_ends, clear_facts}
use Rattle.mdb_pool_rules.specs.Serving.{serving}
use Rattle.mdb_driver_rules.specs.Homes.{is_here}
use Rattle.mdb_driver_rules.specs.Monitors.{heartbeat}
use Rattle.mdb_driver_rules.specs.Errors.{Case, monitored, state_change, lost, Clear, nothing, whole, only, Trouble, asks}
use Rattle.mdb_driver_rules.specs.Facts.{clearing, asking}
use Rattle.mdb_driver_rules.proofs.NumbersWithinLimits.{any_out, out-append, all-ends-free, serving-free, IsTame}
use Rattle.mdb_laws.specs.Causes.{cleared, told_cleared, marks_of, clears}
use Rattle.mdb_laws.proofs.Marks.{out-marks, if-so-state}

-- an act changes no state by itself
pub act-state : (o : PoolOptions) (p m : ℕ) (here : ServerAddress → Option ℕ) (act : Act) (xs : List PoolItem) → state_of o (after_act p here m act xs) ≡ state_of o xs
act-state o p m here (Do.Request r a) xs = if-so-state o (is_number (here a) p) (asked r m) xs refl
act-state o p m here (Do.Warm r a) xs = if-so-state o (is_number (here a) p) (warmed r m) xs refl
act-state o p m here (Do.GiveUp r) xs = if-so-state o (has_asked xs r) (gave_up r) xs refl
act-state o p m here (Do.Established q c how) xs = if-so-state o (q == p) (established c how m) xs refl
act-state o p m here (Do.Failed q c Pre error) xs = if-so-state o (q == p) (failed c None) xs refl
act-state o p m here (Do.Failed q c (Post service) error) xs = if-so-state o (q == p) (failed c service) xs refl
act-state o p m here (Do.Return r used) xs = if-so-state o (is_some (given xs r)) (returned r used) xs refl
act-state o p m here (Do.Pin r) xs = if-so-state o (is_some (given xs r)) (pinned_by r) xs refl
act-state o p m here (Do.Replicate q c) xs = if-so-state o (q == p) (replicated c) xs refl
act-state o p m here (Do.Take r q c) xs = if-so-state o (q == p) (taken r c) xs refl
act-state o p m here (Do.Unpin q c) xs = if-so-state o (q == p) (unpinned c) xs refl
act-state o p m here _ xs = refl

-- the event of a check passes no test that events of servers pass not
pub heartbeat-test : (o : Options) (h : List Item) (test : Fact → Bool) → ((e : SdamEvent) → test (Sdam e) ≡ false) → (act : Act) → list_any test (heartbeat o h act) ≡ false
heartbeat-test o h test calm (Do.Beat a p) = rw (calm _) refl
heartbeat-test o h test calm (Do.Beaten a p duration came) = on (is_here h a p) refl
  where
    on : (b : Bool) → is_here h a p ≡ b → list_any test (heartbeat o h (Do.Beaten a p duration came)) ≡ false
    on true f = rw (f, calm _) refl
    on false f = rw f refl
heartbeat-test o h test calm _ = refl

pub heartbeat-marks : (o : Options) (h : List Item) (act : Act) → marks_of (heartbeat o h act) ≡ []
heartbeat-marks o h (Do.Beat a p) = refl
heartbeat-marks o h (Do.Beaten a p duration came) = on (is_here h a p) refl
  where
    on : (b : Bool) → is_here h a p ≡ b → marks_of (heartbeat o h (Do.Beaten a p duration came)) ≡ []
    on true f = rw f refl
    on false f = rw f refl
heartbeat-marks o h _ = refl

-- A clear of a pool that is not closed, where its state is s.
module _ (p : ℕ) (a : ServerAddress) (o : PoolOptions) (m : ℕ) (xs : List PoolItem) (error : Error) where
  whole-marks : (s : State) → state_of o xs ≡ s → s ≢ is_closed → marks_of (clear_facts p a o m xs None error) ≡ cleared p None error ∷ (if ready s then (told_cleared p a None ∷ []) else [])
  whole-marks is_closed f unclosed = absurd (unclosed refl)
  whole-marks is_ready f unclosed = rw (f, out-marks (all_ends p a m xs (Cleared error) (queued xs)) (all-ends-free p a o m xs (Cleared error) (queued xs))) refl
  whole-marks is_new f unclosed = rw f refl
  whole-marks (is_paused why) f unclosed = rw f refl

  service-marks : (x : ObjectId) (s : State) → state_of o xs ≡ s → s ≢ is_closed → marks_of (clear_facts p a o m xs (Some x) error) ≡ cleared p (Some x) error ∷ told_cleared p a (Some x) ∷ []
  service-marks x is_closed f unclosed = absurd (unclosed refl)
  service-marks x is_ready f unclosed = rw f refl
  service-marks x is_new f unclosed = rw f refl
  service-marks x (is_paused why) f unclosed = rw f refl

-- the state is the one after h, and the pool was not closed
abbrev pub IsAsWas : Options → List Item → List Item → ℕ → Type 0
IsAsWas o h k p = (state_of (pool_options o) (of_pool p k) ≡ state_of (pool_options o) (of_pool p h)) × (state_of (pool_options o) (of_pool p h) ≢ is_closed)

pub clearing-marks : (o : Options) (h : List Item) (m : ℕ) (x : Option Trouble) (clear : Clear) (k : List Item) → ((y : Trouble) → x ≡ Some y → IsAsWas o h k y.pool)
    → marks_of (clearing o m x clear k) ≡ clears o h x clear
clearing-marks o h m None clear k e = refl
clearing-marks o h m (Some x) nothing k e = refl
clearing-marks o h m (Some x) whole k e =
    let d : IsAsWas o h k x.pool = e x refl in
    whole-marks x.pool x.address (pool_options o) m (of_pool x.pool k) x.error (state_of (pool_options o) (of_pool x.pool h)) d.0 d.1
clearing-marks o h m (Some x) (only s) k e =
    let d : IsAsWas o h k x.pool = e x refl in
    service-marks x.pool x.address (pool_options o) m (of_pool x.pool k) x.error s (state_of (pool_options o) (of_pool x.pool h)) d.0 d.1

-- what a monitor is asked
asks-marks : (b : Bool) (row : Case) (e : Error) (clear : Clear) (a : ServerAddress) → marks_of (asks b row e clear a) ≡ []
asks-marks false state_change e clear a = refl
asks-marks false lost e whole a = on (is_auth e.kind) refl
  where
    on : (b : Bool) → is_auth e.kind ≡ b → marks_of (asks false lost e whole a) ≡ []
    on true f = rw f refl
    on false f = rw f refl
asks-marks false lost e nothing a = refl
asks-marks false lost e (only s) a = refl
asks-marks false monitored e clear a = refl
asks-marks true row e clear a = refl

pub asking-marks : (o : Options) (x : Option Trouble) (clear : Clear) (k : List Item) → marks_of (asking o x clear k) ≡ []
asking-marks o None clear k = refl
asking-marks o (Some x) clear k = asks-marks o.load_balanced x.row x.error clear x.address

pub is-tame : (act : Act) → IsDriverAct act → IsTame act
is-tame (Do.Open q) c = absurd c
is-tame (Do.Ready q) c = absurd c
is-tame (Do.Clear q s e) c = absurd c
is-tame (Do.Close q) c = absurd c
is-tame _ c = tt

pub servings-out : (o : Options) (m : ℕ) (k : List Item) (xs : List Home) → any_out (flat_map (λ x. serving x.number x.address (pool_options o) m (of_pool x.number k)) xs) ≡ false
servings-out o m k [] = refl
servings-out o m k (x ∷ xs) =
    let one : List Fact = serving x.number x.address (pool_options o) m (of_pool x.number k) in
    let more : List Fact = flat_map (λ (y : Home). serving y.number y.address (pool_options o) m (of_pool y.number k)) xs in
    out-append one more ∙ rw (serving-free x.number x.address (pool_options o) m (of_pool x.number k), servings-out o m k xs) refl
