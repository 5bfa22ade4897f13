-- Generations rise by clears alone.
use Rattle.std.proofs.Common.{ℕ, ◌≡◌, ◌+◌, ◌==◌, ◌&&◌, Bool, true, false, is_some, List, [], ◌∷◌, Option, None, refl, ◌∙◌, ap, arith}
use Rattle.mdb_base.specs.declared.address.ServerAddress.{ServerAddress}
use Rattle.mdb_base.specs.declared.object_id.ObjectId.{ObjectId}
use Rattle.mdb_base.specs.declared.error.Error.{Error}
use Rattle.mdb_events.specs.declared.fact.Fact.{Fact}
use Rattle.mdb_events.specs.declared.fact.Fact.TheVariants.{Opened, Pool, Granted, Ended, Raised}
use Rattle.mdb_events.specs.declared.cmap.CmapEvent.TheVariants.{PoolCreated, PoolReady, PoolCleared, PoolClosed, ConnectionCreated, ConnectionClosed, ConnectionCheckedIn}
use Rattle.mdb_log.specs.declared.step.Act.{Act}
use Rattle.mdb_log.specs.declared.step.Act.TheVariants as Do
use Rattle.mdb_log.specs.declared.step.FailedAt.TheVariants.{Pre, Post}
use Rattle.mdb_log.specs.Connections.{one_if}
use Rattle.mdb_log.specs.History.{Item, made, PoolItem, asked, warmed, gave_up, returned, pinned_by, established, failed, replicated, taken, unpinned, created, closed, checked_in, granted, ended, raised, pool_created, pool_ready, pool_closed, of_pool, is_number, given, has_asked, after_act, if_so, with_facts, same_service}
use Rattle.mdb_log.specs.State.{generation_of}
use Rattle.mdb_laws.specs.Causes.{marks_of, clears_among}

-- one item more that is no clear, where the test holds
if-same : (b : Bool) (x : PoolItem) (xs : List PoolItem) (s : Option ObjectId) → generation_of (x ∷ xs) s ≡ generation_of xs s → generation_of (if_so b x xs) s ≡ generation_of xs s
if-same true x xs s e = e
if-same false x xs s e = refl

-- an act raises no generation by itself
pub act-generation : (p m : ℕ) (here : ServerAddress → Option ℕ) (act : Act) (xs : List PoolItem) (s : Option ObjectId) → generation_of (after_act p here m act xs) s ≡ generation_of xs s
act-generation p m here (Do.Request r a) xs s = if-same (is_number (here a) p) (asked r m) xs s refl
act-generation p m here (Do.Warm r a) xs s = if-same (is_number (here a) p) (warmed r m) xs s refl
act-generation p m here (Do.GiveUp r) xs s = if-same (has_asked xs r) (gave_up r) xs s refl
act-generation p m here (Do.Established q c how) xs s = if-same (q == p) (established c how m) xs s refl
act-generation p m here (Do.Failed q c Pre error) xs s = if-same (q == p) (failed c None) xs s refl
act-generation p m here (Do.Failed q c (Post service) error) xs s = if-same (q == p) (failed c service) xs s refl
act-generation p m here (Do.Return r used) xs s = if-same (is_some (given xs r)) (returned r used) xs s refl
act-generation p m here (Do.Pin r) xs s = if-same (is_some (given xs r)) (pinned_by r) xs s refl
act-generation p m here (Do.Replicate q c) xs s = if-same (q == p) (replicated c) xs s refl
act-generation p m here (Do.Take r q c) xs s = if-same (q == p) (taken r c) xs s refl
act-generation p m here (Do.Unpin q c) xs s = if-same (q == p) (unpinned c) xs s refl
act-generation p m here _ xs s = refl

-- how many of the facts clear the pool so
abbrev pub raised_among : ℕ → Option ObjectId → List Fact → ℕ
raised_among p s facts = clears_among p s (marks_of facts)

-- one fact raises it where it is such a clear
if-raised : (b : Bool) (t s : Option ObjectId) (error : Error) (xs : List PoolItem) (n : ℕ) → generation_of (if_so b (raised t error) xs) s + n ≡ generation_of xs s + (n + one_if (b && same_service t s))
if-raised true t s error xs n = on (same_service t s) refl
  where
    on : (b : Bool) → same_service t s ≡ b → generation_of xs s + one_if (same_service t s) + n ≡ generation_of xs s + (n + one_if (same_service t s))
    on b f = omega arith
if-raised false t s error xs n = omega arith

pub facts-generation : (p m : ℕ) (fs : List Fact) (k : List Item) (s : Option ObjectId) → generation_of (of_pool p (with_facts m fs k)) s ≡ generation_of (of_pool p k) s + raised_among p s fs
facts-generation p m [] k s = omega arith
facts-generation p m (Raised q t error ∷ fs) k s = facts-generation p m fs (made m (Raised q t error) ∷ k) s ∙ if-raised (q == p) t s error (of_pool p k) (raised_among p s fs)
facts-generation p m (Opened q a ∷ fs) k s = facts-generation p m fs (made m (Opened q a) ∷ k) s
facts-generation p m (Pool q (PoolCreated v) ∷ fs) k s = facts-generation p m fs (made m (Pool q (PoolCreated v)) ∷ k) s ∙ ap (λ n. n + raised_among p s fs) (if-same (q == p) pool_created (of_pool p k) s refl)
facts-generation p m (Pool q (PoolReady v) ∷ fs) k s = facts-generation p m fs (made m (Pool q (PoolReady v)) ∷ k) s ∙ ap (λ n. n + raised_among p s fs) (if-same (q == p) pool_ready (of_pool p k) s refl)
facts-generation p m (Pool q (PoolCleared v) ∷ fs) k s = facts-generation p m fs (made m (Pool q (PoolCleared v)) ∷ k) s
facts-generation p m (Pool q (PoolClosed v) ∷ fs) k s = facts-generation p m fs (made m (Pool q (PoolClosed v)) ∷ k) s ∙ ap (λ n. n + raised_among p s fs) (if-same (q == p) pool_closed (of_pool p k) s refl)
facts-generation p m (Pool q (ConnectionCreated v) ∷ fs) k s = facts-generation p m fs (made m (Pool q (ConnectionCreated v)) ∷ k) s ∙ ap (λ n. n + raised_among p s fs) (if-same (q == p) (created v.connection_id m) (of_pool p k) s refl)
facts-generation p m (Pool q (ConnectionClosed v) ∷ fs) k s = facts-generation p m fs (made m (Pool q (ConnectionClosed v)) ∷ k) s ∙ ap (λ n. n + raised_among p s fs) (if-same (q == p) (closed v.connection_id) (of_pool p k) s refl)
facts-generation p m (Pool q (ConnectionCheckedIn v) ∷ fs) k s = facts-generation p m fs (made m (Pool q (ConnectionCheckedIn v)) ∷ k) s ∙ ap (λ n. n + raised_among p s fs) (if-same (q == p) (checked_in v.connection_id m) (of_pool p k) s refl)
facts-generation p m (Pool q v ∷ fs) k s = facts-generation p m fs (made m (Pool q v) ∷ k) s
facts-generation p m (Granted r q c ∷ fs) k s = facts-generation p m fs (made m (Granted r q c) ∷ k) s ∙ ap (λ n. n + raised_among p s fs) (if-same (q == p) (granted r c) (of_pool p k) s refl)
facts-generation p m (Ended r end ∷ fs) k s = facts-generation p m fs (made m (Ended r end) ∷ k) s ∙ ap (λ n. n + raised_among p s fs) (if-same (has_asked (of_pool p k) r) (ended r end) (of_pool p k) s refl)
facts-generation p m (f ∷ fs) k s = facts-generation p m fs (made m f ∷ k) s
