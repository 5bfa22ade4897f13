-- What a pool knows stays plain with plain acts and facts, and is plain where the history is.
use Rattle.std.proofs.Common.{ℕ, Bool, true, false, ◌==◌, List, [], ◌∷◌, Option, Some, None, if◌then◌else◌}
use Rattle.std.specs.Prelude.{⊤, is_some}
use Rattle.mdb_base.specs.declared.address.ServerAddress.{ServerAddress}
use Rattle.mdb_events.specs.declared.cmap.CmapEvent.TheVariants as event
use Rattle.mdb_events.specs.declared.fact.Fact.{Fact}
use Rattle.mdb_events.specs.declared.fact.Fact.TheVariants as fact
use Rattle.mdb_log.specs.declared.options.PoolOptions.{PoolOptions}
use Rattle.mdb_log.specs.declared.step.Act.{Act}
use Rattle.mdb_log.specs.declared.step.Act.TheVariants as act
use Rattle.mdb_log.specs.declared.step.FailedAt.TheVariants as at
use Rattle.mdb_log.specs.History.{Item, did, made, PoolItem, asked, warmed, gave_up, returned, pinned_by, established, failed, replicated, taken, unpinned, created, closed, checked_in, granted, ended, raised, pool_created, pool_ready, pool_closed, if_so, is_number, has_asked, given, open_pool, after_act, after_fact, after_facts, of_pool, with_facts}
use Rattle.mdb_log.specs.Requests.{end_of}
use Rattle.mdb_log.specs.State.{State, is_new, is_ready, is_paused, state_of}
use Rattle.mdb_verdicts.proofs.Plain.{IsPlainError, IsPlainEnd, IsPlainFact, ArePlainFacts, IsPlainHistory, IsPlainPart, ArePlainParts}
use Rattle.mdb_verdicts.proofs.Lists.{IfAny}

if-plain : (b : Bool) (x : PoolItem) (xs : List PoolItem) → IsPlainPart x → ArePlainParts xs → ArePlainParts (if_so b x xs)
if-plain true x xs i h = (i, h)
if-plain false x xs i h = h

-- no act tells a pool of an error or an end
pub act-parts : (p : ℕ) (here : ServerAddress → Option ℕ) (m : ℕ) (does : Act) (xs : List PoolItem) → ArePlainParts xs → ArePlainParts (after_act p here m does xs)
act-parts p here m (act.Request r a) xs h = if-plain (is_number (here a) p) (asked r m) xs tt h
act-parts p here m (act.Warm r a) xs h = if-plain (is_number (here a) p) (warmed r m) xs tt h
act-parts p here m (act.GiveUp r) xs h = if-plain (has_asked xs r) (gave_up r) xs tt h
act-parts p here m (act.Established q c how) xs h = if-plain (q == p) (established c how m) xs tt h
act-parts p here m (act.Failed q c at.Pre error) xs h = if-plain (q == p) (failed c None) xs tt h
act-parts p here m (act.Failed q c (at.Post service) error) xs h = if-plain (q == p) (failed c service) xs tt h
act-parts p here m (act.Return r used) xs h = if-plain (is_some (given xs r)) (returned r used) xs tt h
act-parts p here m (act.Pin r) xs h = if-plain (is_some (given xs r)) (pinned_by r) xs tt h
act-parts p here m (act.Replicate q c) xs h = if-plain (q == p) (replicated c) xs tt h
act-parts p here m (act.Take r q c) xs h = if-plain (q == p) (taken r c) xs tt h
act-parts p here m (act.Unpin q c) xs h = if-plain (q == p) (unpinned c) xs tt h
act-parts p here m _ xs h = h

pub fact-parts : (p m : ℕ) (f : Fact) (xs : List PoolItem) → IsPlainFact f → ArePlainParts xs → ArePlainParts (after_fact p m f xs)
fact-parts p m (fact.Pool q (event.PoolCreated e)) xs i h = if-plain (q == p) pool_created xs tt h
fact-parts p m (fact.Pool q (event.PoolReady e)) xs i h = if-plain (q == p) pool_ready xs tt h
fact-parts p m (fact.Pool q (event.PoolClosed e)) xs i h = if-plain (q == p) pool_closed xs tt h
fact-parts p m (fact.Pool q (event.ConnectionCreated e)) xs i h = if-plain (q == p) (created e.connection_id m) xs tt h
fact-parts p m (fact.Pool q (event.ConnectionClosed e)) xs i h = if-plain (q == p) (closed e.connection_id) xs tt h
fact-parts p m (fact.Pool q (event.ConnectionCheckedIn e)) xs i h = if-plain (q == p) (checked_in e.connection_id m) xs tt h
fact-parts p m (fact.Granted r q c) xs i h = if-plain (q == p) (granted r c) xs tt h
fact-parts p m (fact.Ended r end) xs i h = if-plain (has_asked xs r) (ended r end) xs i h
fact-parts p m (fact.Raised q service error) xs i h = if-plain (q == p) (raised service error) xs i h
fact-parts p m _ xs i h = h

pub facts-parts : (p m : ℕ) (fs : List Fact) (xs : List PoolItem) → ArePlainFacts fs → ArePlainParts xs → ArePlainParts (after_facts p m fs xs)
facts-parts p m [] xs i h = h
facts-parts p m (f ∷ fs) xs i h = facts-parts p m fs (after_fact p m f xs) i.1 (fact-parts p m f xs i.0 h)

pub parts-of : (p : ℕ) (h : List Item) → IsPlainHistory h → ArePlainParts (of_pool p h)
parts-of p [] i = tt
parts-of p (did step reply ∷ h) i = act-parts p (open_pool h) step.moment step.act (of_pool p h) (parts-of p h i.1)
parts-of p (made m f ∷ h) i = fact-parts p m f (of_pool p h) i.0 (parts-of p h i.1)

pub with-plain : (m : ℕ) (fs : List Fact) (h : List Item) → ArePlainFacts fs → IsPlainHistory h → IsPlainHistory (with_facts m fs h)
with-plain m [] h i k = k
with-plain m (f ∷ fs) h i k = with-plain m fs (made m f ∷ h) i.1 (i.0, k)

-- the error of a paused pool
abbrev pub IsPlainState : State → Type 0
IsPlainState (is_paused error) = IsPlainError error
IsPlainState _ = ⊤

new-or-ready : (b : Bool) → IsPlainState (if b then is_ready else is_new)
new-or-ready true = tt
new-or-ready false = tt

pub state-plain : (o : PoolOptions) (xs : List PoolItem) → ArePlainParts xs → IsPlainState (state_of o xs)
state-plain o [] h = tt
state-plain o (pool_created ∷ xs) h = new-or-ready o.load_balanced
state-plain o (pool_ready ∷ xs) h = tt
state-plain o (raised None error ∷ xs) h = h.0
state-plain o (raised (Some s) error ∷ xs) h = state-plain o xs h.1
state-plain o (pool_closed ∷ xs) h = tt
state-plain o (_ ∷ xs) h = state-plain o xs h.1

-- how a request ended
pub end-plain : (xs : List PoolItem) (r : ℕ) → ArePlainParts xs → IfAny IsPlainEnd (end_of xs r)
end-plain [] r h = tt
end-plain (ended q end ∷ xs) r h = on (q == r) (end-plain xs r h.1)
  where
    on : (b : Bool) → IfAny IsPlainEnd (end_of xs r) → IfAny IsPlainEnd (if b then Some end else end_of xs r)
    on true rest = h.0
    on false rest = rest
end-plain (_ ∷ xs) r h = end-plain xs r h.1
