-- Which connections are at their pin: alike by the plain sentences and by the items of a pool.
use Rattle.std.proofs.Common.{ℕ, ◌≡◌, ◌==◌, false, List, [], ◌∷◌, refl, sym, ap}
use Rattle.mdb_events.specs.declared.fact.Fact.{Fact}
use Rattle.mdb_events.specs.declared.fact.Fact.TheVariants.{Opened, Pool, Granted, Ended, Raised, Sdam, CheckNow, Cancel}
use Rattle.mdb_events.specs.declared.cmap.CmapEvent.TheVariants.{PoolCreated, PoolReady, PoolCleared, PoolClosed, ConnectionCreated, ConnectionReady, ConnectionClosed, ConnectionCheckoutStarted, ConnectionCheckoutFailed, ConnectionCheckedOut, ConnectionCheckedIn}
use Rattle.mdb_log.specs.History.{Item, did, made, PoolItem, of_pool, open_pool, has_asked, after_fact}
use Rattle.mdb_log.specs.Connections.{one_if, is_pinned, pinned}
use Rattle.mdb_log.specs.PlainHolders.{is_pinned as at_pin, pinned as pinned_one}
use Rattle.mdb_histories.specs.SoundHistory.{SoundHistory, MayCome}
use Rattle.mdb_histories.proofs.OfPlain.Pins.{has-pin-alike}
use Rattle.mdb_histories.proofs.OfPlain.Pinned.{PinStep, plain, still-one, act-step}

fact-step : (p m : ℕ) (xs : List PoolItem) (c : ℕ) (f : Fact) → PinStep xs (after_fact p m f xs) c false false
fact-step p m xs c (Opened q a) = plain xs c
fact-step p m xs c (Pool q (PoolCreated e)) = still-one xs (q == p) _ c refl refl
fact-step p m xs c (Pool q (PoolReady e)) = still-one xs (q == p) _ c refl refl
fact-step p m xs c (Pool q (PoolCleared e)) = plain xs c
fact-step p m xs c (Pool q (PoolClosed e)) = still-one xs (q == p) _ c refl refl
fact-step p m xs c (Pool q (ConnectionCreated e)) = still-one xs (q == p) _ c refl refl
fact-step p m xs c (Pool q (ConnectionReady e)) = plain xs c
fact-step p m xs c (Pool q (ConnectionClosed e)) = still-one xs (q == p) _ c refl refl
fact-step p m xs c (Pool q (ConnectionCheckoutStarted e)) = plain xs c
fact-step p m xs c (Pool q (ConnectionCheckoutFailed e)) = plain xs c
fact-step p m xs c (Pool q (ConnectionCheckedOut e)) = plain xs c
fact-step p m xs c (Pool q (ConnectionCheckedIn e)) = still-one xs (q == p) _ c refl refl
fact-step p m xs c (Granted r q d) = still-one xs (q == p) _ c refl refl
fact-step p m xs c (Ended r end) = still-one xs (has_asked xs r) _ c refl refl
fact-step p m xs c (Raised q service error) = still-one xs (q == p) _ c refl refl
fact-step p m xs c (Sdam e) = plain xs c
fact-step p m xs c (CheckNow a) = plain xs c
fact-step p m xs c (Cancel a) = plain xs c

pub pinned-alike : (h : List Item) → SoundHistory h → (p c : ℕ) → at_pin p h c ≡ is_pinned (of_pool p h) c
pinned-alike [] s p c = refl
pinned-alike (made m f ∷ h) s p c = rw (pinned-alike h s.1 p c, has-pin-alike (made m f ∷ h) s p c) (sym (fact-step p m (of_pool p h) c f))
pinned-alike (did step reply ∷ h) s p c =
    let w : MayCome h (did step reply) = s.0 in
    rw (pinned-alike h s.1 p c, has-pin-alike (did step reply ∷ h) s p c) (sym (act-step p (open_pool h) step.moment h s.1 c step.act reply step.moment w.names))

pub pinned-ones : (h : List Item) → SoundHistory h → (p c : ℕ) → pinned_one p h c ≡ pinned (of_pool p h) c
pinned-ones h s p c = ap one_if (pinned-alike h s p c)
