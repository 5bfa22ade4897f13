-- Histories that slips in the definitions of the answers would make, each computed: what a law says of them is false.
use Rattle.std.proofs.Common.{◌≡◌, true, false, List, [], ◌∷◌, refl}
use Rattle.std.specs.Prelude.{filter}
use Rattle.mdb_events.specs.declared.end.End.TheVariants.{GaveUp}
use Rattle.mdb_log.specs.declared.step.Use.TheVariants.{Ok}
use Rattle.mdb_log.specs.History.{PoolItem, asked, gave_up, returned, pinned_by, created, closed, checked_in, granted, ended}
use Rattle.mdb_log.specs.Connections.{live, pins}
use Rattle.mdb_sound.specs.Counts.{askings, endings, closings, names, was_granted, callers, served}
use Rattle.mdb_laws.specs.HistoryLaws.{hands, gives_back}

-- the second waiting caller is granted a connection first
second_first : List PoolItem
second_first = granted 1 2 ∷ created 2 0 ∷ granted 2 1 ∷ created 1 0 ∷ asked 2 0 ∷ asked 1 0 ∷ []

second-served : served second_first ≡ 2 ∷ 1 ∷ []
unfolding second_first
second-served = refl

second-asked : filter (was_granted second_first) (callers second_first) ≡ 1 ∷ 2 ∷ []
unfolding second_first
second-asked = refl

-- a pinned connection is closed as it comes back
pinned_closed : List PoolItem
pinned_closed = closed 1 ∷ returned 1 Ok ∷ pinned_by 1 ∷ granted 1 1 ∷ created 1 0 ∷ asked 1 0 ∷ []

pinned-has-pin : pins pinned_closed 1 ≡ 1
unfolding pinned_closed
pinned-has-pin = refl

pinned-is-gone : live pinned_closed 1 ≡ 0
unfolding pinned_closed
pinned-is-gone = refl

-- a request that ended ends again
ended_again : List PoolItem
ended_again = ended 1 GaveUp ∷ gave_up 1 ∷ ended 1 GaveUp ∷ gave_up 1 ∷ asked 1 0 ∷ []

ended-twice : endings ended_again 1 ≡ 2
unfolding ended_again
ended-twice = refl

asked-once : askings ended_again 1 ≡ 1
unfolding ended_again
asked-once = refl

-- a connection is closed and then checked in
closed_back : List PoolItem
closed_back = closed 1 ∷ returned 1 Ok ∷ granted 1 1 ∷ created 1 0 ∷ asked 1 0 ∷ []

closed-one : closings closed_back 1 ≡ 1
unfolding closed_back
closed-one = refl

closed-named : names (checked_in 1 0) 1 ≡ true
closed-named = refl

-- a connection in hand is granted to another
in-hand-taken : hands (granted 2 1) 1 2 ≡ true
in-hand-taken = refl

in-hand-kept : gives_back (asked 2 0 ∷ []) 1 ≡ false
in-hand-kept = refl
