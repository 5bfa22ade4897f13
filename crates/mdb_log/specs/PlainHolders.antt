-- What any history, newest item first, says of the parties that hold connections, of pins, and of how a request stands.
use Rattle.std.specs.Prelude.{ℕ, ◌+◌, Bool, true, false, not, ◌&&◌, ◌||◌, if◌then◌else◌, ◌==◌, nat_lt, List, [], ◌∷◌, filter, length, Option, Some, None}
use Rattle.mdb_events.specs.declared.end.End.{End}
use Rattle.mdb_events.specs.declared.fact.Fact.TheVariants.{Granted}
use Rattle.mdb_log.specs.declared.step.Act.{Act}
use Rattle.mdb_log.specs.declared.step.Act.TheVariants.{GiveUp, Return, Pin, Replicate, Take, Unpin}
use Rattle.mdb_log.specs.declared.reply.Reply.{Reply}
use Rattle.mdb_log.specs.declared.reply.Reply.TheVariants.{Pooled, Establishing, Waiting, Ended}
use Rattle.mdb_log.specs.History.{Item, did, made, PoolItem, granted, taken, of_pool, without}
use Rattle.mdb_log.specs.Connections.{one_if}
use Rattle.mdb_log.specs.Requests.{some_act}
use Rattle.mdb_log.specs.PlainConnections.{is_pending}
use Rattle.mdb_log.specs.PlainRequests.{is_ended, end_of}

abbrev pub returns : Act → ℕ → Bool
returns (Return q used) r = q == r
returns _ r = false

-- some accepted step returns what the party has
abbrev pub has_returned : List Item → ℕ → Bool
has_returned h r = some_act returns h r

-- some fact granted the connection to the party, and some take gave it
abbrev pub is_granted_to : List PoolItem → ℕ → ℕ → Bool
is_granted_to [] r c = false
is_granted_to (granted q d ∷ xs) r c = ((q == r) && (d == c)) || is_granted_to xs r c
is_granted_to (_ ∷ xs) r c = is_granted_to xs r c

abbrev pub is_taken_by : List PoolItem → ℕ → ℕ → Bool
is_taken_by [] r c = false
is_taken_by (taken q d ∷ xs) r c = ((q == r) && (d == c)) || is_taken_by xs r c
is_taken_by (_ ∷ xs) r c = is_taken_by xs r c

-- The party holds the connection of pool p: it was granted, is not pending, and neither did the party's request end nor did it return; or the party took it and did not return.
abbrev pub holds : ℕ → List Item → ℕ → ℕ → Bool
holds p h r c =
    let xs : List PoolItem = of_pool p h in
    (is_taken_by xs r c || (is_granted_to xs r c && (not (is_pending xs c) && not (is_ended h r)))) && not (has_returned h r)

-- the parties to which the connection was given, each once
abbrev pub parties : List PoolItem → ℕ → List ℕ
parties [] c = []
parties (granted r d ∷ xs) c = if d == c then (r ∷ without r (parties xs c)) else parties xs c
parties (taken r d ∷ xs) c = if d == c then (r ∷ without r (parties xs c)) else parties xs c
parties (_ ∷ xs) c = parties xs c

-- Held: how many parties hold the connection.
abbrev pub held : ℕ → List Item → ℕ → ℕ
held p h c = length (filter (λ r. holds p h r c) (parties (of_pool p h) c))

-- after the history, the step pins the connection: its holder does, or one more pin is made of it
abbrev pub adds_pin : ℕ → Act → List Item → ℕ → Bool
adds_pin p (Pin r) h c = holds p h r c
adds_pin p (Replicate q d) h c = (q == p) && (d == c)
adds_pin p _ h c = false

abbrev pub drops_pin : ℕ → Act → ℕ → Bool
drops_pin p (Unpin q d) c = (q == p) && (d == c)
drops_pin p _ c = false

-- the pins and replicates of the connection, and its unpins
abbrev pub pins_made : ℕ → List Item → ℕ → ℕ
pins_made p [] c = 0
pins_made p (did step reply ∷ h) c = pins_made p h c + one_if (adds_pin p step.act h c)
pins_made p (made m fact ∷ h) c = pins_made p h c

abbrev pub pins_dropped : ℕ → List Item → ℕ → ℕ
pins_dropped p [] c = 0
pins_dropped p (did step reply ∷ h) c = pins_dropped p h c + one_if (drops_pin p step.act c)
pins_dropped p (made m fact ∷ h) c = pins_dropped p h c

-- the pins are above 0
abbrev pub has_pin : ℕ → List Item → ℕ → Bool
has_pin p h c = nat_lt (pins_dropped p h c) (pins_made p h c)

-- after the history, the connection comes back at this item: a holder returns it or gives up
abbrev pub comes_back : ℕ → Item → List Item → ℕ → Bool
comes_back p (did step reply) h c = at_act step.act
  where
    at_act : Act → Bool
    at_act (Return r used) = holds p h r c
    at_act (GiveUp r) = holds p h r c
    at_act _ = false
comes_back p (made m fact) h c = false

abbrev pub is_taking : ℕ → Item → ℕ → Bool
is_taking p (did step reply) c = at_act step.act
  where
    at_act : Act → Bool
    at_act (Take r q d) = (q == p) && (d == c)
    at_act _ = false
is_taking p (made m fact) c = false

-- Pinned: of its comings back and its takes the last is a coming back, and from there on the pins were above 0.
abbrev pub is_pinned : ℕ → List Item → ℕ → Bool
is_pinned p [] c = false
is_pinned p (x ∷ h) c = (if comes_back p x h c then true else (if is_taking p x c then false else is_pinned p h c)) && has_pin p (x ∷ h) c

abbrev pub pinned : ℕ → List Item → ℕ → ℕ
pinned p h c = one_if (is_pinned p h c)

-- how a request stands that was granted the connection c of pool p
abbrev pub stands_with : List Item → ℕ → ℕ → ℕ → Reply
stands_with h r p c = if holds p h r c then Pooled p c else (if is_pending (of_pool p h) c then Establishing p c else Waiting)

-- how a request stands that did not end, by the connection that it was granted last, if any; all of the history is h
abbrev pub stands_by : List Item → List Item → ℕ → Reply
stands_by h [] r = Waiting
stands_by h (made m (Granted q p c) ∷ k) r = if q == r then stands_with h r p c else stands_by h k r
stands_by h (_ ∷ k) r = stands_by h k r

-- The outcome of a request: how it ended, else the connection that it holds, else the one that is pending, else it waits.
abbrev pub outcome_of : List Item → ℕ → Reply
outcome_of h r = on (end_of h r)
  where
    on : Option End → Reply
    on (Some end) = Ended end
    on None = stands_by h h r
