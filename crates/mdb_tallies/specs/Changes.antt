-- How one item more changes what is kept of a connection.
use Rattle.std.specs.Prelude.{ℕ, ◌+◌, ◌-◌, Bool, true, false, not, ◌&&◌, ◌||◌, ◌==◌, if◌then◌else◌, nat_lt}
use Rattle.mdb_log.specs.Connections.{one_if}
use Rattle.mdb_tallies.specs.Standing.{is_lent}
use Rattle.mdb_tallies.specs.declared.connection.Connection.{Connection}
use Rattle.mdb_tallies.specs.declared.party.Gift.{Gift}
use Rattle.mdb_tallies.specs.declared.party.Party.{Party}
use Rattle.mdb_tallies.specs.declared.pools.Pool.{Pool}
use Rattle.mdb_tallies.specs.declared.occurrence.Occurrence.{Occurrence}
use Rattle.mdb_tallies.specs.declared.occurrence.Occurrence.TheVariants as change
use Rattle.mdb_tallies.specs.declared.occurrence.How.{How}
use Rattle.mdb_tallies.specs.declared.occurrence.How.TheVariants as how

-- facts

abbrev pub once_created : Connection → Connection
once_created x = record x { creations = x.creations + 1 }

abbrev pub once_closed : Connection → Connection
once_closed x = record x { closings = x.closings + 1; is_available = false }

abbrev pub once_checked_in : Connection → Connection
once_checked_in x = record x { is_available = true }

-- steps

abbrev pub once_established : Connection → Connection
once_established x = record x { is_tried = true; is_available = x.is_available || not x.is_granted }

abbrev pub once_failed : Connection → Connection
once_failed x = record x { is_tried = true }

-- parties: was and now tell whether it was kept by, or lent to, the party

-- it was granted to a party
abbrev pub once_granted : Bool → Bool → Connection → Connection
once_granted was now x = record x { is_granted = true; is_available = false; lent = (x.lent + one_if now) - one_if was }

-- a party took it
abbrev pub once_taken : Bool → Bool → Bool → Connection → Connection
once_taken was now lent x = record x { kept = (x.kept + one_if now) - one_if was; lent = x.lent - one_if lent }

-- the request of a party ended
abbrev pub once_over : Bool → Connection → Connection
once_over lent x = record x { lent = x.lent - one_if lent }

-- a party returned what it has
abbrev pub once_returned : Bool → Bool → Connection → Connection
once_returned kept lent x = record x { kept = x.kept - one_if kept; lent = x.lent - one_if lent }

-- how the party has the connection

abbrev pub kept_now : Gift → Party → Bool
kept_now gift party = gift.is_taken && not party.is_returned

abbrev pub lent_now : Gift → Party → Bool
lent_now gift party = is_lent gift.is_granted gift.is_taken party.is_returned party.is_ended

-- pending: created, tried by no step and not closed
abbrev pub pending_now : Connection → Bool
pending_now x = nat_lt 0 x.creations && (not x.is_tried && not (nat_lt 0 x.closings))

abbrev pub held_by_now : Gift → Party → Connection → Bool
held_by_now gift party x = kept_now gift party || (lent_now gift party && not (pending_now x))

-- the party does so no more to any connection that it was given: it returned, or its request ended before
abbrev pub done_now : How → Party → Bool
done_now how.Over party = party.is_returned || party.is_ended
done_now how party = party.is_returned

-- where the test holds
abbrev pub changed_if : Bool → (Connection → Connection) → Connection → Connection
changed_if b change x = if b then change x else x

-- a connection after what one of its parties did
abbrev pub by_party : How → Gift → Party → Connection → Connection
by_party how.GaveBack gift party x = once_returned (kept_now gift party) (lent_now gift party) x
by_party how.Over gift party x = once_over (lent_now gift party) x

-- The connection c of pool p after a change: gifts tells how each party was given it, and parties what is known of each.
abbrev pub connection_after : Occurrence → (ℕ → Gift) → (ℕ → Party) → ℕ → ℕ → Connection → Connection
connection_after (change.Returned r) gifts parties p c x = by_party how.GaveBack (gifts r) (parties r) x
connection_after (change.Taken r q d) gifts parties p c x = changed_if ((q == p) && (d == c)) (once_taken (kept_now (gifts r) (parties r)) (not (parties r).is_returned) (lent_now (gifts r) (parties r))) x
connection_after (change.Established q d) gifts parties p c x = changed_if ((q == p) && (d == c)) once_established x
connection_after (change.Failed q d) gifts parties p c x = changed_if ((q == p) && (d == c)) once_failed x
connection_after (change.Created q d) gifts parties p c x = changed_if ((q == p) && (d == c)) once_created x
connection_after (change.Closed q d) gifts parties p c x = changed_if ((q == p) && (d == c)) once_closed x
connection_after (change.CheckedIn q d) gifts parties p c x = changed_if ((q == p) && (d == c)) once_checked_in x
connection_after (change.Granted r q d) gifts parties p c x = changed_if ((q == p) && (d == c)) (once_granted (lent_now (gifts r) (parties r)) (is_lent true (gifts r).is_taken (parties r).is_returned (parties r).is_ended)) x
connection_after (change.Ended r) gifts parties p c x = by_party how.Over (gifts r) (parties r) x
connection_after _ gifts parties p c x = x

-- how the party q was given the connection c of pool p, after a change
abbrev pub gift_after : Occurrence → ℕ → ℕ → ℕ → Gift → Gift
gift_after (change.Granted r s d) q p c x = if ((r == q) && (s == p)) && (d == c) then record x { is_granted = true } else x
gift_after (change.Taken r s d) q p c x = if ((r == q) && (s == p)) && (d == c) then record x { is_taken = true } else x
gift_after _ q p c x = x

-- the party q after a change: it asks with its first step
abbrev pub party_after : Occurrence → ℕ → Party → Party
party_after (change.Asked r pool warm) q x = if (r == q) && not x.is_asked then record x { is_asked = true; pool = pool; is_warm = warm } else x
party_after (change.Returned r) q x = if r == q then record x { is_returned = true } else x
party_after (change.Granted r p c) q x = if r == q then record x { is_granted = true } else x
party_after (change.Ended r) q x = if r == q then record x { is_ended = true } else x
party_after _ q x = x

-- pools

-- the closings that count: of a connection that was created
abbrev pub closed_now : Connection → ℕ
closed_now x = if nat_lt 0 x.creations then x.closings else 0

-- available, and one of its pool
abbrev pub at_hand_now : Connection → Bool
at_hand_now x = nat_lt 0 x.creations && x.is_available

-- a pool after a connection of it changed, by what that was and is
abbrev pub recounted : Connection → Connection → Pool → Pool
recounted x y pool = record pool {
  closed = (pool.closed + closed_now y) - closed_now x;
  pending = (pool.pending + one_if (pending_now y)) - one_if (pending_now x);
  available = (pool.available + one_if (at_hand_now y)) - one_if (at_hand_now x);
}

abbrev pub pool_if : Bool → Pool → Pool → Pool
pool_if b y x = if b then y else x

-- The pool p after a change: balanced tells whether pools are ready from the start, was and now what a connection of it was and is.
abbrev pub pool_after : Occurrence → Bool → (ℕ → Connection) → (ℕ → Connection) → ℕ → Pool → Pool
pool_after (change.Established q d) balanced was now p x = pool_if (q == p) (recounted (was d) (now d) x) x
pool_after (change.Failed q d) balanced was now p x = pool_if (q == p) (recounted (was d) (now d) x) x
pool_after (change.Created q d) balanced was now p x = pool_if (q == p) (recounted (was d) (now d) (record x { created = x.created + 1 })) x
pool_after (change.Closed q d) balanced was now p x = pool_if (q == p) (recounted (was d) (now d) x) x
pool_after (change.CheckedIn q d) balanced was now p x = pool_if (q == p) (recounted (was d) (now d) x) x
pool_after (change.Granted r q d) balanced was now p x = pool_if (q == p) (recounted (was d) (now d) x) x
pool_after (change.Opened q) balanced was now p x = pool_if (q == p) (record x { is_opened = true }) x
pool_after (change.Began q) balanced was now p x = pool_if (q == p) (record x { is_ready = balanced }) x
pool_after (change.Turned q ready) balanced was now p x = pool_if (q == p) (record x { is_ready = ready }) x
pool_after _ balanced was now p x = x
