use Rattle.std.proofs.Common.{◌≡◌, is_some, Some, filter, find, length}
use Rattle.std.specs.Prelude.{option_copied}
use Rattle.mdb_slots.specs.Keyed.{rest_of}
use Rattle.mdb_pool.specs.Kept.Body.{now_of}
use Rattle.mdb_pool.specs.Kept.Places.{is_available}
use Rattle.mdb_pool.specs.declared.kept.connection.Connection.{Connection}
use Rattle.mdb_pool.specs.Kept.Values.{perished_now}
use Rattle.mdb_pool_rules.proofs.Listed.Values.{In}
use Rattle.mdb_pool.proofs.kept.body.Body.first_perished.Given as goal

-- the walk is at one of the connections, and what is left of it decides
abbrev pub invariant-loop-next : goal.invariant-loop-next
invariant-loop-next l = ((x : Connection) → option_copied l.next ≡ Some x → In x l.self.connections.now) × (find (λ x. is_some (perished_now (now_of l.self) l.moment x)) (rest_of (λ x. x.id) (option_copied l.next) (filter (λ x. is_available x.place) l.self.connections.now)) ≡ find (λ x. is_some (perished_now (now_of l.self) l.moment x)) (filter (λ x. is_available x.place) l.self.connections.now))

abbrev pub decreases-loop-next : goal.decreases-loop-next
decreases-loop-next l = length (rest_of (λ x. x.id) (option_copied l.next) (filter (λ x. is_available x.place) l.self.connections.now))
