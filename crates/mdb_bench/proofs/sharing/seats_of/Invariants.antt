use Rattle.std.proofs.Common.{◌≡◌, All}
use Rattle.mdb_bench.proofs.sharing.seats_of.Given as goal

-- the seats so far are the driver's own, and so are those to come
abbrev pub invariant-loop-seat : goal.invariant-loop-seat
invariant-loop-seat g l = All (λ s. s.driver ≡ l.fn.driver.id) l.seats.items × All (λ p. p.seat.driver ≡ l.fn.driver.id) l.seat-iterator.rest.items
