use Rattle.std.proofs.Common.{◌≡◌}
use Rattle.mdb_shared.specs.declared.seat.Seat.{Seat}
use Rattle.mdb_bench.specs.declared.roles.Played.{Played}
use Rattle.mdb_bench.proofs.Gathering.{gathered}
use Rattle.mdb_bench.proofs.sharing.seats_of.Goals as goal

pub loop-seat-preserved : goal.loop-seat-preserved
loop-seat-preserved g c = gathered (λ (p : Played g.row.C.Denot). p.seat) (λ (s : Seat g.row.C.Denot). s.driver ≡ c.args.driver.now.id) _ _ _ _ c.in-Some.field-0 c.in_ok-push.ensures.items c.in-Some.ensures.steps.0 c.loop-seat.invariant
