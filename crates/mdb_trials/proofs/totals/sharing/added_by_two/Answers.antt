use Rattle.mdb_shared.proofs.Crossing.{seats}
use Rattle.mdb_trials.proofs.totals.sharing.added_by_two.Goals as goal

pub join-a-requires-send-F : goal.join-a-requires-send-F
join-a-requires-send-F g c κs within = search seats depth 20

pub join-a-requires-send-A : goal.join-a-requires-send-A
join-a-requires-send-A g c κs within = search seats depth 20
