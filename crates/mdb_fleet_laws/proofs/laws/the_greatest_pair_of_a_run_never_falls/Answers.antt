use Rattle.std.proofs.Common.{sym, subst, List}
use Rattle.mdb_failover.specs.Elections.{Pair, top, IsAtMost}
use Rattle.mdb_failover.proofs.Falling.{never-falls}
use Rattle.mdb_fleet_runs.specs.Trials.{begun, after}
use Rattle.mdb_fleet_laws.specs.Failover.{pairs, pairs_from}
use Rattle.mdb_fleet_laws.proofs.Primaries.{pairs-more}
use Rattle.mdb_fleet_laws.proofs.laws.the_greatest_pair_of_a_run_never_falls.Goals as goal

pub returns : goal.returns
returns c = λ n before later.
    subst (λ (ps : List Pair). IsAtMost (top (pairs n before)) (top ps)) (sym (pairs-more n (begun n) before later)) (never-falls (pairs n before) (pairs_from n (after n (begun n) before) later))
