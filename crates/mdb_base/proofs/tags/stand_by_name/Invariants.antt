use Rattle.std.proofs.Common.{◌≡◌, length}
use Rattle.mdb_base.specs.Tags.{is_by_name}
use Rattle.mdb_base.proofs.tags.stand_by_name.Given as goal

abbrev pub invariant-loop-rest : goal.invariant-loop-rest
invariant-loop-rest l = is_by_name l.pairs ≡ is_by_name l.rest

abbrev pub decreases-loop-rest : goal.decreases-loop-rest
decreases-loop-rest l = length l.rest
