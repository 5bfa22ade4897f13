use Rattle.std.proofs.Common.{length}
use Rattle.mdb_base.proofs.options_check.+all_different.Given as goal

abbrev pub decreases-all_different : goal.decreases-all_different
decreases-all_different l = length l.addresses.now
