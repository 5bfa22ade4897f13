use Rattle.std.proofs.Common.{length}
use Rattle.mdb_lines.proofs.rules.+all_different.Given as goal

abbrev pub decreases-all_different : goal.decreases-all_different
decreases-all_different l = length l.addresses.now
