use Rattle.std.proofs.Common.{◌≡◌, length}
use Rattle.mdb_recording_lines.specs.Numbers.{whole}
use Rattle.mdb_recording_lines.proofs.number.whole.Given as goal

abbrev pub invariant-loop-byte : goal.invariant-loop-byte
invariant-loop-byte l = whole l.number l.rest ≡ whole 0 l.bytes

abbrev pub decreases-loop-byte : goal.decreases-loop-byte
decreases-loop-byte l = length l.rest
