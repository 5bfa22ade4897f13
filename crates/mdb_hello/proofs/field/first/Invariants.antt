use Rattle.std.proofs.Common.{◌≡◌, length, map}
use Rattle.mdb_base.specs.Document.{named_content}
use Rattle.mdb_hello.specs.Kinds.{named}
use Rattle.mdb_hello.proofs.field.first.Given as goal

abbrev pub invariant-loop-rest : goal.invariant-loop-rest
invariant-loop-rest l = named l.name (map named_content l.fields) ≡ named l.name (map named_content l.rest)

abbrev pub decreases-loop-rest : goal.decreases-loop-rest
decreases-loop-rest l = length l.rest
