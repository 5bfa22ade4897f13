use Rattle.std.proofs.Common.{length}
use Rattle.mdb_audit.specs.LineTaking.{Between}
use Rattle.mdb_audit.proofs.text.audit_lines.Given as goal

abbrev pub invariant-loop-rest : goal.invariant-loop-rest
invariant-loop-rest l = Between l.text l.rest l.read l.auditor

abbrev pub decreases-loop-rest : goal.decreases-loop-rest
decreases-loop-rest l = length l.rest
