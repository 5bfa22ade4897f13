-- Running out of memory is handed on.
use Rattle.std.proofs.Common.{◌≡◌, Result, Ok, Err, IsErrAnd, ◌∙◌}
use Rattle.mdb_parts.specs.Reading.{Gives}
use Rattle.mdb_parts.specs.declared.line_error.LineError.{LineError}
use Rattle.mdb_parts.specs.declared.line_error.LineError.TheVariants.{OutOfMemory}

pub handed_on : {A : Type 0} (x : A) (r : Result A LineError) (e : LineError) → e ≡ OutOfMemory → IsErrAnd r (λ y. y ≡ e) → Gives x r
handed_on x (Ok y) e wanting h = absurd h
handed_on x (Err y) e wanting h = h ∙ wanting
