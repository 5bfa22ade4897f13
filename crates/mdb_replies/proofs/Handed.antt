-- Running out of memory is handed on, beside what is left of a line.
use Rattle.std.proofs.Common.{◌≡◌, ℕ, List, Result, Ok, Err, IsErrAnd, ◌∙◌}
use Rattle.std.specs.Borrow.{Bor}
use Rattle.mdb_parts.specs.Reading.{GivesFirst}
use Rattle.mdb_parts.specs.declared.line_error.LineError.{LineError}
use Rattle.mdb_parts.specs.declared.line_error.LineError.TheVariants.{OutOfMemory}

pub handed_first : {A : Type 0} (x : A) (rest : List ℕ) (r : Result (A × Bor (List ℕ)) LineError) (e : LineError) → e ≡ OutOfMemory → IsErrAnd r (λ y. y ≡ e) → GivesFirst x rest r
handed_first x rest (Ok y) e wanting h = absurd h
handed_first x rest (Err y) e wanting h = h ∙ wanting
