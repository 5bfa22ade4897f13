-- What the loops that read and write do.
use Rattle.std.specs.Prelude.{◌≡◌, ℕ, ◌+◌, ◌<◌, ◌≤◌, List, [], ◌∷◌, ◌++◌, length, take, codes, Option, Some, None}
use Rattle.std.specs.Borrow.{Bor}
use Rattle.std.specs.Io.KnownBytes.{Consumes, IsAtEnd}
use Rattle.mdb_base.specs.AddressReading.{beyond}
use Rattle.mdb_base.specs.Outside.{Rose, Held, Took}
use Rattle.mdb_lines.specs.declared.run_error.RunError.{RunError}
use Rattle.mdb_lines.specs.declared.run_error.RunError.TheVariants as errors
use Rattle.mdb_lines.specs.Script.{lines_of}

-- The first line, and what stands behind it, of bytes that have a newline.
abbrev pub CutsLine : List ℕ → Option (Bor (List ℕ) × Bor (List ℕ)) → Type 0
CutsLine bytes None = (lines_of bytes ≡ bytes ∷ []) × (beyond 10 bytes ≡ [])
CutsLine bytes (Some x) = (lines_of bytes ≡ (x.0.now ++ codes "\n") ∷ lines_of x.1.now) × (length x.1.now < length bytes)

-- a sink took the first bytes of a text
abbrev pub TookFront : Option Held → Option Held → List ℕ → Type 0
TookFront old new text = (n : ℕ) × Took old new (take n text)

-- Reading ended so: for lack of memory, at a fault, or past the greatest length.
abbrev pub ReadEnds : ℕ → Option (List ℕ) → Option (List ℕ) → ℕ → ℕ → RunError → Type 0
ReadEnds limit left new_left faults new_faults errors.OutOfMemory = new_faults ≡ faults
ReadEnds limit left new_left faults new_faults errors.ReadFault = Rose faults new_faults
ReadEnds limit left new_left faults new_faults errors.WriteFault = ⊥
ReadEnds limit left new_left faults new_faults (errors.Malformed n) = ⊥
ReadEnds limit left new_left faults new_faults errors.TooLong = (bytes : List ℕ) × Consumes left new_left bytes × (limit < length bytes) × (new_faults ≡ faults)

-- At most so many calls were counted, where the object counts its calls.
abbrev pub CalledWithin : Option ℕ → Option ℕ → ℕ → Type 0
CalledWithin None None most = Unit {0}
CalledWithin None (Some m) most = ⊥
CalledWithin (Some n) None most = ⊥
CalledWithin (Some n) (Some m) most = m ≤ n + most

-- These bytes were read by at most one call more than they are, and by at most one more than there may be.
pub record ReadsFew (limit : ℕ) (left new_left : Option (List ℕ)) (calls new_calls : Option ℕ) : Type 0 where
  pub bytes : List ℕ
  pub consumed : Consumes left new_left bytes
  pub each : CalledWithin calls new_calls (1 + length bytes)
  pub few : CalledWithin calls new_calls (1 + limit)

-- All was read, and it isn't too long.
pub record ReadsAll (limit : ℕ) (left new_left : Option (List ℕ)) (faults new_faults : ℕ) (input : List ℕ) : Type 0 where
  pub consumed : Consumes left new_left input
  pub ended : IsAtEnd new_left
  pub short : length input ≤ limit
  pub same : new_faults ≡ faults
