-- Reading a text from its front. It may take more than the grammar has: what is read is compared with its spelling.
use Rattle.std.specs.Prelude.{◌≡◌, ℕ, ◌==◌, List, [], ◌∷◌, Result, MatchResult, Bool, not}
use Rattle.std.specs.Borrow.{Bor}
use Rattle.std.specs.List.{list_all}
use Rattle.mdb_parts.specs.declared.line_error.LineError.{LineError}
use Rattle.mdb_parts.specs.declared.line_error.LineError.TheVariants.{OutOfMemory}

-- no such byte stands in a word
abbrev pub lacks : ℕ → List ℕ → Bool
lacks c word = list_all (λ b. not (b == c)) word

-- What follows a word begins with a space, or is empty.
abbrev pub Follows : List ℕ → Type 0
Follows [] = Unit {0}
Follows (b ∷ bs) = b ≡ 32

-- This is what was read, unless memory ran out.
abbrev pub Gives : {A : Type 0} → A → Result A LineError → Type 0
Gives x r = MatchResult r (λ y. y ≡ x) (λ e. e ≡ OutOfMemory)

-- This is what was read, and what is left, unless memory ran out.
abbrev pub GivesFirst : {A : Type 0} → A → List ℕ → Result (A × Bor (List ℕ)) LineError → Type 0
GivesFirst x rest r = MatchResult r (λ y. (y.0 ≡ x) × (y.1.now ≡ rest)) (λ e. e ≡ OutOfMemory)

-- This text was read, and this is left, unless memory ran out.
abbrev pub GivesText : List ℕ → List ℕ → Result (Bor (List ℕ) × Bor (List ℕ)) LineError → Type 0
GivesText x rest r = MatchResult r (λ y. (y.0.now ≡ x) × (y.1.now ≡ rest)) (λ e. e ≡ OutOfMemory)
