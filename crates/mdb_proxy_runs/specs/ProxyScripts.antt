-- Which lines a proxy script has, and which of them is the first that has no place there.
use Rattle.std.specs.Prelude.{◌≡◌, ℕ, ◌+◌, true, List, [], ◌∷◌, ◌++◌, length, codes, ⊤}
use Rattle.mdb_base.specs.declared.options.Options.{Options}
use Rattle.mdb_log.specs.State.{max_size}
use Rattle.mdb_log.specs.Opening.{pool_options}
use Rattle.mdb_lines.specs.Script.{Spells, lines_of}
use Rattle.mdb_proxies.specs.Shares.{are_shares}
use Rattle.mdb_proxies.specs.declared.step.ProxyStep.{ProxyStep}
use Rattle.mdb_topology.specs.Logging.{opening_step}
use Rattle.mdb_proxy_lines.specs.ProxyLines.{SpellsShares, SpellsStep}

-- a line with its newline
abbrev pub whole : List ℕ → List ℕ
whole line = line ++ codes "\n"

-- The line, given without its newline, opens a driver whose pools have these shares.
pub record OpensFor (shares line : List ℕ) (o : Options) : Type 0 where
  pub spells : Spells 1 line (opening_step o)
  pub fits : are_shares shares (max_size (pool_options o)) ≡ true

-- The first line names shares; the second opens a driver whose pools have them; each later one spells a step. They are given with their newlines.
abbrev pub IsFirst : List ℕ → Type 0
IsFirst line = (text shares : List ℕ) × (line ≡ whole text) × SpellsShares text shares

abbrev pub IsSecond : List ℕ → List ℕ → Type 0
IsSecond first line = (named text shares : List ℕ) × (o : Options) × (first ≡ whole named) × SpellsShares named shares × (line ≡ whole text) × OpensFor shares text o

abbrev pub IsLater : List ℕ → Type 0
IsLater line = (text : List ℕ) × (s : ProxyStep) × (line ≡ whole text) × SpellsStep text s

abbrev pub AreLater : List (List ℕ) → Type 0
AreLater [] = ⊤
AreLater (line ∷ lines) = IsLater line × AreLater lines

-- the lines are the first ones of a proxy script
abbrev pub AreLines : List (List ℕ) → Type 0
AreLines [] = ⊤
AreLines (first ∷ []) = IsFirst first
AreLines (first ∷ (second ∷ lines)) = IsFirst first × IsSecond first second × AreLater lines

-- the line may come behind these
abbrev pub IsNext : List (List ℕ) → List ℕ → Type 0
IsNext [] line = IsFirst line
IsNext (first ∷ []) line = IsSecond first line
IsNext (first ∷ (second ∷ lines)) line = IsLater line

-- The first line of the input that has no place in a proxy script is the one with this number, counted from 1.
pub record IsBadAt (input : List ℕ) (number : ℕ) : Type 0 where
  pub before : List (List ℕ)
  pub line : List ℕ
  pub more : List (List ℕ)
  pub cut : lines_of input ≡ before ++ line ∷ more
  pub lines : AreLines before
  pub bad : IsNext before line → ⊥
  pub at : number ≡ 1 + length before
