-- What the words of a command line say.
use Rattle.std.specs.Prelude.{◌≡◌, ℕ, ◌≤◌, List, [], ◌∷◌, codes, decimal}
use Rattle.mdb_generator.specs.declared.words.ToolCommand.{ToolCommand}
use Rattle.mdb_generator.specs.declared.words.ToolCommand.TheVariants as command

-- the words of a command; numbers have no sign and no leading zero
abbrev pub Names : List (List ℕ) → ToolCommand → Type 0
Names words command.Script = words ≡ []
Names words (command.Make n) = (1 ≤ n) × (n ≤ 2000) × (words ≡ codes "make" ∷ decimal n ∷ [])
Names words (command.Share k) = (1 ≤ k) × (k ≤ 8) × (words ≡ codes "share" ∷ decimal k ∷ [])
Names words command.Usage = ⊥

-- the command that the words name, or a usage where they name none
abbrev pub Says : List (List ℕ) → ToolCommand → Type 0
Says words command.Usage = (c : ToolCommand) → Names words c → ⊥
Says words c = Names words c
