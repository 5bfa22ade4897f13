-- Which words ask for which command.
use Rattle.std.specs.Prelude.{◌≡◌, ◌≤◌, ℕ, false, true, List, [], ◌∷◌, ◌⊎◌, Some, None, codes, decimal, ⊤}
use Rattle.mdb_commands.specs.declared.subcommand.Subcommand.{Subcommand}
use Rattle.mdb_commands.specs.declared.subcommand.Subcommand.TheVariants as subcommand
use Rattle.mdb_commands.specs.declared.command.Input.{Input}
use Rattle.mdb_commands.specs.declared.command.Input.TheVariants as input
use Rattle.mdb_commands.specs.declared.command.Command.{Command}
use Rattle.mdb_commands.specs.declared.command.Command.TheVariants as command
use Rattle.mdb_commands.specs.Words.{name, is_option, asks_help, Means}

-- the last words name standard input, or a file whose path does not begin with a minus
abbrev pub IsInput : List (List ℕ) → Input → Type 0
IsInput words input.Standard = (words ≡ []) ⊎ (words ≡ codes "-" ∷ [])
IsInput words (input.File path) = (words ≡ path.now ∷ []) × (is_option path.now ≡ false)

-- the command is one of this subcommand, and these words behind it say which
abbrev pub IsOf : Command → Subcommand → List (List ℕ) → Type 0
IsOf (command.Run i) s words = (s ≡ subcommand.Run) × IsInput words i
IsOf (command.Audit i) s words = (s ≡ subcommand.Audit) × IsInput words i
IsOf (command.Judge None i) s words = (s ≡ subcommand.Judge) × IsInput words i
IsOf (command.Judge (Some year) i) s words = (s ≡ subcommand.Judge) × ((rest : List (List ℕ)) × (words ≡ codes "--cmap" ∷ (year.now ∷ rest)) × IsInput rest i)
IsOf (command.Fleet i) s words = (s ≡ subcommand.Fleet) × IsInput words i
IsOf (command.Proxy i) s words = (s ≡ subcommand.Proxy) × IsInput words i
IsOf (command.Make n) s words = (s ≡ subcommand.Make) × (1 ≤ n) × (n ≤ 2000) × (words ≡ decimal n ∷ [])
IsOf (command.Share k i) s words = (s ≡ subcommand.Share) × (1 ≤ k) × (k ≤ 8) × ((rest : List (List ℕ)) × (words ≡ decimal k ∷ rest) × IsInput rest i)
IsOf (command.Help None) s words = (s ≡ subcommand.Help) × (words ≡ [])
IsOf (command.Help (Some of)) s words = (word : List ℕ) × (words ≡ word ∷ []) × (((s ≡ subcommand.Help) × Means word of) ⊎ ((s ≡ of) × (asks_help word ≡ true)))
IsOf command.Version s words = (s ≡ subcommand.Version) × (words ≡ [])

-- the words ask for the command
pub record Names (words : List (List ℕ)) (c : Command) : Type 0 where
  pub first : List ℕ
  pub rest : List (List ℕ)
  pub of : Subcommand
  pub whole : words ≡ first ∷ rest
  pub means : Means first of
  pub says : IsOf c of rest

-- the numbers of the command are those that it takes
abbrev pub Fits : Command → Type 0
Fits (command.Make n) = (1 ≤ n) × (n ≤ 2000)
Fits (command.Share k i) = (1 ≤ k) × (k ≤ 8)
Fits c = ⊤
