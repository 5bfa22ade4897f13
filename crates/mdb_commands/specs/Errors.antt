-- Which words ask for nothing, and why.
use Rattle.std.specs.Prelude.{◌≡◌, ◌≤◌, ℕ, true, List, [], ◌∷◌, ◌⊎◌, codes, decimal, Contains}
use Rattle.mdb_commands.specs.declared.subcommand.Subcommand.{Subcommand}
use Rattle.mdb_commands.specs.declared.subcommand.Subcommand.TheVariants as subcommand
use Rattle.mdb_commands.specs.declared.error.CommandError.{CommandError}
use Rattle.mdb_commands.specs.declared.error.CommandError.TheVariants as error
use Rattle.mdb_commands.specs.Words.{is_option, Means}

-- no subcommand has the word
abbrev pub MeansNone : List ℕ → Type 0
MeansNone word = (s : Subcommand) → Means word s → ⊥

-- the word spells no number that the subcommand takes
abbrev pub NoNumber : Subcommand → List ℕ → Type 0
NoNumber subcommand.Make word = (n : ℕ) → 1 ≤ n → n ≤ 2000 → word ≡ decimal n → ⊥
NoNumber s word = (n : ℕ) → 1 ≤ n → n ≤ 8 → word ≡ decimal n → ⊥

-- the words that should name an input are refused for this reason
abbrev pub IsInputError : Subcommand → List (List ℕ) → CommandError → Type 0
IsInputError s words (error.UnknownOption of word) = (of ≡ s) × Contains words word.now × (is_option word.now ≡ true)
IsInputError s words (error.ExtraWord of word) = (of ≡ s) × Contains words word.now
IsInputError s words e = ⊥

-- the words behind the subcommand are refused for this reason
abbrev pub IsErrorOf : Subcommand → List (List ℕ) → CommandError → Type 0
IsErrorOf s words error.NoSubcommand = ⊥
IsErrorOf s words (error.UnknownSubcommand word) = (s ≡ subcommand.Help) × (words ≡ word.now ∷ []) × MeansNone word.now
IsErrorOf s words (error.UnknownOption of word) = (of ≡ s) × Contains words word.now × (is_option word.now ≡ true)
IsErrorOf s words (error.ExtraWord of word) = (of ≡ s) × Contains words word.now
IsErrorOf s words (error.MissingNumber of) = (of ≡ s) × (words ≡ [])
IsErrorOf s words (error.BadNumber of word) = (of ≡ s) × ((rest : List (List ℕ)) × (words ≡ word.now ∷ rest)) × NoNumber s word.now
IsErrorOf s words error.MissingYear = (s ≡ subcommand.Judge) × (words ≡ codes "--cmap" ∷ [])

-- the words ask for nothing, for this reason
abbrev pub Refuses : List (List ℕ) → CommandError → Type 0
Refuses [] e = e ≡ error.NoSubcommand
Refuses (first ∷ rest) (error.UnknownSubcommand word) = ((word.now ≡ first) × MeansNone first) ⊎ ((s : Subcommand) × Means first s × IsErrorOf s rest (error.UnknownSubcommand word))
Refuses (first ∷ rest) e = (s : Subcommand) × Means first s × IsErrorOf s rest e
