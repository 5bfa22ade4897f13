-- The words of a command line.
use Rattle.std.specs.Prelude.{◌≡◌, ◌==◌, ◌||◌, ℕ, Bool, false, List, [], ◌∷◌, ◌⊎◌, codes, bytes_eq}
use Rattle.mdb_commands.specs.declared.subcommand.Subcommand.{Subcommand}
use Rattle.mdb_commands.specs.declared.subcommand.Subcommand.TheVariants as subcommand

-- the word of a subcommand
abbrev pub name : Subcommand → List ℕ
name subcommand.Run = codes "run"
name subcommand.Audit = codes "audit"
name subcommand.Judge = codes "judge"
name subcommand.Fleet = codes "fleet"
name subcommand.Proxy = codes "proxy"
name subcommand.Make = codes "make"
name subcommand.Share = codes "share"
name subcommand.Help = codes "help"
name subcommand.Version = codes "version"

-- the word begins with a minus
abbrev pub is_option : List ℕ → Bool
is_option [] = false
is_option (b ∷ bs) = b == 45

-- the word asks for help, behind a subcommand too
unfoldable pub asks_help : List ℕ → Bool
asks_help word = bytes_eq word (codes "--help") || bytes_eq word (codes "-h")

-- a first word means a subcommand by its name, help and version also by a flag
abbrev pub Means : List ℕ → Subcommand → Type 0
Means word subcommand.Help = (word ≡ codes "help") ⊎ ((word ≡ codes "--help") ⊎ (word ≡ codes "-h"))
Means word subcommand.Version = (word ≡ codes "version") ⊎ ((word ≡ codes "--version") ⊎ (word ≡ codes "-V"))
Means word s = word ≡ name s
