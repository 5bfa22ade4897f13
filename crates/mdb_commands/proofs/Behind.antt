-- Why the words behind a number or a flag are refused is why all of them are.
use Rattle.std.proofs.Common.{◌≡◌, ℕ, suc, ◌+◌, ◌<◌, List, ◌∷◌, length, arith, rules, refl, add-one, slice_index_or}
use Rattle.std.specs.Prelude.{Contains}
use Rattle.mdb_commands.specs.declared.subcommand.Subcommand.{Subcommand}
use Rattle.mdb_commands.specs.declared.error.CommandError.{CommandError}
use Rattle.mdb_commands.specs.declared.error.CommandError.TheVariants as error
use Rattle.mdb_commands.specs.Errors.{IsInputError, IsErrorOf}

contains-more : {X : Type 0} → (x : X) (xs : List X) (q : X) → Contains xs q → Contains (x ∷ xs) q
contains-more x xs q (k, below, is) = (suc k, omega (arith, below), is)

pub behind : (s : Subcommand) (word : List ℕ) (words : List (List ℕ)) (e : CommandError) → IsInputError s words e → IsErrorOf s (word ∷ words) e
behind s word words (error.UnknownOption of w) (same, there, option) = (same, contains-more word words w.now there, option)
behind s word words (error.ExtraWord of w) (same, there) = (same, contains-more word words w.now there)
behind s word words error.NoSubcommand h = absurd h
behind s word words (error.UnknownSubcommand w) h = absurd h
behind s word words (error.MissingNumber of) h = absurd h
behind s word words (error.BadNumber of w) h = absurd h
behind s word words error.MissingYear h = absurd h

pub far_behind : (s : Subcommand) (first word : List ℕ) (words : List (List ℕ)) (e : CommandError) → IsInputError s words e → IsErrorOf s (first ∷ (word ∷ words)) e
far_behind s first word words (error.UnknownOption of w) (same, there, option) = (same, contains-more first (word ∷ words) w.now (contains-more word words w.now there), option)
far_behind s first word words (error.ExtraWord of w) (same, there) = (same, contains-more first (word ∷ words) w.now (contains-more word words w.now there))
far_behind s first word words error.NoSubcommand h = absurd h
far_behind s first word words (error.UnknownSubcommand w) h = absurd h
far_behind s first word words (error.MissingNumber of) h = absurd h
far_behind s first word words (error.BadNumber of w) h = absurd h
far_behind s first word words error.MissingYear h = absurd h
