-- What the words of the program ask for, and how it ends.
use Rattle.std.proofs.Common.{◌≡◌, ℕ, List, [], ◌∷◌, map, codes, decimal, ◌⊎◌, inl, inr, refl, sym, ◌∙◌, subst}
use Rattle.mdb_lines.specs.Status.{Told}
use Rattle.mdb_generator.specs.declared.words.ToolCommand.{ToolCommand}
use Rattle.mdb_generator.specs.declared.words.ToolCommand.TheVariants as command
use Rattle.mdb_generator.specs.Words.{Says, Names}
use Rattle.mdb_runs.specs.Runs.{Seen}
use Rattle.mdb_runs.specs.Tool.{ToolEnds}
use Rattle.mdb_shared_runs.specs.Program.{ProgramEnds, AsksScript}

not_nil : (words : List (List ℕ)) (w : List ℕ) (ws : List (List ℕ)) → words ≡ [] → words ≡ w ∷ ws → ⊥
not_nil words w ws none some = let e : [] ≡ w ∷ ws = sym none ∙ some in absurd (cc)

head_same : (x y : List ℕ) (xs ys : List (List ℕ)) → x ∷ xs ≡ y ∷ ys → x ≡ y
head_same x y xs ys h = cc

not_made : codes "make" ≡ codes "share" → ⊥
not_made h = absurd (cc)

pub script_no_share : (words : List (List ℕ)) → Says words command.Script → (k : ℕ) → Names words (command.Share k) → ⊥
script_no_share words none k (some, few, is) = not_nil words (codes "share") (decimal k ∷ []) none is

pub make_no_share : (words : List (List ℕ)) (n : ℕ) → Says words (command.Make n) → (k : ℕ) → Names words (command.Share k) → ⊥
make_no_share words n (one, most, made) k (some, few, is) = not_made (head_same (codes "make") (codes "share") (decimal n ∷ []) (decimal k ∷ []) (sym made ∙ is))

-- a command that is none of players
pub no_share : (words : List (List ℕ)) (c : ToolCommand) → Says words c → (c ≡ command.Script) ⊎ (((n : ℕ) × (c ≡ command.Make n)) ⊎ (c ≡ command.Usage)) → (k : ℕ) → Names words (command.Share k) → ⊥
no_share words c says (inl is) k h = script_no_share words (subst (Says words) is says) k h
no_share words c says (inr (inl (n, is))) k h = make_no_share words n (subst (Says words) is says) k h
no_share words c says (inr (inr is)) k h = let never : (d : ToolCommand) → Names words d → ⊥ = subst (Says words) is says in never (command.Share k) h

-- the tool's end is the program's, where the words ask for no players
pub tool_ends : (words : List (List ℕ)) (old new : Seen) (told new_told : Told) (answer : ℕ) → ((k : ℕ) → Names words (command.Share k) → ⊥) → ToolEnds words old new told new_told answer
    → ProgramEnds words old new told new_told answer
tool_ends words old new told new_told answer none (command.Script, says, ends) = (command.Script, says, ends)
tool_ends words old new told new_told answer none (command.Make n, says, ends) = (command.Make n, says, ends)
tool_ends words old new told new_told answer none (command.Share k, says, ends) = absurd (none k says)
tool_ends words old new told new_told answer none (command.Usage, says, ends) = (command.Usage, says, ends)

-- words that ask for the script, and for no players, are none
pub asks_none : (words : List (List ℕ)) → AsksScript words → ((k : ℕ) → Names words (command.Share k) → ⊥) → words ≡ []
asks_none words (inl none) never = none
asks_none words (inr (k, some)) never = absurd (never k some)

pub map_none : {A : Type 0} {B : Type 0} (f : A → B) (xs : List A) → map f xs ≡ [] → xs ≡ []
map_none f [] h = refl
map_none f (x ∷ xs) h = absurd (cc)
