-- The numbers of commands.
use Rattle.std.proofs.Common.{◌≡◌, ℕ, ◌≤◌, List, [], ◌∷◌, codes, decimal, refl, sym, subst, ◌⊎◌, inl, inr, Result, Ok, Err, IfOk}
use Rattle.mdb_generator.specs.declared.words.ToolCommand.{ToolCommand}
use Rattle.mdb_generator.specs.declared.words.ToolCommand.TheVariants as tool
use Rattle.mdb_generator.specs.Words.{Says, Names}
use Rattle.mdb_commands.specs.declared.subcommand.Subcommand.{Subcommand}
use Rattle.mdb_commands.specs.declared.subcommand.Subcommand.TheVariants as subcommand
use Rattle.mdb_commands.specs.declared.command.Command.{Command}
use Rattle.mdb_commands.specs.declared.command.Command.TheVariants as command
use Rattle.mdb_commands.specs.declared.error.CommandError.{CommandError}
use Rattle.mdb_commands.specs.Commands.{IsOf, Fits}
use Rattle.mdb_commands.specs.Errors.{NoNumber}

not-nil : (a b : List ℕ) → a ∷ b ∷ [] ≡ [] → ⊥
not-nil a b h = absurd (cc)

other-heads : (a b c d : List ℕ) → a ∷ c ∷ [] ≡ b ∷ d ∷ [] → a ≡ b
other-heads a b c d h = cc

not-made : codes "make" ≡ codes "share" → ⊥
not-made h = absurd (cc)

pub no-make : (digits : List ℕ) (c : ToolCommand) → Says (codes "make" ∷ digits ∷ []) c → (c ≡ tool.Script) ⊎ (((k : ℕ) × (c ≡ tool.Share k)) ⊎ (c ≡ tool.Usage)) → NoNumber subcommand.Make digits
no-make digits c says (inl is) = absurd (not-nil (codes "make") digits (subst (Says (codes "make" ∷ digits ∷ [])) is says))
no-make digits c says (inr (inl (k, is))) = let shared = subst (Says (codes "make" ∷ digits ∷ [])) is says in absurd (not-made (other-heads (codes "make") (codes "share") digits (decimal k) shared.2))
no-make digits c says (inr (inr is)) = let never : (d : ToolCommand) → Names (codes "make" ∷ digits ∷ []) d → ⊥ = subst (Says (codes "make" ∷ digits ∷ [])) is says in λ n some few e. never (tool.Make n) (some, few, rw e refl)

pub no-share : (digits : List ℕ) (c : ToolCommand) → Says (codes "share" ∷ digits ∷ []) c → (c ≡ tool.Script) ⊎ (((n : ℕ) × (c ≡ tool.Make n)) ⊎ (c ≡ tool.Usage)) → NoNumber subcommand.Share digits
no-share digits c says (inl is) = absurd (not-nil (codes "share") digits (subst (Says (codes "share" ∷ digits ∷ [])) is says))
no-share digits c says (inr (inl (n, is))) = let made = subst (Says (codes "share" ∷ digits ∷ [])) is says in absurd (not-made (sym (other-heads (codes "share") (codes "make") digits (decimal n) made.2)))
no-share digits c says (inr (inr is)) = let never : (d : ToolCommand) → Names (codes "share" ∷ digits ∷ []) d → ⊥ = subst (Says (codes "share" ∷ digits ∷ [])) is says in λ k some few e. never (tool.Share k) (some, few, rw e refl)

is-fit : (c : Command) (s : Subcommand) (words : List (List ℕ)) → IsOf c s words → Fits c
is-fit (command.Make n) s words h = (h.1, h.2)
is-fit (command.Share k i) s words h = (h.1, h.2)
is-fit (command.Run i) s words h = tt
is-fit (command.Audit i) s words h = tt
is-fit (command.Judge year i) s words h = tt
is-fit (command.Fleet i) s words h = tt
is-fit (command.Proxy i) s words h = tt
is-fit (command.Help of) s words h = tt
is-fit command.Version s words h = tt

pub all-fit : (r : Result Command CommandError) (s : Subcommand) (words : List (List ℕ)) → IfOk r (λ c. IsOf c s words) → IfOk r Fits
all-fit (Ok c) s words h = is-fit c s words h
all-fit (Err e) s words h = tt
