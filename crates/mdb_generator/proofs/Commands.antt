-- Which words name a command with a number.
use Rattle.std.proofs.Common.{◌≡◌, ℕ, ◌<◌, ◌≤◌, ◌^◌, List, [], ◌∷◌, codes, decimal, arith}
use Rattle.std.proofs.lemmas.Fmt.{decimal_injective}
use Rattle.mdb_generator.specs.declared.words.ToolCommand.{ToolCommand}
use Rattle.mdb_generator.specs.declared.words.ToolCommand.TheVariants as command
use Rattle.mdb_generator.specs.Words.{Names}

first_same : (x y a b : List ℕ) → ◌≡◌ {A = List (List ℕ)} (x ∷ a ∷ []) (y ∷ b ∷ []) → x ≡ y
first_same x y a b e = cc

second_same : (x y a b : List ℕ) → ◌≡◌ {A = List (List ℕ)} (x ∷ a ∷ []) (y ∷ b ∷ []) → a ≡ b
second_same x y a b e = cc

pub unnamed : (word : List ℕ) (n : ℕ) → n < 2 ^ 64 → (word ≡ codes "make" → 1 ≤ n → n ≤ 2000 → ⊥) → (word ≡ codes "share" → 1 ≤ n → n ≤ 8 → ⊥) → (c : ToolCommand) → Names (word ∷ decimal n ∷ []) c → ⊥
unnamed word n lt make share command.Script h = cc
unnamed word n lt make share (command.Make k) h =
    let same : n ≡ k = decimal_injective n k lt (omega (arith, h.1)) (second_same word (codes "make") (decimal n) (decimal k) h.2) in
    make (first_same word (codes "make") (decimal n) (decimal k) h.2) (omega (arith, same, h.0)) (omega (arith, same, h.1))
unnamed word n lt make share (command.Share k) h =
    let same : n ≡ k = decimal_injective n k lt (omega (arith, h.1)) (second_same word (codes "share") (decimal n) (decimal k) h.2) in
    share (first_same word (codes "share") (decimal n) (decimal k) h.2) (omega (arith, same, h.0)) (omega (arith, same, h.1))
unnamed word n lt make share command.Usage h = h
