-- The pools are told one after the other.
use Rattle.std.proofs.Common.{◌≡◌, ℕ, ◌+◌, List, [], ◌∷◌, ◌++◌, length, map, sym, ap, ◌∙◌, arith, append_assoc, string_bytes, Global}
use Rattle.std.specs.declared.string.String.{String}
use Rattle.std.proofs.lemmas.List.{append-nil}
use Rattle.mdb_recordings.specs.Lives.{life, facts_of, former_of}
use Rattle.mdb_recordings.specs.declared.event.Recorded.{Recorded}
use Rattle.mdb_recording_runs.specs.Report.{pool_line, pools_text}

-- what was told, and the pools at the names that are left, numbered from this, come to all of them
abbrev pub PoolsLeft : List Recorded → List (String Global) → List (String Global) → ℕ → List ℕ → List ℕ → Type 0
PoolsLeft h all rest n old now = now ++ pools_text h n (map string_bytes rest) ≡ old ++ pools_text h 0 (map string_bytes all)

pub pools-next : (h : List Recorded) (all rest more : List (String Global)) (name : String Global) (n k : ℕ) (old now new line : List ℕ) → rest ≡ name ∷ more → k ≡ n + 1 → line ≡ pool_line (string_bytes name) (facts_of (life n h)) (former_of n h) → new ≡ now ++ line → PoolsLeft h all rest n old now → PoolsLeft h all more k old new
pools-next h all rest more name n k old now new line e next is gains left =
    ap (λ t. t ++ pools_text h k (map string_bytes more)) (gains ∙ ap (λ t. now ++ t) is)
    ∙ append_assoc now (pool_line (string_bytes name) (facts_of (life n h)) (former_of n h)) (pools_text h k (map string_bytes more))
    ∙ ap (λ m. now ++ (pool_line (string_bytes name) (facts_of (life n h)) (former_of n h) ++ pools_text h m (map string_bytes more))) next
    ∙ ap (λ names. now ++ pools_text h n (map string_bytes names)) (sym e) ∙ left

pub pools-end : (h : List Recorded) (all rest : List (String Global)) (n : ℕ) (old now : List ℕ) → length rest ≡ 0 → PoolsLeft h all rest n old now → now ≡ old ++ pools_text h 0 (map string_bytes all)
pools-end h all [] n old now none left = sym (append-nil now) ∙ left
pools-end h all (x ∷ xs) n old now none left = absurd (omega (arith, none))
