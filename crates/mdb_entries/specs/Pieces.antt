-- Texts with bars between them.
use Rattle.std.specs.Prelude.{ℕ, List, ◌++◌, codes}
use Rattle.std.specs.List.{flat_map}

-- texts, each behind a bar
abbrev pub barred : List (List ℕ) → List ℕ
barred texts = flat_map (λ t. codes " | " ++ t) texts
