-- Which words names and labels are.
use Rattle.std.specs.Prelude.{ℕ, ◌==◌, ◌&&◌, ◌||◌, nat_le, List, length, Bool, true, Option, Some, None}
use Rattle.std.specs.List.{list_all}

-- letters, digits, and _ - .
abbrev pub is_word_byte : ℕ → Bool
is_word_byte b = (nat_le 97 b && nat_le b 122) || ((nat_le 65 b && nat_le b 90) || ((nat_le 48 b && nat_le b 57) || ((b == 95) || ((b == 45) || (b == 46)))))

-- 1 to 64 of these
unfoldable pub is_word : List ℕ → Bool
is_word word = nat_le 1 (length word) && (nat_le (length word) 64 && list_all is_word_byte word)

-- a value that is there keeps the rule
abbrev pub keeps : {A : Type 0} → (A → Bool) → Option A → Bool
keeps rule None = true
keeps rule (Some x) = rule x
