-- Optional parts of a line, and lists with commas.
use Rattle.std.specs.Prelude.{ℕ, List, [], ◌∷◌, ◌++◌, ◌==◌, ◌&&◌, codes, Option, Some, None, Bool, true, false, if◌then◌else◌}
use Rattle.std.specs.List.{flat_map}
use Rattle.mdb_base.specs.declared.address.ServerAddress.{ServerAddress}
use Rattle.mdb_base.specs.Spelling.{address}

-- A part is a name, which begins with a space, and the text behind it, if the part is there.
abbrev pub Part : Type 0
Part = List ℕ × Option (List ℕ)

abbrev pub part_text : List ℕ → Option (List ℕ) → List ℕ
part_text name None = []
part_text name (Some text) = name ++ text

unfoldable pub parts_text : List Part → List ℕ
parts_text [] = []
parts_text (p ∷ ps) = part_text p.0 p.1 ++ parts_text ps

-- a word that is there or not
abbrev pub flag : Bool → Option (List ℕ)
flag true = Some []
flag false = None

-- two names differ at a place that both have
abbrev pub apart : List ℕ → List ℕ → Bool
apart [] ys = false
apart (x ∷ xs) [] = false
apart (x ∷ xs) (y ∷ ys) = if y == x then apart xs ys else true

abbrev pub is_spaced : List ℕ → Bool
is_spaced [] = false
is_spaced (b ∷ bs) = b == 32

-- the names of these parts begin with a space
abbrev pub are_spaced : List Part → Bool
are_spaced [] = true
are_spaced (p ∷ ps) = is_spaced p.0 && are_spaced ps

-- no name of these parts begins as this name does
abbrev pub are_apart : List ℕ → List Part → Bool
are_apart name [] = is_spaced name
are_apart name (p ∷ ps) = apart name p.0 && are_apart name ps

-- where a part of this name is left out, what follows isn't read as that part
abbrev pub may_follow : List ℕ → List Part → Bool
may_follow name ps = are_apart name ps && are_spaced ps

-- values with commas between them
abbrev pub commas : {A : Type 0} → (A → List ℕ) → List A → List ℕ
commas show [] = []
commas show (x ∷ xs) = show x ++ flat_map (λ y. codes "," ++ show y) xs

abbrev pub texts : List (List ℕ) → List ℕ
texts = commas (λ t. t)

abbrev pub addresses : List ServerAddress → List ℕ
addresses = commas address
