-- In which order asks are handed on.
use Rattle.std.specs.Prelude.{◌≡◌, ℕ, ◌<◌, true, List, [], ◌∷◌, Option, Some, None, ⊤}
use Rattle.mdb_log.specs.declared.log.Entry.{Entry}
use Rattle.mdb_proxies.specs.declared.asked.Asked.{Asked}
use Rattle.mdb_proxies.specs.Charge.{since, is_at}
use Rattle.mdb_proxies.specs.Tables.{place_from}

-- the place in the log of the entry that handed the ask on
abbrev pub handed_place : List Entry → Asked → Option ℕ
handed_place log x = place_from x.request x.entries (since log x)

-- the older ask was handed on by an earlier entry, if the newer one was handed on
abbrev pub IsSooner : Option ℕ → Option ℕ → Type 0
IsSooner o None = ⊤
IsSooner None (Some j) = ⊥
IsSooner (Some i) (Some j) = i < j

-- so it is for each of these newer asks of the same tenant and address
abbrev pub IsSoonerThan : List Entry → Asked → List Asked → Type 0
IsSoonerThan log x [] = ⊤
IsSoonerThan log x (y ∷ ys) = (is_at x.tenant x.address y ≡ true → IsSooner (handed_place log x) (handed_place log y)) × IsSoonerThan log x ys

-- First come: of the asks of each tenant at an address the first ones were handed on, in their order.
abbrev pub IsFirstCome : List Entry → List Asked → Type 0
IsFirstCome log [] = ⊤
IsFirstCome log (x ∷ xs) = IsSoonerThan log x xs × IsFirstCome log xs
