-- What stands in a table by a number.
use Rattle.std.specs.Prelude.{ℕ, unwrap_or}
use Rattle.std.specs.Ordering.{nat_cmp}
use Rattle.std.specs.BTreeMap.{get}
use Rattle.mdb_pins.specs.declared.numbered.Numbered.{Numbered}

-- the value of a number
abbrev pub of_number : {V : Type 0} → Numbered V → ℕ → V
of_number t n = unwrap_or (get nat_cmp t.map n) t.none
