-- Which texts come from C.
use Rattle.std.specs.Prelude.{ℕ, List, Option, Some, None, IsTrue, if◌then◌else◌}
use Rattle.mdb_base.specs.AddressRule.{IsAddressText}
use Rattle.mdb_base.specs.declared.address.ServerAddress.{ServerAddress}
use Rattle.mdb_lines.specs.Grammar.{is_printable}

-- The bytes, if each is printable.
abbrev pub text_in : List ℕ → Option (List ℕ)
text_in bytes = if is_printable bytes then Some bytes else None

-- The bytes are printable, and read as the address.
abbrev pub IsAddressOf : List ℕ → ServerAddress → Type 0
IsAddressOf bytes a = IsTrue (is_printable bytes) × IsAddressText bytes a
