-- Addresses as replies list them.
use Rattle.std.specs.Prelude.{ℕ, ◌==◌, nat_eq, List, [], ◌∷◌, map, Bool, ◌&&◌, ◌||◌, if◌then◌else◌, Option, Some, None, is_some}
use Rattle.std.specs.List.{list_all}
use Rattle.std.specs.Char.{to_ascii_lowercase}
use Rattle.std.specs.Cmp.Lexicographic.{pointwise}
use Rattle.mdb_base.specs.declared.address.ServerAddress.{ServerAddress}
use Rattle.mdb_base.specs.AddressRule.{is_address, host_text}
use Rattle.mdb_base.specs.AddressReading.{address_of}
use Rattle.mdb_base.specs.Spelling.{address}

-- a text with its ASCII letters in lower case
abbrev pub lower : List ℕ → List ℕ
lower text = map to_ascii_lowercase text

-- whether a text is this address, or its host alone where the port is the default one
abbrev pub spells : List ℕ → ServerAddress → Bool
spells text a = is_address a && (pointwise nat_eq text (address a) || (pointwise nat_eq text (host_text a.host) && (a.port == 27017)))

abbrev pub kept_if_spelled : List ℕ → Option ServerAddress → Option ServerAddress
kept_if_spelled text None = None
kept_if_spelled text (Some a) = if spells text a then Some a else None

-- the address that a text in letters of any case stands for, by the rule of addresses: what is read from left to right is kept where the text spells it
unfoldable pub parsed : List ℕ → Option ServerAddress
parsed text = kept_if_spelled (lower text) (address_of (lower text))

-- the addresses that texts stand for
abbrev pub with_address : Option ServerAddress → List ServerAddress → List ServerAddress
with_address None more = more
with_address (Some a) more = a ∷ more

abbrev pub addresses : List (List ℕ) → List ServerAddress
addresses [] = []
addresses (text ∷ texts) = with_address (parsed text) (addresses texts)

-- whether each text stands for an address
abbrev pub are_addresses : List (List ℕ) → Bool
are_addresses texts = list_all (λ text. is_some (parsed text)) texts
