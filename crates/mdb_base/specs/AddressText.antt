-- Addresses as they are written, in letters of any case.
use Rattle.std.specs.Prelude.{◌≡◌, ◌≤◌, ℕ, List, [], ◌++◌, map, true, ◌⊎◌, codes, decimal}
use Rattle.std.specs.Char.{to_ascii_lowercase}
use Rattle.mdb_base.specs.AddressRule.{is_name_host, is_v6_host}
use Rattle.mdb_base.specs.declared.address.ServerAddress.{ServerAddress}

-- the address of a host whose letters are lowered
abbrev pub lowered : List ℕ → ℕ → ServerAddress
lowered host port = record { host = map to_ascii_lowercase host; port = port }

-- The text is the port in decimal digits.
pub record IsPort (text : List ℕ) (port : ℕ) : Type 0 where
  pub least : 1 ≤ port
  pub most : port ≤ 65535
  pub digits : text ≡ decimal port

-- What follows a host is a colon and the port, or nothing at the default port.
abbrev pub EndsAs : List ℕ → ℕ → Type 0
EndsAs text port = ((digits : List ℕ) × (text ≡ codes ":" ++ digits) × IsPort digits port) ⊎ ((text ≡ []) × (port ≡ 27017))

-- What follows a host in brackets is the closing bracket and its end.
abbrev pub EndsBracketed : List ℕ → ℕ → Type 0
EndsBracketed text port = (rest : List ℕ) × (text ≡ codes "]" ++ rest) × EndsAs rest port

-- The text is a name and its end.
pub record IsPlain (text host : List ℕ) (port : ℕ) : Type 0 where
  pub rest : List ℕ
  pub parts : text ≡ host ++ rest
  pub name : is_name_host (map to_ascii_lowercase host) ≡ true
  pub ends : EndsAs rest port

-- What follows an opening bracket is an IPv6 address and its end.
pub record IsBracketed (text host : List ℕ) (port : ℕ) : Type 0 where
  pub rest : List ℕ
  pub parts : text ≡ host ++ rest
  pub name : is_v6_host (map to_ascii_lowercase host) ≡ true
  pub ends : EndsBracketed rest port

-- The text is the address with this host and port.
abbrev pub IsWritten : List ℕ → List ℕ → ℕ → Type 0
IsWritten text host port = IsPlain text host port ⊎ ((inner : List ℕ) × (text ≡ codes "[" ++ inner) × IsBracketed inner host port)
