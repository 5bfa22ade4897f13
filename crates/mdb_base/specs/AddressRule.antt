-- Which texts are addresses.
use Rattle.std.specs.Prelude.{◌≡◌, ℕ, ◌==◌, ◌&&◌, ◌||◌, ◌⊎◌, nat_le, List, ◌++◌, length, map, Bool, true, if◌then◌else◌, codes}
use Rattle.std.specs.List.{list_all}
use Rattle.std.specs.Char.{to_ascii_lowercase}
use Rattle.mdb_base.specs.Spelling.{has_colon, address}
use Rattle.mdb_base.specs.declared.address.ServerAddress.{ServerAddress}

-- letters, digits, and _ - .
abbrev pub is_name_byte : ℕ → Bool
is_name_byte b = (nat_le 97 b && nat_le b 122) || ((nat_le 48 b && nat_le b 57) || ((b == 95) || ((b == 45) || (b == 46))))

-- digits, a to f, and : .
abbrev pub is_v6_byte : ℕ → Bool
is_v6_byte b = (nat_le 97 b && nat_le b 102) || ((nat_le 48 b && nat_le b 57) || ((b == 58) || (b == 46)))

unfoldable pub is_name_host : List ℕ → Bool
is_name_host host = nat_le 1 (length host) && (nat_le (length host) 255 && list_all is_name_byte host)

unfoldable pub is_v6_host : List ℕ → Bool
is_v6_host host = nat_le 2 (length host) && (nat_le (length host) 45 && (list_all is_v6_byte host && has_colon host))

abbrev pub is_host : List ℕ → Bool
is_host host = is_name_host host || is_v6_host host

-- a host of a name or of an IPv6 address, and a port from 1 to 65,535
abbrev pub is_address : ServerAddress → Bool
is_address a = is_host a.host && (nat_le 1 a.port && nat_le a.port 65535)

-- the host, in brackets where it has a colon
abbrev pub host_text : List ℕ → List ℕ
host_text host = if has_colon host then codes "[" ++ (host ++ codes "]") else host

-- The text is the address, or its host alone where the port is the default one.
pub record IsSpelledAddress (text : List ℕ) (a : ServerAddress) : Type 0 where
  pub rule : is_address a ≡ true
  pub spelled : (text ≡ address a) ⊎ ((text ≡ host_text a.host) × (a.port ≡ 27017))

-- the text is the address, or its host alone, in letters of any case
abbrev pub IsAddressText : List ℕ → ServerAddress → Type 0
IsAddressText text a = IsSpelledAddress (map to_ascii_lowercase text) a
