-- How the values of a reply stand in a line, and which values a line spells.
use Rattle.std.specs.Prelude.{ℕ, ℤ, ◌++◌, ◌&&◌, not, nat_le, int_le, pos, List, [], ◌∷◌, length, Bool, true, false, Option, Some, None, codes, bytes_eq}
use Rattle.std.specs.List.{list_all, list_any}
use Rattle.mdb_base.specs.AddressReading.{address_of}
use Rattle.mdb_base.specs.AddressRule.{is_address}
use Rattle.mdb_base.specs.Spelling.{address}
use Rattle.mdb_base.specs.Tags.{Tag, is_by_name}
use Rattle.mdb_base.specs.declared.address.ServerAddress.{ServerAddress}
use Rattle.mdb_parts.specs.Parts.{commas}
use Rattle.mdb_parts.specs.WordRule.{is_word}

abbrev pub bool_word : Bool → List ℕ
bool_word true = codes "true"
bool_word false = codes "false"

-- a name and its value
abbrev pub tag_text : Tag → List ℕ
tag_text t = t.0 ++ (codes ":" ++ t.1)

abbrev pub tags_text : List Tag → List ℕ
tags_text = commas tag_text

abbrev pub is_tag : Tag → Bool
is_tag t = is_word t.0 && is_word t.1

-- one tag at least, by name
unfoldable pub are_tags : List Tag → Bool
are_tags tags = nat_le 1 (length tags) && (is_by_name tags && list_all is_tag tags)

-- the text is the spelling of what is read of it
abbrev pub is_spelled : Option ServerAddress → List ℕ → Bool
is_spelled None text = false
is_spelled (Some a) text = is_address a && bytes_eq (address a) text

-- the text of an address
unfoldable pub is_address_text : List ℕ → Bool
is_address_text text = is_spelled (address_of text) text

abbrev pub all_different : List (List ℕ) → Bool
all_different [] = true
all_different (t ∷ ts) = not (list_any (λ u. bytes_eq u t) ts) && all_different ts

-- 1 to 128 different addresses
unfoldable pub are_hosts : List (List ℕ) → Bool
are_hosts hosts = nat_le 1 (length hosts) && (nat_le (length hosts) 128 && (all_different hosts && list_all is_address_text hosts))

abbrev pub is_natural : ℤ → Bool
is_natural z = int_le (pos 0) z
