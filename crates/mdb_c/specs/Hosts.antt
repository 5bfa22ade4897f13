-- Which hosts of an SRV lookup are accepted, as texts.
use Rattle.std.specs.Prelude.{◌≡◌, ℕ, ◌==◌, List, [], ◌∷◌, ◌++◌, codes, Option, Some, None, Result, Ok, Err, IsUtf8, if◌then◌else◌}
use Rattle.std.specs.List.{AllZip, flat_map, slice_split}
use Rattle.mdb_base.specs.AddressRule.{IsAddressText}
use Rattle.mdb_base.specs.Spelling.{address}
use Rattle.mdb_base.specs.declared.address.ServerAddress.{ServerAddress}
use Rattle.mdb_srv.specs.Hosts.{valid_hosts}
use Rattle.mdb_srv.specs.declared.hosts.DomainMismatch.{DomainMismatch}
use Rattle.mdb_srv.specs.declared.hosts.DomainMismatch.TheVariants.{Error, Skip}

-- The text is empty where there is no host, and else each of the texts between its commas is the address at its place.
abbrev pub AreHosts : List ℕ → List ServerAddress → Type 0
AreHosts [] hosts = hosts ≡ []
AreHosts (b ∷ bs) hosts = AllZip IsAddressText (slice_split (λ c. c == 44) (b ∷ bs)) hosts

-- hosts with commas between them
abbrev pub hosts_text : List ServerAddress → List ℕ
hosts_text [] = []
hosts_text (host ∷ more) = address host ++ flat_map (λ other. codes "," ++ address other) more

-- what becomes of a host that is in another domain, counted from 0
abbrev pub mismatch_of : ℕ → Option DomainMismatch
mismatch_of n = if n == 0 then Some Error else if n == 1 then Some Skip else None

-- A lookup of the name that found these hosts comes to this: the hosts that are accepted, or the text of the refusal.
abbrev pub LooksUp : List ℕ → List ℕ → ℕ → Result (List ServerAddress) (List ℕ) → Type 0
LooksUp name found strangers answer =
    (hosts : List ServerAddress) × (mode : DomainMismatch) × IsUtf8 name × IsUtf8 found × AreHosts found hosts × (mismatch_of strangers ≡ Some mode)
    × (valid_hosts name mode hosts ≡ answer)

-- the text of what a lookup comes to
abbrev pub lookup_text : Result (List ServerAddress) (List ℕ) → List ℕ
lookup_text (Ok hosts) = hosts_text hosts
lookup_text (Err text) = text
