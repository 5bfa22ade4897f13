-- The definitions on worked examples.
use Rattle.std.proofs.Common.{◌≡◌, ℕ, List, [], ◌∷◌, codes, None, Ok, Err, refl}
use Rattle.mdb_base.specs.declared.address.ServerAddress.{ServerAddress}
use Rattle.mdb_srv.specs.declared.hosts.DomainMismatch.TheVariants.{Error, Skip}
use Rattle.mdb_srv.specs.declared.txt_option.TxtOption.TheVariants.{AuthSource}
use Rattle.mdb_srv.specs.Hosts.{domain, valid_hosts}
use Rattle.mdb_srv.specs.Polling.{selected_hosts}
use Rattle.mdb_srv.specs.Srv.{srv_query, least_ttl}
use Rattle.mdb_srv.specs.Txt.{all_options, resolved}

abbrev host : List ℕ → ServerAddress
host name = record { host = name; port = 1 }

abbrev cluster : List ℕ
cluster = codes "cluster.example.com"

three_labels : domain cluster ≡ codes "example" ∷ codes "com" ∷ []
three_labels = refl

two_labels : domain (codes "example.com") ≡ codes "example" ∷ codes "com" ∷ []
two_labels = refl

skips_all : valid_hosts cluster Skip (host (codes "a.evil.com") ∷ []) ≡ Err (codes "SRV lookup for cluster.example.com returned no records")
skips_all = refl

refuses_one : valid_hosts cluster Error (host (codes "a.evil.com") ∷ [])
    ≡ Err (codes "SRV lookup for cluster.example.com returned result a.evil.com, which does not match domain name example.com")
refuses_one = refl

accepts_local : valid_hosts (codes "localhost") Error (host (codes "a.localhost") ∷ []) ≡ Ok (host (codes "a.localhost") ∷ [])
accepts_local = refl

known_come_first : selected_hosts (host (codes "a") ∷ host (codes "b") ∷ []) (host (codes "c") ∷ host (codes "a") ∷ host (codes "d") ∷ []) 2
    ≡ host (codes "a") ∷ host (codes "c") ∷ []
known_come_first = refl

no_limit : selected_hosts (host (codes "a") ∷ []) (host (codes "c") ∷ host (codes "a") ∷ []) 0 ≡ host (codes "c") ∷ host (codes "a") ∷ []
no_limit = refl

later_counts : all_options (codes "authSource=a" ∷ codes "AUTHSOURCE=b" ∷ []) ≡ Ok (AuthSource (codes "a") ∷ AuthSource (codes "b") ∷ [])
later_counts = refl

no_flag : all_options (codes "loadBalanced=yes" ∷ codes "x" ∷ [])
    ≡ Err (codes "TXT record option 'loadbalanced=yes' was returned, only 'true' and 'false' are allowed values.")
no_flag = refl

default_service : srv_query None cluster ≡ codes "_mongodb._tcp.cluster.example.com"
default_service = refl

no_record : least_ttl [] ≡ 4294967295
no_record = refl

one_host : resolved cluster (record { target = codes "a.example.com."; port = 27017; ttl = 60 } ∷ []) []
    ≡ Ok (record {
      hosts = record { host = codes "a.example.com"; port = 27017 } ∷ [];
      min_ttl = 60;
      auth_source = None;
      replica_set = None;
      load_balanced = None;
    })
one_host = refl
