-- Which lookups a call makes, and in which order. A kind of resolver says what one lookup is by a relation of the
-- resolver before, the answer, and the resolver after.
use Rattle.std.specs.Prelude.{◌≡◌, ◌⊎◌, ℕ, List, [], Option, unwrap_or, Result, Ok, Err}
use Rattle.mdb_srv.specs.declared.config.ResolvedConfig.{ResolvedConfig}
use Rattle.mdb_srv.specs.declared.error.SrvError.{SrvError}
use Rattle.mdb_srv.specs.declared.error.SrvError.TheVariants.{OutOfMemory}
use Rattle.mdb_srv.specs.declared.hosts.DomainMismatch.{DomainMismatch}
use Rattle.mdb_srv.specs.declared.hosts.DomainMismatch.TheVariants.{Error}
use Rattle.mdb_srv.specs.declared.hosts.LookupHosts.{LookupHosts}
use Rattle.mdb_srv.specs.declared.resolver.LookupError.{LookupError}
use Rattle.mdb_srv.specs.declared.resolver.SrvRecord.{SrvRecord}
use Rattle.mdb_srv.specs.declared.resolver.TxtRecord.{TxtRecord}
use Rattle.mdb_srv.specs.Answers.{Refuses, fault_of}
use Rattle.mdb_srv.specs.Hosts.{valid_hosts}
use Rattle.mdb_srv.specs.Srv.{hosts_of, least_ttl}
use Rattle.mdb_srv.specs.Txt.{configured, plain_config}

-- what a lookup of hosts answers, by the resolver's answer
abbrev pub HostsFollow : List ℕ → DomainMismatch → Result (List SrvRecord) LookupError → Result LookupHosts SrvError → Type 0
HostsFollow original dm (Ok records) (Ok found) = (valid_hosts original dm (hosts_of records) ≡ Ok found.hosts) × (found.min_ttl ≡ least_ttl records)
HostsFollow original dm (Ok records) (Err e) = Refuses (valid_hosts original dm (hosts_of records)) e
HostsFollow original dm (Err failed) result = result ≡ Err (fault_of failed)

-- The SRV records were looked up once; or not at all, for lack of memory.
abbrev pub LooksHostsUp : {R : Type 0} → (R → Result (List SrvRecord) LookupError → R → Type 0) → List ℕ → DomainMismatch
    → R → R → Result LookupHosts SrvError → Type 0
LooksHostsUp looked original dm old new result =
    ((answer : Result (List SrvRecord) LookupError) × looked old answer new × HostsFollow original dm answer result)
    ⊎ ((new ≡ old) × (result ≡ Err OutOfMemory))

-- what a lookup of options makes of a configuration, by the resolver's answer
abbrev pub OptionsFollow : List ℕ → ResolvedConfig → Result (Option (List TxtRecord)) LookupError → Result ResolvedConfig SrvError → Type 0
OptionsFollow original before (Ok records) (Ok after) = configured original (unwrap_or records []) before ≡ Ok after
OptionsFollow original before (Ok records) (Err e) = Refuses (configured original (unwrap_or records []) before) e
OptionsFollow original before (Err failed) result = result ≡ Err (fault_of failed)

-- The TXT records were looked up once.
abbrev pub LooksOptionsUp : {R : Type 0} → (R → Result (Option (List TxtRecord)) LookupError → R → Type 0) → List ℕ → ResolvedConfig
    → R → R → Result ResolvedConfig SrvError → Type 0
LooksOptionsUp looked original before old new result =
    (answer : Result (Option (List TxtRecord)) LookupError) × looked old answer new × OptionsFollow original before answer result

-- Where the hosts are accepted the options are looked up, and else nothing more.
abbrev pub ThenOptions : {R : Type 0} → (R → Result (Option (List TxtRecord)) LookupError → R → Type 0) → List ℕ
    → Result LookupHosts SrvError → R → R → Result ResolvedConfig SrvError → Type 0
ThenOptions looked original (Ok found) old new result = LooksOptionsUp looked original (plain_config found.hosts found.min_ttl) old new result
ThenOptions looked original (Err e) old new result = (new ≡ old) × (result ≡ Err e)

-- The hosts were looked up first and once, and then the options, where the hosts are accepted.
abbrev pub Resolves : {R : Type 0} → (R → Result (List SrvRecord) LookupError → R → Type 0) → (R → Result (Option (List TxtRecord)) LookupError → R → Type 0)
    → List ℕ → R → R → Result ResolvedConfig SrvError → Type 0
Resolves {R} srv_looked txt_looked original old new result =
    (between : R) × ((found : Result LookupHosts SrvError)
    × LooksHostsUp srv_looked original Error old between found × ThenOptions txt_looked original found between new result)
