-- What a TXT record says.
use Rattle.std.specs.Prelude.{ℕ, ◌==◌, nat_eq, List, [], ◌∷◌, codes, encode_utf8_all, Bool, true, false, if◌then◌else◌, Some, None, Result, Ok, Err}
use Rattle.std.specs.List.{slice_split, flat_map, fold}
use Rattle.std.specs.Str.{str_to_ascii_lowercase}
use Rattle.std.specs.Cmp.Lexicographic.{pointwise}
use Rattle.bstr.specs.Utf8.{lossy_chars}
use Rattle.mdb_base.specs.declared.address.ServerAddress.{ServerAddress}
use Rattle.mdb_srv.specs.declared.config.ResolvedConfig.{ResolvedConfig}
use Rattle.mdb_srv.specs.declared.hosts.DomainMismatch.TheVariants.{Error}
use Rattle.mdb_srv.specs.declared.resolver.SrvRecord.{SrvRecord}
use Rattle.mdb_srv.specs.declared.resolver.TxtRecord.{TxtRecord}
use Rattle.mdb_srv.specs.declared.txt_option.TxtOption.{TxtOption}
use Rattle.mdb_srv.specs.declared.txt_option.TxtOption.TheVariants.{AuthSource, ReplicaSet, LoadBalanced}
use Rattle.mdb_srv.specs.Hosts.{valid_hosts}
use Rattle.mdb_srv.specs.Refusals.{too_many, not_a_pair, not_a_flag, unknown_key}
use Rattle.mdb_srv.specs.Srv.{hosts_of, least_ttl}

abbrev pub same_text : List ℕ → List ℕ → Bool
same_text a b = pointwise nat_eq a b

-- a flag by its word
abbrev pub flag_option : List ℕ → Result TxtOption (List ℕ)
flag_option value =
    if same_text value (codes "true") then Ok (LoadBalanced true)
    else if same_text value (codes "false") then Ok (LoadBalanced false)
    else Err (not_a_flag value)

-- the option with this key in small letters
abbrev pub keyed_option : List ℕ → List ℕ → Result TxtOption (List ℕ)
keyed_option key value =
    if same_text key (codes "authsource") then Ok (AuthSource value)
    else if same_text key (codes "replicaset") then Ok (ReplicaSet value)
    else if same_text key (codes "loadbalanced") then flag_option value
    else Err (unknown_key key)

-- the option of a part whose pieces between its equals signs are these
abbrev pub pair_option : List ℕ → List (List ℕ) → Result TxtOption (List ℕ)
pair_option part (key ∷ value ∷ []) = keyed_option (str_to_ascii_lowercase key) value
pair_option part pieces = Err (not_a_pair part)

-- the option that a part sets, or the text of its refusal
abbrev pub option_of : List ℕ → Result TxtOption (List ℕ)
option_of part = pair_option part (slice_split (λ b. b == 61) part)

-- the option of the first part before those of the others
abbrev pub joined : Result TxtOption (List ℕ) → Result (List TxtOption) (List ℕ) → Result (List TxtOption) (List ℕ)
joined (Err text) others = Err text
joined (Ok option) (Err text) = Err text
joined (Ok option) (Ok options) = Ok (option ∷ options)

-- the options of all parts, or the text of the first refusal
abbrev pub all_options : List (List ℕ) → Result (List TxtOption) (List ℕ)
all_options [] = Ok []
all_options (part ∷ parts) = joined (option_of part) (all_options parts)

-- the pieces of a record, each made text with U+FFFD for what is none, and joined
abbrev pub text_of : TxtRecord → List ℕ
text_of found = flat_map (λ piece. encode_utf8_all (lossy_chars piece)) found.txt_data

-- the options that the TXT records of a host set, or the text of the refusal
abbrev pub txt_options : List ℕ → List TxtRecord → Result (List TxtOption) (List ℕ)
txt_options original [] = Ok []
txt_options original (found ∷ []) = all_options (slice_split (λ b. b == 38) (text_of found))
txt_options original (found ∷ other ∷ more) = Err (too_many original)

-- a configuration with one option set
abbrev pub with_option : ResolvedConfig → TxtOption → ResolvedConfig
with_option config (AuthSource name) = record config { auth_source = Some name }
with_option config (ReplicaSet name) = record config { replica_set = Some name }
with_option config (LoadBalanced flag) = record config { load_balanced = Some flag }

-- a configuration with these options set one after another, so that of two for one key the later counts
abbrev pub with_options : ResolvedConfig → Result (List TxtOption) (List ℕ) → Result ResolvedConfig (List ℕ)
with_options config (Ok options) = Ok (fold with_option config options)
with_options config (Err text) = Err text

-- a configuration after the TXT records of a host, or the text of the refusal
abbrev pub configured : List ℕ → List TxtRecord → ResolvedConfig → Result ResolvedConfig (List ℕ)
configured original records config = with_options config (txt_options original records)

-- a configuration with these hosts and no option set
abbrev pub plain_config : List ServerAddress → ℕ → ResolvedConfig
plain_config hosts ttl =
    record { hosts = hosts; min_ttl = ttl; auth_source = None; replica_set = None; load_balanced = None }

-- the configuration with the accepted hosts and the options, or the text of the refusal
abbrev pub after_hosts : List ℕ → ℕ → List TxtRecord → Result (List ServerAddress) (List ℕ)
    → Result ResolvedConfig (List ℕ)
after_hosts original ttl txt (Ok hosts) = configured original txt (plain_config hosts ttl)
after_hosts original ttl txt (Err text) = Err text

-- the configuration that the records of a host give, or the text of the refusal
abbrev pub resolved : List ℕ → List SrvRecord → List TxtRecord → Result ResolvedConfig (List ℕ)
resolved original srv txt = after_hosts original (least_ttl srv) txt (valid_hosts original Error (hosts_of srv))
