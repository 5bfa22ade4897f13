-- A description is the same as itself, so a list of servers does not differ from itself.
use Rattle.std.proofs.Common.{ℕ, suc, ◌≡◌, ◌&&◌, Bool, true, false, List, [], ◌∷◌, map, Option, Some, None, refl, ap, arith}
use Rattle.std.specs.Prelude.{ℤ, nat_eq, slice_get, filter}
use Rattle.std.specs.Ordering.{int_eq}
use Rattle.std.specs.Cmp.Lexicographic.{pointwise}
use Rattle.mdb_base.specs.Equality.{same_id}
use Rattle.mdb_base.specs.Tags.{Tag}
use Rattle.mdb_base.specs.declared.error.Error.{Error}
use Rattle.mdb_base.specs.declared.error.ErrorKind.{ErrorKind}
use Rattle.mdb_base.specs.declared.error.ErrorKind.TheVariants as Kind
use Rattle.mdb_base.specs.declared.topology_version.TopologyVersion.{TopologyVersion}
use Rattle.mdb_hello.specs.declared.server_type.ServerType.{ServerType}
use Rattle.mdb_hello.specs.declared.server_type.ServerType.TheVariants as Server
use Rattle.mdb_describe.specs.declared.description.ServerDescription.{ServerDescription}
use Rattle.mdb_describe.specs.Fields.{set_name, set_version, election_id, primary, me, hosts, passives, arbiters, tags, min_wire_version, max_wire_version, session_timeout, topology_version, error}
use Rattle.mdb_describe.specs.Same.{same_option, same_text, same_texts, same_tags, same_version, same_kind, same_error, same_type, same_set, same_members, same_abilities, same}
use Rattle.mdb_describe.specs.Servers.{in_order}
use Rattle.mdb_describe.specs.Differences.{differs_from, changed}
use Rattle.mdb_describe.proofs.Addresses.{own-address}
use Rattle.mdb_describe.proofs.Found.{found_at_own}

own-list : {T : Type 0} (f : T → T → Bool) → ((x : T) → f x x ≡ true) → (xs : List T) → pointwise f xs xs ≡ true
own-list f own [] = refl
own-list f own (x ∷ xs) = rw (own x) (own-list f own xs)

own-option : {T : Type 0} (f : T → T → Bool) → ((x : T) → f x x ≡ true) → (x : Option T) → same_option f x x ≡ true
own-option f own None = refl
own-option f own (Some x) = own x

own-nat : (n : ℕ) → nat_eq n n ≡ true
own-nat n = grind arith

own-int : (n : ℤ) → int_eq n n ≡ true
own-int n = grind arith

own-text : (xs : List ℕ) → same_text xs xs ≡ true
own-text xs = own-list nat_eq own-nat xs

own-texts : (xs : List (List ℕ)) → same_texts xs xs ≡ true
own-texts xs = own-list same_text own-text xs

own-tag : (t : Tag) → same_text t.0 t.0 && same_text t.1 t.1 ≡ true
own-tag t = rw (own-text t.0, own-text t.1) refl

own-tags : (xs : List Tag) → same_tags xs xs ≡ true
own-tags xs = own-list _ own-tag xs

own-version : (v : TopologyVersion) → same_version v v ≡ true
own-version v = rw (own-list nat_eq own-nat v.process_id.0, own-int v.counter) refl

own-kind : (k : ErrorKind) → same_kind k k ≡ true
own-kind Kind.Network = refl
own-kind Kind.NetworkTimeout = refl
own-kind Kind.Auth = refl
own-kind Kind.IncompatibleServer = refl
own-kind (Kind.Command n) = own-int n
own-kind Kind.Other = refl

own-error : (e : Error) → same_error e e ≡ true
own-error e = rw (own-kind e.kind, own-texts e.labels, own-option same_version own-version e.topology_version, own-text e.message) refl

own-type : (s : ServerType) → same_type s s ≡ true
own-type Server.Standalone = refl
own-type Server.Mongos = refl
own-type Server.RsPrimary = refl
own-type Server.RsSecondary = refl
own-type Server.RsArbiter = refl
own-type Server.RsOther = refl
own-type Server.RsGhost = refl
own-type Server.LoadBalancer = refl
own-type Server.Unknown = refl

own-set : (d : ServerDescription) → same_set d d ≡ true
own-set d =
    rw (
      own-option same_text own-text (set_name d),
      own-option int_eq own-int (set_version d),
      own-option same_id (λ i. own-list nat_eq own-nat i.0) (election_id d),
      own-option same_text own-text (primary d),
      own-option same_text own-text (me d),
    ) refl

own-members : (d : ServerDescription) → same_members d d ≡ true
own-members d =
    rw (own-option same_texts own-texts (hosts d), own-option same_texts own-texts (passives d), own-option same_texts own-texts (arbiters d)) refl

own-abilities : (d : ServerDescription) → same_abilities d d ≡ true
own-abilities d =
    rw (
      own-option same_tags own-tags (tags d),
      own-option int_eq own-int (min_wire_version d),
      own-option int_eq own-int (max_wire_version d),
      own-option nat_eq own-nat (session_timeout d),
    ) refl

pub own-same : (d : ServerDescription) → same d d ≡ true
own-same d =
    rw (own-address d.address, own-type d.server_type, own-set d, own-members d, own-abilities d, own-option same_version own-version (topology_version d), own-option same_error own-error (error d)) refl

pub filter-never : (f : ServerDescription → Bool) (xs : List ServerDescription) → ((i : ℕ) (s : ServerDescription) → slice_get xs i ≡ Some s → f s ≡ false) → filter f xs ≡ []
filter-never f [] never = refl
filter-never f (x ∷ xs) never = rw (never 0 x refl) (filter-never f xs (λ i s at. never (suc i) s at))

-- none of an ordered list differs from the list itself
pub none-differs : (xs : List ServerDescription) → in_order xs ≡ true → filter (differs_from xs) xs ≡ []
none-differs xs e = filter-never (differs_from xs) xs (λ i s at. rw (found_at_own xs i s e at, own-same s) refl)

pub unchanged : (xs : List ServerDescription) → in_order xs ≡ true → changed xs xs ≡ []
unchanged xs e = ap (map (λ (s : ServerDescription). s.address)) (none-differs xs e)
