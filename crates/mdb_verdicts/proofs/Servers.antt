-- The rules of a topology keep the addresses of its servers plain.
use Rattle.std.proofs.Common.{ℕ, ◌≡◌, Bool, true, false, not, List, [], ◌∷◌, Option, Some, None, refl, if◌then◌else◌}
use Rattle.std.proofs.lemmas.Bool.{and_parts}
use Rattle.mdb_base.specs.AddressRule.{is_address}
use Rattle.mdb_base.specs.AddressOrder.{is_before}
use Rattle.mdb_base.specs.AddressReading.{address_of}
use Rattle.mdb_base.specs.Equality.{same_address}
use Rattle.mdb_base.specs.declared.address.ServerAddress.{ServerAddress}
use Rattle.mdb_base.specs.declared.options.Options.{Options}
use Rattle.mdb_hello.specs.declared.response.HelloReply.{HelloReply}
use Rattle.mdb_hello.specs.declared.response.HelloCommandResponse.{HelloCommandResponse}
use Rattle.mdb_hello.specs.declared.server_type.ServerType.{ServerType}
use Rattle.mdb_hello.specs.declared.server_type.ServerType.TheVariants as server
use Rattle.mdb_srv.specs.declared.topology_type.TopologyType.{TopologyType}
use Rattle.mdb_srv.specs.declared.topology_type.TopologyType.TheVariants as kind
use Rattle.mdb_describe.specs.declared.description.ServerDescription.{ServerDescription}
use Rattle.mdb_describe.specs.declared.topology.TopologyDescription.{TopologyDescription}
use Rattle.mdb_describe.specs.Descriptions.{unknown, failed, replied, bad_reply, from_reply, listed_texts}
use Rattle.mdb_describe.specs.Fields.{response, invalid_me}
use Rattle.mdb_describe.specs.Listed.{lower, spells, kept_if_spelled, parsed, with_address, addresses, are_addresses}
use Rattle.mdb_describe.specs.Servers.{is_known, is_listed, store, remove, forget_where, forget_other_primaries, put, add, add_all, keep_listed}
use Rattle.mdb_describe.specs.Topology.{opened, synced_by_type, synced}
use Rattle.mdb_describe.specs.Update.{listed_in, listed, stored, removed, forgotten, check, learn, names_other, add_listed, removed_if_invalid, member_rule_a, member_rule_b, is_outdated, with_maxima, leads, ranked, primary_rule, table, decided, is_new, is_misnamed, taken, updated, of_type}
use Rattle.mdb_verdicts.proofs.Plain.{IsPlainAddress, ArePlainAddresses, IsPlainServer, ArePlainServers}
use Rattle.mdb_verdicts.proofs.Lists.{all-filter, IfAny}

-- lists of servers

servers-if : (b : Bool) (xs ys : List ServerDescription) → ArePlainServers xs → ArePlainServers ys → ArePlainServers (if b then xs else ys)
servers-if true xs ys i j = i
servers-if false xs ys i j = j

store-plain : (d : ServerDescription) (xs : List ServerDescription) → IsPlainServer d → ArePlainServers xs → ArePlainServers (store d xs)
store-plain d [] i h = tt
store-plain d (s ∷ xs) i h = servers-if (same_address s.address d.address) (d ∷ xs) (s ∷ store d xs) (i, h.1) (h.0, store-plain d xs i h.1)

remove-plain : (a : ServerAddress) (xs : List ServerDescription) → ArePlainServers xs → ArePlainServers (remove a xs)
remove-plain a xs h = all-filter IsPlainServer (λ s. not (same_address s.address a)) xs h

forget-plain : (test : ServerDescription → Bool) (xs : List ServerDescription) → ArePlainServers xs → ArePlainServers (forget_where test xs)
forget-plain test [] h = tt
forget-plain test (s ∷ xs) h = (on (test s), forget-plain test xs h.1)
  where
    on : (b : Bool) → IsPlainServer (if b then unknown s.address else s)
    on true = h.0
    on false = h.0

put-plain : (d : ServerDescription) (xs : List ServerDescription) → IsPlainServer d → ArePlainServers xs → ArePlainServers (put d xs)
put-plain d [] i h = (i, tt)
put-plain d (s ∷ xs) i h = servers-if (is_before d.address s.address) (d ∷ (s ∷ xs)) (s ∷ put d xs) (i, h) (h.0, put-plain d xs i h.1)

add-plain : (a : ServerAddress) (xs : List ServerDescription) → IsPlainAddress a → ArePlainServers xs → ArePlainServers (add a xs)
add-plain a xs i h = servers-if (is_known a xs) xs (put (unknown a) xs) h (put-plain (unknown a) xs i h)

add-all-plain : (list : List ServerAddress) (xs : List ServerDescription) → ArePlainAddresses list → ArePlainServers xs → ArePlainServers (add_all list xs)
add-all-plain [] xs i h = h
add-all-plain (a ∷ list) xs i h = add-all-plain list (add a xs) i.1 (add-plain a xs i.0 h)

keep-plain : (list : List ServerAddress) (xs : List ServerDescription) → ArePlainServers xs → ArePlainServers (keep_listed list xs)
keep-plain list xs h = all-filter IsPlainServer (λ s. is_listed list s.address) xs h

-- what a server lists

kept-plain : (text : List ℕ) (x : Option ServerAddress) → IfAny IsPlainAddress (kept_if_spelled text x)
kept-plain text None = tt
kept-plain text (Some a) = on (spells text a) refl
  where
    on : (b : Bool) → spells text a ≡ b → IfAny IsPlainAddress (if b then Some a else None)
    on true e = (and_parts (is_address a) _ e).0
    on false e = tt

parsed-plain : (text : List ℕ) → IfAny IsPlainAddress (parsed text)
unfolding parsed
parsed-plain text = kept-plain (lower text) (address_of (lower text))

with-plain : (x : Option ServerAddress) (more : List ServerAddress) → IfAny IsPlainAddress x → ArePlainAddresses more → ArePlainAddresses (with_address x more)
with-plain None more i h = h
with-plain (Some a) more i h = (i, h)

addresses-plain : (texts : List (List ℕ)) → ArePlainAddresses (addresses texts)
addresses-plain [] = tt
addresses-plain (text ∷ texts) = with-plain (parsed text) (addresses texts) (parsed-plain text) (addresses-plain texts)

listed-plain : (s : ServerDescription) → ArePlainAddresses (listed s)
listed-plain s = on (response s)
  where
    on : (r : Option HelloCommandResponse) → ArePlainAddresses (listed_in r)
    on None = tt
    on (Some r) = addresses-plain (listed_texts r)

-- what is known of a topology

abbrev pub IsPlainTopology : TopologyDescription → Type 0
IsPlainTopology t = ArePlainServers t.servers

topology-if : (b : Bool) (t u : TopologyDescription) → IsPlainTopology t → IsPlainTopology u → IsPlainTopology (if b then t else u)
topology-if true t u i j = i
topology-if false t u i j = j

removed-plain : (t : TopologyDescription) (s : ServerDescription) → IsPlainTopology t → IsPlainTopology (removed t s)
removed-plain t s h = remove-plain s.address t.servers h

rule-a-plain : (t : TopologyDescription) (s : ServerDescription) → IsPlainTopology t → IsPlainTopology (member_rule_a t s)
rule-a-plain t s h =
    let more = add_listed (learn t s) s in
    let i : IsPlainTopology more = add-all-plain (listed s) t.servers (listed-plain s) h in
    topology-if (names_other t s) (removed t s) (removed_if_invalid more s) (removed-plain t s h) (topology-if (invalid_me s) (removed more s) more (removed-plain more s i) i)

rule-b-plain : (t : TopologyDescription) (s : ServerDescription) → IsPlainTopology t → IsPlainTopology (member_rule_b t s)
rule-b-plain t s h = topology-if _ (check (removed t s)) (check t) (removed-plain t s h) h

leads-plain : (t : TopologyDescription) (s : ServerDescription) → IsPlainTopology t → IsPlainTopology (leads t s)
leads-plain t s h =
    let others = forget_other_primaries s.address t.servers in
    keep-plain (listed s) (add_all (listed s) others) (add-all-plain (listed s) others (listed-plain s) (forget-plain _ t.servers h))

ranked-plain : (t : TopologyDescription) (s : ServerDescription) → IsPlainTopology t → IsPlainTopology (ranked t s)
ranked-plain t s h = topology-if (is_outdated t s) (check (forgotten t s)) (leads (with_maxima t s) s) (forget-plain _ t.servers h) (leads-plain (with_maxima t s) s h)

primary-plain : (t : TopologyDescription) (s : ServerDescription) → IsPlainTopology t → IsPlainTopology (primary_rule t s)
primary-plain t s h = topology-if (names_other t s) (check (removed t s)) (ranked (learn t s) s) (removed-plain t s h) (ranked-plain (learn t s) s h)

table-plain : (k : TopologyType) (d : ServerType) (t : TopologyDescription) (s : ServerDescription) → IsPlainTopology t → IsPlainTopology (table k d t s)
table-plain kind.Unknown server.Standalone t s h = topology-if t.one_seed (of_type kind.Single t) (removed t s) h (removed-plain t s h)
table-plain kind.Unknown server.RsPrimary t s h = primary-plain t s h
table-plain kind.Unknown server.RsSecondary t s h = rule-a-plain (of_type kind.ReplicaSetNoPrimary t) s h
table-plain kind.Unknown server.RsArbiter t s h = rule-a-plain (of_type kind.ReplicaSetNoPrimary t) s h
table-plain kind.Unknown server.RsOther t s h = rule-a-plain (of_type kind.ReplicaSetNoPrimary t) s h
table-plain kind.Sharded server.Standalone t s h = removed-plain t s h
table-plain kind.Sharded server.RsPrimary t s h = removed-plain t s h
table-plain kind.Sharded server.RsSecondary t s h = removed-plain t s h
table-plain kind.Sharded server.RsArbiter t s h = removed-plain t s h
table-plain kind.Sharded server.RsOther t s h = removed-plain t s h
table-plain kind.Sharded server.RsGhost t s h = removed-plain t s h
table-plain kind.ReplicaSetNoPrimary server.Standalone t s h = removed-plain t s h
table-plain kind.ReplicaSetNoPrimary server.Mongos t s h = removed-plain t s h
table-plain kind.ReplicaSetNoPrimary server.RsPrimary t s h = primary-plain t s h
table-plain kind.ReplicaSetNoPrimary server.RsSecondary t s h = rule-a-plain t s h
table-plain kind.ReplicaSetNoPrimary server.RsArbiter t s h = rule-a-plain t s h
table-plain kind.ReplicaSetNoPrimary server.RsOther t s h = rule-a-plain t s h
table-plain kind.ReplicaSetWithPrimary server.Standalone t s h = removed-plain t s h
table-plain kind.ReplicaSetWithPrimary server.Mongos t s h = removed-plain t s h
table-plain kind.ReplicaSetWithPrimary server.RsPrimary t s h = primary-plain t s h
table-plain kind.ReplicaSetWithPrimary server.RsSecondary t s h = rule-b-plain t s h
table-plain kind.ReplicaSetWithPrimary server.RsArbiter t s h = rule-b-plain t s h
table-plain kind.ReplicaSetWithPrimary server.RsOther t s h = rule-b-plain t s h
table-plain _ _ t s h = h

decided-plain : (t : TopologyDescription) (s : ServerDescription) → IsPlainTopology t → IsPlainServer s → IsPlainTopology (decided t s)
decided-plain t s h i = table-plain t.topology_type s.server_type (stored t s) s (store-plain s t.servers i h)

pub updated-plain : (t : TopologyDescription) (s : ServerDescription) → IsPlainTopology t → IsPlainServer s → IsPlainTopology (updated t s)
updated-plain t s h i =
    topology-if (is_new t s) (taken t s) t
    (topology-if (is_misnamed t.topology_type t s) (decided t (unknown s.address)) (decided t s) (decided-plain t (unknown s.address) h i) (decided-plain t s h i)) h

pub opened-plain : (o : Options) → ArePlainAddresses o.seeds → IsPlainTopology (opened o)
opened-plain o i = add-all-plain o.seeds [] i tt

only-plain : (k : TopologyType) (hosts : List ServerAddress) (t : TopologyDescription) → ArePlainAddresses hosts → IsPlainTopology t → IsPlainTopology (synced_by_type k hosts t)
only-plain kind.Sharded hosts t i h = keep-plain hosts (add_all hosts t.servers) (add-all-plain hosts t.servers i h)
only-plain kind.Unknown hosts t i h = keep-plain hosts (add_all hosts t.servers) (add-all-plain hosts t.servers i h)
only-plain _ hosts t i h = h

pub synced-plain : (hosts : List ServerAddress) (t : TopologyDescription) → ArePlainAddresses hosts → IsPlainTopology t → IsPlainTopology (synced hosts t)
synced-plain hosts t i h = only-plain t.topology_type hosts t i h

-- a description that a reply gives is of the address
pub reply-server : (a : ServerAddress) (r : HelloReply) (rtt at : ℕ) → IsPlainAddress a → IsPlainServer (from_reply a r rtt at)
reply-server a r rtt at i = on (are_addresses (listed_texts r.command_response))
  where
    on : (b : Bool) → IsPlainServer (if b then replied a r rtt at else failed a bad_reply)
    on true = i
    on false = i
