-- Where an update does no more than store the description.
use Rattle.std.proofs.Common.{◌≡◌, Bool, true, false, ℕ, List, [], ◌∷◌, Option, None, if◌then◌else◌, refl, sym, ap, ◌∙◌}
use Rattle.std.proofs.lemmas.Bool.{or_right}
use Rattle.mdb_base.specs.declared.address.ServerAddress.{ServerAddress}
use Rattle.mdb_base.specs.Equality.{same_address}
use Rattle.mdb_srv.specs.declared.topology_type.TopologyType.{TopologyType}
use Rattle.mdb_srv.specs.declared.topology_type.TopologyType.TheVariants as Kind
use Rattle.mdb_describe.specs.declared.description.ServerDescription.{ServerDescription}
use Rattle.mdb_describe.specs.declared.topology.TopologyDescription.{TopologyDescription}
use Rattle.mdb_describe.specs.Servers.{first_incompatible, has_other_primary, has_primary, is_primary_type, store}
use Rattle.mdb_describe.specs.Update.{check, decided, is_misnamed, is_new, of_type, stored, table, updated, with_compatibility}

other-is-one : (a : ServerAddress) (xs : List ServerDescription) → has_other_primary a xs ≡ true → has_primary xs ≡ true
other-is-one a [] h = h
other-is-one a (s ∷ xs) h = on (is_primary_type s.server_type) refl (λ g. other-is-one a xs g)
  where
    on : (b : Bool) → is_primary_type s.server_type ≡ b → (has_other_primary a xs ≡ true → has_primary xs ≡ true) → has_primary (s ∷ xs) ≡ true
    on true e deeper = rw e refl
    on false e deeper = let w : has_other_primary a (s ∷ xs) ≡ has_other_primary a xs = rw e refl in rw e (deeper (sym w ∙ h))

-- another primary is still there where a description takes its place
primary-stays : (d : ServerDescription) (xs : List ServerDescription) → has_other_primary d.address xs ≡ true → has_primary (store d xs) ≡ true
primary-stays d [] h = h
primary-stays d (s ∷ xs) h = on (same_address s.address d.address) (is_primary_type s.server_type) refl refl (λ g. primary-stays d xs g)
  where
    behind : has_other_primary d.address xs ≡ true → has_primary (d ∷ xs) ≡ true
    behind g = or_right (is_primary_type d.server_type) (has_primary xs) (other-is-one d.address xs g)

    on : (b c : Bool) → same_address s.address d.address ≡ b → is_primary_type s.server_type ≡ c → (has_other_primary d.address xs ≡ true → has_primary (store d xs) ≡ true) → has_primary (store d (s ∷ xs)) ≡ true
    on true true e f deeper = let w : has_other_primary d.address (s ∷ xs) ≡ has_other_primary d.address xs = rw (f, e) refl in rw e (behind (sym w ∙ h))
    on true false e f deeper = let w : has_other_primary d.address (s ∷ xs) ≡ has_other_primary d.address xs = rw f refl in rw e (behind (sym w ∙ h))
    on false true e f deeper = rw (e, f) refl
    on false false e f deeper = let w : has_other_primary d.address (s ∷ xs) ≡ has_other_primary d.address xs = rw f refl in rw (e, f) (deeper (sym w ∙ h))

checked-alike : (t : TopologyDescription) (s : ServerDescription) → t.topology_type ≡ Kind.ReplicaSetWithPrimary → has_other_primary s.address t.servers ≡ true → check (stored t s) ≡ stored t s
checked-alike t s kind other =
    let w : check (stored t s) ≡ of_type Kind.ReplicaSetWithPrimary (stored t s) = ap (λ (b : Bool). of_type (if b then Kind.ReplicaSetWithPrimary else Kind.ReplicaSetNoPrimary) (stored t s)) (primary-stays s t.servers other) in
    w ∙ ap (λ (k : TopologyType). of_type k (stored t s)) (sym kind)

-- in a set with a primary, where it is only asked whether there still is one
pub checked-alone : (t : TopologyDescription) (s : ServerDescription) → t.topology_type ≡ Kind.ReplicaSetWithPrimary → table Kind.ReplicaSetWithPrimary s.server_type (stored t s) s ≡ check (stored t s) → has_other_primary s.address t.servers ≡ true
    → decided t s ≡ with_compatibility (stored t s)
checked-alone t s kind checks other = ap (λ (k : TopologyType). with_compatibility (table k s.server_type (stored t s) s)) kind ∙ ap with_compatibility (checks ∙ checked-alike t s kind other)

-- the driver can speak to each server, before and after
pub stored-alone : (t : TopologyDescription) (s : ServerDescription) → is_new t s ≡ true → is_misnamed t.topology_type t s ≡ false → decided t s ≡ with_compatibility (stored t s) → t.compatibility_error ≡ None → first_incompatible (store s t.servers) ≡ None
    → updated t s ≡ stored t s
stored-alone t s new named alone before after =
    let w : updated t s ≡ decided t s = rw (new, named) refl in
    w ∙ (alone ∙ ap (λ (e : Option (List ℕ)). record (stored t s) { compatibility_error = e }) (after ∙ sym before))
