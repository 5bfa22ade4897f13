-- Parts of lists, and of what is known of a member.
use Rattle.std.proofs.Common.{◌≡◌, ℕ, zero, suc, ◌+◌, ◌-◌, ◌<◌, ◌^◌, Bool, true, false, not, ◌⊎◌, inl, inr, List, [], ◌∷◌, ◌++◌, length, find, Option, Some, None, refl, sym, ap, ◌∙◌, subst}
use Rattle.std.specs.Prelude.{slice_get, is_some, pos, option_and_then}
use Rattle.std.proofs.lemmas.Bool.{cases_Bool}
use Rattle.mdb_base.specs.declared.object_id.ObjectId.{ObjectId}
use Rattle.mdb_base.specs.declared.topology_version.TopologyVersion.{TopologyVersion}
use Rattle.mdb_base.specs.Equality.{same_id, same_address}
use Rattle.mdb_describe.specs.declared.description.ServerDescription.{ServerDescription}
use Rattle.mdb_describe.specs.declared.topology.TopologyDescription.{TopologyDescription}
use Rattle.mdb_describe.specs.Fields.{topology_version}
use Rattle.mdb_describe.specs.Servers.{is_known}
use Rattle.mdb_describe.specs.Topology.{server_at}
use Rattle.mdb_describe.specs.Update.{is_new, is_not_older, is_older}
use Rattle.mdb_describe.proofs.Found.{known_where_found}
use Rattle.mdb_describe.proofs.Parsed.{own_bytes}
use Rattle.mdb_fleets.specs.declared.member.Member.{Member}
use Rattle.mdb_fleets.specs.MemberReplies.{address_of, process_of}
use Rattle.mdb_failover.specs.Followed.{Each, OwnProcess}
use Rattle.mdb_failover.specs.Says.{Says}
use Rattle.mdb_failover.proofs.Addresses.{same-address}
use Rattle.mdb_fleet_laws.specs.Failover.{is_not_above, version_of}

-- the last of a list
pub last-is : {A : Type 0} (xs : List A) (x : A) → slice_get (xs ++ x ∷ []) (length xs) ≡ Some x
last-is [] x = refl
last-is (y ∷ xs) x = last-is xs x

-- an element of a longer list is one of the list, or the last
pub one-more : {A : Type 0} (xs : List A) (x : A) (i : ℕ) (y : A) → slice_get (xs ++ x ∷ []) i ≡ Some y → (slice_get xs i ≡ Some y) ⊎ (y ≡ x)
one-more [] x zero y h = let e : Some x ≡ Some y = h in inr (cc)
one-more [] x (suc i) y h = absurd (cc)
one-more (z ∷ xs) x zero y h = inl h
one-more (z ∷ xs) x (suc i) y h = one-more xs x i y h

-- what is found is one of them
found-each : (P : ServerDescription → Type 0) (p : ServerDescription → Bool) (xs : List ServerDescription) (s : ServerDescription) → Each P xs → find p xs ≡ Some s → P s × (p s ≡ true)
found-each P p [] s all h = absurd (cc)
found-each P p (x ∷ xs) s all h = elim (cases_Bool (p x)) [
  | inl passes ↦ let e : Some x ≡ Some s = rw passes at h in let same : x ≡ s = cc in (subst P same all.0, ap p (sym same) ∙ passes)
  | inr fails ↦ found-each P p xs s all.1 (rw fails at h)
]

-- a member's reply is new exactly where the known counter isn't above its own
module _ (n k : ℕ) (m : Member) (small : k < 2 ^ 64) (d : TopologyDescription) (own : Each OwnProcess d.servers) (known : is_known (address_of k) d.servers ≡ true) where
  by-version : (w : Option TopologyVersion) → ((v : TopologyVersion) → w ≡ Some v → v.process_id ≡ process_of k) → not (is_older (Some (record { process_id = process_of k; counter = pos m.counter })) w) ≡ is_not_above w m
  by-version None its = refl
  by-version (Some v) its =
      let same : same_id (process_of k) v.process_id ≡ true = own_bytes (process_of k).0 v.process_id.0 (ap (λ (x : ObjectId). x.0) (sym (its v refl))) in
      rw same refl

  by-server : (x : Option ServerDescription) → server_at (address_of k) d.servers ≡ x → is_not_older (Some (record { process_id = process_of k; counter = pos m.counter })) x ≡ is_not_above (option_and_then topology_version x) m
  by-server None e =
      let wrong : is_some (server_at (address_of k) d.servers) ≡ true = known_where_found (address_of k) d.servers ∙ known in
      absurd (let no : is_some (server_at (address_of k) d.servers) ≡ false = ap is_some e in cc)
  by-server (Some y) e =
      let its = found-each OwnProcess (λ s. same_address s.address (address_of k)) d.servers y own e in
      by-version (topology_version y) (λ v h. its.0 k v small (same-address y.address (address_of k) its.1) h)

  pub new-is : (s : ServerDescription) → Says n k m s → is_new d s ≡ is_not_above (version_of d k) m
  new-is s says = rw (says.topology, says.address) (by-server (server_at (address_of k) d.servers) refl)
