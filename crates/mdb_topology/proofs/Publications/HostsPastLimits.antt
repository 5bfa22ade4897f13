-- What hosts that are named would run out of is told by how many of them there are, and how many of them are new.
use Rattle.std.proofs.Common.{ℕ, ◌≡◌, ◌+◌, ◌&&◌, Bool, true, false, if◌then◌else◌, List, [], ◌∷◌, length, nat_lt, Some, None, is_some, refl, sym, ◌∙◌, ap, inl, inr}
use Rattle.std.proofs.lemmas.Bool.{cases_Bool, and_parts}
use Rattle.mdb_base.specs.declared.address.ServerAddress.{ServerAddress}
use Rattle.mdb_base.specs.declared.options.Options.{Options}
use Rattle.mdb_srv.specs.declared.topology_type.TopologyType.{TopologyType}
use Rattle.mdb_srv.specs.declared.topology_type.TopologyType.TheVariants as Kind
use Rattle.mdb_srv.specs.Polling.{is_polled}
use Rattle.mdb_describe.specs.declared.description.ServerDescription.{ServerDescription}
use Rattle.mdb_describe.specs.declared.diff.Diff.{Diff}
use Rattle.mdb_describe.specs.declared.topology.TopologyDescription.{TopologyDescription}
use Rattle.mdb_describe.specs.Differences.{changed, difference, is_empty, missing, unless_empty}
use Rattle.mdb_describe.specs.Servers.{add_all, in_order, keep_listed}
use Rattle.mdb_describe.specs.Topology.{synced, synced_by_type}
use Rattle.mdb_log.specs.declared.reply.What.TheVariants.{Pool, Servers}
use Rattle.mdb_topology.specs.declared.topology.TopologyCore.{TopologyCore}
use Rattle.mdb_topology.specs.Changing.{change_past, passes_limit}
use Rattle.mdb_driver_rules.specs.Limits.{past_last, pool_limit}
use Rattle.mdb_driver_rules.specs.Naming.{is_past, new_hosts}
use Rattle.mdb_driver_rules.proofs.CountedHosts.{all-named, new-named}

some-if : (b : Bool) → is_some (if b then Some Pool else None) ≡ b
some-if true = refl
some-if false = refl

-- the last of the pools that come, by how many they are
last-past : (o : Options) (n : ℕ) (added : List ServerAddress) → is_some (past_last o n added) ≡ is_past o n (length added)
last-past o n [] = refl
last-past o n (a ∷ more) = some-if (nat_lt (pool_limit o) (n + length more))

nothing-added : (added : List ServerAddress) → is_empty added ≡ true → added ≡ []
nothing-added [] e = refl
nothing-added (a ∷ more) e = cc

module _ (w : TopologyCore) where
  abbrev n : ℕ
  n = length w.pools.cores.items

  abbrev known : List ServerDescription
  known = w.description.servers

  differing-past : (d : Diff) → passes_limit w (unless_empty d) ≡ is_past w.options n (length d.added)
  differing-past d = elim (cases_Bool (is_empty d.changed && (is_empty d.removed && is_empty d.added))) [
    | inl e ↦
        let both = and_parts (is_empty d.changed) (is_empty d.removed && is_empty d.added) e in
        let none : d.added ≡ [] = nothing-added d.added ((and_parts (is_empty d.removed) (is_empty d.added) both.1).1) in
        ap (λ b. passes_limit w (if b then None else Some d)) e ∙ ap (λ xs. is_past w.options n (length xs)) (sym none)
    | inr e ↦ ap (λ b. passes_limit w (if b then None else Some d)) e ∙ last-past w.options n d.added
  ]

  polled-servers : (kind : TopologyType) (hosts : List ServerAddress) → is_polled kind ≡ true → (synced_by_type kind hosts w.description).servers ≡ keep_listed hosts (add_all hosts known)
  polled-servers Kind.Sharded hosts e = refl
  polled-servers Kind.Unknown hosts e = refl
  polled-servers Kind.Single hosts e = cc
  polled-servers Kind.ReplicaSetNoPrimary hosts e = cc
  polled-servers Kind.ReplicaSetWithPrimary hosts e = cc
  polled-servers Kind.LoadBalanced hosts e = cc

  module _ (hosts : List ServerAddress) (polled : is_polled w.description.topology_type ≡ true) (ordered : in_order known ≡ true) where
    abbrev later : TopologyDescription
    later = synced hosts w.description

    servers-are : later.servers ≡ keep_listed hosts (add_all hosts known)
    servers-are = polled-servers w.description.topology_type hosts polled

    count-is : length later.servers ≡ new_hosts [] hosts
    count-is = ap length servers-are ∙ all-named hosts known ordered

    pools-past : passes_limit w (difference known later.servers) ≡ is_past w.options n (new_hosts known hosts)
    pools-past =
        differing-past (record { changed = changed known later.servers; removed = missing known later.servers; added = missing later.servers known })
        ∙ ap (is_past w.options n) (ap (λ xs. length (missing xs known)) servers-are ∙ new-named hosts known ordered)

    -- so it is told by these numbers
    named-past : change_past w later ≡ (if nat_lt 128 (new_hosts [] hosts) then Some Servers else if is_past w.options n (new_hosts known hosts) then Some Pool else None)
    named-past =
        ap (λ c. if nat_lt 128 c then Some Servers else if passes_limit w (difference known later.servers) then Some Pool else None) count-is
        ∙ ap (λ b. if nat_lt 128 (new_hosts [] hosts) then Some Servers else if b then Some Pool else None) pools-past

    pub past-servers : nat_lt 128 (new_hosts [] hosts) ≡ true → Some Servers ≡ change_past w later
    past-servers many = sym (named-past ∙ ap (λ b. if b then Some Servers else if is_past w.options n (new_hosts known hosts) then Some Pool else None) many)

    pub past-pools : nat_lt 128 (new_hosts [] hosts) ≡ false → is_past w.options n (new_hosts known hosts) ≡ true → Some Pool ≡ change_past w later
    past-pools few past =
        sym (named-past
        ∙ (ap (λ b. if b then Some Servers else if is_past w.options n (new_hosts known hosts) then Some Pool else None) few
        ∙ ap (λ b. if b then Some Pool else None) past))

    pub past-none : nat_lt 128 (new_hosts [] hosts) ≡ false → is_past w.options n (new_hosts known hosts) ≡ false → None ≡ change_past w later
    past-none few past =
        sym (named-past
        ∙ (ap (λ b. if b then Some Servers else if is_past w.options n (new_hosts known hosts) then Some Pool else None) few
        ∙ ap (λ b. if b then Some Pool else None) past))
