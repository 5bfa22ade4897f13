-- A description that follows a replica set goes on doing so, whatever it takes.
use Rattle.std.proofs.Common.{◌≡◌, ℕ, ◌<◌, ◌^◌, Bool, true, false, not, ◌&&◌, inl, inr, List, [], ◌∷◌, ◌++◌, Option, Some, None, refl, sym, ap, ◌∙◌, subst}
use Rattle.std.specs.Prelude.{ℤ, pos, option_map, IfSome}
use Rattle.std.specs.List.{list_all}
use Rattle.std.proofs.lemmas.Bool.{cases_Bool}
use Rattle.std.proofs.lemmas.List.{append-nil}
use Rattle.mdb_base.specs.declared.address.ServerAddress.{ServerAddress}
use Rattle.mdb_base.specs.declared.error.Error.{Error}
use Rattle.mdb_base.specs.declared.object_id.ObjectId.{ObjectId}
use Rattle.mdb_base.specs.Equality.{same_address}
use Rattle.mdb_hello.specs.declared.server_type.ServerType.{ServerType}
use Rattle.mdb_hello.specs.declared.server_type.ServerType.TheVariants.{RsPrimary, RsSecondary, Unknown}
use Rattle.mdb_srv.specs.declared.topology_type.TopologyType.TheVariants.{ReplicaSetNoPrimary, ReplicaSetWithPrimary}
use Rattle.mdb_describe.specs.declared.description.ServerDescription.{ServerDescription}
use Rattle.mdb_describe.specs.declared.topology.TopologyDescription.{TopologyDescription}
use Rattle.mdb_describe.specs.Descriptions.{unknown, failed}
use Rattle.mdb_describe.specs.Fields.{election_id, set_version, set_name}
use Rattle.mdb_describe.specs.Servers.{addresses_of, in_order, is_listed, is_primary_type, has_primary, store, forget_other_primaries, add_all, keep_listed}
use Rattle.mdb_describe.specs.Update.{updated, table, stored, is_new, kind_by_primary, check, names_other, learn, listed, is_outdated, pair_is_below, ranked, leads, name_or, forgotten, with_compatibility}
use Rattle.mdb_describe.proofs.InOrder.{stored_in_order, forgotten_in_order}
use Rattle.mdb_fleets.specs.declared.member.Member.{Member}
use Rattle.mdb_fleets.specs.MemberReplies.{addresses_of as members_of, election_id as id_of}
use Rattle.mdb_failover.specs.Elections.{Pair, is_below, greater, top}
use Rattle.mdb_failover.specs.Followed.{OwnProcess, Won, IsHonest, pair_of, with_pair, Leads, LeadsIfPrimary, Each, Follows}
use Rattle.mdb_failover.specs.Says.{Says}
use Rattle.mdb_failover.proofs.Lists.{stored-addresses, forgotten-addresses, added-none, kept-all, each-stored, each-forgotten, each-map, each-where, stored-alone, stored-secondary}
use Rattle.mdb_failover.proofs.Addresses.{own-address}
use Rattle.mdb_failover.proofs.Growing.{same-top}
use Rattle.mdb_failover.proofs.Says.{own-process}
use Rattle.mdb_failover.proofs.Tops.{top-more, outdated}

-- the pair is below the greatest so far
abbrev below_top : Pair → Option Pair → Bool
below_top p None = false
below_top p (Some t) = is_below p t

new-top : (p : Pair) (t : Option Pair) → below_top p t ≡ false → greater t p ≡ p
new-top p None so = refl
new-top p (Some t) so = rw so refl

old-top : (p : Pair) (t : Option Pair) → below_top p t ≡ true → t ≡ Some (greater t p)
old-top p None so = absurd (cc)
old-top p (Some t) so = rw so refl

below-from : (e v : ℕ) (t : Option Pair) → e < 2 ^ 64 → IfSome t (λ x. x.election < 2 ^ 64)
    → pair_is_below (Some (id_of e)) (Some (pos v)) (option_map (λ x. id_of x.election) t) (option_map (λ x. pos x.version) t) ≡ below_top (record { election = e; version = v }) t
below-from e v None few small = refl
below-from e v (Some t) few small = outdated (record { election = e; version = v }) t few small

module _ (n : ℕ) (winners : List ℕ) where
  -- a server that is no primary leads nobody
  nobody : (t : Option Pair) (s : ServerDescription) → is_primary_type s.server_type ≡ false → LeadsIfPrimary winners t s
  nobody t s none primary = absurd (cc)

  -- the rule that is taken, by the types of the topology and of the server

  as-without : (d : TopologyDescription) (s : ServerDescription) → is_new d s ≡ true → d.topology_type ≡ ReplicaSetNoPrimary → updated d s ≡ with_compatibility (table ReplicaSetNoPrimary s.server_type (stored d s) s)
  as-without d s new type = rw (new, type) refl

  as-with : (d : TopologyDescription) (s : ServerDescription) → is_new d s ≡ true → d.topology_type ≡ ReplicaSetWithPrimary → updated d s ≡ with_compatibility (table ReplicaSetWithPrimary s.server_type (stored d s) s)
  as-with d s new type = rw (new, type) refl

  rule-without : (d : TopologyDescription) (s : ServerDescription) (kind : ServerType) → is_new d s ≡ true → d.topology_type ≡ ReplicaSetNoPrimary → s.server_type ≡ kind
      → updated d s ≡ with_compatibility (table ReplicaSetNoPrimary kind (stored d s) s)
  rule-without d s kind new type its = as-without d s new type ∙ ap (λ (k : ServerType). with_compatibility (table ReplicaSetNoPrimary k (stored d s) s)) its

  rule-with : (d : TopologyDescription) (s : ServerDescription) (kind : ServerType) → is_new d s ≡ true → d.topology_type ≡ ReplicaSetWithPrimary → s.server_type ≡ kind
      → updated d s ≡ with_compatibility (table ReplicaSetWithPrimary kind (stored d s) s)
  rule-with d s kind new type its = as-with d s new type ∙ ap (λ (k : ServerType). with_compatibility (table ReplicaSetWithPrimary k (stored d s) s)) its

  kind-without : (d : TopologyDescription) → d.topology_type ≡ kind_by_primary d.servers → has_primary d.servers ≡ false → d.topology_type ≡ ReplicaSetNoPrimary
  kind-without d kind has = kind ∙ rw has refl

  kind-with : (d : TopologyDescription) → d.topology_type ≡ kind_by_primary d.servers → has_primary d.servers ≡ true → d.topology_type ≡ ReplicaSetWithPrimary
  kind-with d kind has = kind ∙ rw has refl

  -- a description with other servers at the same addresses
  module _ (pairs : List Pair) (d : TopologyDescription) (f : Follows n winners pairs d) where
    others : (e : TopologyDescription) → e.topology_type ≡ kind_by_primary e.servers → e.set_name ≡ d.set_name → e.max_election_id ≡ d.max_election_id → e.max_set_version ≡ d.max_set_version
        → addresses_of e.servers ≡ addresses_of d.servers → in_order e.servers ≡ true → Each OwnProcess e.servers → Each (LeadsIfPrimary winners (top pairs)) e.servers → Follows n winners pairs e
    others e kind name election version same ordered processes leads = record {
      kind = kind;
      named = name ∙ f.named;
      ordered = ordered;
      known = rw same f.known;
      only = rw same f.only;
      election = election ∙ f.election;
      version = version ∙ f.version;
      small = f.small;
      processes = processes;
      leads = leads;
    }

    -- a server that is no primary is stored
    module _ (s : ServerDescription) (none : is_primary_type s.server_type ≡ false) (own : OwnProcess s) where
      its-own : Each OwnProcess (store s d.servers)
      its-own = each-stored OwnProcess s d.servers own f.processes

      its : Each (LeadsIfPrimary winners (top pairs)) (store s d.servers)
      its = each-stored (LeadsIfPrimary winners (top pairs)) s d.servers (nobody (top pairs) s none) f.leads

      -- where the type is found anew
      checked : (name : Option (List ℕ)) (error : Option (List ℕ)) → name ≡ d.set_name → Follows n winners pairs (record d { topology_type = kind_by_primary (store s d.servers); set_name = name; compatibility_error = error; servers = store s d.servers })
      checked name error same = others (record d { topology_type = kind_by_primary (store s d.servers); set_name = name; compatibility_error = error; servers = store s d.servers })
          refl same refl refl (stored-addresses s d.servers) (stored_in_order s d.servers f.ordered) its-own its

      -- where it stays, as there is no primary
      unchecked : has_primary d.servers ≡ false → (name : Option (List ℕ)) (error : Option (List ℕ)) → name ≡ d.set_name → Follows n winners pairs (record d { topology_type = ReplicaSetNoPrimary; set_name = name; compatibility_error = error; servers = store s d.servers })
      unchecked has name error same = others (record d { topology_type = ReplicaSetNoPrimary; set_name = name; compatibility_error = error; servers = store s d.servers })
          (rw (stored-secondary s d.servers none has) refl) same refl refl (stored-addresses s d.servers) (stored_in_order s d.servers f.ordered) its-own its

    -- a hello that failed

    no-process : (a : ServerAddress) (e : Error) → e.topology_version ≡ None → OwnProcess (failed a e)
    no-process a e none k v few at is = absurd (cc)

    fails : (a : ServerAddress) (e : Error) → e.topology_version ≡ None → is_new d (failed a e) ≡ true → Follows n winners pairs (updated d (failed a e))
    fails a e none new = elim (cases_Bool (has_primary d.servers)) [
      | inl has ↦ rw (rule-with d (failed a e) Unknown new (kind-with d f.kind has) refl) (checked (failed a e) refl (no-process a e none) d.set_name _ refl)
      | inr has ↦ rw (rule-without d (failed a e) Unknown new (kind-without d f.kind has) refl, kind-without d f.kind has) (unchecked (failed a e) refl (no-process a e none) has d.set_name _ refl)
    ]

    pub failing : (a : ServerAddress) (e : Error) → e.topology_version ≡ None → Follows n winners pairs (updated d (failed a e))
    failing a e none = elim (cases_Bool (is_new d (failed a e))) [
      | inl new ↦ fails a e none new
      | inr old ↦ rw old f
    ]

    -- a reply of a member
    module _ (k : ℕ) (m : Member) (s : ServerDescription) (few : k < 2 ^ 64) (says : Says n k m s) (new : is_new d s ≡ true) where
      unnamed : names_other (stored d s) s ≡ false
      unnamed = rw (f.named, says.named) refl

      name-stays : name_or d.set_name (set_name s) ≡ d.set_name
      name-stays = rw f.named refl

      stays : add_all (members_of n) (store s d.servers) ≡ store s d.servers
      stays = added-none (members_of n) (store s d.servers) (rw (stored-addresses s d.servers) f.known)

      secondary : s.server_type ≡ RsSecondary → Follows n winners pairs (updated d s)
      secondary kind =
          let none : is_primary_type s.server_type ≡ false = rw kind refl in
          elim (cases_Bool (has_primary d.servers)) [
            | inl has ↦ rw (rule-with d s RsSecondary new (kind-with d f.kind has) kind, unnamed, says.own) (checked s none (own-process n k m s few says) d.set_name _ refl)
            | inr has ↦
                let type = kind-without d f.kind has in
                rw (rule-without d s RsSecondary new type kind, unnamed, says.own, says.listed, stays, type) (unchecked s none (own-process n k m s few says) has (name_or d.set_name (set_name s)) _ name-stays)
          ]

      primary-is : s.server_type ≡ RsPrimary → updated d s ≡ with_compatibility (ranked (learn (stored d s) s) s)
      primary-is kind = elim (cases_Bool (has_primary d.servers)) [
        | inl has ↦ rw (rule-with d s RsPrimary new (kind-with d f.kind has) kind, unnamed) refl
        | inr has ↦ rw (rule-without d s RsPrimary new (kind-without d f.kind has) kind, unnamed) refl
      ]

      -- a primary
      module _ (kind : s.server_type ≡ RsPrimary) (e : ℕ) (elected : m.election ≡ Some e) (won : Won winners e k) where
        abbrev its_pair : Pair
        its_pair = record { election = e; version = m.set_version }

        id-is : election_id s ≡ Some (id_of e)
        id-is = says.election ∙ rw elected refl

        ruled : is_outdated (learn (stored d s) s) s ≡ below_top its_pair (top pairs)
        ruled =
            rw says.modern
            (ap (λ (x : Option ObjectId). pair_is_below x (set_version s) d.max_election_id d.max_set_version) id-is ∙ ap (λ (x : Option ℤ). pair_is_below (Some (id_of e)) x d.max_election_id d.max_set_version) says.version
            ∙ ap (λ (x : Option ObjectId). pair_is_below (Some (id_of e)) (Some (pos m.set_version)) x d.max_set_version) f.election
            ∙ ap (λ (x : Option ℤ). pair_is_below (Some (id_of e)) (Some (pos m.set_version)) (option_map (λ t. id_of t.election) (top pairs)) x) f.version ∙ below-from e m.set_version (top pairs) won.small f.small)

        -- the servers but this one lead as before
        spared : Each (λ x. same_address x.address s.address ≡ false → LeadsIfPrimary winners (top pairs) x) (store s d.servers)
        spared =
            each-stored (λ x. same_address x.address s.address ≡ false → LeadsIfPrimary winners (top pairs) x) s d.servers (λ other. let own = own-address s.address in absurd (cc))
            (each-map (LeadsIfPrimary winners (top pairs)) (λ x. same_address x.address s.address ≡ false → LeadsIfPrimary winners (top pairs) x) d.servers (λ x l other. l) f.leads)

        -- an earlier election or configuration: nothing more is known of the server
        lags : below_top its_pair (top pairs) ≡ true → Follows n winners pairs (updated d s)
        lags so =
            rw (primary-is kind, ruled, so)
            (others (with_compatibility (check (forgotten (learn (stored d s) s) s))) refl name-stays refl refl
            (forgotten-addresses (λ x. same_address x.address s.address) (store s d.servers) ∙ stored-addresses s d.servers)
            (forgotten_in_order (λ x. same_address x.address s.address) (store s d.servers) (stored_in_order s d.servers f.ordered))
            (each-forgotten OwnProcess (λ x. same_address x.address s.address) (store s d.servers) (λ a j v less at is. absurd (cc)) (each-stored OwnProcess s d.servers (own-process n k m s few says) f.processes))
            (each-where (λ x. same_address x.address s.address ≡ false → LeadsIfPrimary winners (top pairs) x) (LeadsIfPrimary winners (top pairs)) (λ x. same_address x.address s.address) (store s d.servers)
            (λ a. nobody (top pairs) (unknown a) refl) (λ x other h. h other) spared))

        -- the greatest so far: the server leads

        abbrev is_other_primary : ServerDescription → Bool
        is_other_primary x = is_primary_type x.server_type && not (same_address x.address s.address)

        abbrev left : List ServerDescription
        left = forget_other_primaries s.address (store s d.servers)

        left-addresses : addresses_of left ≡ addresses_of d.servers
        left-addresses = forgotten-addresses is_other_primary (store s d.servers) ∙ stored-addresses s d.servers

        left-known : list_all (is_listed (addresses_of left)) (members_of n) ≡ true
        left-known = rw left-addresses f.known

        left-only : list_all (is_listed (members_of n)) (addresses_of left) ≡ true
        left-only = rw left-addresses f.only

        kept : keep_listed (listed s) (add_all (listed s) left) ≡ left
        kept = rw (says.listed, added-none (members_of n) left left-known) (kept-all (members_of n) left left-only)

        own-leads : Leads winners its_pair s
        own-leads = record { member = k; address = says.address; won = won; election = id-is; version = says.version }

        leaders : Each (LeadsIfPrimary winners (Some its_pair)) left
        leaders =
            each-where (λ x. same_address x.address s.address ≡ true → x ≡ s) (LeadsIfPrimary winners (Some its_pair)) is_other_primary (store s d.servers) (λ a. nobody (Some its_pair) (unknown a) refl)
            (λ x spared-so alone primary. elim (cases_Bool (same_address x.address s.address)) [
              | inl same ↦ subst (Leads winners its_pair) (sym (alone same)) own-leads
              | inr other ↦ let wrong : is_other_primary x ≡ true = rw (primary, other) refl in absurd (cc)
            ])
            (stored-alone s d.servers f.ordered)

        leading : below_top its_pair (top pairs) ≡ false → Follows n winners (pairs ++ its_pair ∷ []) (updated d s)
        leading so =
            let top-is : top (pairs ++ its_pair ∷ []) ≡ Some its_pair = top-more pairs its_pair ∙ ap (λ (p : Pair). Some p) (new-top its_pair (top pairs) so) in
            rw (primary-is kind, ruled, so) (record {
              kind = refl;
              named = name-stays ∙ f.named;
              ordered = subst (λ (xs : List ServerDescription). in_order xs ≡ true) (sym kept) (forgotten_in_order is_other_primary (store s d.servers) (stored_in_order s d.servers f.ordered));
              known = subst (λ (xs : List ServerDescription). list_all (is_listed (addresses_of xs)) (members_of n) ≡ true) (sym kept) left-known;
              only = subst (λ (xs : List ServerDescription). list_all (is_listed (members_of n)) (addresses_of xs) ≡ true) (sym kept) left-only;
              election = rw (top-is, says.modern, id-is) refl;
              version = rw (top-is, says.modern, says.version) refl;
              small = subst (λ (t : Option Pair). IfSome t (λ x. x.election < 2 ^ 64)) (sym top-is) won.small;
              processes = subst (Each OwnProcess) (sym kept)
                  (each-forgotten OwnProcess is_other_primary (store s d.servers) (λ a j v less at is. absurd (cc)) (each-stored OwnProcess s d.servers (own-process n k m s few says) f.processes));
              leads = subst (λ (t : Option Pair). Each (LeadsIfPrimary winners t) (keep_listed (listed s) (add_all (listed s) left))) (sym top-is)
                  (subst (Each (LeadsIfPrimary winners (Some its_pair))) (sym kept) leaders);
            })

        primary-taken : Follows n winners (pairs ++ its_pair ∷ []) (updated d s)
        primary-taken = elim (cases_Bool (below_top its_pair (top pairs))) [
          | inl so ↦ same-top n winners pairs (pairs ++ its_pair ∷ []) (updated d s) (old-top its_pair (top pairs) so ∙ sym (top-more pairs its_pair)) (lags so)
          | inr so ↦ leading so
        ]

      reply-by : (o : Option ℕ) → m.election ≡ o → IfSome o (λ e. Won winners e k) → Follows n winners (pairs ++ pair_of m o) (updated d s)
      reply-by None none honest = subst (λ (ps : List Pair). Follows n winners ps (updated d s)) (sym (append-nil pairs)) (secondary (says.kind ∙ rw none refl))
      reply-by (Some e) elected honest = primary-taken (says.kind ∙ rw elected refl) e elected honest

      -- what a member's reply makes of the description
      pub taking : IsHonest winners k m → Follows n winners (with_pair pairs m) (updated d s)
      taking honest = reply-by m.election refl honest
