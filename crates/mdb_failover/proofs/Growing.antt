-- A description goes on following where a pair changes no top, and where one more election is won.
use Rattle.std.proofs.Common.{◌≡◌, ℕ, zero, suc, ◌-◌, ◌<◌, ◌^◌, List, [], ◌∷◌, ◌++◌, Option, Some, None, ap, ◌∙◌, subst}
use Rattle.std.specs.Prelude.{slice_get, option_map, pos, IfSome}
use Rattle.mdb_describe.specs.declared.description.ServerDescription.{ServerDescription}
use Rattle.mdb_describe.specs.declared.topology.TopologyDescription.{TopologyDescription}
use Rattle.mdb_fleets.specs.declared.member.Member.{Member}
use Rattle.mdb_fleets.specs.MemberReplies.{election_id as id_of}
use Rattle.mdb_failover.specs.Elections.{Pair, top}
use Rattle.mdb_failover.specs.Followed.{Won, IsHonest, LeadsBy, LeadsIfPrimary, Each, Follows}
use Rattle.mdb_failover.proofs.Lists.{each-map}

-- only the greatest pair counts
pub same-top : (n : ℕ) (winners : List ℕ) (ps qs : List Pair) (d : TopologyDescription) → top ps ≡ top qs → Follows n winners ps d → Follows n winners qs d
same-top n winners ps qs d e f = record {
  kind = f.kind;
  named = f.named;
  ordered = f.ordered;
  known = f.known;
  only = f.only;
  election = f.election ∙ ap (option_map (λ t. id_of t.election)) e;
  version = f.version ∙ ap (option_map (λ t. pos t.version)) e;
  small = subst (λ t. IfSome t (λ p. p.election < 2 ^ 64)) e f.small;
  processes = f.processes;
  leads = subst (λ t. Each (LeadsIfPrimary winners t) d.servers) e f.leads;
}

grown : (xs : List ℕ) (i k j : ℕ) → slice_get xs i ≡ Some k → slice_get (xs ++ j ∷ []) i ≡ Some k
grown [] i k j h = absurd (cc)
grown (x ∷ xs) zero k j h = h
grown (x ∷ xs) (suc i) k j h = grown xs i k j h

pub won-more : (winners : List ℕ) (e k j : ℕ) → Won winners e k → Won (winners ++ j ∷ []) e k
won-more winners e k j w = record { counted = w.counted; small = w.small; winner = grown winners (e - 1) k j w.winner }

pub honest-more : (winners : List ℕ) (k j : ℕ) (m : Member) → IsHonest winners k m → IsHonest (winners ++ j ∷ []) k m
honest-more winners k j m h = on m.election h
  where
    on : (o : Option ℕ) → IfSome o (λ e. Won winners e k) → IfSome o (λ e. Won (winners ++ j ∷ []) e k)
    on None h = h
    on (Some e) h = won-more winners e k j h

leads-more : (winners : List ℕ) (j : ℕ) (t : Option Pair) (s : ServerDescription) → LeadsBy winners t s → LeadsBy (winners ++ j ∷ []) t s
leads-more winners j None s l = l
leads-more winners j (Some t) s l = record { member = l.member; address = l.address; won = won-more winners t.election l.member j l.won; election = l.election; version = l.version }

-- one more election was won
pub more-winners : (n : ℕ) (winners : List ℕ) (j : ℕ) (pairs : List Pair) (d : TopologyDescription) → Follows n winners pairs d → Follows n (winners ++ j ∷ []) pairs d
more-winners n winners j pairs d f = record {
  kind = f.kind;
  named = f.named;
  ordered = f.ordered;
  known = f.known;
  only = f.only;
  election = f.election;
  version = f.version;
  small = f.small;
  processes = f.processes;
  leads = each-map (LeadsIfPrimary winners (top pairs)) (LeadsIfPrimary (winners ++ j ∷ []) (top pairs)) d.servers (λ s l primary. leads-more winners j (top pairs) s (l primary)) f.leads;
}
