-- A described primary is of the latest election that was applied.
use Rattle.std.proofs.Common.{◌≡◌, ℕ, ◌<◌, ◌≤◌, ◌^◌, inl, inr, List, [], ◌∷◌, ◌++◌, Option, Some, None, refl, sym, ap, ◌∙◌, subst, arith, append_assoc}
use Rattle.mdb_base.specs.declared.object_id.ObjectId.{ObjectId}
use Rattle.mdb_describe.specs.declared.description.ServerDescription.{ServerDescription}
use Rattle.mdb_describe.specs.declared.topology.TopologyDescription.{TopologyDescription}
use Rattle.mdb_describe.specs.Fields.{election_id}
use Rattle.mdb_fleets.specs.MemberReplies.{election_id as id_of}
use Rattle.mdb_failover.specs.Elections.{Pair, top, AllUpTo}
use Rattle.mdb_failover.specs.Followed.{LeadsBy, LeadsIfPrimary, Each, Follows}
use Rattle.mdb_failover.proofs.Falling.{UpTo, up-to, none-above}
use Rattle.mdb_failover.proofs.Lists.{each-map}
use Rattle.mdb_failover.proofs.Orders.{ids-apart}
use Rattle.mdb_fleet_runs.specs.declared.event.Event.{Event}
use Rattle.mdb_fleet_runs.specs.Trials.{Trial, outcome, after}
use Rattle.mdb_fleet_laws.specs.Failover.{applied_by, pairs_from, NoneAfter, IsLatest}

none-after : (t : Pair) (ps : List Pair) → AllUpTo t ps → NoneAfter t.election ps
none-after t [] all = tt
none-after t (p ∷ ps) all = (least (up-to p t all.0), none-after t ps all.1)
  where
    least : UpTo p t → p.election ≤ t.election
    least (inl below) = omega arith
    least (inr (same, le)) = omega arith

same-id : (e f : ℕ) → Some (id_of e) ≡ Some (id_of f) → (id_of e).0 ≡ (id_of f).0
same-id e f h = let same : id_of e ≡ id_of f = some-same (id_of e) (id_of f) h in ap (λ (x : ObjectId). x.0) same
  where
    some-same : (a b : ObjectId) → Some a ≡ Some b → a ≡ b
    some-same a b k = cc

latest-by : (ws : List ℕ) (ps : List Pair) (s : ServerDescription) (e : ℕ) → e < 2 ^ 64 → election_id s ≡ Some (id_of e) → (t : Option Pair) → top ps ≡ t → LeadsBy ws t s → NoneAfter e ps
latest-by ws ps s e small is None at l = absurd l
latest-by ws ps s e small is (Some t) at l =
    let one : e ≡ t.election = ids-apart e t.election small l.won.small (same-id e t.election (sym is ∙ l.election)) in
    subst (λ (x : ℕ). NoneAfter x ps) (sym one) (none-after t ps (none-above ps t at))

pub latest : (n : ℕ) (ws : List ℕ) (ps : List Pair) (d : TopologyDescription) → Follows n ws ps d → Each (IsLatest ps) d.servers
latest n ws ps d f = each-map (LeadsIfPrimary ws (top ps)) (IsLatest ps) d.servers (λ s l primary e small is. latest-by ws ps s e small is (top ps) refl (l primary)) f.leads

-- the pairs of a longer run
pub pairs-more : (n : ℕ) (t : Trial) (es fs : List Event) → pairs_from n t (es ++ fs) ≡ pairs_from n t es ++ pairs_from n (after n t es) fs
pairs-more n t [] fs = refl
pairs-more n t (e ∷ es) fs =
    ap (λ (ps : List Pair). applied_by n t e.moment e.act ++ ps) (pairs-more n (outcome n t e).trial es fs)
    ∙ sym (append_assoc (applied_by n t e.moment e.act) (pairs_from n (outcome n t e).trial es) (pairs_from n (after n (outcome n t e).trial es) fs))
