-- What a publication says of whole pools: those of the servers that changed, of those that go, and of those that come.
use Rattle.std.proofs.Common.{ℕ, ◌≡◌, ◌≢◌, ◌&&◌, Bool, true, false, not, List, [], ◌∷◌, ◌++◌, length, map, Option, Some, None, is_some, refl, sym, ◌∙◌, ap}
use Rattle.std.specs.Prelude.{flat_map}
use Rattle.std.proofs.lemmas.Bool.{not-true}
use Rattle.mdb_base.specs.Equality.{same_address}
use Rattle.mdb_base.specs.declared.address.ServerAddress.{ServerAddress}
use Rattle.mdb_base.specs.declared.options.Options.{Options}
use Rattle.mdb_describe.specs.declared.description.ServerDescription.{ServerDescription}
use Rattle.mdb_describe.specs.declared.topology.TopologyDescription.{TopologyDescription}
use Rattle.mdb_describe.specs.declared.diff.Diff.{Diff}
use Rattle.mdb_describe.specs.Differences.{difference, changed, missing, AreInOrder, are_in_both}
use Rattle.mdb_describe.specs.Servers.{in_order, is_known, is_listed}
use Rattle.mdb_describe.specs.Topology.{server_at}
use Rattle.mdb_describe.proofs.Found.{known_where_found, difference_ordered, difference_in_both}
use Rattle.mdb_events.specs.declared.fact.Fact.{Fact}
use Rattle.mdb_log.specs.declared.options.PoolOptions.{PoolOptions}
use Rattle.mdb_log.specs.History.{Item, of_pool, open_pool, with_facts}
use Rattle.mdb_log.specs.Homes.{homes}
use Rattle.mdb_log.specs.State.{is_closed, state_of}
use Rattle.mdb_log.specs.Opening.{pool_options}
use Rattle.mdb_describe.proofs.Addresses.{same-address}
use Rattle.mdb_log.proofs.Bools.{both-true}
use Rattle.mdb_driver_rules.specs.Turns.{in_turn}
use Rattle.mdb_driver_rules.specs.Publishing.{server_changed, server_closed, server_opened, topology_changed, publication, telling}
use Rattle.mdb_driver_rules.proofs.General.AddressesDiffer.{ordered-different}
use Rattle.mdb_driver_rules.proofs.ServersThen.{listed-missing, of-difference}
use Rattle.mdb_driver_rules.proofs.LeavesAsItIs.{turn-append, with-append}
use Rattle.mdb_laws.specs.Causes.{Mark, marks_of, readied_at, closed_at, opened_from, changes}
use Rattle.mdb_laws.proofs.Marks.{marks-append, is_opened, Seen, Below, same-homes}
use Rattle.mdb_laws.proofs.Runs.{IsAlone, none-made, runs-below, runs-keep, runs-say}
use Rattle.mdb_laws.proofs.Parts.{changed-part, changed-marks, closed-part, closed-marks, opened-marks}

-- a changed server is known before and after
in-both : (earlier later : List ServerDescription) (xs : List ServerAddress) (b : ServerAddress) → are_in_both earlier later xs ≡ true → is_listed xs b ≡ true → (is_known b earlier ≡ true) × (is_known b later ≡ true)
in-both earlier later [] b all e = cc
in-both earlier later (y ∷ ys) b all e =
    let both : (is_known y earlier && is_known y later ≡ true) × (are_in_both earlier later ys ≡ true) = both-true (is_known y earlier && is_known y later) (are_in_both earlier later ys) all in
    on (same_address y b) refl (both-true (is_known y earlier) (is_known y later) both.0) (in-both earlier later ys b both.1)
  where
    on : (k : Bool) → same_address y b ≡ k → (is_known y earlier ≡ true) × (is_known y later ≡ true) → (is_listed ys b ≡ true → (is_known b earlier ≡ true) × (is_known b later ≡ true)) → (is_known b earlier ≡ true) × (is_known b later ≡ true)
    on true f here rest = let w : y ≡ b = same-address y b f in (ap (λ a. is_known a earlier) (sym w) ∙ here.0, ap (λ a. is_known a later) (sym w) ∙ here.1)
    on false f here rest = rest (sym (rw f refl) ∙ e)

-- the servers that went were known, and are no more
pub removed-known : (earlier later : List ServerDescription) (d : Diff) → difference earlier later ≡ Some d → (a : ServerAddress) → is_listed d.removed a ≡ true → (is_known a earlier ≡ true) × (is_known a later ≡ false)
removed-known earlier later d different a e =
    let whole : Diff = record { changed = changed earlier later; removed = missing earlier later; added = missing later earlier } in
    let w : is_known a earlier && not (is_known a later) ≡ true = sym (listed-missing a later earlier) ∙ (ap (λ (x : Diff). is_listed x.removed a) (of-difference whole d different) ∙ e) in
    let both : (is_known a earlier ≡ true) × (not (is_known a later) ≡ true) = both-true (is_known a earlier) (not (is_known a later)) w in
    (both.0, not-true (is_known a later) both.1)

known-some : {T : Type 0} (x : Option T) → is_some x ≡ true → (y : T) × (x ≡ Some y)
known-some None e = cc
known-some (Some y) e = (y, refl)

-- What is known of the pools right after a history: each is open for one server that is known, and none of these is closed.
pub record IsSound (o : Options) (t : TopologyDescription) (h : List Item) : Type 0 where
  pub alone : IsAlone h
  pub unclosed : (a : ServerAddress) (p : ℕ) → open_pool h a ≡ Some p → state_of (pool_options o) (of_pool p h) ≢ is_closed
  pub open_for : (a : ServerAddress) → is_some (open_pool h a) ≡ is_known a t.servers
  pub ordered : in_order t.servers ≡ true

-- Facts that opened nothing and left the open pools as they were have come since.
pub record IsFresh (o : Options) (h k : List Item) : Type 0 where
  pub below : Below h k
  pub seen : (a : ServerAddress) (p : ℕ) → open_pool h a ≡ Some p → Seen (pool_options o) h k a p
  pub same : homes k ≡ homes h

module _ (o : Options) (m : ℕ) (h : List Item) (t u : TopologyDescription) (sound : IsSound o t h) (ordered : in_order u.servers ≡ true) (d : Diff) (different : difference t.servers u.servers ≡ Some d) where
  abbrev q : PoolOptions
  q = pool_options o

  abbrev R : ServerAddress → List Mark
  R a = readied_at o h u a (open_pool h a)

  abbrev C : ServerAddress → List Mark
  C a = closed_at a (open_pool h a)

  lists : AreInOrder d
  lists = difference_ordered t.servers u.servers d sound.ordered ordered different

  changed-known : (a : ServerAddress) → is_listed d.changed a ≡ true → (is_known a t.servers ≡ true) × (is_known a u.servers ≡ true)
  changed-known a e = in-both t.servers u.servers d.changed a (difference_in_both t.servers u.servers d different) e

  pool-of : (a : ServerAddress) → is_known a t.servers ≡ true → (p : ℕ) × (open_pool h a ≡ Some p)
  pool-of a e = known-some (open_pool h a) (sound.open_for a ∙ e)

  server-of : (a : ServerAddress) (xs : List ServerDescription) → is_known a xs ≡ true → (s : ServerDescription) × (server_at a xs ≡ Some s)
  server-of a xs e = known-some (server_at a xs) (known_where_found a xs ∙ e)

  -- no server both changed and went
  unchanged : (a : ServerAddress) → is_listed d.removed a ≡ true → is_listed d.changed a ≡ false
  unchanged a e = on (is_listed d.changed a) refl
    where
      on : (b : Bool) → is_listed d.changed a ≡ b → is_listed d.changed a ≡ false
      on false f = f
      on true f = let t : true ≡ false = sym (changed-known a f).1 ∙ (removed-known t.servers u.servers d different a e).1 in cc

  module _ (k : List Item) (fresh : IsFresh o h k) where
    abbrev A : List (List Item → List Fact)
    A = map (server_changed o m t u) d.changed

    abbrev B : List (List Item → List Fact)
    B = map (server_closed o m) d.removed

    abbrev D : List (List Item → List Fact)
    D = map (server_opened o) d.added

    abbrev FA : List Fact
    FA = in_turn m A k

    abbrev kA : List Item
    kA = with_facts m FA k

    abbrev FB : List Fact
    FB = in_turn m B kA

    abbrev kB : List Item
    kB = with_facts m FB kA

    says-changed : marks_of FA ≡ flat_map R d.changed
    says-changed = runs-say q m h sound.alone (server_changed o m t u) (changed-part o m t u) R d.changed (ordered-different d.changed lists.changed) k fresh.below
        (λ a e. pool-of a (changed-known a e).0)
        (λ a p e there. fresh.seen a p there)
        (λ a p j e there z.
        let old : (s : ServerDescription) × (server_at a t.servers ≡ Some s) = server-of a t.servers (changed-known a e).0 in
        let new : (s : ServerDescription) × (server_at a u.servers ≡ Some s) = server-of a u.servers (changed-known a e).1 in
        changed-marks o m t u h j a p old.0 new.0 old.1 new.1 there (sound.unclosed a p there) z)

    below-changed : Below h kA
    below-changed = runs-below q m h sound.alone (server_changed o m t u) (changed-part o m t u) d.changed k fresh.below

    says-closed : marks_of FB ≡ flat_map C d.removed
    says-closed = runs-say q m h sound.alone (server_closed o m) (closed-part o m) C d.removed (ordered-different d.removed lists.removed) kA below-changed
        (λ a e. pool-of a (removed-known t.servers u.servers d different a e).0)
        (λ a p e there. runs-keep q m h sound.alone (server_changed o m t u) (changed-part o m t u) d.changed a p k fresh.below there (unchanged a e) (fresh.seen a p there))
        (λ a p j e there z. closed-marks o m h j a p there (sound.unclosed a p there) z)

    homes-kept : homes kB ≡ homes h
    homes-kept =
        same-homes m FB kA (none-made m (server_closed o m) is_opened (closed-part o m).quiet d.removed kA)
        ∙ (same-homes m FA k (none-made m (server_changed o m t u) is_opened (changed-part o m t u).quiet d.changed k)
        ∙ fresh.same)

    both-turns : in_turn m (A ++ B) k ≡ FA ++ FB
    both-turns = turn-append m A B k

    after-both : with_facts m (in_turn m (A ++ B) k) k ≡ kB
    after-both = ap (λ fs. with_facts m fs k) both-turns ∙ with-append m FA FB k

    says-rest : (j : List Item) → homes j ≡ homes h → marks_of (in_turn m (topology_changed o t u ∷ D) j) ≡ opened_from (length (homes h)) d.added
    says-rest j e = opened-marks o m d.added (with_facts m (topology_changed o t u j) j) ∙ ap (λ xs. opened_from (length xs) d.added) e

    pub says-told : marks_of (in_turn m (telling o m t u (Some d)) k) ≡ changes o h u (Some d)
    says-told =
        ap marks_of (turn-append m (A ++ B) (topology_changed o t u ∷ D) k)
        ∙ (marks-append (in_turn m (A ++ B) k) (in_turn m (topology_changed o t u ∷ D) (with_facts m (in_turn m (A ++ B) k) k))
        ∙ rw (after-both, both-turns, marks-append FA FB, says-changed, says-closed, says-rest kB homes-kept) refl)

-- A publication says what is caused by what changed.
pub says-published : (o : Options) (m : ℕ) (h : List Item) (t u : TopologyDescription) → IsSound o t h → in_order u.servers ≡ true → (k : List Item) → IsFresh o h k
    → marks_of (in_turn m (publication o m t u) k) ≡ changes o h u (difference t.servers u.servers)
says-published o m h t u sound ordered k fresh = on (difference t.servers u.servers) refl
  where
    on : (x : Option Diff) → difference t.servers u.servers ≡ x → marks_of (in_turn m (telling o m t u x) k) ≡ changes o h u x
    on None e = refl
    on (Some d) e = says-told o m h t u sound ordered d e k fresh
