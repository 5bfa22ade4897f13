-- What is told of a server that is marked Unknown is of no pool, and the same after every history.
use Rattle.std.proofs.Common.{ℕ, ◌≡◌, Bool, true, false, List, [], ◌∷◌, ◌++◌, map, Option, Some, None, refl, sym, ◌∙◌, ap, subst, append-nil}
use Rattle.std.specs.Prelude.{filter, ⊤}
use Rattle.mdb_base.specs.Equality.{same_address}
use Rattle.mdb_base.specs.declared.address.ServerAddress.{ServerAddress}
use Rattle.mdb_base.specs.declared.error.Error.{Error}
use Rattle.mdb_base.specs.declared.options.Options.{Options}
use Rattle.mdb_describe.specs.declared.description.ServerDescription.{ServerDescription}
use Rattle.mdb_describe.specs.declared.topology.TopologyDescription.{TopologyDescription}
use Rattle.mdb_describe.specs.declared.diff.Diff.{Diff}
use Rattle.mdb_describe.specs.Descriptions.{failed}
use Rattle.mdb_describe.specs.Differences.{changed, differs_from, difference, missing}
use Rattle.mdb_describe.specs.Servers.{in_order, is_known, store}
use Rattle.mdb_describe.specs.Topology.{server_at}
use Rattle.mdb_describe.specs.Update.{is_new, updated}
use Rattle.mdb_events.specs.declared.fact.Fact.{Fact}
use Rattle.mdb_log.specs.History.{Item, with_facts}
use Rattle.mdb_driver_rules.specs.Publishing.{description_changed, server_changed, topology_changed, telling}
use Rattle.mdb_driver_rules.specs.Ready.{is_ready_type}
use Rattle.mdb_driver_rules.specs.Touching.{is_ready_server, is_ready_at}
use Rattle.mdb_driver_rules.specs.Turns.{in_turn}
use Rattle.mdb_driver_rules.proofs.NumbersWithinLimits.{take_numbers, free-append}
use Rattle.mdb_topology.proofs.OfMonitors.FactsOfCheck.{AreCalm}
use Rattle.mdb_driver_rules.proofs.ServersThen.{of-difference}
use Rattle.mdb_describe.proofs.SameAsItself.{unchanged}
use Rattle.mdb_driver_rules.proofs.StaysKnown.{none-come, none-gone, unready, new-servers, same-topology}

-- parts that tell the same calm facts after every history
pub record Constant (m : ℕ) (parts : List (List Item → List Fact)) : Type 0 where
  pub facts : List Fact
  pub calm : AreCalm facts
  pub free : take_numbers facts ≡ false
  pub same : (k : List Item) → in_turn m parts k ≡ facts

pub calm-both : (fs gs : List Fact) → AreCalm fs → AreCalm gs → AreCalm (fs ++ gs)
calm-both [] gs a b = b
calm-both (f ∷ fs) gs a b = (a.0, calm-both fs gs a.1 b)

pub constant-none : (m : ℕ) → Constant m []
constant-none m = record { facts = []; calm = tt; free = refl; same = λ k. refl }

pub constant-more : (m : ℕ) (part : List Item → List Fact) (parts : List (List Item → List Fact)) (fs : List Fact) → AreCalm fs → take_numbers fs ≡ false → ((k : List Item) → part k ≡ fs) → Constant m parts → Constant m (part ∷ parts)
constant-more m part parts fs calm free same c = record {
  facts = fs ++ c.facts;
  calm = calm-both fs c.facts calm c.calm;
  free = free-append fs c.facts ∙ rw (free, c.free) refl;
  same = λ k. ap (λ gs. gs ++ in_turn m parts (with_facts m (part k) k)) (same k) ∙ ap (λ gs. fs ++ gs) (c.same (with_facts m (part k) k));
}

-- none of the servers may have a ready pool
abbrev AllUnready : TopologyDescription → List ServerAddress → Type 0
AllUnready u [] = ⊤
AllUnready u (b ∷ list) = (is_ready_at u b ≡ false) × AllUnready u list

module _ (o : Options) (m : ℕ) (t u : TopologyDescription) where
  -- what is told of a server without a ready pool
  record Told (b : ServerAddress) : Type 0 where
    pub facts : List Fact
    pub calm : AreCalm facts
    pub free : take_numbers facts ≡ false
    pub same : (k : List Item) → server_changed o m t u b k ≡ facts

  changed-told : (b : ServerAddress) → is_ready_at u b ≡ false → Told b
  changed-told b e = on (server_at b t.servers) (server_at b u.servers) refl refl
    where
      on : (x y : Option ServerDescription) → server_at b t.servers ≡ x → server_at b u.servers ≡ y → Told b
      on None y f g = record { facts = []; calm = tt; free = refl; same = λ k. rw f refl }
      on (Some old) None f g = record { facts = []; calm = tt; free = refl; same = λ k. rw (f, g) refl }
      on (Some old) (Some new) f g =
          let w : is_ready_type u.topology_type new.server_type ≡ false = sym (ap (is_ready_server u.topology_type) g) ∙ e in
          record { facts = description_changed o m u.topology_type b (Some old) (Some new) []; calm = rw w (tt, tt); free = rw w refl; same = λ k. rw (f, g, w) refl }

  constant-changed : (list : List ServerAddress) → AllUnready u list → (more : List (List Item → List Fact)) → Constant m more → Constant m (map (server_changed o m t u) list ++ more)
  constant-changed [] a more c = c
  constant-changed (b ∷ list) a more c =
      let one : Told b = changed-told b a.0 in
      constant-more m (server_changed o m t u b) (map (server_changed o m t u) list ++ more) one.facts one.calm one.free one.same (constant-changed list a.1 more c)

-- lists without elements
pub no-element : (xs : List ServerDescription) → map (λ (x : ServerDescription). x.address) xs ≡ [] → xs ≡ []
no-element [] e = refl
no-element (x ∷ xs) e = cc

module _ (a : ServerAddress) (error : Error) (t : TopologyDescription) (known : is_known a t.servers ≡ true) (ordered : in_order t.servers ≡ true) where
  abbrev s : ServerDescription
  s = failed a error

  abbrev u : TopologyDescription
  u = updated t s

  -- of the servers only the marked one differs
  stored-unready : is_ready_at u a ≡ false → (xs : List ServerDescription) → filter (differs_from t.servers) xs ≡ [] → AllUnready u (map (λ (x : ServerDescription). x.address) (filter (differs_from t.servers) (store s xs)))
  stored-unready mine [] e = tt
  stored-unready mine (x ∷ xs) e = at_x (differs_from t.servers x) refl e (stored-unready mine xs)
    where
      at_s : (b : Bool) → differs_from t.servers s ≡ b → filter (differs_from t.servers) xs ≡ [] → AllUnready u (map (λ (x : ServerDescription). x.address) (filter (differs_from t.servers) (s ∷ xs)))
      at_s true f g = rw (f, g) (mine, tt)
      at_s false f g = rw (f, g) tt

      at_a : (b : Bool) → same_address x.address a ≡ b → differs_from t.servers x ≡ false → filter (differs_from t.servers) xs ≡ []
          → (filter (differs_from t.servers) xs ≡ [] → AllUnready u (map (λ (x : ServerDescription). x.address) (filter (differs_from t.servers) (store s xs))))
          → AllUnready u (map (λ (x : ServerDescription). x.address) (filter (differs_from t.servers) (store s (x ∷ xs))))
      at_a true f g rest deeper = rw f (at_s (differs_from t.servers s) refl rest)
      at_a false f g rest deeper = rw (f, g) (deeper rest)

      at_x : (b : Bool) → differs_from t.servers x ≡ b → filter (differs_from t.servers) (x ∷ xs) ≡ []
          → (filter (differs_from t.servers) xs ≡ [] → AllUnready u (map (λ (x : ServerDescription). x.address) (filter (differs_from t.servers) (store s xs))))
          → AllUnready u (map (λ (x : ServerDescription). x.address) (filter (differs_from t.servers) (store s (x ∷ xs))))
      at_x true f g deeper = let w : ◌≡◌ {A = List ServerDescription} _ [] = rw f at g in cc
      at_x false f g deeper = at_a (same_address x.address a) refl f (sym (rw f refl) ∙ g) deeper

  unready-changed : AllUnready u (changed t.servers u.servers)
  unready-changed = on (is_new t s) refl
    where
      none : changed t.servers t.servers ≡ []
      none = unchanged t.servers ordered

      on : (b : Bool) → is_new t s ≡ b → AllUnready u (changed t.servers u.servers)
      on true f = subst (λ xs. AllUnready u (changed t.servers xs)) (sym (new-servers a error t f)) (stored-unready (unready a error t known ordered f) t.servers (no-element (filter (differs_from t.servers) t.servers) none))
      on false f = subst (AllUnready u) (sym (ap (λ (v : TopologyDescription). changed t.servers v.servers) (same-topology a error t f) ∙ none)) tt

  pub mark-constant : (o : Options) (m : ℕ) (d : Option Diff) → difference t.servers u.servers ≡ d → Constant m (telling o m t u d)
  mark-constant o m None e = constant-none m
  mark-constant o m (Some d) e =
      let gone : d.removed ≡ [] = none-gone a error t d e in
      let come : d.added ≡ [] = none-come a error t d e in
      let differ : changed t.servers u.servers ≡ d.changed = ap (λ (x : Diff). x.changed) (of-difference (record { changed = changed t.servers u.servers; removed = missing t.servers u.servers; added = missing u.servers t.servers }) d e) in
      rw (gone, come, append-nil (map (server_changed o m t u) d.changed))
      (constant-changed o m t u d.changed (subst (AllUnready u) differ unready-changed) (topology_changed o t u ∷ [])
      (constant-more m (topology_changed o t u) [] (topology_changed o t u []) (tt, tt) refl (λ k. refl) (constant-none m)))
