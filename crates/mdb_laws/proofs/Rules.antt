-- What the rule of a step says of whole pools, and what a trouble clears.
use Rattle.std.proofs.Common.{ℕ, ◌≡◌, Bool, true, false, not, List, [], ◌∷◌, ◌++◌, map, Option, Some, None, refl, sym, ◌∙◌, ap, subst, append-nil, is_some, ◌&&◌, ◌||◌}
use Rattle.std.specs.List.{list_any}
use Rattle.std.specs.Prelude.{⊤, pos, unwrap_or}
use Rattle.mdb_base.specs.Equality.{same_address}
use Rattle.mdb_base.specs.Errors.{is_incompatible}
use Rattle.mdb_base.specs.declared.address.ServerAddress.{ServerAddress}
use Rattle.mdb_base.specs.declared.error.Error.{Error}
use Rattle.mdb_base.specs.declared.options.Options.{Options}
use Rattle.mdb_srv.specs.declared.topology_type.TopologyType.{TopologyType}
use Rattle.mdb_srv.specs.declared.topology_type.TopologyType.TheVariants as Kind
use Rattle.mdb_describe.specs.declared.description.ServerDescription.{ServerDescription}
use Rattle.mdb_describe.specs.declared.topology.TopologyDescription.{TopologyDescription}
use Rattle.mdb_describe.specs.declared.diff.Diff.{Diff}
use Rattle.mdb_describe.specs.Descriptions.{failed}
use Rattle.mdb_describe.specs.Differences.{difference, missing}
use Rattle.mdb_describe.specs.Servers.{in_order, is_known, is_listed}
use Rattle.mdb_describe.specs.Topology.{stopped, synced}
use Rattle.mdb_describe.specs.Update.{updated}
use Rattle.mdb_events.specs.declared.fact.Fact.{Fact}
use Rattle.mdb_log.specs.declared.step.Act.{Act}
use Rattle.mdb_log.specs.declared.step.Act.TheVariants as Do
use Rattle.mdb_log.specs.declared.checked.HelloResult.TheVariants as Hello
use Rattle.mdb_log.specs.declared.checked.BeatenResult.TheVariants as Beaten
use Rattle.mdb_log.specs.Acts.{IsDriverAct}
use Rattle.mdb_log.specs.History.{Item, of_pool, open_pool, with_facts}
use Rattle.mdb_log.specs.Connections.{wire_of, service_of}
use Rattle.mdb_describe.proofs.Addresses.{own-address, same-address}
use Rattle.mdb_log.proofs.Bools.{both-true}
use Rattle.mdb_driver_rules.specs.Turns.{in_turn}
use Rattle.mdb_driver_rules.specs.Homes.{is_here}
use Rattle.mdb_driver_rules.specs.Current.{Complaint, complaint_of, is_current}
use Rattle.mdb_driver_rules.specs.Errors.{Case, monitored, Trouble, marks, case_of, monitor_trouble, current_trouble, complaint_trouble, trouble_of}
use Rattle.mdb_driver_rules.specs.Description.{Rule, opens, updates, syncs, tells_time, stops, replied_rule, marking_rule, syncing_rule, rule_of, applied, change_by}
use Rattle.mdb_driver_rules.specs.Publishing.{server_changed, topology_changed, topology_closed, publication, telling, told_by}
use Rattle.mdb_driver_rules.proofs.LeavesAsItIs.{turn-append}
use Rattle.mdb_driver_rules.proofs.General.OneElement.{any-position}
use Rattle.mdb_driver_rules.proofs.StaysKnown.{none-gone, none-come, untouched}
use Rattle.mdb_describe.proofs.SameAsItself.{filter-never, unchanged}
use Rattle.mdb_log.specs.Opening.{pool_options}
use Rattle.mdb_driver_rules.specs.Touching.{is_ready_at}
use Rattle.mdb_laws.specs.Causes.{marks_of, changes}
use Rattle.mdb_laws.proofs.Marks.{any-append, marks-append, touches}
use Rattle.mdb_laws.proofs.Runs.{runs-spare}
use Rattle.mdb_laws.proofs.Parts.{changed-part, unready-test}
use Rattle.mdb_laws.proofs.Published.{IsSound, IsFresh, says-published}
use Rattle.mdb_laws.proofs.Ordered.{updates-ordered, syncs-ordered}

-- a list of servers does not differ from itself
pub same-servers : (xs : List ServerDescription) → in_order xs ≡ true → difference xs xs ≡ None
same-servers xs e = rw (unchanged xs e, none) refl
  where
    none : missing xs xs ≡ []
    none =
        ap (map (λ (y : ServerDescription). y.address))
        (filter-never (λ (y : ServerDescription). not (is_known y.address xs)) xs
        (λ i y at. ap not (any-position (λ (v : ServerDescription). same_address v.address y.address) xs i y at (own-address y.address))))

-- the rule of a step that does not open the driver
abbrev pub IsLater : Option Rule → Type 0
IsLater (Some (opens q)) = ⊥
IsLater _ = ⊤

module _ (o : Options) (k : List Item) (t : TopologyDescription) (m : ℕ) where
  replied-later : (a : ServerAddress) (p : ℕ) (s : ServerDescription) → IsLater (replied_rule k a p s)
  replied-later a p s = on (is_here k a p) refl
    where
      on : (b : Bool) → is_here k a p ≡ b → IsLater (replied_rule k a p s)
      on true f = rw f tt
      on false f = rw f tt

  marking-later : (x : Option Trouble) → IsLater (marking_rule o x)
  marking-later None = tt
  marking-later (Some x) = on (marks o.load_balanced x.row) refl
    where
      on : (b : Bool) → marks o.load_balanced x.row ≡ b → IsLater (marking_rule o (Some x))
      on true f = rw f tt
      on false f = rw f tt

  syncing-later : (kind : TopologyType) (hosts : List ServerAddress) → IsLater (syncing_rule kind hosts)
  syncing-later Kind.Sharded hosts = tt
  syncing-later Kind.Unknown hosts = tt
  syncing-later _ hosts = tt

  pub rule-later : (act : Act) → IsDriverAct act → IsLater (rule_of o k t m act)
  rule-later (Do.Open q) c = absurd c
  rule-later (Do.Hello a p (Hello.Ok rtt r)) c = replied-later a p _
  rule-later (Do.Hello a p (Hello.Err e)) c = marking-later (trouble_of o k t (Do.Hello a p (Hello.Err e)))
  rule-later (Do.Beaten a p duration (Beaten.Ok r more)) c = replied-later a p _
  rule-later (Do.Beaten a p duration (Beaten.Err e)) c = marking-later (trouble_of o k t (Do.Beaten a p duration (Beaten.Err e)))
  rule-later (Do.Beaten a p duration (Beaten.Cancelled e)) c = tt
  rule-later (Do.Hosts hosts) c = syncing-later t.topology_type hosts
  rule-later (Do.ClusterTime time) c = tt
  rule-later Do.Stop c = tt
  rule-later (Do.Error r e) c = marking-later (trouble_of o k t (Do.Error r e))
  rule-later (Do.Failed q c at e) d = marking-later (trouble_of o k t (Do.Failed q c at e))
  rule-later _ c = tt

  -- an act that tells of a trouble has the rule of that trouble
  pub rule-marks : (act : Act) (x : Trouble) → trouble_of o k t act ≡ Some x → rule_of o k t m act ≡ marking_rule o (Some x)
  rule-marks (Do.Open q) x e = cc
  rule-marks (Do.Hello a p (Hello.Ok rtt r)) x e = cc
  rule-marks (Do.Hello a p (Hello.Err error)) x e = ap (marking_rule o) e
  rule-marks (Do.Beaten a p duration (Beaten.Ok r more)) x e = cc
  rule-marks (Do.Beaten a p duration (Beaten.Err error)) x e = ap (marking_rule o) e
  rule-marks (Do.Beaten a p duration (Beaten.Cancelled error)) x e = cc
  rule-marks (Do.Hosts hosts) x e = cc
  rule-marks (Do.ClusterTime time) x e = cc
  rule-marks Do.Stop x e = cc
  rule-marks (Do.Error r error) x e = ap (marking_rule o) e
  rule-marks (Do.Failed q c at error) x e = ap (marking_rule o) e
  rule-marks _ x e = cc

  -- it is of the pool that is open at its address
  monitor-here : (a : ServerAddress) (p : ℕ) (error : Error) (x : Trouble) → monitor_trouble k a p error ≡ Some x → is_here k x.address x.pool ≡ true
  monitor-here a p error x e = on (is_here k a p) refl
    where
      on : (b : Bool) → is_here k a p ≡ b → is_here k x.address x.pool ≡ true
      on true f = let y : Trouble = record { row = monitored; pool = p; address = a; error = error; wire = pos 0; service = None } in let w : Some y ≡ Some x = sym (rw f refl) ∙ e in let v : y ≡ x = cc in subst (λ (y : Trouble). is_here k y.address y.pool ≡ true) v f
      on false f = let w : ◌≡◌ {A = Option Trouble} None (Some x) = sym (rw f refl) ∙ e in cc

  complaint-here : (c : Option Complaint) (x : Trouble) → complaint_trouble o k t c ≡ Some x → is_here k x.address x.pool ≡ true
  complaint-here None x e = cc
  complaint-here (Some y) x e = on (is_current o k t y) refl
    where
      here : is_current o k t y ≡ true → is_here k y.address y.pool ≡ true
      here f = (both-true (is_here k y.address y.pool) _ (both-true (not (is_incompatible y.error.kind)) _ f).1).0

      row : (r : Option Case) → is_here k y.address y.pool ≡ true → current_trouble k y r ≡ Some x → is_here k x.address x.pool ≡ true
      row None g d = cc
      row (Some r) g d =
          let z : Trouble = record { row = r; pool = y.pool; address = y.address; error = y.error; wire = unwrap_or (wire_of (of_pool y.pool k) y.connection) (pos 0); service = service_of (of_pool y.pool k) y.connection } in
          let v : z ≡ x = cc in
          subst (λ (z : Trouble). is_here k z.address z.pool ≡ true) v g

      on : (b : Bool) → is_current o k t y ≡ b → is_here k x.address x.pool ≡ true
      on true f = row (case_of y.phase y.error) (here f) (sym (rw f refl) ∙ e)
      on false f = let w : ◌≡◌ {A = Option Trouble} None (Some x) = sym (rw f refl) ∙ e in cc

  pub trouble-here : (act : Act) (x : Trouble) → trouble_of o k t act ≡ Some x → is_here k x.address x.pool ≡ true
  trouble-here (Do.Hello a p (Hello.Err error)) x e = monitor-here a p error x e
  trouble-here (Do.Hello a p (Hello.Ok rtt r)) x e = cc
  trouble-here (Do.Beaten a p duration (Beaten.Err error)) x e = monitor-here a p error x e
  trouble-here (Do.Beaten a p duration (Beaten.Ok r more)) x e = cc
  trouble-here (Do.Beaten a p duration (Beaten.Cancelled error)) x e = cc
  trouble-here (Do.Error r error) x e = complaint-here (complaint_of k (Do.Error r error)) x e
  trouble-here (Do.Failed q c at error) x e = complaint-here (complaint_of k (Do.Failed q c at error)) x e
  trouble-here _ x e = cc

module _ (o : Options) (m : ℕ) (t : TopologyDescription) where
  module _ (h : List Item) (sound : IsSound o t h) where
    -- what a rule tells says what it causes
    pub rule-says : (rule : Option Rule) → IsLater rule → (k : List Item) → IsFresh o h k → marks_of (in_turn m (told_by o m rule t) k) ≡ changes o h (applied rule t) (change_by rule t)
    rule-says None c k fresh = refl
    rule-says (Some (opens q)) c k fresh = absurd c
    rule-says (Some (updates s)) c k fresh = says-published o m h t (updated t s) sound (updates-ordered s t sound.ordered) k fresh
    rule-says (Some (syncs hosts)) c k fresh = says-published o m h t (synced hosts t) sound (syncs-ordered hosts t sound.ordered) k fresh
    rule-says (Some (tells_time time)) c k fresh = rw (same-servers t.servers sound.ordered) refl
    rule-says (Some stops) c k fresh =
        let fs : List Fact = in_turn m (publication o m t (stopped t)) k in
        ap marks_of (turn-append m (publication o m t (stopped t)) (topology_closed o ∷ []) k)
        ∙ (marks-append fs (in_turn m (topology_closed o ∷ []) (with_facts m fs k))
        ∙ (append-nil (marks_of fs)
        ∙ says-published o m h t (stopped t) sound refl k fresh))

    -- what is told of a server that failed does not touch its pool
    module _ (x : Trouble) (there : open_pool h x.address ≡ Some x.pool) (j : List Item) (fresh : IsFresh o h j) where
      abbrev u : TopologyDescription
      u = updated t (failed x.address x.error)

      abbrev test : Fact → Bool
      test = touches x.pool

      turn-spares : (fs gs : List (List Item → List Fact)) → list_any test (in_turn m fs j) ≡ false → ((i : List Item) → list_any test (in_turn m gs i) ≡ false) → list_any test (in_turn m (fs ++ gs) j) ≡ false
      turn-spares fs gs first second =
          ap (list_any test) (turn-append m fs gs j) ∙ any-append test (in_turn m fs j) (in_turn m gs (with_facts m (in_turn m fs j) j)) first (second (with_facts m (in_turn m fs j) j))

      known : is_known x.address t.servers ≡ true
      known = sym (sound.open_for x.address) ∙ ap is_some there

      -- it changed, but is not ready
      unready : (d : Diff) → difference t.servers u.servers ≡ Some d → is_listed d.changed x.address ≡ true → is_ready_at u x.address ≡ false
      unready d e listed = second (is_listed d.changed x.address) (is_ready_at u x.address) (is_listed d.removed x.address || is_listed d.added x.address) (untouched x.address x.error t known sound.ordered (Some d) e) listed
        where
          second : (p q r : Bool) → (p && q) || r ≡ false → p ≡ true → q ≡ false
          second true false r f g = refl
          second true true r f g = cc
          second false q r f g = cc

      changed-spare : (d : Diff) → difference t.servers u.servers ≡ Some d → list_any test (in_turn m (map (server_changed o m t u) d.changed) j) ≡ false
      changed-spare d e = runs-spare (pool_options o) m h sound.alone (server_changed o m t u) (changed-part o m t u) d.changed x.address x.pool j fresh.below there
          (λ a i listed same.
          let w : a ≡ x.address = same-address a x.address same in
          unready-test o m a i test t u (λ event. refl) (ap (is_ready_at u) w ∙ unready d e (ap (is_listed d.changed) (sym w) ∙ listed)))

      told-spare : (d : Option Diff) → difference t.servers u.servers ≡ d → list_any test (in_turn m (telling o m t u d) j) ≡ false
      told-spare None e = refl
      told-spare (Some d) e =
          rw (none-gone x.address x.error t d e, none-come x.address x.error t d e)
          (turn-spares (map (server_changed o m t u) d.changed ++ []) (topology_changed o t u ∷ [])
          (turn-spares (map (server_changed o m t u) d.changed) [] (changed-spare d e) (λ i. refl)) (λ i. refl))

      pub marking-spares : list_any test (in_turn m (told_by o m (marking_rule o (Some x)) t) j) ≡ false
      marking-spares = on (marks o.load_balanced x.row) refl
        where
          on : (b : Bool) → marks o.load_balanced x.row ≡ b → list_any test (in_turn m (told_by o m (marking_rule o (Some x)) t) j) ≡ false
          on true f = rw f (told-spare (difference t.servers u.servers) refl)
          on false f = rw f refl
