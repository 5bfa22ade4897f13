-- An error of an operation that is current marks the server, where load is not balanced.
use Rattle.std.proofs.Common.{ℕ, ◌≡◌, ◌≤◌, ◌==◌, ◌&&◌, ◌||◌, Bool, true, false, not, List, [], ◌∷◌, Option, Some, None, is_some, refl, sym, ◌∙◌, ap, arith}
use Rattle.std.specs.Prelude.{slice_get}
use Rattle.mdb_base.specs.declared.address.ServerAddress.{ServerAddress}
use Rattle.mdb_base.specs.declared.error.Error.{Error}
use Rattle.mdb_base.specs.declared.error.ErrorKind.{ErrorKind}
use Rattle.mdb_base.specs.declared.error.ErrorKind.TheVariants.{Network}
use Rattle.mdb_base.specs.declared.options.Options.{Options}
use Rattle.mdb_base.specs.Errors.{is_incompatible, is_plain_network, is_auth, is_state_change}
use Rattle.mdb_describe.specs.declared.topology.TopologyDescription.{TopologyDescription}
use Rattle.mdb_describe.specs.Descriptions.{failed}
use Rattle.mdb_describe.specs.Servers.{is_known}
use Rattle.mdb_describe.specs.Topology.{server_at}
use Rattle.mdb_describe.specs.Update.{updated}
use Rattle.mdb_log.specs.declared.step.Act.{Act}
use Rattle.mdb_log.specs.declared.step.Act.TheVariants as Do
use Rattle.mdb_log.specs.declared.reply.Reply.TheVariants.{Changed}
use Rattle.mdb_log.specs.History.{Item, did, made}
use Rattle.mdb_pool.specs.Core.{PoolCore}
use Rattle.mdb_pool.specs.Now.{held_now}
use Rattle.mdb_log.proofs.Bools.{both-true}
use Rattle.mdb_driver_pools.specs.declared.trouble.Asked.TheVariants.{CheckNow, CancelIfCleared}
use Rattle.mdb_topology.specs.declared.topology.TopologyCore.{TopologyCore}
use Rattle.mdb_topology.specs.Changing.{IsChanging}
use Rattle.mdb_topology.specs.Complaining.{is_outdated, is_hard_now, concerns_now}
use Rattle.mdb_driver_rules.specs.Current.{operating, known_version, may_tell}
use Rattle.mdb_driver_rules.specs.Description.{updates, rule_of, rule_after, marking_rule, applied, is_stop, is_stopped, description_of}
use Rattle.mdb_driver_rules.specs.Errors.{Case, monitored, state_change, lost, Trouble, case_of, is_loss, marks, asks, whole, where_so, trouble_of}
use Rattle.mdb_driver_rules.specs.Facts.{trouble}
use Rattle.mdb_driver_pools.specs.Finding.{holder}
use Rattle.mdb_driver_rules.specs.Homes.{begun}
use Rattle.mdb_topology.specs.Marking.{IsOfPool, IsMarking}
use Rattle.mdb_driver_pools.specs.Clearing.{asked_of}
use Rattle.mdb_topology.specs.Standing.{StandsFor}
use Rattle.mdb_driver_pools.specs.Standing.{at_address, is_here_among}
use Rattle.mdb_topology.proofs.Marks.CurrentErrors.{complained, complaint-passes, number-is, trouble-told, trouble-none}
use Rattle.mdb_topology.proofs.Publications.OfDifference.{open-known}
use Rattle.mdb_topology.proofs.Marks.WhichSteps.{and-always, marking-by}
use Rattle.mdb_topology.proofs.Publications.WhichSteps.{at_m, rule-unstopped, rule-stopped, resting-by, unchanged}

-- a driver that was stopped knows no server
stop-empties : (o : Options) (k : List Item) (t : TopologyDescription) (m : ℕ) (act : Act) → is_stop act ≡ true → (applied (rule_of o k t m act) t).servers ≡ []
stop-empties o k t m Do.Stop e = refl
stop-empties o k t m _ e = cc

pub stopped-empty : (o : Options) (h : List Item) → is_stopped h ≡ true → (description_of o h).servers ≡ []
stopped-empty o [] e = cc
stopped-empty o (made m f ∷ h) e = stopped-empty o h e
stopped-empty o (did step reply ∷ h) e = on (is_stopped h) refl e (stopped-empty o h)
  where
    on : (b : Bool) → is_stopped h ≡ b → is_stop step.act || b ≡ true → (is_stopped h ≡ true → (description_of o h).servers ≡ []) → (description_of o (did step reply ∷ h)).servers ≡ []
    on true f g deeper = rw f (deeper f)
    on false f g deeper = rw f (stop-empties o (begun h step) (description_of o h) step.moment step.act (stops (is_stop step.act) g))
      where
        stops : (b : Bool) → b || false ≡ true → b ≡ true
        stops true i = refl
        stops false i = cc

plain-auth : (k : ErrorKind) → is_plain_network k ≡ true → is_auth k ≡ false
plain-auth Network e = refl
plain-auth _ e = cc

marks-normal : (row : Case) → marks false row ≡ true
marks-normal monitored = refl
marks-normal state_change = refl
marks-normal lost = refl

lost-plain : (e : Error) → case_of operating e ≡ Some lost → is_auth e.kind ≡ false
lost-plain e f = on (is_state_change e.kind) (is_plain_network e.kind) refl refl
  where
    on : (b c : Bool) → is_state_change e.kind ≡ b → is_plain_network e.kind ≡ c → is_auth e.kind ≡ false
    on b true g i = plain-auth e.kind i
    on true false g i = let w : ◌≡◌ {A = Option Case} (Some state_change) (Some lost) = sym (rw g refl) ∙ f in cc
    on false false g i = let w : ◌≡◌ {A = Option Case} None (Some lost) = sym (rw (g, i) refl) ∙ f in cc

module _ (w : TopologyCore) (h : List Item) (z : StandsFor w h) (m : ℕ) (l : w.pools.last ≤ m) where
  abbrev o : Options
  o = w.options

  abbrev t : TopologyDescription
  t = w.description

  abbrev pools : List PoolCore
  pools = w.pools.cores.items

  -- where a pool is open, the driver was not stopped
  pub open-unstopped : (a : ServerAddress) (i : ℕ) → at_address pools a ≡ Some i → w.stopped ≡ false
  open-unstopped a i here = on w.stopped refl
    where
      on : (b : Bool) → w.stopped ≡ b → w.stopped ≡ false
      on false e = e
      on true e =
          let none : t.servers ≡ [] = ap (λ (v : TopologyDescription). v.servers) (sym z.described.known) ∙ stopped-empty o h (z.counts.stopped_is ∙ e) in
          let known : is_known a t.servers ≡ true = sym (open-known w (h, z) a) ∙ ap is_some here in
          let w2 : true ≡ false = sym known ∙ ap (is_known a) none in
          cc

  module _ (r : ℕ) (e : Error) (i : ℕ) (s : PoolCore) (x : ℕ) (held : holder pools r ≡ Some i) (there : slice_get pools i ≡ Some s) (has : held_now s r ≡ Some x) where
    abbrev act : Act
    act = Do.Error r e

    -- an error that isn't current, or has no row, tells nothing
    pub complaint-resting : concerns_now w s x e && is_some (case_of operating e) ≡ false → IsChanging o h t None (at_m w h z m l act) (Changed false) false []
    complaint-resting none = resting-by w h z m l act (Changed false) tt calm (complaint-passes w h z m l r e i s x held there has) ruled (λ k. unchanged w h z m l act calm ruled) false refl
      where
        calm : trouble o h (at_m w h z m l act) ≡ None
        calm = ap (λ v. trouble_of o (begun h (at_m w h z m l act)) v act) z.described.known ∙ trouble-none w h z m l r e i s x held there has none

        on : (b : Bool) → w.stopped ≡ b → rule_after o h (at_m w h z m l act) ≡ None
        on true f = rule-stopped w h z m l act f
        on false f = rule-unstopped w h z m l act f ∙ ap (marking_rule o) (trouble-none w h z m l r e i s x held there has none)

        ruled : rule_after o h (at_m w h z m l act) ≡ None
        ruled = on w.stopped refl

    module _ (current : concerns_now w s x e ≡ true) where
      -- the pool is the open one of its address
      pub complaint-here : at_address pools s.address ≡ Some i
      complaint-here =
          let first = both-true (not (is_incompatible e.kind)) (is_here_among pools s.address s.pool && (may_tell (known_version (server_at s.address t.servers)) e.topology_version && not (is_outdated s x))) current in
          let second = both-true (is_here_among pools s.address s.pool) (may_tell (known_version (server_at s.address t.servers)) e.topology_version && not (is_outdated s x)) first.1 in
          on (at_address pools s.address) refl second.0
        where
          on : (y : Option ℕ) → at_address pools s.address ≡ y → is_here_among pools s.address s.pool ≡ true → at_address pools s.address ≡ Some i
          on None f g = let w2 : is_here_among pools s.address s.pool ≡ false = rw f refl in let t : true ≡ false = sym g ∙ w2 in cc
          on (Some q) f g = let w2 : (q == s.pool) ≡ true = sym (rw f refl) ∙ g in let n : q ≡ s.pool = grind arith in f ∙ ap Some (n ∙ number-is w h z m l r e i s x held there has)

      abbrev pub row_trouble : Case → Trouble
      row_trouble row = complained w h z m l r e i s x held there has row

      pub complaint-trouble : (row : Case) → case_of operating e ≡ Some row → trouble o h (at_m w h z m l act) ≡ Some (row_trouble row)
      complaint-trouble row case = ap (λ v. trouble_of o (begun h (at_m w h z m l act)) v act) z.described.known ∙ trouble-told w h z m l r e i s x held there has row current case

      module _ (normal : o.load_balanced ≡ false) where
        complaint-ruled : (row : Case) → case_of operating e ≡ Some row → rule_after o h (at_m w h z m l act) ≡ Some (updates (failed s.address e))
        complaint-ruled row case =
            rule-unstopped w h z m l act (open-unstopped s.address i complaint-here)
            ∙ (ap (marking_rule o) (trouble-told w h z m l r e i s x held there has row current case) ∙ rw (normal, marks-normal row) refl)

        -- a change of the server's state
        pub changed-of-pool : IsOfPool o (row_trouble state_change) i s.address e (is_hard_now s x e) CheckNow
        changed-of-pool = record {
          pool = number-is w h z m l r e i s x held there has;
          address = refl;
          error_is = refl;
          clear = λ b. rw normal refl;
          asks_are = λ b. rw normal refl;
        }

        pub changed-marking : case_of operating e ≡ Some state_change → IsMarking w h (at_m w h z m l act) (updated t (failed s.address e)) (row_trouble state_change)
        changed-marking case =
            marking-by w h z m l act s.address e (row_trouble state_change) i (is_hard_now s x e) CheckNow changed-of-pool
            (complaint-passes w h z m l r e i s x held there has) (complaint-ruled state_change case) (complaint-trouble state_change case) (λ k. refl) refl

        -- a lost connection
        pub lost-of-pool : case_of operating e ≡ Some lost → IsOfPool o (row_trouble lost) i s.address e true CancelIfCleared
        lost-of-pool case = record {
          pool = number-is w h z m l r e i s x held there has;
          address = refl;
          error_is = refl;
          clear = λ b. rw normal (ap (λ c. where_so c whole) (and-always b));
          asks_are = asks-cancel;
        }
          where
            asks-cancel : (b : Bool) → asks o.load_balanced lost e (where_so b whole) s.address ≡ asked_of CancelIfCleared b s.address
            asks-cancel true = rw (normal, lost-plain e case) refl
            asks-cancel false = rw normal refl

        pub lost-marking : case_of operating e ≡ Some lost → IsMarking w h (at_m w h z m l act) (updated t (failed s.address e)) (row_trouble lost)
        lost-marking case =
            marking-by w h z m l act s.address e (row_trouble lost) i true CancelIfCleared (lost-of-pool case)
            (complaint-passes w h z m l r e i s x held there has) (complaint-ruled lost case) (complaint-trouble lost case) (λ k. refl) refl

-- the rows of operations
pub changed-case : (e : Error) → is_state_change e.kind ≡ true → case_of operating e ≡ Some state_change
changed-case e f = rw f refl

pub lost-case : (e : Error) → is_state_change e.kind ≡ false → is_some (case_of operating e) ≡ true → case_of operating e ≡ Some lost
lost-case e f row = on (is_loss operating e) refl
  where
    on : (c : Bool) → is_loss operating e ≡ c → case_of operating e ≡ Some lost
    on true g = rw (f, g) refl
    on false g = let no : is_some (case_of operating e) ≡ false = rw (f, g) refl in let t : true ≡ false = sym row ∙ no in cc
