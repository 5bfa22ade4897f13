-- Clears by errors, and what the monitors are asked, may come after a sound history.
use Rattle.std.proofs.Common.{ℕ, ◌≡◌, ◌&&◌, Bool, true, false, not, List, ◌++◌, Option, Some, None, refl, sym, ◌∙◌, ap, subst}
use Rattle.mdb_base.specs.Errors.{is_auth, is_incompatible}
use Rattle.mdb_base.specs.declared.address.ServerAddress.{ServerAddress}
use Rattle.mdb_base.specs.declared.error.Error.{Error}
use Rattle.mdb_base.specs.declared.object_id.ObjectId.{ObjectId}
use Rattle.mdb_base.specs.declared.options.Options.{Options}
use Rattle.mdb_describe.specs.declared.topology.TopologyDescription.{TopologyDescription}
use Rattle.mdb_describe.specs.Topology.{server_at}
use Rattle.mdb_events.specs.declared.fact.Fact.{Fact}
use Rattle.mdb_log.specs.declared.step.Act.{Act}
use Rattle.mdb_log.specs.declared.step.Act.TheVariants as Do
use Rattle.mdb_log.specs.declared.checked.HelloResult.TheVariants as Hello
use Rattle.mdb_log.specs.declared.checked.BeatenResult.TheVariants as Beaten
use Rattle.mdb_log.specs.History.{Item, of_pool, open_pool, with_facts}
use Rattle.mdb_log.specs.Opening.{pool_options}
use Rattle.mdb_pool_rules.specs.Facts.{clear_facts}
use Rattle.mdb_log.proofs.Bools.{both-true}
use Rattle.mdb_sound.proofs.Maintains.{cleared-fine}
use Rattle.mdb_sound.proofs.Served.{Fine}
use Rattle.mdb_driver_rules.specs.Current.{Complaint, complaint_of, is_current, may_tell, known_version, is_of_generation}
use Rattle.mdb_driver_rules.specs.Errors.{Case, monitored, state_change, lost, Clear, nothing, whole, only, Trouble, asks, case_of, current_trouble, monitor_trouble, complaint_trouble, trouble_of}
use Rattle.mdb_driver_rules.specs.Facts.{clearing, asking}
use Rattle.mdb_driver_rules.specs.Homes.{is_here}
use Rattle.mdb_topology.proofs.OfMonitors.FactsOfCheck.{AreCalm}
use Rattle.mdb_driver_rules.proofs.LeavesAsItIs.{with-append}
use Rattle.mdb_histories.specs.SoundHistory.{SoundHistory, was_opened}
use Rattle.mdb_histories.proofs.Begins.{number-is}
use Rattle.mdb_histories.proofs.Comes.{calm-come, come-both}
use Rattle.mdb_histories.proofs.Opened.{open-opened}
use Rattle.mdb_histories.proofs.Owns.{clear-own}
use Rattle.mdb_histories.proofs.PoolSteps.{ComeFine, own-fine}
use Rattle.mdb_histories.proofs.Turns.{calm-items}

pub fine-both : (m : ℕ) (fs gs : List Fact) (k : List Item) → ComeFine m k fs → ComeFine m (with_facts m fs k) gs → ComeFine m k (fs ++ gs)
fine-both m fs gs k a b = record { come = come-both m fs gs k a.come b.come; fine = λ p. subst (λ j. Fine (of_pool p j)) (sym (with-append m fs gs k)) (b.fine p) }

pub calm-fine : (m : ℕ) (fs : List Fact) (k : List Item) → AreCalm fs → SoundHistory k → ((p : ℕ) → Fine (of_pool p k)) → ComeFine m k fs
calm-fine m fs k c s fine = record { come = calm-come m fs k s c; fine = λ p. subst Fine (sym (calm-items m p fs k c)) (fine p) }

-- what the monitor is asked is of no pool
asks-calm : (balanced : Bool) (row : Case) (e : Error) (clear : Clear) (a : ServerAddress) → AreCalm (asks balanced row e clear a)
asks-calm true row e clear a = tt
asks-calm false monitored e clear a = tt
asks-calm false state_change e clear a = (tt, tt)
asks-calm false lost e nothing a = tt
asks-calm false lost e (only s) a = tt
asks-calm false lost e whole a = on (is_auth e.kind) refl
  where
    on : (b : Bool) → is_auth e.kind ≡ b → AreCalm (asks false lost e whole a)
    on true f = rw f tt
    on false f = rw f (tt, tt)

pub asking-calm : (o : Options) (x : Option Trouble) (clear : Clear) (k : List Item) → AreCalm (asking o x clear k)
asking-calm o None clear k = tt
asking-calm o (Some x) clear k = asks-calm o.load_balanced x.row x.error clear x.address

-- the pool of a trouble is the open one of its address
current-here : (o : Options) (k : List Item) (t : TopologyDescription) (x : Complaint) → is_current o k t x ≡ true → is_here k x.address x.pool ≡ true
current-here o k t x e =
    let rest : Bool = may_tell (known_version (server_at x.address t.servers)) x.error.topology_version && is_of_generation o (of_pool x.pool k) x.connection x.phase in
    let w : is_here k x.address x.pool && rest ≡ true = (both-true (not (is_incompatible x.error.kind)) (is_here k x.address x.pool && rest) e).1 in
    (both-true (is_here k x.address x.pool) rest w).0

abbrev pub IsHere : List Item → Option Trouble → Type 0
IsHere k y = (x : Trouble) → y ≡ Some x → is_here k x.address x.pool ≡ true

abbrev address_in : ServerAddress → Option Trouble → ServerAddress
address_in a None = a
address_in a (Some z) = z.address

abbrev pool_in : ℕ → Option Trouble → ℕ
pool_in p None = p
pool_in p (Some z) = z.pool

monitor-here : (k : List Item) (a : ServerAddress) (p : ℕ) (e : Error) → IsHere k (monitor_trouble k a p e)
monitor-here k a p e x f = on (is_here k a p) refl f
  where
    on : (b : Bool) → is_here k a p ≡ b → monitor_trouble k a p e ≡ Some x → is_here k x.address x.pool ≡ true
    on true g f =
        let at : address_in a (monitor_trouble k a p e) ≡ a = rw g refl in
        let of : pool_in p (monitor_trouble k a p e) ≡ p = rw g refl in
        let same : a ≡ x.address = sym at ∙ ap (address_in a) f in
        let one : p ≡ x.pool = sym of ∙ ap (pool_in p) f in
        subst (λ b. is_here k b x.pool ≡ true) same (subst (λ n. is_here k a n ≡ true) one g)
    on false g f = let w : ◌≡◌ {A = Option Trouble} None (Some x) = sym (rw g refl) ∙ f in cc

complaint-here : (o : Options) (k : List Item) (t : TopologyDescription) (y : Option Complaint) → IsHere k (complaint_trouble o k t y)
complaint-here o k t None x f = cc
complaint-here o k t (Some y) x f = on (is_current o k t y) (case_of y.phase y.error) refl refl f
  where
    on : (b : Bool) (row : Option Case) → is_current o k t y ≡ b → case_of y.phase y.error ≡ row → complaint_trouble o k t (Some y) ≡ Some x → is_here k x.address x.pool ≡ true
    on false row g i f = let w : ◌≡◌ {A = Option Trouble} None (Some x) = sym (rw g refl) ∙ f in cc
    on true None g i f = let w : ◌≡◌ {A = Option Trouble} None (Some x) = sym (rw (g, i) refl) ∙ f in cc
    on true (Some row) g i f =
        let w : current_trouble k y (Some row) ≡ Some x = sym (rw (g, i) refl) ∙ f in
        let same : y.address ≡ x.address = ap (address_in y.address) w in
        let one : y.pool ≡ x.pool = ap (pool_in y.pool) w in
        subst (λ a. is_here k a x.pool ≡ true) same (subst (λ p. is_here k y.address p ≡ true) one (current-here o k t y g))

pub trouble-here : (o : Options) (k : List Item) (t : TopologyDescription) (act : Act) → IsHere k (trouble_of o k t act)
trouble-here o k t (Do.Hello a p (Hello.Err e)) = monitor-here k a p e
trouble-here o k t (Do.Beaten a p duration (Beaten.Err e)) = monitor-here k a p e
trouble-here o k t act = complaint-here o k t (complaint_of k act)

-- so it was opened
pub trouble-opened : (k : List Item) (x : Trouble) → is_here k x.address x.pool ≡ true → was_opened k x.pool ≡ true
trouble-opened k x e = open-opened k x.address x.pool (number-is (open_pool k x.address) x.pool e)

module _ (o : Options) (m : ℕ) (k : List Item) (s : SoundHistory k) (fine : (p : ℕ) → Fine (of_pool p k)) where
  clear-one : (x : Trouble) (service : Option ObjectId) → was_opened k x.pool ≡ true → ComeFine m k (clear_facts x.pool x.address (pool_options o) m (of_pool x.pool k) service x.error)
  clear-one x service w =
      own-fine x.pool m (clear_facts x.pool x.address (pool_options o) m (of_pool x.pool k) service x.error) k s w
      (clear-own x.pool x.address (pool_options o) m (of_pool x.pool k) service x.error) (cleared-fine x.pool x.address (pool_options o) m (of_pool x.pool k) service x.error (fine x.pool)) (λ q ne. fine q)

  -- the clear of the pool that the trouble is of
  pub clearing-come : (y : Option Trouble) (clear : Clear) → ((x : Trouble) → y ≡ Some x → was_opened k x.pool ≡ true) → ComeFine m k (clearing o m y clear k)
  clearing-come None clear w = record { come = tt; fine = fine }
  clearing-come (Some x) nothing w = record { come = tt; fine = fine }
  clearing-come (Some x) whole w = clear-one x None (w x refl)
  clearing-come (Some x) (only t) w = clear-one x (Some t) (w x refl)
