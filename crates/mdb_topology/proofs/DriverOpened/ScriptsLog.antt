-- The log of a script's driver is legal, and keeps what is said beside it.
use Rattle.std.proofs.Common.{ℕ, ◌≡◌, true, List, [], ◌∷◌, ◌++◌, Option, Some, None, sym, ◌∙◌, ap, subst}
use Rattle.mdb_base.specs.declared.options.Options.{Options}
use Rattle.mdb_log.specs.declared.log.Entry.{Entry}
use Rattle.mdb_log.specs.declared.step.Step.{Step}
use Rattle.mdb_log.specs.declared.step.Act.TheVariants as Do
use Rattle.mdb_base.specs.OptionRules.{broken_rule}
use Rattle.mdb_log.specs.Beside.{EntriesGrantFresh}
use Rattle.mdb_log.specs.History.{Item, of_pool, history_of}
use Rattle.mdb_log.specs.Limits.{WithinLimits}
use Rattle.mdb_log.specs.LegalLog.{IsLegalLog, IsLegal, IsOrderly, OpensSeeds}
use Rattle.mdb_log.specs.Opening.{pool_options}
use Rattle.mdb_topology.specs.declared.topology.TopologyCore.{TopologyCore}
use Rattle.mdb_driver_rules.specs.Lines.{entry_after, options_in}
use Rattle.mdb_topology.specs.Standing.{StandsFor, IsSame}
use Rattle.mdb_topology.specs.Stepping.{Logs}
use Rattle.mdb_driver_rules.specs.Acts.{is_driver_act}
use Rattle.mdb_topology.specs.Logging.{opening_step, Stood, AreDriven, IsDriverOf, IsKept}
use Rattle.mdb_topology.specs.Driving.{IsTaken, IsFirstStep, Holds}
use Rattle.mdb_driver_rules.proofs.TwoKinds.{driver-act}
use Rattle.mdb_topology.proofs.WholeSteps.OneMoreEntry.{same-stands, adds}

legal-opened : (w : TopologyCore) (log : List Entry) → IsDriverOf w log → IsLegalLog log
legal-opened w log z = subst IsLegalLog (sym z.logged) (record { opens = z.opens; alone = z.later; orderly = z.orderly; legal = z.legal })

kept-opened : (w : TopologyCore) (log : List Entry) → IsDriverOf w log → IsKept log
kept-opened w log z =
    subst IsKept (sym z.logged) (record { within = subst (λ es. (p : ℕ) → WithinLimits (pool_options w.options) (of_pool p (history_of es))) z.logged z.stands.pools.within; fresh = z.fresh })

-- a step that is taken after the first has an act of a driver
pub taken-act : (w : TopologyCore) (log : List Entry) (step : Step) → IsDriverOf w log → IsTaken log step → is_driver_act step.act ≡ true
taken-act w [] step z t = let e : ◌≡◌ {A = List Entry} [] (entry_after z.seat [] (opening_step w.options) ∷ z.entries) = z.logged in absurd (cc)
taken-act w (first ∷ log) step z t = t

pub legal-log : (core : Option TopologyCore) (log : List Entry) → Holds core log → IsLegalLog log
legal-log None log h = subst IsLegalLog (sym h) tt
legal-log (Some w) log h = legal-opened w log h

pub kept-log : (core : Option TopologyCore) (log : List Entry) → Holds core log → IsKept log
kept-log None log h = subst IsKept (sym h) (record { within = tt; fresh = tt })
kept-log (Some w) log h = kept-opened w log h

-- the same state is that of the same log
pub still-opened : (w v : TopologyCore) (log : List Entry) → IsDriverOf w log → IsSame w v → IsDriverOf v log
still-opened w v log z e =
    let back : w.options ≡ v.options = sym e.options in
    record {
      fits = subst (λ q. broken_rule q ≡ None) back z.fits;
      seat = z.seat;
      entries = z.entries;
      logged = subst (λ q. log ≡ entry_after z.seat [] (opening_step q) ∷ z.entries) back z.logged;
      began = subst (λ q. Stood q (entry_after z.seat [] (opening_step q) ∷ [])) back z.began;
      driven = subst (λ q. AreDriven q (entry_after z.seat [] (opening_step q) ∷ []) z.entries) back z.driven;
      opens = subst (λ q. OpensSeeds q (history_of (entry_after z.seat [] (opening_step q) ∷ []))) back z.opens;
      later = z.later;
      orderly = subst (λ q. IsOrderly (pool_options q) (history_of (entry_after z.seat [] (opening_step q) ∷ []))) back z.orderly;
      legal = subst (λ q. IsLegal (pool_options q) (history_of (entry_after z.seat [] (opening_step q) ∷ [])) z.entries) back z.legal;
      fresh = subst (λ q. EntriesGrantFresh (pool_options q) (history_of (entry_after z.seat [] (opening_step q) ∷ [])) z.entries) back z.fresh;
      stands = same-stands w v (history_of log) e z.stands;
    }

-- a step of the driver
pub steps-opened : (w v : TopologyCore) (log after : List Entry) (step : Step) → IsDriverOf w log → IsTaken log step → v.options ≡ w.options
    → ((h : List Item) → StandsFor w h → Logs w v log after 0 step h) → (after ≡ log ++ entry_after 0 log step ∷ []) × IsDriverOf v after
steps-opened w v log after step z t same logs = adds w v log after 0 step z same (logs (history_of log) z.stands) (driver-act step.act (taken-act w log step z t))

-- an open driver stands for the log
pub opened-of : (core : Option TopologyCore) (w : TopologyCore) (log : List Entry) → core ≡ Some w → Holds core log → IsDriverOf w log
opened-of core w log e h = subst (λ k. Holds k log) e h

-- a step that opens a driver is known by its options
pub first-step-is : (s : Step) (o q : Options) → IsFirstStep s → s.act ≡ Do.Open o → q ≡ o → opening_step q ≡ s
first-step-is s o q z e same = ap opening_step (same ∙ ap options_in (sym e ∙ ap (λ t. t.act) z.step_is)) ∙ sym z.step_is
