-- The log of a shared script, from the driver that stands for it.
use Rattle.std.proofs.Common.{◌≡◌, ℕ, ◌-◌, ◌≤◌, true, List, [], ◌∷◌, ◌++◌, length, take, drop, get_or, All, Some, None, Result, Ok, Err, IfOk, refl, sym, ◌∙◌, subst, arith}
use Rattle.std.proofs.Math.Seq.{take-length}
use Rattle.std.proofs.lemmas.List.Elements.{All-nil, All-cons, All-weaker}
use Rattle.mdb_base.specs.declared.options.Options.{Options}
use Rattle.mdb_log.specs.declared.log.Entry.{Entry}
use Rattle.mdb_log.specs.declared.step.Step.{Step}
use Rattle.mdb_log.specs.declared.step.Act.{Act}
use Rattle.mdb_log.specs.declared.step.Act.TheVariants as act
use Rattle.mdb_log.specs.Acts.{IsDriverAct}
use Rattle.mdb_lines.specs.Spelling.{is_spelled, HasSpelling, spelling}
use Rattle.mdb_lines.specs.Script.{AreAllowed}
use Rattle.mdb_topology.specs.declared.topology.TopologyCore.{TopologyCore}
use Rattle.mdb_driver_rules.specs.Acts.{is_driver_act}
use Rattle.mdb_topology.specs.Driving.{IsFirstStep}
use Rattle.mdb_driver_rules.specs.Lines.{entry_after}
use Rattle.mdb_topology.specs.Logging.{IsDriverOf, AreDriven, opening_step}
use Rattle.mdb_topology.proofs.DriverOpened.ScriptsLog.{legal-log, kept-log}
use Rattle.mdb_histories.proofs.Logs.{sound-log}
use Rattle.mdb_histories.proofs.OfPlain.Drivers.{plain-log}
use Rattle.mdb_runs.specs.Runs.{IsWithin}
use Rattle.mdb_runs.proofs.Between.{has-driver}
use Rattle.mdb_runs.proofs.Taken.{taken}
use Rattle.mdb_shared_runs.specs.Plays.{IsSharedOn}
use Rattle.mdb_laws.specs.Answers.{AreAnswers}
use Rattle.mdb_shared_runs.specs.Scripts.{Shared}

driver_spelled : (a : Act) → IsDriverAct a → is_spelled a ≡ true
driver_spelled (act.Ready p) d = absurd d
driver_spelled (act.Clear p s e) d = absurd d
driver_spelled (act.Close p) d = absurd d
driver_spelled _ d = refl

driver_act : (a : Act) → is_driver_act a ≡ true → IsDriverAct a
driver_act (act.Open o) h = absurd (cc)
driver_act (act.Ready p) h = absurd (cc)
driver_act (act.Clear p s e) h = absurd (cc)
driver_act (act.Close p) h = absurd (cc)
driver_act _ h = tt

answers_of : (o : Options) (log es : List Entry) → AreDriven o log es → AreAnswers log es
answers_of o log [] h = tt
answers_of o log (e ∷ es) h = (h.0.answers, answers_of o (log ++ e ∷ []) es h.1)

spelled_of : (o : Options) (log es : List Entry) → AreDriven o log es → All (λ (e : Entry). HasSpelling e.step) es
spelled_of o log [] h = All-nil (λ (e : Entry). HasSpelling e.step)
spelled_of o log (e ∷ es) h = All-cons (λ (f : Entry). HasSpelling f.step) e es (driver_spelled e.step.act h.0.taken) (spelled_of o (log ++ e ∷ []) es h.1)

head_same : (x y : Entry) (xs ys : List Entry) → x ∷ xs ≡ y ∷ ys → x ≡ y
head_same x y xs ys h = cc

tail_same : (x y : Entry) (xs ys : List Entry) → x ∷ xs ≡ y ∷ ys → xs ≡ ys
tail_same x y xs ys h = cc

first_spelled : (s : Step) → IsFirstStep s → HasSpelling s
first_spelled s z = subst HasSpelling (sym z.step_is) refl

-- what a driver stands for, where the log begins with this entry
stood : (w : TopologyCore) (log es : List Entry) (first : Entry) → log ≡ first ∷ es → IsDriverOf w log → AreAnswers (first ∷ []) es × All (λ (e : Entry). HasSpelling e.step) es
stood w log es first is d =
    let whole = sym d.logged ∙ is in
    let one : entry_after d.seat [] (opening_step w.options) ≡ first = head_same (entry_after d.seat [] (opening_step w.options)) first d.entries es whole in
    let driven : AreDriven w.options (first ∷ []) es =
    subst (λ (l : List Entry). AreDriven w.options (first ∷ []) l) (tail_same (entry_after d.seat [] (opening_step w.options)) first d.entries es whole)
    (subst (λ (e : Entry). AreDriven w.options (e ∷ []) d.entries) one d.driven) in
    (answers_of w.options (first ∷ []) es driven, spelled_of w.options (first ∷ []) es driven)

-- the first step opens a driver, and the later ones are its own
pub first_opens : (first : Step) (later : List Step) → AreAllowed 1 (first ∷ later) → IsWithin (first ∷ later) → IsFirstStep first
first_opens first later allowed within = taken 1 (spelling first) [] first allowed.0 within.0

pub later_acts : (first : Step) (later : List Step) → IsWithin (first ∷ later) → All (λ (s : Step). IsDriverAct s.act) later
later_acts first later within = All-weaker (λ (s : Step). is_driver_act s.act ≡ true) (λ (s : Step). IsDriverAct s.act) (λ s h. driver_act s.act h) later within.1

pub shared_none : (k : ℕ) → Shared k [] []
shared_none k = record { shares = refl; driver = tt; legal = legal-log None [] refl; plain = plain-log None [] refl; kept = kept-log None [] refl; sound = sound-log None [] refl }

pub shared_some : (k : ℕ) (first : Step) (later : List Step) (log : List Entry) → IsFirstStep first → IsSharedOn IsDriverOf k (entry_after 0 [] first ∷ []) later log
    → Shared k (first ∷ later) log × All (λ (e : Entry). HasSpelling e.step) log
shared_some k first later log opens (entries, is, shared, (w, stands)) =
    let e : Entry = entry_after 0 [] first in
    let s = stood w log entries e is stands in (
      record { shares = (entries, is, shared, s.0); driver = has-driver (Some w) log stands; legal = legal-log (Some w) log stands; plain = plain-log (Some w) log stands; kept = kept-log (Some w) log stands; sound = sound-log (Some w) log stands },
      subst (λ (l : List Entry). All (λ (f : Entry). HasSpelling f.step) l) (sym is) (All-cons (λ (f : Entry). HasSpelling f.step) e entries (first_spelled first opens) s.1),
    )

-- steps whose first one is known
pub begins_with : (steps : List Step) (first : Step) → 1 ≤ length steps → first ≡ get_or steps 0 first → steps ≡ first ∷ take (length steps - 1) (drop 1 steps)
begins_with [] first some is = absurd (omega (arith, some))
begins_with (s ∷ ss) first some is =
    let size : length (s ∷ ss) - 1 ≡ length ss = omega arith in
    let rest : take (length (s ∷ ss) - 1) ss ≡ ss = rw size (take-length ss) in
    cc

-- what the players share is the log of all steps
pub shares_all : {E : Type 0} (k : ℕ) (steps : List Step) (first : Step) (opened : List Entry) (r : Result (List Entry) E) → 1 ≤ length steps → first ≡ get_or steps 0 first → IsFirstStep first
    → opened ≡ entry_after 0 [] first ∷ [] → IfOk r (IsSharedOn IsDriverOf k opened (take (length steps - 1) (drop 1 steps))) → IfOk r (λ log. Shared k steps log × All (λ (e : Entry). HasSpelling e.step) log)
shares_all k steps first opened (Err e) some is opens begun h = tt
shares_all k steps first opened (Ok log) some is opens begun h =
    let later : List Step = take (length steps - 1) (drop 1 steps) in
    subst (λ (ss : List Step). Shared k ss log × All (λ (e : Entry). HasSpelling e.step) log) (sym (begins_with steps first some is))
    (shared_some k first later log opens (subst (λ (l : List Entry). IsSharedOn IsDriverOf k l later log) begun h))

pub both_first : {A : Type 0} {E : Type 0} (P : A → Type 0) (Q : A → Type 0) (r : Result A E) → IfOk r (λ x. P x × Q x) → IfOk r P
both_first P Q (Ok x) h = h.0
both_first P Q (Err e) h = tt

pub both_second : {A : Type 0} {E : Type 0} (P : A → Type 0) (Q : A → Type 0) (r : Result A E) → IfOk r (λ x. P x × Q x) → IfOk r Q
both_second P Q (Ok x) h = h.1
both_second P Q (Err e) h = tt
