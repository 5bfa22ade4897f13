-- A driver is a core of many pools: each step adds its entry to the log, and tells of it what every core tells.
use Rattle.std.proofs.Common.{ℕ, ◌≡◌, ◌≤◌, true, List, [], ◌∷◌, ◌++◌, refl, sym, ◌∙◌, ap, subst}
use Rattle.std.specs.Prelude.{Result, Ok, Err, IfOk, OnOk, OnErr}
use Rattle.std.proofs.lemmas.List.{append-nil, append_cancel_left}
use Rattle.mdb_log.specs.declared.log.Entry.{Entry}
use Rattle.mdb_log.specs.declared.step.Step.{Step}
use Rattle.mdb_log.specs.declared.reply.Reply.{Reply}
use Rattle.mdb_log.specs.Acts.{IsDriverAct}
use Rattle.mdb_log.specs.Driver.{IsEntry, is_reply_to, is_in_time, IsThere}
use Rattle.mdb_log.specs.History.{Item, with_answer, history_of, last_moment}
use Rattle.mdb_log.proofs.Later.{with_entries-append}
use Rattle.mdb_topology.specs.declared.topology.TopologyCore.{TopologyCore}
use Rattle.mdb_driver_rules.specs.Homes.{home_at}
use Rattle.mdb_driver_rules.specs.Answer.{answer}
use Rattle.mdb_driver_rules.specs.Description.{description_of, published}
use Rattle.mdb_driver_rules.specs.Jobs.{job_at, job_after}
use Rattle.mdb_driver_rules.specs.Lines.{options_of, described, publications}
use Rattle.mdb_topology.specs.Logging.{IsDriverOf}
use Rattle.mdb_topology.specs.Standing.{StandsFor}
use Rattle.mdb_topology.specs.Stepping.{Logs, IsLogged}
use Rattle.mdb_topology.proofs.WholeSteps.AnswersAsCore.{kind, timely, job-there}
use Rattle.mdb_topology.proofs.OnePool.JobsAreThere.{options-are}
use Rattle.mdb_topology.proofs.WholeSteps.OneMoreEntry.{adds}

-- what a value that was given keeps to
pub if-ok : {T E : Type 0} (r : Result T E) (P Q : T → Type 0) → IfOk r P → ((x : T) → P x → Q x) → IfOk r Q
if-ok (Ok x) P Q p f = f x p
if-ok (Err e) P Q p f = tt

pub when-ok : {T E : Type 0} (r : Result T E) (L : Type 0) (P Q : T → Type 0) → OnOk r L → IfOk r P → (L → (x : T) → P x → Q x) → IfOk r Q
when-ok (Ok x) L P Q l p f = f l x p
when-ok (Err e) L P Q l p f = tt

pub in-either : {T E : Type 0} (r : Result T E) (L M K : Type 0) → OnOk r L → OnErr r M → (L → K) → (M → K) → K
in-either (Ok x) L M K l m f g = f l
in-either (Err e) L M K l m f g = g m

-- what a driver knows is what its log tells
pub described-is : (w : TopologyCore) (log : List Entry) → IsDriverOf w log → w.description ≡ described log
described-is w log z = sym z.stands.described.known ∙ ap (λ q. description_of q (history_of log)) (sym (options-are w log z))

pub published-is : (w : TopologyCore) (log : List Entry) → IsDriverOf w log → w.published ≡ publications log
published-is w log z = sym z.stands.counts.publications_are ∙ ap (λ q. published q (history_of log)) (sym (options-are w log z))

-- what came to one log comes to another
pub moved : (w v : TopologyCore) (before after whole more : List Entry) (seat : ℕ) (step : Step) → after ≡ before ++ more → IsLogged w v before after seat step → IsLogged w v whole (whole ++ more) seat step
moved w v before after whole more seat step grown logs h z =
    let l : Logs w v before after seat step h = logs h z in
    record { entry = ap (λ es. whole ++ es) (append_cancel_left before more _ (sym grown ∙ l.entry)); stands = l.stands; fair = l.fair; fresh = l.fresh }

-- where nothing came to one, nothing comes to another
pub nothing-came : (before after whole more : List Entry) → after ≡ before → after ≡ before ++ more → whole ≡ whole ++ more
nothing-came before after whole more same grown =
    sym (append-nil whole) ∙ ap (λ es. whole ++ es) (append_cancel_left before [] more (append-nil before ∙ (sym same ∙ grown)))

-- a step adds its entry
pub core-entry : (w v : TopologyCore) (before after : List Entry) (h : List Item) (seat : ℕ) (step : Step) → StandsFor w h → IsLogged w v before after seat step
    → (reply : Reply) → reply ≡ (answer w.options h step).reply → (e : Entry) × IsEntry seat step reply e × (after ≡ before ++ e ∷ [])
core-entry w v before after h seat step z logs reply told =
    (record { seat = seat; step = step; reply = (answer w.options h step).reply; facts = (answer w.options h step).facts }, (refl, refl, sym told), (logs h z).entry)

module _ (w v : TopologyCore) (log later : List Entry) (seat : ℕ) (step : Step) (z : IsDriverOf w log) (same : v.options ≡ w.options) (logs : IsLogged w v log later seat step) (d : IsDriverAct step.act) where
  abbrev h : List Item
  h = history_of log

  abbrev its_reply : Reply
  its_reply = (answer w.options h step).reply

  abbrev made : Entry
  made = record { seat = seat; step = step; reply = its_reply; facts = (answer w.options h step).facts }

  logged : Logs w v log later seat step h
  logged = logs h z.stands

  pub still-driver : IsDriverOf v later
  still-driver = (adds w v log later seat step z same logged d).1

  module _ (reply : Reply) (told : reply ≡ its_reply) where
    pub core-kind : is_reply_to step.act reply ≡ true
    core-kind = ap (is_reply_to step.act) told ∙ kind w h z.stands step.moment v step.act d logged.stands

    pub core-in-time : last_moment h ≤ step.moment → is_in_time step.act reply ≡ true
    core-in-time l = ap (is_in_time step.act) told ∙ timely w h z.stands step.moment v step.act d logged.stands (subst (λ n. n ≤ step.moment) z.stands.counts.last_is l)

    pub core-job : IsThere (job_after later) reply
    core-job =
        let known : with_answer step its_reply (answer w.options h step).facts h ≡ history_of later = sym (with_entries-append log made []) ∙ ap history_of (sym logged.entry) in
        let opened : w.options ≡ options_of later = sym same ∙ sym (options-are v later still-driver) in
        let first : IsThere (λ p c. job_at w.options (with_answer step its_reply (answer w.options h step).facts h) c (home_at (with_answer step its_reply (answer w.options h step).facts h) p)) its_reply = job-there w h z.stands step.moment v step.act d logged.stands in
        subst (IsThere (job_after later)) (sym told)
        (subst (λ q. IsThere (λ p c. job_at q (history_of later) c (home_at (history_of later) p)) its_reply) opened
        (subst (λ k. IsThere (λ p c. job_at w.options k c (home_at k p)) its_reply) known first))
