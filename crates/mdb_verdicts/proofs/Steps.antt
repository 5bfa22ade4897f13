-- The answer to a plain step after a plain history is plain.
use Rattle.std.proofs.Common.{ℕ, ◌≡◌, Bool, true, false, List, [], ◌∷◌, flat_map, Option, Some, None, refl, if◌then◌else◌}
use Rattle.std.specs.Prelude.{is_some}
use Rattle.std.specs.List.{AllByRecursion}
use Rattle.mdb_base.specs.declared.address.ServerAddress.{ServerAddress}
use Rattle.mdb_base.specs.declared.error.Error.{Error}
use Rattle.mdb_base.specs.declared.options.Options.{Options}
use Rattle.mdb_base.specs.Errors.{is_auth}
use Rattle.mdb_events.specs.declared.end.End.{End}
use Rattle.mdb_events.specs.declared.fact.Fact.{Fact}
use Rattle.mdb_events.specs.declared.fact.Fact.TheVariants as fact
use Rattle.mdb_log.specs.declared.reply.Refused.{Refused}
use Rattle.mdb_log.specs.declared.reply.Reply.{Reply}
use Rattle.mdb_log.specs.declared.reply.Reply.TheVariants as reply
use Rattle.mdb_log.specs.declared.step.Step.{Step}
use Rattle.mdb_log.specs.declared.step.Act.{Act}
use Rattle.mdb_log.specs.declared.step.Act.TheVariants as act
use Rattle.mdb_log.specs.Answer.{Answer}
use Rattle.mdb_log.specs.Connections.{has, pending_list}
use Rattle.mdb_log.specs.History.{Item, PoolItem, of_pool, given, with_facts}
use Rattle.mdb_log.specs.Homes.{Home, homes}
use Rattle.mdb_log.specs.Opening.{pool_options}
use Rattle.mdb_log.specs.Requests.{end_of, outcome_of, is_claimed}
use Rattle.mdb_pool_rules.specs.Answer.{first_job, reply_of}
use Rattle.mdb_pool_rules.specs.Serving.{serving}
use Rattle.mdb_driver_rules.specs.Answer.{pool_reply, reply_to, answered, answer}
use Rattle.mdb_driver_rules.specs.Description.{description_of, rule_after}
use Rattle.mdb_driver_rules.specs.Errors.{Clear, nothing, whole, only, Case, state_change, lost, asks, Trouble}
use Rattle.mdb_driver_rules.specs.Facts.{trouble, clear_of, clearing, asking, own_facts, serve_all, parts, step_facts}
use Rattle.mdb_driver_rules.specs.Homes.{begun, home_of, is_here}
use Rattle.mdb_driver_rules.specs.Monitors.{average}
use Rattle.mdb_driver_rules.specs.Publishing.{told_by}
use Rattle.mdb_driver_rules.specs.Refusal.{refusal}
use Rattle.mdb_verdicts.proofs.Plain.{IsPlainAddress, IsPlainEnd, IsPlainReply, ArePlainFacts, IsPlainAct, IsPlainHistory, ArePlainParts}
use Rattle.mdb_verdicts.proofs.Lists.{IfAny}
use Rattle.mdb_verdicts.proofs.PoolParts.{parts-of, with-plain, end-plain}
use Rattle.mdb_verdicts.proofs.PoolFacts.{facts-both, facts-if, clear-plain, serving-plain, act-plain}
use Rattle.mdb_verdicts.proofs.Known.{IsPlainHome, homes-plain, home-plain, IsPlainTrouble, trouble-plain, description-plain, rule-after-plain}
use Rattle.mdb_verdicts.proofs.Checks.{heartbeat-plain}
use Rattle.mdb_verdicts.proofs.Told.{ArePlainMakers, makers-both, turns-plain, told-plain}

-- facts

clearing-plain : (o : Options) (m : ℕ) (x : Option Trouble) (clear : Clear) (k : List Item) → IfAny IsPlainTrouble x → ArePlainFacts (clearing o m x clear k)
clearing-plain o m None clear k i = tt
clearing-plain o m (Some x) nothing k i = tt
clearing-plain o m (Some x) whole k i = clear-plain x.pool x.address (pool_options o) m i.place (of_pool x.pool k) None x.error i.own
clearing-plain o m (Some x) (only s) k i = clear-plain x.pool x.address (pool_options o) m i.place (of_pool x.pool k) (Some s) x.error i.own

asks-plain : (b : Bool) (row : Case) (e : Error) (clear : Clear) (a : ServerAddress) → IsPlainAddress a → ArePlainFacts (asks b row e clear a)
asks-plain false state_change e clear a i = (i, tt)
asks-plain false lost e whole a i = facts-if (is_auth e.kind) [] (fact.Cancel a ∷ []) tt (i, tt)
asks-plain _ _ e clear a i = tt

asking-plain : (o : Options) (x : Option Trouble) (clear : Clear) (k : List Item) → IfAny IsPlainTrouble x → ArePlainFacts (asking o x clear k)
asking-plain o None clear k i = tt
asking-plain o (Some x) clear k i = asks-plain o.load_balanced x.row x.error clear x.address i.place

own-plain : (o : Options) (h : List Item) (step : Step) (x : Option Home) (k : List Item) → IfAny IsPlainHome x → IsPlainAct step.act → IsPlainHistory k → ArePlainFacts (own_facts o h step x k)
own-plain o h step None k i j l = tt
own-plain o h step (Some x) k i j l = act-plain x.number x.address (pool_options o) step.moment i (of_pool x.number h) (of_pool x.number k) step.act (parts-of x.number k l) j

served-plain : (o : Options) (m : ℕ) (k : List Item) (list : List Home) → AllByRecursion IsPlainHome list → ArePlainFacts (flat_map (λ x. serving x.number x.address (pool_options o) m (of_pool x.number k)) list)
served-plain o m k [] i = tt
served-plain o m k (x ∷ list) i =
    facts-both (serving x.number x.address (pool_options o) m (of_pool x.number k)) (flat_map (λ x. serving x.number x.address (pool_options o) m (of_pool x.number k)) list)
    (serving-plain x.number x.address (pool_options o) m i.0 (of_pool x.number k)) (served-plain o m k list i.1)

parts-plain : (o : Options) (h : List Item) (step : Step) → IsPlainHistory h → IsPlainAct step.act → ArePlainMakers (parts o h step)
parts-plain o h step i j =
    let ill : IfAny IsPlainTrouble (trouble o h step) = trouble-plain o (begun h step) (description_of o h) step.act (j, i) j in
    let clear = clearing o step.moment (trouble o h step) (clear_of o h step) in
    let ask = asking o (trouble o h step) (clear_of o h step) in
    let own = own_facts o h step (home_of h step.act) in
    let told = told_by o step.moment (rule_after o h step) (description_of o h) in (
      λ k l. heartbeat-plain o h step.act i j,
      makers-both told (clear ∷ ask ∷ own ∷ serve_all o step.moment ∷ [])
          (told-plain o step.moment (rule_after o h step) (description_of o h) (rule-after-plain o h step i j) (description-plain o h i)) (
            λ k l. clearing-plain o step.moment (trouble o h step) (clear_of o h step) k ill,
            (
              λ k l. asking-plain o (trouble o h step) (clear_of o h step) k ill,
              (
                λ k l. own-plain o h step (home_of h step.act) k (home-plain h step.act i) j l,
                (λ k l. served-plain o step.moment k (homes k) (homes-plain k l), tt),
              ),
            ),
          ),
    )

facts-plain : (o : Options) (h : List Item) (step : Step) → IsPlainHistory h → IsPlainAct step.act → ArePlainFacts (step_facts o h step)
facts-plain o h step i j = turns-plain step.moment (parts o h step) (begun h step) (parts-plain o h step i j) (j, i)

-- replies

reply-if : (b : Bool) (x y : Reply) → IsPlainReply x → IsPlainReply y → IsPlainReply (if b then x else y)
reply-if true x y i j = i
reply-if false x y i j = j

outcome-plain : (p : ℕ) (xs : List PoolItem) (r : ℕ) → ArePlainParts xs → IsPlainReply (outcome_of p xs r)
outcome-plain p xs r h = on (end_of xs r) (given xs r) refl refl (end-plain xs r h)
  where
    on : (x : Option End) (y : Option ℕ) → end_of xs r ≡ x → given xs r ≡ y → IfAny IsPlainEnd x → IsPlainReply (outcome_of p xs r)
    on (Some end) y e f i = rw e i
    on None None e f i = rw (e, f) refl
    on None (Some c) e f i = rw (e, f) (reply-if (has c (pending_list xs)) (reply.Establishing p c) (reply.Pooled p c) refl refl)

job-plain : (p : ℕ) (claimed : ℕ → Bool) (cs : List ℕ) → IsPlainReply (first_job p claimed cs)
job-plain p claimed [] = refl
job-plain p claimed (c ∷ cs) = reply-if (claimed c) (first_job p claimed cs) (reply.Job p c) (job-plain p claimed cs) refl

reply-plain : (p : ℕ) (claimed : ℕ → Bool) (xs zs : List PoolItem) (does : Act) → ArePlainParts xs → ArePlainParts zs → IsPlainReply (reply_of p claimed xs zs does)
reply-plain p claimed xs zs (act.Request r a) h i = outcome-plain p zs r i
reply-plain p claimed xs zs (act.Warm r a) h i = outcome-plain p zs r i
reply-plain p claimed xs zs (act.Collect r) h i = outcome-plain p zs r i
reply-plain p claimed xs zs act.Claim h i = job-plain p claimed (pending_list xs)
reply-plain p claimed xs zs (act.GiveUp r) h i = reply-if (is_some (end_of xs r)) (outcome_of p xs r) reply.Done (outcome-plain p xs r h) refl
reply-plain p claimed xs zs (act.Take r q c) h i = refl
reply-plain p claimed xs zs _ h i = refl

pool-plain : (h z : List Item) (does : Act) (x : Option Home) → IsPlainHistory h → IsPlainHistory z → IsPlainReply (pool_reply h z does x)
pool-plain h z act.Claim None i j = refl
pool-plain h z _ None i j = refl
pool-plain h z does (Some x) i j = reply-plain x.number (is_claimed h x.number) (of_pool x.number h) (of_pool x.number z) does (parts-of x.number h i) (parts-of x.number z j)

to-plain : (o : Options) (h : List Item) (step : Step) (z : List Item) (does : Act) → IsPlainHistory h → IsPlainHistory z → IsPlainReply (reply_to o h step z does)
to-plain o h step z (act.Hello a p came) i j = refl
to-plain o h step z (act.Beaten a p d came) i j = refl
to-plain o h step z (act.Error r e) i j = refl
to-plain o h step z (act.Hosts hosts) i j = refl
to-plain o h step z (act.Rtt a p n) i j = reply-if (is_here h a p) (reply.Count (average o z p)) (reply.Changed false) refl refl
to-plain o h step z (act.Want w) i j = refl
to-plain o h step z (act.Unwant w) i j = refl
to-plain o h step z does i j = pool-plain h z does (home_of h does) i j

-- answers

pub record IsPlainAnswer (got : Answer) : Type 0 where
  pub reply : IsPlainReply got.reply
  pub facts : ArePlainFacts got.facts

answered-plain : (o : Options) (h : List Item) (step : Step) (why : Option Refused) (facts : List Fact) → IsPlainHistory h → IsPlainAct step.act → ArePlainFacts facts → IsPlainAnswer (answered o h step why facts)
answered-plain o h step (Some why) facts i j l = record { reply = refl; facts = tt }
answered-plain o h step None facts i j l = record { reply = to-plain o h step (with_facts step.moment facts (begun h step)) step.act i (with-plain step.moment facts (begun h step) l (j, i)); facts = l }

pub answer-plain : (o : Options) (h : List Item) (step : Step) → IsPlainHistory h → IsPlainAct step.act → IsPlainAnswer (answer o h step)
answer-plain o h step i j = answered-plain o h step (refusal o h step) (step_facts o h step) i j (facts-plain o h step i j)
