-- An accepted step, done on the pool's items, is the answer of its history; and so are steps one after another.
use Rattle.std.proofs.Common.{ℕ, ◌≡◌, List, [], ◌∷◌, ◌++◌, Some, None, Result, Ok, Err, OnErr, refl, sym, ◌∙◌, ap, subst, nat_lt}
use Rattle.mdb_base.specs.declared.address.ServerAddress.{ServerAddress}
use Rattle.mdb_events.specs.declared.fact.Fact.{Fact}
use Rattle.mdb_log.specs.declared.options.PoolOptions.{PoolOptions}
use Rattle.mdb_log.specs.declared.step.Step.{Step}
use Rattle.mdb_log.specs.declared.reply.Refused.{Refused}
use Rattle.mdb_log.specs.declared.reply.Refused.TheVariants.{TimeBack}
use Rattle.mdb_log.specs.declared.reply.Reply.{Reply}
use Rattle.mdb_log.specs.declared.reply.Reply.TheVariants.{Refused as RefusedBy}
use Rattle.mdb_log.specs.History.{Item, of_pool, with_answer}
use Rattle.mdb_log.specs.Legal.{NoneLeftWaiting}
use Rattle.mdb_pool.specs.Core.{PoolCore}
use Rattle.mdb_pool.specs.Now.{last_now, queries}
use Rattle.mdb_pool.specs.declared.planning.Answered.{Answered}
use Rattle.mdb_pool_rules.specs.Answer.{answer}
use Rattle.mdb_pool_rules.specs.Refusal.{first_row}
use Rattle.mdb_pool.specs.Refusing.{refusal_now, rows_now}
use Rattle.mdb_log.specs.declared.log.Entry.{Entry}
use Rattle.mdb_pool.specs.Standing.{StandsFor, StandsForSome, SameHome, Answers, Logs}
use Rattle.mdb_pool.specs.Planning.{Does, DoesLogged, DoesOne, DoesAll, IsPrepared, Passes, answered_as, answers_for, with_steps}
use Rattle.mdb_pool.proofs.Answered.Act.{own-answers, refuses}
use Rattle.mdb_pool.proofs.Answered.Item.{names-item, asks-item, item-is}
use Rattle.mdb_pool_rules.proofs.FirstRow.{first-passes}
use Rattle.mdb_pool.proofs.Answered.Refusal.{refused-now}

-- what holds anyway holds where there is an error
pub on-error : {T E : Type 0} (r : Result T E) {P : Type 0} → P → OnErr r P
on-error (Ok v) p = tt
on-error (Err e) p = p

module _ (s : PoolCore) (step : Step) (none : refusal_now s step ≡ None) where
  rows : first_row (rows_now s step.act) ≡ None
  rows = (first-passes (nat_lt step.moment (last_now s)) (TimeBack (last_now s)) (rows_now s step.act) none).1

  pub passes : Passes s step
  passes h z = sym (refused-now s h z step) ∙ none

  pub does-answers : (t : PoolCore) (before after : List Fact) (reply : Reply) → SameHome s t → t.kept.last ≡ step.moment → Does s t before after step reply → (h : List Item) → StandsFor s h → Answers s t before after step reply h
  does-answers t before after reply home last does h z =
      own-answers s t before after step reply _ h z (passes h z) (item-is s h z step.moment step.act rows)
      (names-item s step.moment (of_pool s.pool h) step.act rows) (asks-item s step.moment (of_pool s.pool h) step.act) home last (does (of_pool s.pool h) z.fits)

-- the pool of a logged step stands for the history with it
pub logged-stands : (s : PoolCore) (step : Step) → refusal_now s step ≡ None → (t : PoolCore) (before after : List Entry) (seat : ℕ) (reply : Reply) → DoesLogged s t before after seat step reply → StandsForSome s → StandsForSome t
unfolding queries
logged-stands s step none t before after seat reply does some =
    (_, (does-answers s step none t [] does.0 reply does.1.home does.1.last does.1.does some.0 some.1).stands)

pub refuses-now : (s : PoolCore) (before : List Fact) (step : Step) (why : Refused) → refusal_now s step ≡ Some why → (h : List Item) → StandsFor s h → Answers s s before before step (RefusedBy why) h
refuses-now s before step why e h z = refuses s before step why h z (sym (refused-now s h z step) ∙ e)

-- steps one after another, and one step more
pub does-more : (s t u : PoolCore) (steps : List Step) (step : Step) (told : List Answered) (a : Answered) → DoesAll s t steps told → DoesOne t u step a (refusal_now t step) → DoesAll s u (steps ++ step ∷ []) (told ++ a ∷ [])
does-more s t u [] step told a all one = (a, [], u, ap (λ k. k ++ a ∷ []) all.0, subst (λ k. DoesOne k u step a (refusal_now k step)) all.1 one, (refl, refl))
does-more s t u (first ∷ steps) step told a all one = (all.0, all.1 ++ a ∷ [], all.2, ap (λ k. k ++ a ∷ []) all.3, all.4, does-more all.2 t u steps step all.1 a all.5 one)

module _ (p : ℕ) (a : ServerAddress) (o : PoolOptions) where
  answers-more : (h : List Item) (steps : List Step) (step : Step) → answers_for p a o h (steps ++ step ∷ []) ≡ answers_for p a o h steps ++ answered_as (answer p a o (with_steps p a o h steps) step) ∷ []
  answers-more h [] step = refl
  answers-more h (first ∷ steps) step = ap (λ k. answered_as (answer p a o h first) ∷ k) (answers-more (with_answer first (answer p a o h first).reply (answer p a o h first).facts h) steps step)

  steps-more : (h : List Item) (steps : List Step) (step : Step) → with_steps p a o h (steps ++ step ∷ []) ≡ with_answer step (answer p a o (with_steps p a o h steps) step).reply (answer p a o (with_steps p a o h steps) step).facts (with_steps p a o h steps)
  steps-more h [] step = refl
  steps-more h (first ∷ steps) step = steps-more (with_answer first (answer p a o h first).reply (answer p a o h first).facts h) steps step

-- the answers of a pool that moved on are those of the pool
at-home : (s t : PoolCore) (k : List Item) (step : Step) → SameHome s t → answer t.pool t.address t.options k step ≡ answer s.pool s.address s.options k step
at-home s t k step home =
    ap (λ p. answer p t.address t.options k step) home.pool ∙ (ap (λ a. answer s.pool a t.options k step) home.address ∙ ap (λ o. answer s.pool s.address o k step) home.options)

pub prepared-none : (s : PoolCore) (h : List Item) → StandsFor s h → IsPrepared s s [] [] h
prepared-none s h z = record { answers = refl; stands = z; none_left = λ i. i }

pub prepared-more : (s t u : PoolCore) (steps : List Step) (step : Step) (told : List Answered) (a : Answered) (h : List Item) → SameHome s t → IsPrepared s t steps told h
    → ((k : List Item) → StandsFor t k → Answers t u [] a.facts step a.reply k)
    → IsPrepared s u (steps ++ step ∷ []) (told ++ a ∷ []) h
prepared-more s t u steps step told a h home v more =
    let k : List Item = with_steps s.pool s.address s.options h steps in
    let w : Answers t u [] a.facts step a.reply k = more k v.stands in
    let same = at-home s t k step home in
    let longer = steps-more s.pool s.address s.options h steps step in
    let is_it : a ≡ answered_as (answer s.pool s.address s.options k step) = answer-is a (answer t.pool t.address t.options k step).reply (answer t.pool t.address t.options k step).facts w.reply_is w.facts_are ∙ ap answered_as same in
    record {
      answers = ap (λ b. told ++ b ∷ []) is_it ∙ (ap (λ bs. bs ++ answered_as (answer s.pool s.address s.options k step) ∷ []) v.answers ∙ sym (answers-more s.pool s.address s.options h steps step));
      stands = subst (StandsFor u) (ap (λ b. with_answer step b.reply b.facts k) same ∙ sym longer) w.stands;
      none_left = λ i. subst (λ j. NoneLeftWaiting s.options (of_pool s.pool j)) (ap (λ b. with_answer step b.reply b.facts k) same ∙ sym longer) (left w (v.none_left i));
    }
  where
    answer-is : (a : Answered) (reply : Reply) (facts : List Fact) → a.reply ≡ reply → a.facts ≡ facts → a ≡ record { reply = reply; facts = facts }
    answer-is a reply facts e f = rw (← e, ← f) refl

    left : {k : List Item} → Answers t u [] a.facts step a.reply k → NoneLeftWaiting s.options (of_pool s.pool k) → NoneLeftWaiting s.options (of_pool s.pool (with_answer step (answer t.pool t.address t.options k step).reply (answer t.pool t.address t.options k step).facts k))
    left {k} w i = subst (λ o. NoneLeftWaiting o (of_pool s.pool (with_answer step (answer t.pool t.address t.options k step).reply (answer t.pool t.address t.options k step).facts k))) home.options
        (subst (λ p. NoneLeftWaiting t.options (of_pool p (with_answer step (answer t.pool t.address t.options k step).reply (answer t.pool t.address t.options k step).facts k))) home.pool
        (w.none_left (subst (λ o. NoneLeftWaiting o (of_pool t.pool k)) (sym home.options) (subst (λ p. NoneLeftWaiting s.options (of_pool p k)) (sym home.pool) i))))

pub refuses-logs : (s : PoolCore) (before after : List Entry) (seat : ℕ) (step : Step) (why : Refused) → refusal_now s step ≡ Some why
    → after ≡ before ++ record { seat = seat; step = step; reply = RefusedBy why; facts = [] } ∷ []
    → (h : List Item) → StandsFor s h → Logs s s before after seat step h
refuses-logs s before after seat step why e logged h z =
    let v : Answers s s [] [] step (RefusedBy why) h = refuses-now s [] step why e h z in
    record {
      entry = logged ∙ (ap (λ reply. before ++ record { seat = seat; step = step; reply = reply; facts = [] } ∷ []) v.reply_is ∙ ap (λ facts. before ++ record { seat = seat; step = step; reply = (answer s.pool s.address s.options h step).reply; facts = facts } ∷ []) v.facts_are);
      stands = v.stands;
      fair = v.fair;
      none_left = v.none_left;
    }

-- an answer is told after facts, and a pool that follows its plan is where it leads
pub told-after : (s t u : PoolCore) (before made after : List Fact) (step : Step) (reply : Reply) → u ≡ t → after ≡ before ++ made
    → ((h : List Item) → StandsFor s h → Answers s t [] made step reply h)
    → (h : List Item) → StandsFor s h → Answers s u before after step reply h
told-after s t u before made after step reply led told answers h z =
    let v = answers h z in
    subst (λ c. Answers s c before after step reply h) (sym led) (record {
      reply_is = v.reply_is;
      facts_are = told ∙ ap (λ facts. before ++ facts) v.facts_are;
      stands = v.stands;
      fair = v.fair;
      none_left = v.none_left;
    })

-- or logged
pub logged-after : (s t u : PoolCore) (before after : List Entry) (seat : ℕ) (step : Step) (reply : Reply) (made : List Fact) → u ≡ t
    → after ≡ before ++ record { seat = seat; step = step; reply = reply; facts = made } ∷ []
    → ((h : List Item) → StandsFor s h → Answers s t [] made step reply h)
    → (h : List Item) → StandsFor s h → Logs s u before after seat step h
logged-after s t u before after seat step reply made led logged answers h z =
    let v = answers h z in
    subst (λ c. Logs s c before after seat step h) (sym led) (record {
      entry = logged ∙ (ap (λ reply. before ++ record { seat = seat; step = step; reply = reply; facts = made } ∷ []) v.reply_is ∙ ap (λ facts. before ++ record { seat = seat; step = step; reply = (answer s.pool s.address s.options h step).reply; facts = facts } ∷ []) v.facts_are);
      stands = v.stands;
      fair = v.fair;
      none_left = v.none_left;
    })
