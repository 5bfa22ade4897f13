-- What facts, answers and entries add to a history.
use Rattle.std.proofs.Common.{ℕ, ◌≡◌, ◌==◌, ◌+◌, Bool, true, false, not, ◌&&◌, ◌||◌, if◌then◌else◌, List, [], ◌∷◌, ◌++◌, refl, ap, ◌∙◌, arith}
use Rattle.mdb_events.specs.declared.fact.Fact.{Fact}
use Rattle.mdb_log.specs.declared.step.Step.{Step}
use Rattle.mdb_log.specs.declared.reply.Reply.{Reply}
use Rattle.mdb_log.specs.declared.reply.Reply.TheVariants.{Pooled, Establishing, Waiting, Ended, Job, NoJob, Changed, Count, Done, Refused as RefusedBy}
use Rattle.mdb_log.specs.declared.log.Entry.{Entry}
use Rattle.mdb_log.specs.History.{Item, did, made, PoolItem, of_pool, with_facts, with_answer, with_entries, after_fact, after_facts, history_of, last_moment}
use Rattle.mdb_log.specs.Driver.{is_refusal}
use Rattle.mdb_log.proofs.Frame.{last-facts}
use Rattle.mdb_log.specs.Requests.{is_claimed, is_job}
use Rattle.mdb_log.specs.Own.{AllOwn, IsAccepted}

-- facts after a history are items after it
pub of_pool-with_facts : (p n : ℕ) (facts : List Fact) (h : List Item) → of_pool p (with_facts n facts h) ≡ after_facts p n facts (of_pool p h)
of_pool-with_facts p n [] h = refl
of_pool-with_facts p n (f ∷ fs) h = of_pool-with_facts p n fs (made n f ∷ h)

pub after-append : (p n : ℕ) (fs gs : List Fact) (xs : List PoolItem) → after_facts p n (fs ++ gs) xs ≡ after_facts p n gs (after_facts p n fs xs)
after-append p n [] gs xs = refl
after-append p n (f ∷ fs) gs xs = after-append p n fs gs (after_fact p n f xs)

pub with_answer-accepted : (step : Step) (reply : Reply) (facts : List Fact) (h : List Item) → IsAccepted reply → with_answer step reply facts h ≡ with_facts step.moment facts (did step reply ∷ h)
with_answer-accepted step (Pooled p c) facts h i = refl
with_answer-accepted step (Establishing p c) facts h i = refl
with_answer-accepted step Waiting facts h i = refl
with_answer-accepted step (Ended e) facts h i = refl
with_answer-accepted step (Job p c) facts h i = refl
with_answer-accepted step NoJob facts h i = refl
with_answer-accepted step (Changed b) facts h i = refl
with_answer-accepted step (Count n) facts h i = refl
with_answer-accepted step Done facts h i = refl
with_answer-accepted step (RefusedBy why) facts h i = absurd i

pub opens-after : (a b l : Bool) (n : ℕ) (o : Bool) → (n == 0) && not l ≡ not o → ((if a then n + 1 else n) == 0) && not (b || l) ≡ not ((a || b) || o)
opens-after true b l n o e = let f : (n + 1 == 0) ≡ false = grind arith in rw f refl
opens-after false true l n o e = and-no (n == 0)
  where
    and-no : (k : Bool) → k && false ≡ false
    and-no true = refl
    and-no false = refl
opens-after false false l n o e = e

pub claimed-reply : (p c : ℕ) (step : Step) (reply : Reply) (h : List Item) → is_claimed (did step reply ∷ h) p c ≡ is_job p reply c || is_claimed h p c
claimed-reply p c step (Pooled q d) h = refl
claimed-reply p c step (Establishing q d) h = refl
claimed-reply p c step Waiting h = refl
claimed-reply p c step (Ended e) h = refl
claimed-reply p c step (Job q d) h = refl
claimed-reply p c step NoJob h = refl
claimed-reply p c step (Changed b) h = refl
claimed-reply p c step (Count n) h = refl
claimed-reply p c step Done h = refl
claimed-reply p c step (RefusedBy why) h = refl

pub with_entries-append : (es : List Entry) (e : Entry) (h : List Item) → with_entries (es ++ e ∷ []) h ≡ with_answer e.step e.reply e.facts (with_entries es h)
with_entries-append [] e h = refl
with_entries-append (d ∷ es) e h = with_entries-append es e (with_answer d.step d.reply d.facts h)

-- the own facts come first
pub own-prefix : (p n : ℕ) (fs gs : List Fact) (xs : List PoolItem) → AllOwn p n xs (fs ++ gs) → AllOwn p n xs fs
own-prefix p n [] gs xs i = tt
own-prefix p n (f ∷ fs) gs xs i = (i.0, own-prefix p n fs gs (after_fact p n f xs) i.1)

-- an accepted step is the last one, and a refused one moves nothing
pub last-answer : (step : Step) (reply : Reply) (facts : List Fact) (h : List Item) → last_moment (with_answer step reply facts h) ≡ if is_refusal reply then last_moment h else step.moment
last-answer step (Pooled p c) facts h = last-facts step.moment facts (did step (Pooled p c) ∷ h)
last-answer step (Establishing p c) facts h = last-facts step.moment facts (did step (Establishing p c) ∷ h)
last-answer step Waiting facts h = last-facts step.moment facts (did step Waiting ∷ h)
last-answer step (Ended e) facts h = last-facts step.moment facts (did step (Ended e) ∷ h)
last-answer step (Job p c) facts h = last-facts step.moment facts (did step (Job p c) ∷ h)
last-answer step NoJob facts h = last-facts step.moment facts (did step NoJob ∷ h)
last-answer step (Changed b) facts h = last-facts step.moment facts (did step (Changed b) ∷ h)
last-answer step (Count n) facts h = last-facts step.moment facts (did step (Count n) ∷ h)
last-answer step Done facts h = last-facts step.moment facts (did step Done ∷ h)
last-answer step (RefusedBy why) facts h = refl

pub last-entry : (log : List Entry) (e : Entry) → last_moment (history_of (log ++ e ∷ [])) ≡ if is_refusal e.reply then last_moment (history_of log) else e.step.moment
last-entry log e = ap last_moment (with_entries-append log e []) ∙ last-answer e.step e.reply e.facts (with_entries log [])
