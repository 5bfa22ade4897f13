-- A running total still stands for the log after one more entry, and its replies go with their acts.
use Rattle.std.proofs.Common.{◌≡◌, ℕ, Bool, Option, true, false, nat_lt, eqb, if◌then◌else◌, List, [], ◌∷◌, ◌++◌, refl, sym, ap, ◌∙◌, subst}
use Rattle.mdb_log.specs.declared.job.Job.{Job}
use Rattle.mdb_log.specs.declared.log.Entry.{Entry}
use Rattle.mdb_log.specs.declared.reply.Reply.{Reply}
use Rattle.mdb_log.specs.declared.step.Act.{Act}
use Rattle.mdb_log.specs.declared.step.Act.TheVariants as act
use Rattle.mdb_log.specs.declared.step.Step.{Step}
use Rattle.mdb_log.specs.Driver.{IsEntry, is_refusal, is_reply_to, is_in_time, IsThere}
use Rattle.mdb_log.specs.History.{history_of, last_moment}
use Rattle.mdb_log.proofs.Later.{last-entry}
use Rattle.mdb_total.specs.declared.total.Total.{Total}
use Rattle.mdb_total.specs.Totals.{after, reply_of, total_from, Replies, StandsFor}

total_more : (t : ℕ) (log : List Entry) (e : Entry) → total_from t (log ++ e ∷ []) ≡ after (total_from t log) e.step.act
total_more t [] e = refl
total_more t (x ∷ xs) e = total_more (after t x.step.act) xs e

replies_more : (t : ℕ) (log : List Entry) (e : Entry) → Replies t log → e.reply ≡ reply_of (after (total_from t log) e.step.act) e.step.act → Replies t (log ++ e ∷ [])
replies_more t [] e rs is = (is, tt)
replies_more t (x ∷ xs) e rs is = (rs.0, replies_more (after t x.step.act) xs e rs.1 is)

pub still_stands : (c d : Total) (log : List Entry) (n : ℕ) (step : Step) (r : Reply) (e : Entry) (more : List Entry) → IsEntry n step r e → more ≡ log ++ e ∷ [] → StandsFor c log → r ≡ reply_of (after c.sum step.act) step.act
    → d.sum ≡ after c.sum step.act → d.last ≡ (if is_refusal r then c.last else step.moment) → d.description ≡ c.description → StandsFor d more
still_stands c d log n step r e more is grown old gives sum last description =
    let said : e.reply ≡ reply_of (after c.sum e.step.act) e.step.act = is.2 ∙ (gives ∙ ap (λ (s : Step). reply_of (after c.sum s.act) s.act) (sym is.1)) in
    let now : e.reply ≡ reply_of (after (total_from 0 log) e.step.act) e.step.act = said ∙ ap (λ (k : ℕ). reply_of (after k e.step.act) e.step.act) old.sum in
    let same : after c.sum step.act ≡ after (total_from 0 log) e.step.act = ap (λ (s : Step). after c.sum s.act) (sym is.1) ∙ ap (λ (k : ℕ). after k e.step.act) old.sum in
    let moment : (if is_refusal r then c.last else step.moment) ≡ (if is_refusal e.reply then last_moment (history_of log) else e.step.moment) =
    ap (λ (x : Reply). if is_refusal x then c.last else step.moment) (sym is.2) ∙ (ap (λ (s : Step). if is_refusal e.reply then c.last else s.moment) (sym is.1) ∙ ap (λ (k : ℕ). if is_refusal e.reply then k else e.step.moment) old.last) in
    subst (StandsFor d) (sym grown) record {
      sum = sum ∙ (same ∙ sym (total_more 0 log e));
      last = last ∙ (moment ∙ sym (last-entry log e));
      description = description ∙ old.description;
      replies = replies_more 0 log e old.replies now;
    }

either : (P : Reply → Type 0) (b : Bool) (x y : Reply) → P x → P y → P (if b then x else y)
either P true x y p q = p
either P false x y p q = q

pub kind : (t : ℕ) (a : Act) → is_reply_to a (reply_of t a) ≡ true
kind t (act.Collect r) = let P : Reply → Type 0 = λ x. is_reply_to (act.Collect r) x ≡ true in either P (eqb t 0) _ _ refl (either P (nat_lt r t) _ _ refl (either P (eqb r t) _ _ refl refl))
kind t (act.GiveUp r) = either (λ x. is_reply_to (act.GiveUp r) x ≡ true) (nat_lt r t) _ _ refl refl
kind t (act.Return r used) = either (λ x. is_reply_to (act.Return r used) x ≡ true) (nat_lt r t) _ _ refl refl
kind t _ = refl

pub timely : (t : ℕ) (a : Act) → is_in_time a (reply_of t a) ≡ true
timely t (act.Collect r) = let P : Reply → Type 0 = λ x. is_in_time (act.Collect r) x ≡ true in either P (eqb t 0) _ _ refl (either P (nat_lt r t) _ _ refl (either P (eqb r t) _ _ refl refl))
timely t (act.GiveUp r) = either (λ x. is_in_time (act.GiveUp r) x ≡ true) (nat_lt r t) _ _ refl refl
timely t (act.Return r used) = either (λ x. is_in_time (act.Return r used) x ≡ true) (nat_lt r t) _ _ refl refl
timely t _ = refl

pub jobless : (job : ℕ → ℕ → Option Job) (t : ℕ) (a : Act) → IsThere job (reply_of t a)
jobless job t (act.Collect r) = let P : Reply → Type 0 = IsThere job in either P (eqb t 0) _ _ tt (either P (nat_lt r t) _ _ tt (either P (eqb r t) _ _ tt tt))
jobless job t (act.GiveUp r) = either (IsThere job) (nat_lt r t) _ _ tt tt
jobless job t (act.Return r used) = either (IsThere job) (nat_lt r t) _ _ tt tt
jobless job t _ = tt
