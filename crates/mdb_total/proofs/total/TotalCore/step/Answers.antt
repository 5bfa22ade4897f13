use Rattle.std.proofs.Common.{rules, ◌≡◌, ◌++◌, ◌∷◌, [], ℕ, refl, sym, ap, ◌∙◌, subst}
use Rattle.std.proofs.lemmas.List.{append_cancel_left, append-nil}
use Rattle.mdb_log.specs.declared.log.Entry.{Entry}
use Rattle.mdb_log.specs.Driver.{IsEntry}
use Rattle.mdb_total.specs.Totals.{reply_of, StandsFor}
use Rattle.mdb_total.proofs.Totalled.{still_stands}
use Rattle.mdb_total.proofs.total.TotalCore.step.Goals as goal

pub returns-clause-stands : goal.returns-clause-stands
returns-clause-stands c = λ whole more stands grown.
    let step = c.args.step.now in let answer = c.reply-answer.result in
    let e : Entry = record { seat = c.args.seat; step = c.in_ok-clone.field-0; reply = c.reply.result; facts = c.new-2.result } in
    let is : IsEntry c.args.seat step answer e = search rules in
    let came : whole ++ more ≡ whole ++ e ∷ [] = ap (λ es. whole ++ es) (append_cancel_left c.args.log.now more (e ∷ []) (sym grown ∙ c.in_ok-push.ensures.ok)) in
    still_stands c.args.self.now _ whole c.args.seat step answer e (whole ++ more) is came stands (c.reply-answer.ensures ∙ ap (λ (k : ℕ). reply_of k step.act) c.sum_after-sum.ensures) c.sum_after-sum.ensures c.moved-self.ensures refl

pub returns-in_err-clone-clause-stands : goal.returns-in_err-clone-clause-stands
returns-in_err-clone-clause-stands c = λ whole more stands grown.
    let log = c.args.log.now in
    let none : [] ≡ more = append_cancel_left log [] more (append-nil log ∙ grown) in
    subst (StandsFor c.args.self.now) (sym (append-nil whole) ∙ ap (λ es. whole ++ es) none) stands

pub returns-in_err-push-clause-stands : goal.returns-in_err-push-clause-stands
returns-in_err-push-clause-stands c = λ whole more stands grown.
    let log = c.args.log.now in
    let none : [] ≡ more = append_cancel_left log [] more (append-nil log ∙ (sym c.in_err-push.ensures.err ∙ grown)) in
    subst (StandsFor c.args.self.now) (sym (append-nil whole) ∙ ap (λ es. whole ++ es) none) stands
