use Rattle.std.proofs.Common.{◌≡◌, ◌∷◌, ◌∙◌, List, ℕ, map, refl, sym, ap, subst}
use Rattle.mdb_parts.proofs.Wanting.{handed_on}
use Rattle.mdb_lines.specs.LogText.{reply_text}
use Rattle.mdb_lines.specs.Script.{Spells}
use Rattle.mdb_lines.specs.Spelling.{spelling}
use Rattle.mdb_log.specs.declared.reply.Reply.{Reply}
use Rattle.mdb_entries.specs.declared.shown.Shown.{Shown}
use Rattle.mdb_entries.specs.declared.shown.ShownFact.{ShownFact}
use Rattle.mdb_entries.specs.Facts.{shown_fact}
use Rattle.mdb_entries.proofs.ShowLemmas.{line_barred}
use Rattle.mdb_entries.proofs.SpellingLemmas.{step_no_bar}
use Rattle.mdb_entries.proofs.entry_reading.read_parts.Goals as goal

pub returns-in_err-word-clause-only : goal.returns-in_err-word-clause-only
returns-in_err-word-clause-only c = λ e h text.
    handed_on e c.from_residual.result c.in_err-word.field-0.0
    (c.in_err-word.ensures.only (spelling e.step) (reply_text e.reply ∷ map shown_fact e.facts) (step_no_bar c.args.number (spelling e.step) e.step h.step) (text ∙ line_barred e)) c.from_residual.ensures.1

pub returns-in_err-reply-clause-only : goal.returns-in_err-reply-clause-only
returns-in_err-reply-clause-only c = λ e h text.
    let word = c.in_ok-word.ensures.only (spelling e.step) (reply_text e.reply ∷ map shown_fact e.facts) (step_no_bar c.args.number (spelling e.step) e.step h.step) (text ∙ line_barred e) in
    handed_on e c.from_residual-in_err-reply.result c.in_err-reply.field-0.0 (c.in_err-reply.ensures.only e.reply e.facts h.reply h.facts word.1) c.from_residual-in_err-reply.ensures.1

pub returns-in-Ok-clause-only : goal.returns-in-Ok-clause-only
returns-in-Ok-clause-only c = λ e h text.
    let word = c.in_ok-word.ensures.only (spelling e.step) (reply_text e.reply ∷ map shown_fact e.facts) (step_no_bar c.args.number (spelling e.step) e.step h.step) (text ∙ line_barred e) in
    let both : ◌≡◌ {A = Reply × List ShownFact} (c.in_ok-reply.reply, c.in_ok-reply.facts) (e.reply, e.facts) = c.in_ok-reply.ensures.only e.reply e.facts h.reply h.facts word.1 in
    let reply : c.in_ok-reply.reply ≡ e.reply = ap (λ (x : Reply × List ShownFact). x.0) both in
    let facts : c.in_ok-reply.facts ≡ e.facts = ap (λ (x : Reply × List ShownFact). x.1) both in
    let front = word.0 in
    let bytes = c.as_bytes.ensures.value in
    let line : c.as_bytes.result.now ≡ spelling e.step = cc in
    let step = c.in-Ok.ensures.only e.step (subst (λ (l : List ℕ). Spells c.args.number l e.step) (sym line) h.step) in
    let all : ◌≡◌ {A = Shown} (record { step = c.in-Ok.step; reply = c.in_ok-reply.reply; facts = c.in_ok-reply.facts }) e = rw (step, reply, facts) refl in
    all

pub returns-in-Err-clause-only : goal.returns-in-Err-clause-only
returns-in-Err-clause-only c = λ e h text.
    let word = c.in_ok-word.ensures.only (spelling e.step) (reply_text e.reply ∷ map shown_fact e.facts) (step_no_bar c.args.number (spelling e.step) e.step h.step) (text ∙ line_barred e) in
    let front = word.0 in
    let bytes = c.as_bytes.ensures.value in
    let line : c.as_bytes.result.now ≡ spelling e.step = cc in
    c.in-Err.ensures.only e.step (subst (λ (l : List ℕ). Spells c.args.number l e.step) (sym line) h.step)
