use Rattle.std.proofs.Common.{◌≡◌, ◌∙◌, sym, ap, true, false, Ok, Err}
use Rattle.mdb_parts.proofs.Wanting.{handed_on}
use Rattle.mdb_entries.specs.Replies.{is_reply}
use Rattle.mdb_entries.proofs.ReplyLemmas.{reply_read}
use Rattle.mdb_entries.proofs.replies.read_reply.Goals as goal

pub returns-in_err-reply-clause-only : goal.returns-in_err-reply-clause-only
returns-in_err-reply-clause-only c = λ x own same.
    handed_on x c.from_residual.result c.in_err-reply.field-0.0 (reply_read x (Err c.in_err-reply.field-0.0) own (rw same at c.in_err-reply.ensures)) c.from_residual.ensures.1

pub returns-then-is_reply-clause-only : goal.returns-then-is_reply-clause-only
returns-then-is_reply-clause-only c = λ x own same. reply_read x (Ok c.in_ok-reply.reply) own (rw same at c.in_ok-reply.ensures)

pub returns-else-is_reply-clause-only : goal.returns-else-is_reply-clause-only
returns-else-is_reply-clause-only c = λ x own same.
    let read = reply_read x (Ok c.in_ok-reply.reply) own (rw same at c.in_ok-reply.ensures) in
    let f : true ≡ false = sym own.rules ∙ ap is_reply (sym read) ∙ sym c.is_reply.ensures ∙ c.if-is_reply.false in absurd (cc)
