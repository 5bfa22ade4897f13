use Rattle.std.proofs.Common.{◌≡◌, Bool, false, ap, refl}
use Rattle.mdb_hello.specs.declared.response.HelloCommandResponse.{HelloCommandResponse}
use Rattle.mdb_parts.proofs.Wanting.{handed_on}
use Rattle.mdb_replies.specs.ReplyParts.{fields_text}
use Rattle.mdb_replies.proofs.ReplyLemmas.{fields_follow}
use Rattle.mdb_lines.proofs.outcomes.answered.Goals as goal

pub returns-in_err-rtt : goal.returns-in_err-rtt
returns-in_err-rtt c = λ rtt r fits types rule text.
    let n = c.in_err-rtt.ensures rtt (fields_text r false) fits (fields_follow r false) text in
    handed_on _ c.from_residual.result c.in_err-rtt.field-0.0 n c.from_residual.ensures.1

pub returns-in_err-reply : goal.returns-in_err-reply
returns-in_err-reply c = λ rtt r fits types rule text.
    let n = c.in_ok-rtt.ensures rtt (fields_text r false) fits (fields_follow r false) text in
    let reply = c.in_err-reply.ensures r false types rule n.1 in
    handed_on _ c.from_residual-in_err-reply.result c.in_err-reply.field-0.0 reply c.from_residual-in_err-reply.ensures.1

pub returns : goal.returns
returns c = λ rtt r fits types rule text.
    let n = c.in_ok-rtt.ensures rtt (fields_text r false) fits (fields_follow r false) text in
    let reply = c.in_ok-reply.ensures r false types rule n.1 in
    let same : c.in_ok-reply.reply ≡ r = ap (λ (p : HelloCommandResponse × Bool). p.0) reply in
    rw (n.0, c.in_ok-held.ensures, same) refl
