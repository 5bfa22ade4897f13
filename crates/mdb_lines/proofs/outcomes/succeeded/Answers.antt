use Rattle.std.proofs.Common.{◌≡◌, Bool, ap, refl}
use Rattle.mdb_hello.specs.declared.response.HelloCommandResponse.{HelloCommandResponse}
use Rattle.mdb_parts.proofs.Wanting.{handed_on}
use Rattle.mdb_lines.proofs.outcomes.succeeded.Goals as goal

pub returns-in_err-reply : goal.returns-in_err-reply
returns-in_err-reply c = λ r more types rule text.
    handed_on _ c.from_residual.result c.in_err-reply.field-0.0 (c.in_err-reply.ensures r more types rule text) c.from_residual.ensures.1

pub returns : goal.returns
returns c = λ r more types rule text.
    let reply = c.in_ok-reply.ensures r more types rule text in
    let first : c.in_ok-reply.reply ≡ r = ap (λ (p : HelloCommandResponse × Bool). p.0) reply in
    let second : c.in_ok-reply.more ≡ more = ap (λ (p : HelloCommandResponse × Bool). p.1) reply in
    rw (c.in_ok-held.ensures, first, second) refl
