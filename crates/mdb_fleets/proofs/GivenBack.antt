-- A reply with no session timeout is given back by what is written of it.
use Rattle.std.proofs.Common.{◌≡◌, ℕ, List, Option, None, Result, Ok, Err, sym, ap, ◌∙◌, subst}
use Rattle.mdb_base.specs.Document.{Field}
use Rattle.mdb_hello.specs.declared.response.HelloCommandResponse.{HelloCommandResponse}
use Rattle.mdb_hello.specs.ReadBack.{IsShort}
use Rattle.mdb_hello.specs.Reply.{read, written}

pub given-back : (r q : HelloCommandResponse) (content : List Field) → r ≡ q → q.logical_session_timeout_minutes ≡ None → content ≡ written r
    → (IsShort r.logical_session_timeout_minutes → read content ≡ Ok r) → (content ≡ written q) × (read content ≡ Ok q)
given-back r q content e none text back =
    let short : IsShort r.logical_session_timeout_minutes = subst IsShort (sym (ap (λ x. x.logical_session_timeout_minutes) e ∙ none)) tt in
    (text ∙ ap written e, back short ∙ ap Ok e)
