use Rattle.std.proofs.Common.{◌≡◌, IfOk, string_bytes, false, subst}
use Rattle.mdb_hello.specs.declared.response.HelloCommandResponse.{HelloCommandResponse}
use Rattle.mdb_replies.specs.ReplyParts.{fields_text}
use Rattle.mdb_fleet_session.proofs.replies.reply_text.Goals as goal

pub returns : goal.returns
returns c = subst (λ (r : HelloCommandResponse). IfOk c.text_of.result (λ text. string_bytes text ≡ fields_text r false)) c.in_ok-reply.ensures c.text_of.ensures
