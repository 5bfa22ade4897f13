use Rattle.mdb_replies.proofs.ValueLemmas.{text_decided, text_refused}
use Rattle.mdb_replies.proofs.value_rules.is_address_text.Goals as goal

pub returns-in_ok-spelled-in-Ok : goal.returns-in_ok-spelled-in-Ok
returns-in_ok-spelled-in-Ok c =
    rw (c.eq.ensures, c.as_str.ensures.value, c.in_ok-spelled-in-Ok.ensures.ok) (text_decided c.args.text.now c.in-Ok.address c.in-Ok.ensures.found.rule (λ b h. c.in-Ok.ensures.only b h))

pub returns-in-Err-BadAddress : goal.returns-in-Err-BadAddress
returns-in-Err-BadAddress c = text_refused c.args.text.now (λ b h. let e = c.in-Err-BadAddress.ensures.only b h in cc)
