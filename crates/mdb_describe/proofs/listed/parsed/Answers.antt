use Rattle.std.proofs.Common.{sym}
use Rattle.mdb_describe.proofs.Parsed.{parsed_some, parsed_none}
use Rattle.mdb_describe.proofs.listed.parsed.Goals as goal

pub returns-in-Ok : goal.returns-in-Ok
returns-in-Ok c = sym (parsed_some c.args.text.now c.in-Ok.address c.in-Ok.ensures.found)

pub returns-in-Err-BadAddress : goal.returns-in-Err-BadAddress
returns-in-Err-BadAddress c = sym (parsed_none c.args.text.now (rw c.in-Err-BadAddress.field-0-is at c.in-Err-BadAddress.ensures.only))
