use Rattle.std.proofs.Common.{ap, ◌∙◌, ◌++◌, map}
use Rattle.mdb_base.specs.Document.{named_content}
use Rattle.mdb_hello.specs.Groups.{five, reply_greeting}
use Rattle.mdb_hello.specs.Table.{written_rows}
use Rattle.mdb_hello.specs.Reply.{read}
use Rattle.mdb_hello.proofs.Law.{reply_back}
use Rattle.mdb_hello.proofs.Written.{all_written}
use Rattle.mdb_hello.proofs.response.HelloCommandResponse.to_doc.Goals as goal

pub returns-clause-written : goal.returns-clause-written
returns-clause-written c =
    let reply = c.args.self.now in
    let first = ap (λ xs. map named_content xs ++ written_rows (five 0) (reply_greeting reply)) c.new-fields.ensures.items in
    c.doc_of.ensures
    ∙ all_written reply (map named_content c.write_greeting.new.fields.items) (map named_content c.write_membership.new.fields.items) (map named_content c.write_role.new.fields.items)
    (map named_content c.write_state.new.fields.items) (map named_content c.write_election.new.fields.items) (map named_content c.write_limits.new.fields.items)
    (c.in_ok-write_greeting.ensures ∙ first) c.in_ok-write_membership.ensures c.in_ok-write_role.ensures c.in_ok-write_state.ensures c.in_ok-write_election.ensures
    c.in_ok-write_limits.ensures

pub returns-clause-back : goal.returns-clause-back
returns-clause-back c = λ short. ap read (returns-clause-written c) ∙ reply_back c.args.self.now (c.plain_reply.ensures short)
