-- Steps and logs may cross threads. Each is shown by its parts, since one `search` over all of them meets its limit.
use denote.Builtin.{u32, u64}
use denote.Enum.Declared.{shape as variants}
use denote.Param.Send.{IsSend, enum_send, sendable}
use Rattle.std.proofs.Crossing.{crosses}
use Rattle.mdb_base.proofs.address.ServerAddress.TheSendSync.{the_field_send as address}
use Rattle.mdb_base.proofs.error.Error.TheSendSync.{the_field_send as error}
use Rattle.mdb_base.proofs.items.Items.TheSendSync.{the_send as items}
use Rattle.mdb_base.proofs.object_id.ObjectId.TheSendSync.{the_field_send as id}
use Rattle.mdb_base.proofs.options.Options.TheSendSync.{the_field_send as options}
use Rattle.mdb_describe.proofs.Crossing.{response}
use Rattle.mdb_events.proofs.boxed.Boxed.TheSendSync.{the_send as held}
use Rattle.mdb_events.proofs.Crossing.{fact}
use Rattle.mdb_log.proofs.reply.Reply.TheSendSync.{the_field_send as answer}
use Rattle.mdb_log.proofs.step.Established.TheSendSync.{the_field_send as established}
use Rattle.mdb_log.proofs.step.FailedAt.TheSendSync.{the_field_send as failed_at}
use Rattle.mdb_log.proofs.step.Use.TheSendSync.{the_field_send as used}
use Rattle.mdb_log.specs.contracts.checked.BeatenResult as BeatenResult
use Rattle.mdb_log.specs.contracts.checked.HelloResult as HelloResult
use Rattle.mdb_log.specs.contracts.log.Entry as Entry
use Rattle.mdb_log.specs.contracts.log.Log as Log
use Rattle.mdb_log.specs.contracts.step.Act as Act

number : IsSend u32
number = search sendable

duration : IsSend u64
duration = search sendable

ruleset rules = (items, held, error, address, id, crosses, sendable)

hello : IsSend HelloResult.the_field.row
hello = search (response, rules) depth 20

beaten : IsSend BeatenResult.the_field.row
beaten = search (response, rules) depth 20

act : IsSend Act.the_field.row
act = enum_send (variants Act.the_type) ((search (options, rules) depth 20, tt), ((number, (address, tt)), ((number, (address, tt)), ((number, tt), (tt, ((number, tt), ((number, (number, (established, tt))), ((number, (number, (failed_at, (search rules depth 20, tt)))), ((number, (used, tt)), ((number, tt), ((number, (number, tt)), ((number, (number, (number, tt))), ((number, (number, tt)), ((number, (search rules depth 20, tt)), ((address, (number, (hello, tt))), ((address, (number, tt)), ((address, (number, (duration, (beaten, tt)))), ((address, (number, (duration, tt))), ((search rules depth 20, tt), ((search rules depth 20, tt), ((number, tt), ((number, tt), (tt, ((address, tt), ((address, tt), ((number, tt), ((number, (search rules depth 20, (search rules depth 20, tt))), ((number, tt), tt))))))))))))))))))))))))))))

entry : IsSend Entry.the_field.row
entry = search (act, answer, fact, rules) depth 20

pub log : IsSend Log.the_row
log = search (entry, rules) depth 20
