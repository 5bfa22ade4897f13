-- Steps may be lent to threads. Each is shown by its parts, since one `search` over all of them meets its limit.
use denote.Builtin.{u32, u64}
use denote.Enum.Declared.{shape as variants}
use denote.Param.Send.{IsSync, enum_sync, recorded_sync, struct_sync, view_sync, sendable}
use denote.Struct.Declared.{shape}
use Rattle.std.proofs.Crossing.{crosses}
use Rattle.mdb_base.proofs.address.ServerAddress.TheSendSync.{the_field_sync as address}
use Rattle.mdb_base.proofs.document.Value.TheLaws.TheKnot.{sync-Doc}
use Rattle.mdb_base.proofs.error.Error.TheSendSync.{the_field_sync as error}
use Rattle.mdb_base.proofs.items.Items.TheSendSync.{the_sync as items}
use Rattle.mdb_base.proofs.object_id.ObjectId.TheSendSync.{the_field_sync as id}
use Rattle.mdb_base.proofs.options.Options.TheSendSync.{the_field_sync as options}
use Rattle.mdb_base.proofs.tags.TagSet.TheSendSync.{the_sync as tags}
use Rattle.mdb_base.proofs.text.Text.TheSendSync.{the_sync as text}
use Rattle.mdb_base.proofs.topology_version.TopologyVersion.TheSendSync.{the_field_sync as version}
use Rattle.mdb_base.specs.contracts.document.Doc as Doc
use Rattle.mdb_base.specs.contracts.held_document.Document as Document
use Rattle.mdb_base.specs.contracts.held_document.Document.TheInside as Inside
use Rattle.mdb_events.proofs.boxed.Boxed.TheSendSync.{the_sync as held}
use Rattle.mdb_hello.specs.contracts.response.HelloCommandResponse as Response
use Rattle.mdb_log.proofs.step.Established.TheSendSync.{the_field_sync as established}
use Rattle.mdb_log.proofs.step.FailedAt.TheSendSync.{the_field_sync as failed_at}
use Rattle.mdb_log.proofs.step.Use.TheSendSync.{the_field_sync as used}
use Rattle.mdb_log.specs.contracts.checked.BeatenResult as BeatenResult
use Rattle.mdb_log.specs.contracts.checked.HelloResult as HelloResult
use Rattle.mdb_log.specs.contracts.step.Act as Act
use Rattle.mdb_log.specs.contracts.step.Step as Step

number : IsSync u32
number = search sendable

duration : IsSync u64
duration = search sendable

doc : IsSync Doc.the_field.row
doc = search (sync-Doc, crosses, sendable) depth 20

document : IsSync Document.the_row
document = view_sync Inside.the_row _ _ _ _ (recorded_sync Inside.the_field.row _ _ Inside.the_type.to_one (struct_sync (shape Inside.the_type) (doc, tt)))

ruleset rules = (text, tags, items, held, error, address, id, version, document, crosses, sendable)

response : IsSync Response.the_field.row
response = struct_sync (shape Response.the_type) (search rules depth 20, (search rules depth 20, (search rules depth 20, (search rules depth 20, (search rules depth 20, (search rules depth 20, (search rules depth 20, (search rules depth 20, (search rules depth 20, (search rules depth 20, (search rules depth 20, (search rules depth 20, (search rules depth 20, (search rules depth 20, (search rules depth 20, (search rules depth 20, (search rules depth 20, (search rules depth 20, (search rules depth 20, (search rules depth 20, (search rules depth 20, (search rules depth 20, (search rules depth 20, (search rules depth 20, (search rules depth 20, (search rules depth 20, (search rules depth 20, (search rules depth 20, (search rules depth 20, (search rules depth 20, tt))))))))))))))))))))))))))))))

hello : IsSync HelloResult.the_field.row
hello = search (response, rules) depth 20

beaten : IsSync BeatenResult.the_field.row
beaten = search (response, rules) depth 20

act : IsSync Act.the_field.row
act = enum_sync (variants Act.the_type) ((search (options, rules) depth 20, tt), ((number, (address, tt)), ((number, (address, tt)), ((number, tt), (tt, ((number, tt), ((number, (number, (established, tt))), ((number, (number, (failed_at, (search rules depth 20, tt)))), ((number, (used, tt)), ((number, tt), ((number, (number, tt)), ((number, (number, (number, tt))), ((number, (number, tt)), ((number, (search rules depth 20, tt)), ((address, (number, (hello, tt))), ((address, (number, tt)), ((address, (number, (duration, (beaten, tt)))), ((address, (number, (duration, tt))), ((search rules depth 20, tt), ((search rules depth 20, tt), ((number, tt), ((number, tt), (tt, ((address, tt), ((address, tt), ((number, tt), ((number, (search rules depth 20, (search rules depth 20, tt))), ((number, tt), tt))))))))))))))))))))))))))))

pub step : IsSync Step.the_field.row
step = struct_sync (shape Step.the_type) (duration, (act, tt))
