-- Descriptions may cross threads. Each is shown by its parts, since one `search` over all of them meets its limit.
use denote.Param.Send.{IsSend, recorded_send, struct_send, view_send, sendable}
use denote.Struct.Declared.{shape}
use Rattle.std.proofs.Crossing.{crosses}
use Rattle.mdb_base.proofs.address.ServerAddress.TheSendSync.{the_field_send as address}
use Rattle.mdb_base.proofs.document.Value.TheLaws.TheKnot.{send-Doc}
use Rattle.mdb_base.proofs.error.Error.TheSendSync.{the_field_send as error}
use Rattle.mdb_base.proofs.items.Items.TheSendSync.{the_send as items}
use Rattle.mdb_base.proofs.object_id.ObjectId.TheSendSync.{the_field_send as id}
use Rattle.mdb_base.proofs.tags.TagSet.TheSendSync.{the_send as tags}
use Rattle.mdb_base.proofs.text.Text.TheSendSync.{the_send as text}
use Rattle.mdb_base.proofs.topology_version.TopologyVersion.TheSendSync.{the_field_send as version}
use Rattle.mdb_base.specs.contracts.document.Doc as Doc
use Rattle.mdb_base.specs.contracts.held_document.Document as Document
use Rattle.mdb_base.specs.contracts.held_document.Document.TheInside as Inside
use Rattle.mdb_describe.specs.contracts.description.ServerDescription as Server
use Rattle.mdb_describe.specs.contracts.topology.TopologyDescription as Topology
use Rattle.mdb_hello.specs.contracts.response.HelloCommandResponse as Response
use Rattle.mdb_hello.specs.contracts.response.HelloReply as Reply

doc : IsSend Doc.the_field.row
doc = search (send-Doc, crosses, sendable) depth 20

pub document : IsSend Document.the_row
document = view_send Inside.the_row _ _ _ _ (recorded_send Inside.the_field.row _ _ Inside.the_type.to_one (struct_send (shape Inside.the_type) (doc, tt)))

ruleset rules = (text, tags, items, error, address, id, version, document, crosses, sendable)

pub response : IsSend Response.the_field.row
response = struct_send (shape Response.the_type) (search rules depth 20, (search rules depth 20, (search rules depth 20, (search rules depth 20, (search rules depth 20, (search rules depth 20, (search rules depth 20, (search rules depth 20, (search rules depth 20, (search rules depth 20, (search rules depth 20, (search rules depth 20, (search rules depth 20, (search rules depth 20, (search rules depth 20, (search rules depth 20, (search rules depth 20, (search rules depth 20, (search rules depth 20, (search rules depth 20, (search rules depth 20, (search rules depth 20, (search rules depth 20, (search rules depth 20, (search rules depth 20, (search rules depth 20, (search rules depth 20, (search rules depth 20, (search rules depth 20, (search rules depth 20, tt))))))))))))))))))))))))))))))

reply : IsSend Reply.the_field.row
reply = search (response, rules) depth 20

pub server : IsSend Server.the_field.row
server = search (reply, rules) depth 20

pub topology : IsSend Topology.the_row
topology = search (server, rules) depth 20
