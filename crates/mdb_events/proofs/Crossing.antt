-- Facts may cross threads. Each is shown by its parts, since one `search` over all of them meets its limit.
use denote.Builtin.{u32}
use denote.Enum.Declared.{shape as variants}
use denote.Param.Send.{IsSend, enum_send, sendable}
use Rattle.std.proofs.Crossing.{crosses}
use Rattle.mdb_base.proofs.address.ServerAddress.TheSendSync.{the_field_send as address}
use Rattle.mdb_base.proofs.error.Error.TheSendSync.{the_field_send as error}
use Rattle.mdb_base.proofs.items.Items.TheSendSync.{the_send as items}
use Rattle.mdb_base.proofs.object_id.ObjectId.TheSendSync.{the_field_send as id}
use Rattle.mdb_base.proofs.text.Text.TheSendSync.{the_send as text}
use Rattle.mdb_base.proofs.topology_version.TopologyVersion.TheSendSync.{the_field_send as version}
use Rattle.mdb_describe.proofs.Crossing.{document, server, topology}
use Rattle.mdb_events.proofs.cmap.CmapEvent.TheSendSync.{the_field_send as cmap}
use Rattle.mdb_events.proofs.end.End.TheSendSync.{the_field_send as end}
use Rattle.mdb_events.proofs.boxed.Boxed.TheSendSync.{the_send as held}
use Rattle.mdb_events.proofs.sdam.ServerClosedEvent.TheSendSync.{the_field_send as closed}
use Rattle.mdb_events.proofs.sdam.ServerHeartbeatFailedEvent.TheSendSync.{the_field_send as failed}
use Rattle.mdb_events.proofs.sdam.ServerHeartbeatStartedEvent.TheSendSync.{the_field_send as started}
use Rattle.mdb_events.proofs.sdam.ServerOpeningEvent.TheSendSync.{the_field_send as opening}
use Rattle.mdb_events.proofs.sdam.TopologyClosedEvent.TheSendSync.{the_field_send as topology_closed}
use Rattle.mdb_events.proofs.sdam.TopologyOpeningEvent.TheSendSync.{the_field_send as topology_opening}
use Rattle.mdb_events.specs.contracts.fact.Fact as Fact
use Rattle.mdb_events.specs.contracts.sdam.SdamEvent as Sdam
use Rattle.mdb_events.specs.contracts.sdam.ServerDescriptionChangedEvent as ServerChanged
use Rattle.mdb_events.specs.contracts.sdam.ServerHeartbeatSucceededEvent as Succeeded
use Rattle.mdb_events.specs.contracts.sdam.TopologyDescriptionChangedEvent as TopologyChanged

number : IsSend u32
number = search sendable

ruleset rules = (text, items, held, error, address, id, version, document, crosses, sendable)

server_changed : IsSend ServerChanged.the_field.row
server_changed = search (server, rules) depth 20

topology_changed : IsSend TopologyChanged.the_field.row
topology_changed = search (topology, rules) depth 20

checked : IsSend Succeeded.the_field.row
checked = search rules depth 20

sdam : IsSend Sdam.the_field.row
sdam = enum_send (variants Sdam.the_type) ((server_changed, tt), ((opening, tt), ((closed, tt), ((topology_changed, tt), ((topology_opening, tt), ((topology_closed, tt), ((started, tt), ((checked, tt), ((failed, tt), tt)))))))))

pub fact : IsSend Fact.the_field.row
fact = enum_send (variants Fact.the_type) ((number, (address, tt)), ((number, (cmap, tt)), ((number, (number, (number, tt))), ((number, (end, tt)), ((number, (search rules depth 20, (search rules depth 20, tt))), ((search (sdam, rules) depth 20, tt), ((address, tt), ((address, tt), tt))))))))
