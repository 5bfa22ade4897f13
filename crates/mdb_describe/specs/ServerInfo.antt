-- What is told of one server is told of its description.
use Rattle.mdb_describe.specs.declared.description.ServerDescription.{ServerDescription}
use Rattle.mdb_describe.specs.declared.server_info.ServerInfo.{ServerInfo}

abbrev pub described : ServerInfo → ServerDescription
described info = info.description.now
