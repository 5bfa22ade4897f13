-- An address without a host and a port.
use Rattle.std.proofs.Common.{◌≡◌, []}
use Rattle.mdb_base.specs.declared.address.ServerAddress.{ServerAddress}
use Rattle.mdb_c.specs.PoolOpening.{nameless}

pub is_nameless : (a : ServerAddress) → a.host ≡ [] → a.port ≡ 0 → a ≡ nameless
is_nameless a host port = λ i. record { host = host i; port = port i }
