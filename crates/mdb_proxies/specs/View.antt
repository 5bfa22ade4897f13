-- What contracts see of a proxy.
use Rattle.std.specs.Prelude.{◌≡◌, ◌≢◌, ℕ, ◌≤◌, false, List, []}
use Rattle.mdb_base.specs.declared.address.ServerAddress.{ServerAddress}
use Rattle.mdb_log.specs.declared.log.Entry.{Entry}
use Rattle.mdb_proxies.specs.declared.asked.Asked.{Asked}
use Rattle.mdb_proxies.specs.Shares.{share_of}
use Rattle.mdb_proxies.specs.Charge.{charge, held_back, is_behind}

-- the shares of the tenants by their numbers, the asks in their order, and the log of the core
pub record ProxyView : Type 0 where
  pub shares : List ℕ
  pub asks : List Asked
  pub log : List Entry

-- No tenant has more than its share at any address; and where it has an ask held back, it has the whole share, unless the proxy is behind.
pub record KeepsShares (v : ProxyView) : Type 0 where
  pub within : (t : ℕ) (a : ServerAddress) → charge v.asks v.log t a ≤ share_of v.shares t
  pub full : is_behind v.shares v.asks v.log ≡ false → (t : ℕ) (a : ServerAddress) → held_back v.asks v.log t a ≢ [] → charge v.asks v.log t a ≡ share_of v.shares t
