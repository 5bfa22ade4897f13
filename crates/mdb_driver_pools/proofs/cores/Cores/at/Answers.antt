use Rattle.std.proofs.Common.{◌≡◌, true, false, sym}
use Rattle.mdb_driver_pools.specs.Living.{lives_at}
use Rattle.mdb_driver_pools.proofs.InMemory.GonePools.{none-lives}
use Rattle.mdb_driver_pools.proofs.cores.Cores.at.Goals as goal

pub unreachable-requires : goal.unreachable-requires
unreachable-requires c =
    let none : lives_at c.args.self.now.items c.args.place ≡ false = none-lives c.args.self.now.items c.args.place (sym c.in-None.ensures) in
    let some : lives_at c.args.self.now.items c.args.place ≡ true = c.requires in
    cc
