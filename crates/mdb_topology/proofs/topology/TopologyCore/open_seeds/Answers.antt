use Rattle.std.proofs.Common.{refl, sym, subst, false}
use Rattle.mdb_topology.specs.Logging.{IsDriverOf}
use Rattle.mdb_topology.specs.declared.topology.TopologyCore.{TopologyCore}
use Rattle.mdb_topology.proofs.topology.TopologyCore.open_seeds.Goals as goal
use Rattle.mdb_topology.proofs.DriverOpened.ItsLog.{begins-log, opening-log}

pub returns-in-Ok-clause-entry : goal.returns-in-Ok-clause-entry
returns-in-Ok-clause-entry c =
    let o = c.args.options in
    let begun = c.in-Ok.begun in
    let z = c.in-Ok.ensures.begins in
    begins-log o c.requires.fits begun.pools.cores.items begun.description z.0 z.1 c.args.seat c.args.log.now c.begin.new.log c.requires.empty z.2

pub returns-in-Ok-clause-opened : goal.returns-in-Ok-clause-opened
returns-in-Ok-clause-opened c =
    let o = c.args.options in
    let begun = c.in-Ok.begun in
    let e = c.in-Ok.ensures in
    let z = e.begins in
    let w : TopologyCore = record {
      options = o;
      description = begun.description;
      published = 1;
      stopped = false;
      pools = begun.pools;
      monitors = begun.monitors;
      fresh = 0;
      watchers = c.new.result;
    } in
    let logged = begins-log o c.requires.fits begun.pools.cores.items begun.description z.0 z.1 c.args.seat c.args.log.now c.begin.new.log c.requires.empty z.2 in
    subst (λ es. IsDriverOf w es) (sym logged) (opening-log o c.requires.fits begun.pools.cores.items begun.description z.0 z.1 c.args.seat w refl refl refl refl refl e.last refl c.new.ensures e.settings e.stand e.known e.kept)
