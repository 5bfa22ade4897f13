use Rattle.std.proofs.Common.{ap, ◌∙◌}
use Rattle.mdb_judging.specs.Opens.{opens_now}
use Rattle.mdb_judging.proofs.Openings.{opens-so}
use Rattle.mdb_judging.proofs.opening.opens_seeds.Goals as goal

pub returns : goal.returns
returns c = λ h homes tables. c.opens_now.ensures ∙ ap (λ xs. opens_now c.args.o.now xs c.args.tables.now) c.as_slice.ensures.value ∙ opens-so c.args.o.now c.args.homes.now c.args.tables.now h homes tables
