use Rattle.std.proofs.Common.{codes, map}
use Rattle.mdb_commands.specs.declared.subcommand.Subcommand.TheVariants as subcommand
use Rattle.mdb_commands.proofs.Behind.{far_behind}
use Rattle.mdb_commands.proofs.reading.judge_by.Goals as goal

pub returns-in-Err-clause-err : goal.returns-in-Err-clause-err
returns-in-Err-clause-err c = rw c.in-Some.ensures (far_behind subcommand.Judge (codes "--cmap") c.in-Some.year.now (map (λ w. w.now) c.in-Some.rest.now) c.in-Err.e c.in-Err.ensures.err)
