use Rattle.std.proofs.Common.{sym}
use Rattle.mdb_lines.proofs.Loops.{cuts_some, cuts_none}
use Rattle.mdb_lines.proofs.reading_loop.cut_line.Goals as goal

pub returns-in-None : goal.returns-in-None
returns-in-None c = cuts_none c.args.rest.now c.requires (sym c.in-None.ensures)

pub returns-in-Some : goal.returns-in-Some
returns-in-Some c = rw (c.split_at.ensures.front, c.split_at-in-Some.ensures.back, c.split_at.ensures.back) (cuts_some c.args.rest.now c.in-Some.place (sym c.in-Some.ensures))
