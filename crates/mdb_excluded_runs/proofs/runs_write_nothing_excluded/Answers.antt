use Rattle.std.proofs.Common.{◌∷◌, ◌++◌}
use Rattle.mdb_excluded_runs.proofs.Drivers.{closes-by-cause, is-answered, tells-once, tells-causes, refused-rightly, searches-last-first}
use Rattle.mdb_excluded_runs.proofs.runs_write_nothing_excluded.Goals as goal

-- what a run writes keeps each law
pub returns-clause-legal : goal.returns-clause-legal
returns-clause-legal c = λ front later e input held new_held faults new_faults x ran. x.2 later ran.plain

pub returns-clause-within : goal.returns-clause-within
returns-clause-within c = λ front later e input held new_held faults new_faults x ran. x.2 later ran.kept.within

pub returns-clause-fresh : goal.returns-clause-fresh
returns-clause-fresh c = λ front later e input held new_held faults new_faults x ran. x.2 later ran.kept.fresh

pub returns-clause-closes : goal.returns-clause-closes
returns-clause-closes c = λ front later e input held new_held faults new_faults x ran. x.2 later (closes-by-cause (front ++ e ∷ later) ran.driver)

pub returns-clause-answered : goal.returns-clause-answered
returns-clause-answered c = λ front later e input held new_held faults new_faults x ran. x.2 later (is-answered (front ++ e ∷ later) ran.driver)

pub returns-clause-once : goal.returns-clause-once
returns-clause-once c = λ front later e input held new_held faults new_faults x ran. x.2 later (tells-once (front ++ e ∷ later) ran.driver)

pub returns-clause-causes : goal.returns-clause-causes
returns-clause-causes c = λ front later e input held new_held faults new_faults x ran. x.2 later (tells-causes (front ++ e ∷ later) ran.driver)

pub returns-clause-refused : goal.returns-clause-refused
returns-clause-refused c = λ front later e input held new_held faults new_faults x ran. x.2 later (refused-rightly (front ++ e ∷ later) ran.driver)

pub returns-clause-searches : goal.returns-clause-searches
returns-clause-searches c = λ front later e input held new_held faults new_faults x ran. x.2 later (searches-last-first (front ++ e ∷ later) ran.driver)
