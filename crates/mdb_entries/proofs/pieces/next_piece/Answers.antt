use Rattle.std.proofs.Common.{◌++◌, codes}
use Rattle.mdb_entries.specs.Pieces.{barred}
use Rattle.mdb_entries.proofs.PieceLemmas.{shorter, still_shorter, name_there, name_left}
use Rattle.mdb_entries.proofs.pieces.next_piece.Goals as goal

pub returns-in-Some-clause-found : goal.returns-in-Some-clause-found
returns-in-Some-clause-found c = still_shorter c.piece.result c.in-Some.rest.now c.args.text.now (shorter c.args.text.now c.in-Some.rest.now c.in-Some.ensures) c.piece.ensures.found

pub returns-in-Some-clause-only : goal.returns-in-Some-clause-only
returns-in-Some-clause-only c = λ word more l same.
    c.piece.ensures.only word more l (name_left (codes "| ") c.args.text.now c.in-Some.rest.now (word ++ barred more) c.in-Some.ensures same)

pub returns-in-None-clause-only : goal.returns-in-None-clause-only
returns-in-None-clause-only c = λ word more l same.
    absurd (name_there (codes "| ") c.args.text.now (word ++ barred more) c.in-None.ensures same)
