use Rattle.std.proofs.Common.{Some, None, arith}
use Rattle.std.proofs.lemmas.Str.Pattern.{strip_suffix_char}
use Rattle.mdb_entries.proofs.PieceLemmas.{piece_alone, piece_first, word_before, rest_short, none_left, some_left}
use Rattle.mdb_entries.proofs.pieces.piece.Goals as goal

pub returns-then-is_empty-clause-only : goal.returns-then-is_empty-clause-only
returns-then-is_empty-clause-only c = λ word more l same.
    piece_alone c.args.text.now word c.cut.result.1.now more c.cut.ensures.rest (none_left c.cut.result.1.now c.if-is_empty.ensures) l same

pub returns-in-Some-clause-found : goal.returns-in-Some-clause-found
returns-in-Some-clause-found c = rest_short c.args.text.now c.cut.result.1.now c.cut.ensures.rest

pub returns-in-Some-clause-only : goal.returns-in-Some-clause-only
returns-in-Some-clause-only c = λ word more l same.
    let spaced = strip_suffix_char 32 c.cut.result.0.now (Some c.in-Some.word) c.in-Some.ensures.cases (omega arith) in
    let p = piece_first c.args.text.now word c.cut.result.1.now c.cut.result.0.now more c.cut.ensures.front c.cut.ensures.rest (some_left c.cut.result.1.now c.if-is_empty.ensures) l same in
    (word_before c.cut.result.0.now c.in-Some.word.now word spaced p.0, p.1)

pub returns-in-None-clause-only : goal.returns-in-None-clause-only
returns-in-None-clause-only c = λ word more l same.
    let spaceless = strip_suffix_char 32 c.cut.result.0.now None c.in-None.ensures.cases (omega arith) in
    let p = piece_first c.args.text.now word c.cut.result.1.now c.cut.result.0.now more c.cut.ensures.front c.cut.ensures.rest (some_left c.cut.result.1.now c.if-is_empty.ensures) l same in
    absurd (spaceless word p.0)
