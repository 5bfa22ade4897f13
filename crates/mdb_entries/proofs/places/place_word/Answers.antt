use Rattle.std.proofs.Common.{codes, decimal}
use Rattle.mdb_entries.proofs.PieceLemmas.{name_there, name_left}
use Rattle.mdb_entries.proofs.PlaceLemmas.{place_front, place_back}
use Rattle.mdb_entries.proofs.places.place_word.Goals as goal

pub returns-in-Some : goal.returns-in-Some
returns-in-Some c = λ p k lp lk same.
    let front = place_front c.args.word.now c.cut.result.0.now p k lp c.cut.ensures.front same in
    let back = place_back c.args.word.now c.cut.result.1.now p k lp c.cut.ensures.rest same in
    let digits = name_left (codes ".") c.cut.result.1.now c.in-Some.digits.now (decimal k) c.in-Some.ensures back in
    c.pair.ensures p k (c.number32.ensures p lp front) (c.number32-in-Some.ensures k lk digits)

pub returns-in-None : goal.returns-in-None
returns-in-None c = λ p k lp lk same.
    absurd (name_there (codes ".") c.cut.result.1.now (decimal k) c.in-None.ensures (place_back c.args.word.now c.cut.result.1.now p k lp c.cut.ensures.rest same))
