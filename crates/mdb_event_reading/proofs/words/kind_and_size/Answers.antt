use Rattle.std.proofs.Common.{refl}
use Rattle.mdb_parts.proofs.Wanting.{handed_on}
use Rattle.mdb_event_reading.proofs.OfSdam.WordLemmas.{kind_front, kind_back}
use Rattle.mdb_event_reading.proofs.words.kind_and_size.Goals as goal

pub returns-in_err-kind : goal.returns-in_err-kind
returns-in_err-kind c = λ kind n fits same.
    handed_on (kind, n) c.from_residual.result c.in_err-kind.field-0.0 (c.in_err-kind.ensures kind (kind_front c.args.word.now c.cut.result.0.now kind n c.cut.ensures.front same)) c.from_residual.ensures.1

pub returns-in_err-size : goal.returns-in_err-size
returns-in_err-size c = λ kind n fits same.
    handed_on (kind, n) c.from_residual-in_err-size.result c.in_err-size.field-0.0 (c.in_err-size.ensures n fits (kind_back c.args.word.now c.cut.result.1.now kind n c.cut.ensures.rest same)) c.from_residual-in_err-size.ensures.1

pub returns : goal.returns
returns c = λ kind n fits same.
    rw (
      c.in_ok-kind.ensures kind (kind_front c.args.word.now c.cut.result.0.now kind n c.cut.ensures.front same),
      c.in_ok-size.ensures n fits (kind_back c.args.word.now c.cut.result.1.now kind n c.cut.ensures.rest same),
    ) refl
