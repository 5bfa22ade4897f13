use Rattle.mdb_verdicts.proofs.Answered.{answers-plain}
use Rattle.mdb_verdicts.proofs.plain_answers.answers_are_plain.Goals as goal

pub returns : goal.returns
returns c = answers-plain
