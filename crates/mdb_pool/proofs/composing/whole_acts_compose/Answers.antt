use Rattle.mdb_pool_rules.proofs.AfterClearOrClose.{ready-alone, clear-alone, close-alone}
use Rattle.mdb_pool.proofs.SameAnswers.FailureAfterClear.{failed-after-clear}
use Rattle.mdb_pool.proofs.NothingServed.KeptByActs.{opening-quiet, answer-quiet}
use Rattle.mdb_pool.proofs.composing.whole_acts_compose.Goals as goal

pub returns-clause-opening : goal.returns-clause-opening
returns-clause-opening c = opening-quiet

pub returns-clause-quiet : goal.returns-clause-quiet
returns-clause-quiet c = answer-quiet

pub returns-clause-ready : goal.returns-clause-ready
returns-clause-ready c = λ p a o m q xs. ready-alone p a o m xs q

pub returns-clause-clear : goal.returns-clause-clear
returns-clause-clear c = λ p a o m q xs service error. clear-alone p a o m xs q service error

pub returns-clause-close : goal.returns-clause-close
returns-clause-close c = λ p a o m q xs. close-alone p a o m xs q

pub returns-clause-failure : goal.returns-clause-failure
returns-clause-failure c = failed-after-clear
