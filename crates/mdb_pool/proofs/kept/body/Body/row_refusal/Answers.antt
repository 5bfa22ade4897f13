use Rattle.std.proofs.Common.{◌≡◌, true, ◌∙◌, sym, ap}
use Rattle.mdb_log.specs.declared.step.Act.{Act}
use Rattle.mdb_pool.specs.Kept.Body.{now_of}
use Rattle.mdb_pool.specs.Core.{PoolCore}
use Rattle.mdb_pool_rules.specs.Refusal.{first_row}
use Rattle.mdb_pool.specs.Refusing.{rows_now, tells_new}
use Rattle.mdb_pool.proofs.kept.body.Body.row_refusal.Goals as goal

-- the rows of an act are those of the step's act
rows-of : (s : PoolCore) {a b : Act} → a ≡ b → first_row (rows_now s b) ≡ first_row (rows_now s a)
rows-of s e = ap (λ k. first_row (rows_now s k)) (sym e)

pub returns-in-Failed : goal.returns-in-Failed
returns-in-Failed c = c.failed_refusal.ensures c.in-Failed.field-3 ∙ rows-of (now_of c.args.self.now) c.in-Failed.is

pub returns-in-Return : goal.returns-in-Return
returns-in-Return c = c.holder_refusal.ensures c.in-Return.field-1 ∙ rows-of (now_of c.args.self.now) c.in-Return.is

pub returns-in-Clear : goal.returns-in-Clear
returns-in-Clear c = c.clear_refusal.ensures c.in-Clear.field-0 c.in-Clear.field-2 ∙ rows-of (now_of c.args.self.now) c.in-Clear.is

-- of the party that the act names it can be told whether it is new
tells : (s : PoolCore) {a b : Act} → a ≡ b → tells_new s a ≡ true → tells_new s b ≡ true
tells s e z = ap (tells_new s) (sym e) ∙ z

pub request_refusal-requires : goal.request_refusal-requires
request_refusal-requires c = tells (now_of c.args.self.now) c.in-Request.is c.requires

pub request_refusal-requires-in-Warm : goal.request_refusal-requires-in-Warm
request_refusal-requires-in-Warm c = tells (now_of c.args.self.now) c.in-Warm.is c.requires

pub take_refusal-requires : goal.take_refusal-requires
take_refusal-requires c = tells (now_of c.args.self.now) c.in-Take.is c.requires
