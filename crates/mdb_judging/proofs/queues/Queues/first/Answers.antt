use Rattle.std.proofs.Common.{◌≡◌, ◌<◌, ◌≤◌, ◌+◌, if◌then◌else◌, arith, ap, sym, ◌∙◌}
use Rattle.mdb_tallies.specs.Tables.{at, same_key}
use Rattle.mdb_tallies.specs.Lists.{len}
use Rattle.mdb_tallies.specs.Verdicts.{waits_now}
use Rattle.mdb_judging.proofs.Callers.{finds, finds-none, walked, passes-next}
use Rattle.mdb_judging.proofs.queues.Queues.first.Goals as goal

pub returns-then-waits_at-clause-caller : goal.returns-then-waits_at-clause-caller
returns-then-waits_at-clause-caller c = λ o h s k.
    let below : c.loop-index.index < len c.loop-index.self.callers c.args.pool = omega (arith, c.loop-index-test.true, c.len-index-end.ensures, ap (λ l. len l c.args.pool) c.loop-index.invariant.callers) in
    let waits = sym (c.waits_at.ensures ∙ ap (waits_now c.args.pool) c.get.ensures) ∙ c.if-waits_at.true in
    finds o h c.args.tables.now c.args.pool c.loop-index.index c.get-caller.result c.args.self.now c.loop-index.self s k c.loop-index.invariant below c.get-caller.ensures waits

pub returns-then-waits_at-clause-standing : goal.returns-then-waits_at-clause-standing
returns-then-waits_at-clause-standing c = λ o h s k.
    let end : c.loop-index.index ≤ len c.args.self.now.callers c.args.pool = omega (arith, c.loop-index-test.true, c.len-index-end.ensures) in
    walked o h c.args.tables.now c.args.pool c.loop-index.index c.args.self.now c.loop-index.self s k c.loop-index.invariant end

pub loop-index-preserved : goal.loop-index-preserved
loop-index-preserved c =
    let idle = sym (c.waits_at.ensures ∙ ap (waits_now c.args.pool) c.get.ensures) ∙ c.if-waits_at.false in
    let more : c.saturating_add.result ≡ c.loop-index.index + 1 = omega (arith, c.saturating_add.ensures, c.loop-index-test.true, c.len-index-end.type_inv) in
    passes-next c.args.tables.now c.args.pool c.loop-index.index c.get-caller.result c.args.self.now c.loop-index.self c.set.new.self c.loop-index.invariant c.get-caller.ensures idle (λ a b d. c.in_ok-set.ensures a b d ∙ ap (λ n. if same_key c.args.pool 0 0 a b d then n else at c.loop-index.self.gone a b d) more)

pub returns-clause-caller : goal.returns-clause-caller
returns-clause-caller c = λ o h s k.
    let end : len c.args.self.now.callers c.args.pool ≤ c.loop-index.index = omega (arith, c.loop-index-test.false, c.len-index-end.ensures) in
    finds-none o h c.args.tables.now c.args.pool c.loop-index.index c.args.self.now c.loop-index.self s k c.loop-index.invariant end

pub returns-clause-standing : goal.returns-clause-standing
returns-clause-standing c = λ o h s k.
    let within : at c.args.self.now.gone c.args.pool 0 0 ≤ len c.args.self.now.callers c.args.pool = k.within c.args.pool in
    let end : c.loop-index.index ≤ len c.args.self.now.callers c.args.pool = omega (arith, c.loop-index-test.false, c.loop-index.auto.index-end, c.len-index-end.ensures, c.get-start.ensures, within) in
    walked o h c.args.tables.now c.args.pool c.loop-index.index c.args.self.now c.loop-index.self s k c.loop-index.invariant end
