use Rattle.std.proofs.Common.{◌≡◌, ℕ, List, sym, subst}
use Rattle.mdb_proxy_lines.specs.ProxyLines.{SpellsShares}
use Rattle.mdb_proxy_runs.specs.ProxyEnds.{NamesAlone, SharesEnd, RunEnds}
use Rattle.mdb_proxy_runs.specs.ProxyWrites.{SharesWrote, RunWrote}
use Rattle.mdb_proxy_runs.proofs.Ending.{first-last, first-ends, first-unread, behind-ends, if-err}
use Rattle.mdb_proxy_runs.proofs.Writing.{first-wrote, unread-wrote, behind-wrote}
use Rattle.mdb_proxy_runs.proofs.run.run_lines.Goals as goal

pub returns-in_default-clause-ends : goal.returns-in_default-clause-ends
returns-in_default-clause-ends g c = first-last c.args.input.now (g.K.Sink.faults c.args.sink.now) c.in_default.ensures

pub returns-in-Err-clause-ends : goal.returns-in-Err-clause-ends
returns-in-Err-clause-ends g c = rw c.in-Err.ensures.none.0 (first-ends c.args.input.now c.in-Some.line.now c.in-Some.behind.now (g.K.Sink.faults c.args.sink.now) c.in-Some.ensures.0 (λ shares s. c.in-Err.ensures.none.1 s.printable))

pub returns-in-Ok-read_shares-clause-ends : goal.returns-in-Ok-read_shares-clause-ends
returns-in-Ok-read_shares-clause-ends g c =
    let line : c.in-Ok.line.now ≡ c.in-Some.line.now = c.in-Ok.ensures.text.0 in
    let shares : List ℕ = c.in-Ok-read_shares.shares.items in
    let names : NamesAlone c.in-Some.line.now shares = record {
      names = subst (λ (l : List ℕ). SpellsShares l shares) line c.in-Ok-read_shares.ensures.found;
      alone = λ others h. sym (c.in-Ok-read_shares.ensures.only others (subst (λ (l : List ℕ). SpellsShares l others) (sym line) h));
    } in
    if-err c.with_shares.result (SharesEnd shares c.in-Some.behind.now (g.K.Sink.faults c.args.sink.now) (g.K.Sink.faults c.with_shares.new.sink)) (RunEnds c.args.input.now (g.K.Sink.faults c.args.sink.now) (g.K.Sink.faults c.with_shares.new.sink))
    (λ e h. behind-ends shares c.args.input.now c.in-Some.line.now c.in-Some.behind.now (g.K.Sink.faults c.args.sink.now) (g.K.Sink.faults c.with_shares.new.sink) e c.in-Some.ensures.0 names h) c.with_shares.ensures.ends

pub returns-in-Err-read_shares-clause-ends : goal.returns-in-Err-read_shares-clause-ends
returns-in-Err-read_shares-clause-ends g c =
    let line : c.in-Ok.line.now ≡ c.in-Some.line.now = c.in-Ok.ensures.text.0 in
    rw c.malformed.ensures (first-unread c.args.input.now c.in-Some.line.now c.in-Some.behind.now (g.K.Sink.faults c.args.sink.now) c.in-Err-read_shares.e c.in-Some.ensures.0 (λ shares h. c.in-Err-read_shares.ensures.only shares (subst (λ (l : List ℕ). SpellsShares l shares) (sym line) h)))

pub returns-in_default-clause-wrote : goal.returns-in_default-clause-wrote
returns-in_default-clause-wrote g c = first-wrote c.args.input.now (g.K.Sink.held c.args.sink.now)

pub returns-in-Err-clause-wrote : goal.returns-in-Err-clause-wrote
returns-in-Err-clause-wrote g c = rw c.in-Err.ensures.none.0 (first-wrote c.args.input.now (g.K.Sink.held c.args.sink.now))

pub returns-in-Ok-read_shares-clause-wrote : goal.returns-in-Ok-read_shares-clause-wrote
returns-in-Ok-read_shares-clause-wrote g c =
    let line : c.in-Ok.line.now ≡ c.in-Some.line.now = c.in-Ok.ensures.text.0 in
    let shares : List ℕ = c.in-Ok-read_shares.shares.items in
    let names : SpellsShares c.in-Some.line.now shares = subst (λ (l : List ℕ). SpellsShares l shares) line c.in-Ok-read_shares.ensures.found in
    if-err c.with_shares.result (SharesWrote shares c.in-Some.behind.now (g.K.Sink.held c.args.sink.now) (g.K.Sink.held c.with_shares.new.sink)) (RunWrote c.args.input.now (g.K.Sink.held c.args.sink.now) (g.K.Sink.held c.with_shares.new.sink))
    (λ e h. behind-wrote shares c.args.input.now c.in-Some.line.now c.in-Some.behind.now (g.K.Sink.held c.args.sink.now) (g.K.Sink.held c.with_shares.new.sink) e c.in-Some.ensures.0 names h) c.with_shares.ensures.wrote

pub returns-in-Err-read_shares-clause-wrote : goal.returns-in-Err-read_shares-clause-wrote
returns-in-Err-read_shares-clause-wrote g c = rw c.malformed.ensures (unread-wrote c.in-Err-read_shares.e c.args.input.now (g.K.Sink.held c.args.sink.now))
