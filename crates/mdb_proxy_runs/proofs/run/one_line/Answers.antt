use Rattle.std.proofs.Common.{◌≡◌, ℕ, List, ap, ◌∙◌, subst, string_bytes}
use Rattle.mdb_lines.proofs.Loops.{took_nothing}
use Rattle.mdb_proxy_runs.specs.ProxyRuns.{Answers}
use Rattle.mdb_proxy_runs.proofs.Writing.{unread, sent-part}
use Rattle.mdb_proxy_runs.proofs.run.one_line.Goals as goal

pub returns-in-Err-clause-wrote : goal.returns-in-Err-clause-wrote
returns-in-Err-clause-wrote g c = rw c.in-Err.ensures.none.0 (took_nothing (g.K.Sink.held c.args.sink.now))

pub returns-in-Err-read_proxy_line-clause-wrote : goal.returns-in-Err-read_proxy_line-clause-wrote
returns-in-Err-read_proxy_line-clause-wrote g c = rw c.malformed.ensures (unread c.in-Err-read_proxy_line.e c.args.line.now c.args.number c.args.proxy.now (g.K.Sink.held c.args.sink.now))

pub returns-in-Ok-answer_to-clause-wrote : goal.returns-in-Ok-answer_to-clause-wrote
returns-in-Ok-answer_to-clause-wrote g c =
    let line : c.in-Ok.line.now ≡ c.args.line.now = c.in-Ok.ensures.text.0 in
    let text : List ℕ = string_bytes c.in-Ok-answer_to.text in
    sent-part c.send.result c.args.line.now c.args.proxy.now c.answer_to.new.proxy text c.as_bytes.result.now (g.K.Sink.held c.args.sink.now) (g.K.Sink.held c.send.new.sink) (g.K.Sink.faults c.args.sink.now) (g.K.Sink.faults c.send.new.sink) c.as_bytes.ensures.value
    (subst (λ (l : List ℕ). Answers c.args.proxy.now c.answer_to.new.proxy l text) line c.in-Ok-answer_to.ensures) c.send.ensures.fails c.send.ensures.front

pub returns-in-Err-answer_to-clause-wrote : goal.returns-in-Err-answer_to-clause-wrote
returns-in-Err-answer_to-clause-wrote g c = took_nothing (g.K.Sink.held c.args.sink.now)
