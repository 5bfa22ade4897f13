use Rattle.std.proofs.Common.{◌≡◌, ℕ, List, [], ◌∷◌, ap, ◌∙◌, subst}
use Rattle.mdb_base.specs.Outside.{Took}
use Rattle.mdb_proxies.specs.View.{ProxyView}
use Rattle.mdb_proxy_runs.specs.ProxyScripts.{OpensFor}
use Rattle.mdb_proxy_runs.specs.ProxyRuns.{opened, opening_text}
use Rattle.mdb_lines.specs.Loops.{TookFront}
use Rattle.mdb_lines.proofs.Loops.{took_nothing}
use Rattle.mdb_proxy_runs.proofs.Writing.{unopened}
use denote.Param.Send.{sendable}
use Rattle.std.proofs.Crossing.{crosses}
use Rattle.mdb_topology.proofs.Crossing.{driver_crosses}
use Rattle.mdb_proxy_runs.proofs.run.begin.Goals as goal

pub log-requires-send-C : goal.log-requires-send-C
log-requires-send-C g c κs = search (driver_crosses, crosses, sendable) depth 20

pub returns-in-Ok-send-clause-begins : goal.returns-in-Ok-send-clause-begins
returns-in-Ok-send-clause-begins g c =
    let w = c.in-Ok-open_proxy.ensures.opens in
    let entries : c.entries.result.now ≡ opened w.0 ∷ [] = c.entries.ensures ∙ (c.log.ensures ∙ ap (λ (v : ProxyView). v.log) w.2) in
    let text = c.in-Ok-opening_text.ensures (opened w.0) entries in
    let line : c.in-Ok.line.now ≡ c.args.line.now = c.in-Ok.ensures.text.0 in
    let all : c.as_bytes.result.now ≡ opening_text c.args.line.now w.0 = c.as_bytes.ensures.value ∙ (text ∙ ap (λ (l : List ℕ). opening_text l w.0) line) in
    (w.0, subst (λ (l : List ℕ). OpensFor c.args.shares.items l w.0) line w.1, w.2, subst (Took (g.K.Sink.held c.args.sink.now) (g.K.Sink.held c.send.new.sink)) all c.in-Ok-send.ensures.took.0, c.in-Ok-send.ensures.took.1)

pub returns-in-Err-clause-wrote : goal.returns-in-Err-clause-wrote
returns-in-Err-clause-wrote g c = rw c.in-Err.ensures.none.0 (took_nothing (g.K.Sink.held c.args.sink.now))

pub returns-in-Err-open_proxy-clause-wrote : goal.returns-in-Err-open_proxy-clause-wrote
returns-in-Err-open_proxy-clause-wrote g c = unopened c.in-Err-open_proxy.e c.args.shares.items c.in-Ok.line.now c.args.line.now (g.K.Sink.held c.args.sink.now) c.in-Err-open_proxy.ensures.ends

pub returns-in-Err-send-clause-wrote : goal.returns-in-Err-send-clause-wrote
returns-in-Err-send-clause-wrote g c =
    let w = c.in-Ok-open_proxy.ensures.opens in
    let entries : c.entries.result.now ≡ opened w.0 ∷ [] = c.entries.ensures ∙ (c.log.ensures ∙ ap (λ (v : ProxyView). v.log) w.2) in
    let text = c.in-Ok-opening_text.ensures (opened w.0) entries in
    let line : c.in-Ok.line.now ≡ c.args.line.now = c.in-Ok.ensures.text.0 in
    let all : c.as_bytes.result.now ≡ opening_text c.args.line.now w.0 = c.as_bytes.ensures.value ∙ (text ∙ ap (λ (l : List ℕ). opening_text l w.0) line) in
    rw c.in-Err-send.ensures.fails.0 (w.0, subst (λ (l : List ℕ). OpensFor c.args.shares.items l w.0) line w.1, subst (TookFront (g.K.Sink.held c.args.sink.now) (g.K.Sink.held c.send.new.sink)) all c.in-Err-send.ensures.front)

pub returns-in-Err-opening_text-clause-wrote : goal.returns-in-Err-opening_text-clause-wrote
returns-in-Err-opening_text-clause-wrote g c = took_nothing (g.K.Sink.held c.args.sink.now)
