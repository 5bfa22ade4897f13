use Rattle.std.proofs.Common.{◌≡◌, ℕ, List, length, drop, sym, ap, ◌∙◌, string_bytes}
use Rattle.mdb_log.specs.declared.log.Entry.{Entry}
use Rattle.mdb_proxies.specs.View.{ProxyView}
use Rattle.mdb_proxies.specs.declared.step.ProxyReply.{ProxyReply}
use Rattle.mdb_proxy_lines.specs.ProxyText.{answer_text, line_text}
use Rattle.mdb_proxy_runs.specs.ProxyRuns.{Steps, Answers}
use Rattle.mdb_proxy_runs.proofs.Ending.{if-ok}
use denote.Param.Send.{sendable}
use Rattle.std.proofs.Crossing.{crosses}
use Rattle.mdb_topology.proofs.Crossing.{driver_crosses}
use Rattle.mdb_proxy_runs.proofs.Answered.{answered}
use Rattle.mdb_proxy_runs.proofs.run.answer_to.Goals as goal

pub log-requires-2-send-C : goal.log-requires-2-send-C
log-requires-2-send-C c κs = search (driver_crosses, crosses, sendable) depth 20

pub step-requires-send-C : goal.step-requires-send-C
step-requires-send-C c κs = search (driver_crosses, crosses, sendable) depth 20

pub log-requires-send-C : goal.log-requires-send-C
log-requires-send-C c κs = search (driver_crosses, crosses, sendable) depth 20

pub returns : goal.returns
returns c =
    let old : ProxyView = c.args.proxy.now in
    let new : ProxyView = c.step.new.self in
    let e = c.in_ok-answer.ensures in
    let reply : ProxyReply = c.in_ok-answer.answer.reply in
    let steps : Steps old new c.args.step reply = record { shares = e.shares; refused = e.refused; performs = e.performs; keeps = e.keeps; even = sym e.behind ∙ c.if-answer.false } in
    let entries : c.entries.result.now ≡ new.log = c.entries.ensures ∙ c.log-2.ensures in
    let before : c.len-before.result ≡ length old.log = c.len-before.ensures ∙ ap (λ (l : List Entry). length l) c.log.ensures in
    let added : c.behind.result.now ≡ drop (length old.log) new.log = c.behind.ensures ∙ (ap (λ (n : ℕ). drop n c.entries.result.now) before ∙ ap (λ (l : List Entry). drop (length old.log) l) entries) in
    if-ok c.answer_line.result (λ text. string_bytes text ≡ line_text c.args.line.now (answer_text reply) c.behind.result.now) (λ text. Answers old new c.args.line.now (string_bytes text))
    (λ text t. answered old new c.args.line.now (string_bytes text) c.args.step reply c.requires steps (t ∙ ap (λ (l : List Entry). line_text c.args.line.now (answer_text reply) l) added))
    c.answer_line.ensures
