-- Nobody waits for others at the end of a run.
use Rattle.std.proofs.Common.{◌≡◌, ℕ, true, List, [], ◌∷◌, ◌++◌, Option, refl, sym, ap, ◌∙◌, subst, append-nil, append_assoc}
use Rattle.mdb_base.specs.Outside.{Held}
use Rattle.mdb_base.specs.declared.options.Options.{Options}
use Rattle.mdb_log.specs.declared.log.Entry.{Entry}
use Rattle.mdb_log.specs.declared.step.Act.TheVariants as act
use Rattle.mdb_log.specs.History.{history_of}
use Rattle.mdb_log.specs.Opening.{pool_options}
use Rattle.mdb_log.specs.State.{max_size}
use Rattle.mdb_driver_rules.specs.Lines.{entry_after}
use Rattle.mdb_topology.specs.declared.topology.TopologyCore.{TopologyCore}
use Rattle.mdb_topology.specs.Logging.{opening_step, IsDriverOf}
use Rattle.mdb_proxies.specs.Shares.{are_shares}
use Rattle.mdb_proxies.specs.View.{ProxyView}
use Rattle.mdb_proxies.specs.declared.step.ProxyStep.{ProxyStep}
use Rattle.mdb_proxy_runs.specs.ProxyRuns.{AnswersAll, begun, opened, Played}
use Rattle.mdb_proxy_laws.specs.Reaching.{Steps, Reaches}
use Rattle.mdb_proxy_laws.specs.Waiting.{WaitsForNone}
use Rattle.mdb_proxy_laws.proofs.NoneWaits.{reached-waits}

-- lines that were answered are steps
stepped : (old new : ProxyView) (lines : List (List ℕ)) (text : List ℕ) → AnswersAll old new lines text → (ss : List ProxyStep) × Reaches old new ss
stepped old new [] text a = ([], a.0)
stepped old new (line ∷ lines) text (mid, own, rest, a, more, is) =
    let later = stepped mid new lines rest more in
    let own-step : Steps old mid a.step = record { reply = a.reply; shares = a.steps.shares; refused = a.steps.refused; performs = a.steps.performs; keeps = a.steps.keeps } in
    (a.step ∷ later.0, (mid, own-step, later.1))

-- they add entries
adds : (old new : ProxyView) (lines : List (List ℕ)) (text : List ℕ) → AnswersAll old new lines text → (es : List Entry) × (new.log ≡ old.log ++ es)
adds old new [] text a = ([], ap (λ (v : ProxyView). v.log) a.0 ∙ sym (append-nil old.log))
adds old new (line ∷ lines) text (mid, own, rest, a, more, is) =
    let later = adds mid new lines rest more in
    (a.added ++ later.0, later.1 ∙ ap (λ (l : List Entry). l ++ later.0) a.grown ∙ append_assoc old.log a.added later.0)

head-same : {A : Type 0} (x y : A) (xs ys : List A) → x ∷ xs ≡ y ∷ ys → x ≡ y
head-same x y xs ys h = cc

same-open : (o p : Options) → act.Open o ≡ act.Open p → o ≡ p
same-open o p h = cc

-- it has the options of the line that opened it
own-options : (w : TopologyCore) (o : Options) (es : List Entry) → IsDriverOf w (opened o ∷ es) → w.options ≡ o
own-options w o es z =
    let e : Entry = entry_after z.seat [] (opening_step w.options) in
    sym (same-open o w.options (ap (λ (x : Entry). x.step.act) (head-same (opened o) e es z.entries z.logged)))

pub run-waits : (shares input : List ℕ) (log : List Entry) (held new_held : Option Held) (faults new_faults : ℕ) (p : Played shares input log held new_held faults new_faults) → WaitsForNone (pool_options p.options) (history_of log)
run-waits shares input log held new_held faults new_faults p =
    let o : Options = p.options in
    let reached = stepped (begun shares o) p.last p.lines p.text p.answers in
    let grown = adds (begun shares o) p.last p.lines p.text p.answers in
    let w : TopologyCore = p.driver.0 in
    let whole : IsDriverOf w p.last.log = subst (IsDriverOf w) p.is p.driver.1 in
    let same : w.options ≡ o = own-options w o grown.0 (subst (IsDriverOf w) grown.1 whole) in
    let fits : are_shares shares (max_size (pool_options w.options)) ≡ true = subst (λ (x : Options). are_shares shares (max_size (pool_options x)) ≡ true) (sym same) p.opens.fits in
    let waits = reached-waits shares (opened o) p.last reached.0 w fits reached.1 whole in
    subst (λ (l : List Entry). WaitsForNone (pool_options o) (history_of l)) (sym p.is) (subst (λ (x : Options). WaitsForNone (pool_options x) (history_of p.last.log)) same waits)
