-- What a run of a proxy script reads, answers and writes.
use Rattle.std.specs.Prelude.{◌≡◌, ℕ, false, List, [], ◌∷◌, ◌++◌, map, Option, Some, None, ◌⊎◌}
use Rattle.mdb_base.specs.Outside.{Held, Took, IsFlushed}
use Rattle.mdb_base.specs.declared.options.Options.{Options}
use Rattle.mdb_log.specs.declared.log.Entry.{Entry}
use Rattle.mdb_log.specs.LegalLog.{IsLegalLog}
use Rattle.mdb_lines.specs.Script.{lines_of, max_input}
use Rattle.mdb_lines.specs.Loops.{ReadsAll}
use Rattle.mdb_lines.specs.LogText.{reply_text}
use Rattle.mdb_proxies.specs.Charge.{is_behind}
use Rattle.mdb_proxies.specs.Replies.{refusal_of, Performs}
use Rattle.mdb_proxies.specs.View.{ProxyView, KeepsShares}
use Rattle.mdb_proxies.specs.declared.step.ProxyStep.{ProxyStep}
use Rattle.mdb_proxies.specs.declared.step.ProxyReply.{ProxyReply}
use Rattle.mdb_proxies.specs.declared.step.ProxyReply.TheVariants.{Refused as IsRefused}
use Rattle.mdb_proxies.specs.declared.step.ProxyRefused.{ProxyRefused}
use Rattle.mdb_driver_rules.specs.Lines.{entry_after}
use Rattle.mdb_topology.specs.declared.topology.TopologyCore.{TopologyCore}
use Rattle.mdb_topology.specs.Logging.{opening_step, IsDriverOf}
use Rattle.mdb_proxy_lines.specs.ProxyLines.{SpellsShares, SpellsStep}
use Rattle.mdb_proxy_lines.specs.ProxyText.{answer_text, line_text}
use Rattle.mdb_proxy_runs.specs.ProxyScripts.{whole, OpensFor}

-- A step of a proxy that was answered so, with nothing left behind: refused by the first reason that holds, and then nothing changed, or performed.
pub record Steps (old new : ProxyView) (step : ProxyStep) (reply : ProxyReply) : Type 0 where
  pub shares : new.shares ≡ old.shares
  pub refused : (why : ProxyRefused) → refusal_of old step ≡ Some why → (reply ≡ IsRefused why) × (new ≡ old)
  pub performs : refusal_of old step ≡ None → Performs step.moment old.shares old.asks new.asks old.log new.log step.act reply
  pub keeps : KeepsShares new
  pub even : is_behind new.shares new.asks new.log ≡ false

-- One line was answered: it spells a step, which the proxy answered so, and this is what is written for it.
pub record Answers (old new : ProxyView) (line text : List ℕ) : Type 0 where
  pub step : ProxyStep
  pub reply : ProxyReply
  pub added : List Entry
  pub spelled : SpellsStep line step
  pub steps : Steps old new step reply
  pub grown : new.log ≡ old.log ++ added
  pub written : text ≡ line_text line (answer_text reply) added

-- The lines were answered one after another, each by the proxy after the lines before it, and this is what is written for them.
abbrev pub AnswersAll : ProxyView → ProxyView → List (List ℕ) → List ℕ → Type 0
AnswersAll old new [] text = (new ≡ old) × (text ≡ [])
AnswersAll old new (line ∷ lines) text = (mid : ProxyView) × (own rest : List ℕ) × Answers old mid line own × AnswersAll mid new lines rest × (text ≡ own ++ rest)

-- the entry by which a driver is opened
abbrev pub opened : Options → Entry
opened o = entry_after 0 [] (opening_step o)

-- a proxy with these shares over a driver that was just opened
abbrev pub begun : List ℕ → Options → ProxyView
begun shares o = record { shares = shares; asks = []; log = opened o ∷ [] }

-- what is written for the line that opens
abbrev pub opening_text : List ℕ → Options → List ℕ
opening_text line o = line_text line (reply_text (opened o).reply) (opened o ∷ [])

-- What the second line opens for tenants with these shares.
abbrev pub Opens : List ℕ → List ℕ → ProxyView → Type 0
Opens shares line v = (o : Options) × OpensFor shares line o × (v ≡ begun shares o)

-- The second line opened this proxy, and the sink took what is written for it.
abbrev pub Begins : List ℕ → List ℕ → Option Held → Option Held → ℕ → ℕ → ProxyView → Type 0
Begins shares line held new_held faults new_faults v =
    (o : Options) × OpensFor shares line o × (v ≡ begun shares o) × Took held new_held (opening_text line o) × (new_faults ≡ faults)

-- One line was answered, and the sink took what is written for it.
abbrev pub LineRuns : List ℕ → ProxyView → ProxyView → Option Held → Option Held → ℕ → ℕ → Type 0
LineRuns line old new held new_held faults new_faults = (text : List ℕ) × Answers old new line text × Took held new_held text × (new_faults ≡ faults)

-- So were all lines of the bytes.
abbrev pub LinesRun : List ℕ → ProxyView → ProxyView → Option Held → Option Held → ℕ → ℕ → Type 0
LinesRun input old new held new_held faults new_faults =
    (lines : List (List ℕ)) × (text : List ℕ) × (lines_of input ≡ map whole lines) × AnswersAll old new lines text × Took held new_held text × (new_faults ≡ faults)

-- The first line of the bytes opens a driver whose pools have the shares, and each later line was answered by the one proxy over it; the log is its log, for which the driver stands, which is legal, and the sink took what is written for the lines.
pub record Played (shares input : List ℕ) (log : List Entry) (held new_held : Option Held) (faults new_faults : ℕ) : Type 0 where
  pub options : Options
  pub line : List ℕ
  pub lines : List (List ℕ)
  pub last : ProxyView
  pub text : List ℕ
  pub cut : lines_of input ≡ whole line ∷ map whole lines
  pub opens : OpensFor shares line options
  pub answers : AnswersAll (begun shares options) last lines text
  pub is : log ≡ last.log
  pub driver : (w : TopologyCore) × IsDriverOf w log
  pub legal : IsLegalLog log
  pub taken : Took held new_held (opening_text line options ++ text)
  pub same : new_faults ≡ faults

-- Nothing was there to run, and nothing was written.
pub record Nothing (input : List ℕ) (log : List Entry) (held new_held : Option Held) (faults new_faults : ℕ) : Type 0 where
  pub empty : input ≡ []
  pub none : log ≡ []
  pub taken : Took held new_held []
  pub same : new_faults ≡ faults

-- what is behind the first line was run for these shares
abbrev pub RunsFrom : List ℕ → List ℕ → List Entry → Option Held → Option Held → ℕ → ℕ → Type 0
RunsFrom shares input log held new_held faults new_faults = Nothing input log held new_held faults new_faults ⊎ Played shares input log held new_held faults new_faults

-- No input was there; or its first line names shares, for which what is behind it was run.
abbrev pub Ran : List ℕ → List Entry → Option Held → Option Held → ℕ → ℕ → Type 0
Ran input log held new_held faults new_faults =
    Nothing input log held new_held faults new_faults
    ⊎ ((line shares rest : List ℕ) × (lines_of input ≡ whole line ∷ lines_of rest) × SpellsShares line shares × RunsFrom shares rest log held new_held faults new_faults)

-- What a run saw of its source and did to its sink: bytes left, reads that failed, bytes taken, and writes that failed.
pub record Seen : Type 0 where
  pub left : Option (List ℕ)
  pub reads : ℕ
  pub held : Option Held
  pub writes : ℕ

-- A run ended with this log: the source was read to its end, the run is as above, and what the sink took is flushed.
pub record Finished (old new : Seen) (log : List Entry) : Type 0 where
  pub input : List ℕ
  pub read : ReadsAll max_input old.left new.left old.reads new.reads input
  pub ran : Ran input log old.held new.held old.writes new.writes
  pub flushed : IsFlushed new.held
