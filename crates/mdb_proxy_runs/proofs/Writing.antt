-- What was written when a run ends before its end.
use Rattle.std.proofs.Common.{◌≡◌, ℕ, ◌+◌, inl, inr, List, [], ◌∷◌, ◌++◌, length, map, take, Option, Result, Ok, Err, IfErr, refl, sym, ap, ◌∙◌, subst, arith, append-nil, append_assoc}
use Rattle.std.proofs.Math.Seq.{take-length}
use Rattle.mdb_base.specs.Outside.{Rose, Held, Took}
use Rattle.mdb_base.specs.declared.options.Options.{Options}
use Rattle.mdb_log.specs.declared.log.Entry.{Entry}
use Rattle.mdb_parts.specs.declared.line_error.LineError.{LineError}
use Rattle.mdb_parts.specs.declared.line_error.LineError.TheVariants as line_error
use Rattle.mdb_lines.specs.declared.run_error.RunError.{RunError}
use Rattle.mdb_lines.specs.declared.run_error.RunError.TheVariants as errors
use Rattle.mdb_lines.specs.Script.{lines_of, max_input}
use Rattle.mdb_lines.specs.Loops.{TookFront, ReadsAll, ReadEnds}
use Rattle.mdb_lines.proofs.Loops.{took_nothing, took_more, took_no_more}
use Rattle.mdb_lines.proofs.Tell.{front_after}
use Rattle.mdb_proxies.specs.View.{ProxyView}
use Rattle.mdb_proxy_lines.specs.ProxyLines.{SpellsShares}
use Rattle.mdb_proxy_runs.specs.ProxyScripts.{whole, OpensFor}
use Rattle.mdb_proxy_runs.specs.ProxyRuns.{Answers, AnswersAll, Begins, begun, opening_text, Seen, Ran}
use Rattle.mdb_proxy_runs.specs.ProxyEnds.{cause_of, LineEnds, OpeningEnds, SecondEnds, RunEnds}
use Rattle.mdb_proxy_runs.specs.ProxyWrites.{Sent, IsAt, LineWrote, Answered, LinesWrote, SecondWrote, WrittenFor, FrontFor, SharesWrote, Written, Front, RunWrote, Wrote}
use Rattle.mdb_proxy_runs.proofs.Answered.{Between, answers-push, lines-push}

front-all : (a b : Option Held) (text : List ℕ) → Took a b text → TookFront a b text
front-all a b text h = (length text, subst (Took a b) (sym (take-length text)) h)

-- ---- one line

-- a line that was not read wrote nothing
pub unread : (e : LineError) (line : List ℕ) (number : ℕ) (old : ProxyView) (held : Option Held) → LineWrote line old held held (cause_of e number)
unread line_error.Bad line number old held = took_nothing held
unread line_error.OutOfMemory line number old held = took_nothing held

-- one that was answered was sent in part
pub sent-part : (r : Result (Unit {0}) RunError) (line : List ℕ) (old new : ProxyView) (text bytes : List ℕ) (held new_held : Option Held) (faults new_faults : ℕ) → bytes ≡ text → Answers old new line text
    → IfErr r (λ e. (e ≡ errors.WriteFault) × Rose faults new_faults) → IfErr r (λ e. TookFront held new_held bytes) → IfErr r (LineWrote line old held new_held)
sent-part (Ok x) line old new text bytes held new_held faults new_faults s a f t = tt
sent-part (Err e) line old new text bytes held new_held faults new_faults s a f t = rw f.0 (new, text, a, subst (TookFront held new_held) s t)

-- ---- the lines from the third on

module _ (input rest : List ℕ) (number : ℕ) (old now : ProxyView) (held mid : Option Held) (faults old_faults : ℕ) (b : Between input rest number old now held mid faults old_faults) where
  abbrev so-far : Answered input old b.text
  so-far = record { lines = b.lines; more = lines_of rest; last = now; cut = b.cut; answers = b.answers }

  -- bytes without a newline
  pub last-wrote : LinesWrote input old held mid (errors.Malformed number)
  last-wrote = (b.text, so-far, b.taken, b.at)

  -- the next line ended the run
  pub line-wrote : (line behind : List ℕ) (new_held : Option Held) (new_faults : ℕ) (e : RunError) → lines_of rest ≡ whole line ∷ lines_of behind → LineEnds number line old_faults new_faults e → LineWrote line now mid new_held e → LinesWrote input old held new_held e
  line-wrote line behind new_held new_faults errors.OutOfMemory cut h w = (b.text, so-far, took_no_more held mid new_held b.text b.taken w, tt)
  line-wrote line behind new_held new_faults errors.ReadFault cut h w = absurd h
  line-wrote line behind new_held new_faults errors.WriteFault cut h (new, own, a, front) = (
    b.text ++ own,
    record {
      lines = b.lines ++ line ∷ [];
      more = lines_of behind;
      last = new;
      cut = b.cut ∙ ap (λ (ls : List (List ℕ)). map whole b.lines ++ ls) cut ∙ lines-push b.lines line (lines_of behind);
      answers = answers-push old now new b.lines line b.text own b.answers a;
    },
    front_after held mid new_held b.text own b.taken front,
    tt,
  )
  line-wrote line behind new_held new_faults (errors.Malformed n) cut h w = (b.text, so-far, took_no_more held mid new_held b.text b.taken w, h.0 ∙ b.at)
  line-wrote line behind new_held new_faults errors.TooLong cut h w = absurd h

-- ---- the lines from the second on

abbrev none-for : (shares input : List ℕ) → FrontFor shares input []
none-for shares input = record { lines = []; more = lines_of input; cut = refl; written = refl }

pub second-missing : (shares input : List ℕ) (held : Option Held) → SharesWrote shares input held held (errors.Malformed 2)
second-missing shares input held = ([], none-for shares input, took_nothing held, refl)

pub second-wrote : (shares input line behind : List ℕ) (held new_held : Option Held) (faults new_faults : ℕ) (e : RunError) → lines_of input ≡ whole line ∷ lines_of behind → SecondEnds shares line faults new_faults e
    → SecondWrote shares line held new_held e → SharesWrote shares input held new_held e
second-wrote shares input line behind held new_held faults new_faults errors.OutOfMemory cut h w = ([], none-for shares input, w, tt)
second-wrote shares input line behind held new_held faults new_faults errors.ReadFault cut h w = absurd h
second-wrote shares input line behind held new_held faults new_faults errors.WriteFault cut h (o, opens, front) = (
  opening_text line o,
  record { lines = line ∷ []; more = lines_of behind; cut = cut; written = (o, begun shares o, [], opens, (refl, refl), sym (append-nil (opening_text line o))) },
  front,
  tt,
)
second-wrote shares input line behind held new_held faults new_faults (errors.Malformed n) cut h w = ([], none-for shares input, w, h.0)
second-wrote shares input line behind held new_held faults new_faults errors.TooLong cut h w = absurd h

-- a line that opened nothing wrote nothing
pub unopened : (e : RunError) (shares own line : List ℕ) (held : Option Held) → OpeningEnds shares own e → SecondWrote shares line held held e
unopened errors.OutOfMemory shares own line held h = took_nothing held
unopened errors.ReadFault shares own line held h = took_nothing held
unopened errors.WriteFault shares own line held h = absurd h
unopened (errors.Malformed n) shares own line held h = took_nothing held
unopened errors.TooLong shares own line held h = took_nothing held

sent-after : (e : RunError) (held mid new_held : Option Held) (x y : List ℕ) → Took held mid x → Sent e mid new_held y → Sent e held new_held (x ++ y)
sent-after errors.WriteFault held mid new_held x y t s = front_after held mid new_held x y t s
sent-after errors.OutOfMemory held mid new_held x y t s = took_more held mid new_held x y t s
sent-after errors.ReadFault held mid new_held x y t s = took_more held mid new_held x y t s
sent-after (errors.Malformed n) held mid new_held x y t s = took_more held mid new_held x y t s
sent-after errors.TooLong held mid new_held x y t s = took_more held mid new_held x y t s

at-next : (e : RunError) (m n : ℕ) → m ≡ n → IsAt e m → IsAt e n
at-next e m n s h = subst (IsAt e) s h

pub later-wrote : (shares input line behind : List ℕ) (first : ProxyView) (held mid new_held : Option Held) (faults old_faults : ℕ) (e : RunError) → lines_of input ≡ whole line ∷ lines_of behind → Begins shares line held mid faults old_faults first
    → LinesWrote behind first mid new_held e → SharesWrote shares input held new_held e
later-wrote shares input line behind first held mid new_held faults old_faults e cut (o, opens, is, taken, same) (text, a, sent, at) = (
  opening_text line o ++ text,
  record {
    lines = line ∷ a.lines;
    more = a.more;
    cut = cut ∙ ap (λ (ls : List (List ℕ)). whole line ∷ ls) a.cut;
    written = (o, a.last, text, opens, subst (λ (v : ProxyView). AnswersAll v a.last a.lines text) is a.answers, refl);
  },
  sent-after e held mid new_held (opening_text line o) text taken sent,
  at-next e (3 + length a.lines) (2 + length (line ∷ a.lines)) (omega arith) at,
)

-- ---- all lines

abbrev none-first : (input : List ℕ) → Front input []
none-first input = record { lines = []; more = lines_of input; cut = refl; written = refl }

pub first-wrote : (input : List ℕ) (held : Option Held) → RunWrote input held held (errors.Malformed 1)
first-wrote input held = ([], none-first input, took_nothing held, refl)

pub unread-wrote : (e : LineError) (input : List ℕ) (held : Option Held) → RunWrote input held held (cause_of e 1)
unread-wrote line_error.Bad input held = first-wrote input held
unread-wrote line_error.OutOfMemory input held = ([], none-first input, took_nothing held, tt)

pub behind-wrote : (shares input line behind : List ℕ) (held new_held : Option Held) (e : RunError) → lines_of input ≡ whole line ∷ lines_of behind → SpellsShares line shares → SharesWrote shares behind held new_held e → RunWrote input held new_held e
behind-wrote shares input line behind held new_held e cut names (text, f, sent, at) = (
  text,
  record { lines = line ∷ f.lines; more = f.more; cut = cut ∙ ap (λ (ls : List (List ℕ)). whole line ∷ ls) f.cut; written = (shares, names, f.written) },
  sent,
  at-next e (2 + length f.lines) (1 + length (line ∷ f.lines)) (omega arith) at,
)

-- ---- whole runs

pub read-wrote : (old new : Seen) (e : RunError) → new.held ≡ old.held → ReadEnds max_input old.left new.left old.reads new.reads e → Wrote old new e
read-wrote old new errors.OutOfMemory held h = inl (rw held (took_nothing old.held))
read-wrote old new errors.ReadFault held h = rw held (took_nothing old.held)
read-wrote old new errors.WriteFault held h = absurd h
read-wrote old new (errors.Malformed n) held h = absurd h
read-wrote old new errors.TooLong held h = rw held (took_nothing old.held)

pub lines-wrote : (old new : Seen) (input : List ℕ) (e : RunError) → ReadsAll max_input old.left new.left old.reads new.reads input → RunEnds input old.writes new.writes e → RunWrote input old.held new.held e → Wrote old new e
lines-wrote old new input errors.OutOfMemory read h w = inr (input, read, w)
lines-wrote old new input errors.ReadFault read h w = absurd h
lines-wrote old new input errors.WriteFault read h w = (input, read, w)
lines-wrote old new input (errors.Malformed n) read h w = (input, read, w)
lines-wrote old new input errors.TooLong read h w = absurd h

-- all lines were run, and the sink failed at the flush
pub flush-wrote : (input : List ℕ) (log : List Entry) (held mid new_held : Option Held) (faults new_faults : ℕ) → Ran input log held mid faults new_faults → Took mid new_held [] → RunWrote input held new_held errors.WriteFault
flush-wrote input log held mid new_held faults new_faults (inl n) took = ([], none-first input, front-all held new_held [] (took_no_more held mid new_held [] n.taken took), tt)
flush-wrote input log held mid new_held faults new_faults (inr (line, shares, rest, cut, names, inl n)) took = (
  [],
  record { lines = line ∷ []; more = lines_of rest; cut = cut; written = (shares, names, refl) },
  front-all held new_held [] (took_no_more held mid new_held [] n.taken took),
  tt,
)
flush-wrote input log held mid new_held faults new_faults (inr (line, shares, rest, cut, names, inr p)) took = (
  opening_text p.line p.options ++ p.text,
  record {
    lines = line ∷ (p.line ∷ p.lines);
    more = [];
    cut = cut ∙ ap (λ (ls : List (List ℕ)). whole line ∷ ls) p.cut ∙ sym (append-nil (whole line ∷ (whole p.line ∷ map whole p.lines)));
    written = (shares, names, (p.options, p.last, p.text, p.opens, p.answers, refl));
  },
  front-all held new_held (opening_text p.line p.options ++ p.text) (took_no_more held mid new_held (opening_text p.line p.options ++ p.text) p.taken took),
  tt,
)
