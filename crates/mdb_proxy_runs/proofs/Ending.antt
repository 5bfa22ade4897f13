-- How a run ends before its end.
use Rattle.std.proofs.Common.{◌≡◌, ℕ, ◌+◌, true, false, List, [], ◌∷◌, ◌++◌, length, map, codes, Option, Some, None, Result, Ok, Err, IfOk, IfErr, refl, sym, ap, ◌∙◌, subst, arith, eqb}
use Rattle.std.specs.Prelude.{is_none}
use Rattle.std.proofs.lemmas.Bool.{eqb-true, and_parts}
use Rattle.std.proofs.lemmas.List.{append_cancel_right, length-map}
use Rattle.mdb_base.specs.AddressReading.{beyond}
use Rattle.mdb_base.specs.Outside.{Rose, Held}
use Rattle.mdb_base.specs.declared.options.Options.{Options}
use Rattle.mdb_base.specs.OptionRules.{broken_rule}
use Rattle.mdb_log.specs.declared.step.Step.{Step}
use Rattle.mdb_log.specs.declared.step.Act.{Act}
use Rattle.mdb_log.specs.declared.step.Act.TheVariants as act
use Rattle.mdb_lines.specs.Grammar.{is_act, are_options}
use Rattle.mdb_parts.specs.declared.line_error.LineError.{LineError}
use Rattle.mdb_parts.specs.declared.line_error.LineError.TheVariants as line_error
use Rattle.mdb_lines.specs.declared.run_error.RunError.{RunError}
use Rattle.mdb_lines.specs.declared.run_error.RunError.TheVariants as errors
use Rattle.mdb_lines.specs.Script.{Spells, lines_of, max_input}
use Rattle.mdb_lines.specs.Loops.{ReadsAll, ReadEnds}
use Rattle.mdb_lines.proofs.Loops.{line_not_last}
use Rattle.mdb_proxies.specs.View.{ProxyView}
use Rattle.mdb_proxies.specs.declared.step.ProxyStep.{ProxyStep}
use Rattle.mdb_topology.specs.Logging.{opening_step}
use Rattle.mdb_proxy_lines.specs.ProxyLines.{SpellsShares, SpellsStep}
use Rattle.mdb_proxy_runs.specs.ProxyScripts.{whole, OpensFor, IsFirst, IsSecond, IsLater}
use Rattle.mdb_proxy_runs.specs.ProxyRuns.{Seen}
use Rattle.mdb_proxy_runs.specs.ProxyEnds.{cause_of, OptionsEnd, LineEnds, LinesEnd, SecondEnds, NamesAlone, SharesEnd, RunEnds, Ended}
use Rattle.mdb_proxy_runs.proofs.Answered.{Between}

same-whole : (l k : List ℕ) → whole l ≡ whole k → l ≡ k
same-whole l k e = append_cancel_right l k (codes "\n") e

-- bytes without a newline are no line
no-line : (bytes text : List ℕ) → beyond 10 bytes ≡ [] → bytes ≡ whole text → ⊥
no-line bytes text none e = line_not_last text (rw e at none)

-- ---- the lines from the third on

later-is : (line : List ℕ) → ((s : ProxyStep) → SpellsStep line s → ⊥) → IsLater (whole line) → ⊥
later-is line never (text, s, e, spells) = never s (subst (λ (l : List ℕ). SpellsStep l s) (sym (same-whole line text e)) spells)

module _ (input rest : List ℕ) (number : ℕ) (old now : ProxyView) (held new_held : Option Held) (faults new_faults : ℕ) (b : Between input rest number old now held new_held faults new_faults) where
  at-front : number ≡ 3 + length (map whole b.lines)
  at-front = omega (arith, b.at, length-map b.lines whole)

  -- bytes without a newline end the run
  pub last-ends : (lines_of rest ≡ rest ∷ []) × (beyond 10 rest ≡ []) → LinesEnd input faults new_faults (errors.Malformed number)
  last-ends cut = (
    record {
      before = map whole b.lines;
      line = rest;
      more = [];
      cut = b.cut ∙ ap (λ (ls : List (List ℕ)). map whole b.lines ++ ls) cut.0;
      lines = b.later;
      bad = λ l. no-line rest l.0 cut.1 l.2;
      at = at-front;
    },
    b.same,
  )

  -- the next line ends it
  pub line-ends : (line behind : List ℕ) (last : ℕ) (e : RunError) → lines_of rest ≡ whole line ∷ lines_of behind → LineEnds number line new_faults last e → LinesEnd input faults last e
  line-ends line behind last errors.OutOfMemory cut h = h ∙ b.same
  line-ends line behind last errors.ReadFault cut h = absurd h
  line-ends line behind last errors.WriteFault cut h = subst (λ (f : ℕ). Rose f last) b.same h
  line-ends line behind last (errors.Malformed n) cut (at, never, same) = (
    record {
      before = map whole b.lines;
      line = whole line;
      more = lines_of behind;
      cut = b.cut ∙ ap (λ (ls : List (List ℕ)). map whole b.lines ++ ls) cut;
      lines = b.later;
      bad = later-is line never;
      at = at ∙ at-front;
    },
    same ∙ b.same,
  )
  line-ends line behind last errors.TooLong cut h = absurd h

-- ---- the options of a line

pub options-end : (line : List ℕ) (e : LineError) → ((s : Step) → Spells 1 line s → e ≡ line_error.OutOfMemory) → OptionsEnd line (cause_of e 2)
options-end line line_error.Bad f = (refl, λ o s. (let k : line_error.Bad ≡ line_error.OutOfMemory = f (opening_step o) s in cc))
options-end line line_error.OutOfMemory f = tt

pub line-unread : (number : ℕ) (line : List ℕ) (faults : ℕ) (e : LineError) → ((s : ProxyStep) → SpellsStep line s → e ≡ line_error.OutOfMemory) → LineEnds number line faults faults (cause_of e number)
line-unread number line faults line_error.Bad f = (refl, (λ s h. (let k : line_error.Bad ≡ line_error.OutOfMemory = f s h in cc)), refl)
line-unread number line faults line_error.OutOfMemory f = refl

-- the opening that a first line of a driver spells
pub opening-is : (line : List ℕ) (s : Step) (o : Options) → Spells 1 line s → s.act ≡ act.Open o → s ≡ opening_step o
opening-is line s o h e =
    let rule : is_act s.moment (act.Open o) ≡ true = subst (λ (a : Act). is_act s.moment a ≡ true) e h.rules in
    let begins : s.moment ≡ 0 = eqb-true s.moment 0 (and_parts (eqb s.moment 0) (are_options o) rule).0 in
    let with-act : Act → Step = λ a. record { moment = s.moment; act = a } in
    let with-moment : ℕ → Step = λ k. record { moment = k; act = act.Open o } in
    ap with-act e ∙ ap with-moment begins

pub same-options : (o p : Options) → act.Open o ≡ act.Open p → o ≡ p
same-options o p e = cc

-- what it opens keeps the rules of options
pub rules-kept : (line : List ℕ) (o : Options) → Spells 1 line (opening_step o) → broken_rule o ≡ None
unfolding are_options
rules-kept line o h = none (broken_rule o) (and_parts (is_none (broken_rule o)) _ h.rules).0
  where
    none : {A : Type 0} (b : Option A) → is_none b ≡ true → b ≡ None
    none None e = refl
    none (Some x) e = absurd (let k : false ≡ true = e in cc)

-- ---- behind the first line

first-is : (named shares : List ℕ) → NamesAlone named shares → IsFirst (whole named)
first-is named shares n = (named, shares, refl, n.names)

second-is : (named shares line : List ℕ) → NamesAlone named shares → ((o : Options) → OpensFor shares line o → ⊥) → IsSecond (whole named) (whole line) → ⊥
second-is named shares line n never (other, text, others, o, first, names, e, opens) =
    let same : others ≡ shares = n.alone others (subst (λ (l : List ℕ). SpellsShares l others) (sym (same-whole named other first)) names) in
    let here : OpensFor shares text o = subst (λ (ss : List ℕ). OpensFor ss text o) same opens in
    never o (subst (λ (l : List ℕ). OpensFor shares l o) (sym (same-whole line text e)) here)

pub second-last : (shares input : List ℕ) (faults : ℕ) → (lines_of input ≡ input ∷ []) × (beyond 10 input ≡ []) → SharesEnd shares input faults faults (errors.Malformed 2)
second-last shares input faults cut = (
  λ named n. record {
    before = [];
    line = input;
    more = [];
    cut = cut.0;
    lines = first-is named shares n;
    bad = λ s. no-line input s.1 cut.1 s.6;
    at = refl;
  },
  refl,
)

pub second-ends : (shares input line behind : List ℕ) (faults new_faults : ℕ) (e : RunError) → lines_of input ≡ whole line ∷ lines_of behind → SecondEnds shares line faults new_faults e → SharesEnd shares input faults new_faults e
second-ends shares input line behind faults new_faults errors.OutOfMemory cut h = h
second-ends shares input line behind faults new_faults errors.ReadFault cut h = absurd h
second-ends shares input line behind faults new_faults errors.WriteFault cut h = h
second-ends shares input line behind faults new_faults (errors.Malformed k) cut (at, never, same) = (
  λ named n. record {
    before = [];
    line = whole line;
    more = lines_of behind;
    cut = cut;
    lines = first-is named shares n;
    bad = second-is named shares line n never;
    at = at;
  },
  same,
)
second-ends shares input line behind faults new_faults errors.TooLong cut h = absurd h

pub later-ends : (shares input line behind : List ℕ) (o : Options) (faults mid new_faults : ℕ) (e : RunError) → lines_of input ≡ whole line ∷ lines_of behind → OpensFor shares line o → mid ≡ faults
    → LinesEnd behind mid new_faults e → SharesEnd shares input faults new_faults e
later-ends shares input line behind o faults mid new_faults errors.OutOfMemory cut opens same h = h ∙ same
later-ends shares input line behind o faults mid new_faults errors.ReadFault cut opens same h = absurd h
later-ends shares input line behind o faults mid new_faults errors.WriteFault cut opens same h = subst (λ (f : ℕ). Rose f new_faults) same h
later-ends shares input line behind o faults mid new_faults (errors.Malformed k) cut opens same (b, still) = (
  λ named n. record {
    before = whole line ∷ b.before;
    line = b.line;
    more = b.more;
    cut = cut ∙ ap (λ (ls : List (List ℕ)). whole line ∷ ls) b.cut;
    lines = (first-is named shares n, (named, line, shares, o, refl, n.names, refl, opens), b.lines);
    bad = b.bad;
    at = omega (arith, b.at);
  },
  still ∙ same,
)
later-ends shares input line behind o faults mid new_faults errors.TooLong cut opens same h = absurd h

-- ---- whole inputs

pub first-last : (input : List ℕ) (faults : ℕ) → (lines_of input ≡ input ∷ []) × (beyond 10 input ≡ []) → RunEnds input faults faults (errors.Malformed 1)
first-last input faults cut = (record { before = []; line = input; more = []; cut = cut.0; lines = tt; bad = λ s. no-line input s.0 cut.1 s.2; at = refl }, refl)

pub first-ends : (input line behind : List ℕ) (faults : ℕ) → lines_of input ≡ whole line ∷ lines_of behind → ((shares : List ℕ) → SpellsShares line shares → ⊥) → RunEnds input faults faults (errors.Malformed 1)
first-ends input line behind faults cut never = (record { before = []; line = whole line; more = lines_of behind; cut = cut; lines = tt; bad = bad; at = refl }, refl)
  where
    bad : IsFirst (whole line) → ⊥
    bad (text, shares, e, names) = never shares (subst (λ (l : List ℕ). SpellsShares l shares) (sym (same-whole line text e)) names)

pub behind-ends : (shares input line behind : List ℕ) (faults new_faults : ℕ) (e : RunError) → lines_of input ≡ whole line ∷ lines_of behind → NamesAlone line shares → SharesEnd shares behind faults new_faults e → RunEnds input faults new_faults e
behind-ends shares input line behind faults new_faults errors.OutOfMemory cut n h = h
behind-ends shares input line behind faults new_faults errors.ReadFault cut n h = absurd h
behind-ends shares input line behind faults new_faults errors.WriteFault cut n h = h
behind-ends shares input line behind faults new_faults (errors.Malformed k) cut n (b, same) = (
  record {
    before = whole line ∷ (b line n).before;
    line = (b line n).line;
    more = (b line n).more;
    cut = cut ∙ ap (λ (ls : List (List ℕ)). whole line ∷ ls) (b line n).cut;
    lines = (b line n).lines;
    bad = (b line n).bad;
    at = omega (arith, (b line n).at);
  },
  same,
)
behind-ends shares input line behind faults new_faults errors.TooLong cut n h = absurd h

pub first-unread : (input line behind : List ℕ) (faults : ℕ) (e : LineError) → lines_of input ≡ whole line ∷ lines_of behind → ((shares : List ℕ) → SpellsShares line shares → e ≡ line_error.OutOfMemory) → RunEnds input faults faults (cause_of e 1)
first-unread input line behind faults line_error.Bad cut f = first-ends input line behind faults cut (λ shares s. (let k : line_error.Bad ≡ line_error.OutOfMemory = f shares s in cc))
first-unread input line behind faults line_error.OutOfMemory cut f = refl

-- ---- whole runs

pub read-ends : (old new : Seen) (c : RunError) → new.writes ≡ old.writes → ReadEnds max_input old.left new.left old.reads new.reads c → Ended old new c
read-ends old new errors.OutOfMemory writes h = (h, writes)
read-ends old new errors.ReadFault writes h = (h, writes)
read-ends old new errors.WriteFault writes h = absurd h
read-ends old new (errors.Malformed n) writes h = absurd h
read-ends old new errors.TooLong writes (bytes, consumed, long, same) = (same, writes, (bytes, consumed, long))

pub lines-end : (old new : Seen) (input : List ℕ) (c : RunError) → ReadsAll max_input old.left new.left old.reads new.reads input → RunEnds input old.writes new.writes c → Ended old new c
lines-end old new input errors.OutOfMemory read h = (read.same, h)
lines-end old new input errors.ReadFault read h = absurd h
lines-end old new input errors.WriteFault read h = (input, read, h)
lines-end old new input (errors.Malformed n) read h = (input, read, h.0, h.1)
lines-end old new input errors.TooLong read h = absurd h

-- ---- results

pub if-ok : {A E : Type 0} (r : Result A E) (P Q : A → Type 0) → ((x : A) → P x → Q x) → IfOk r P → IfOk r Q
if-ok (Ok x) P Q f h = f x h
if-ok (Err e) P Q f h = tt

pub if-err : {A E : Type 0} (r : Result A E) (P Q : E → Type 0) → ((x : E) → P x → Q x) → IfErr r P → IfErr r Q
if-err (Ok x) P Q f h = tt
if-err (Err e) P Q f h = f e h
