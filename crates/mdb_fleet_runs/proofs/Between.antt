-- A run, line by line.
use Rattle.std.proofs.Common.{◌≡◌, ℕ, ◌+◌, ◌<◌, ◌≤◌, List, [], ◌∷◌, ◌++◌, length, take, map, codes, Option, Ok, Err, refl, sym, ap, ◌∙◌, arith, append_assoc, inl, inr, subst, length-append}
use Rattle.std.proofs.lemmas.List.{append-nil, append_cancel_right}
use Rattle.std.proofs.Math.Seq.{take-append-add, take-length}
use Rattle.mdb_base.specs.AddressReading.{beyond}
use Rattle.mdb_base.specs.Outside.{Rose, Held, Took}
use Rattle.mdb_log.specs.declared.log.Entry.{Entry}
use Rattle.mdb_base.specs.declared.options.Options.{Options}
use Rattle.mdb_log.specs.History.{history_of}
use Rattle.mdb_log.specs.LegalLog.{IsLegalLog, OpensSeeds}
use Rattle.mdb_driver_rules.specs.Lines.{entry_after}
use Rattle.mdb_lines.specs.declared.run_error.RunError.{RunError}
use Rattle.mdb_lines.specs.declared.run_error.RunError.TheVariants as errors
use Rattle.mdb_lines.specs.Script.{lines_of, max_input}
use Rattle.mdb_lines.specs.Loops.{ReadsAll, ReadEnds}
use Rattle.mdb_lines.proofs.Loops.{took_nothing, took_more, took_no_more, line_not_last}
use Rattle.mdb_topology.specs.Logging.{Stood, opening_step}
use Rattle.mdb_fleets.specs.ReplicaSet.{ReplicaSet, new_set}
use Rattle.mdb_fleet_runs.specs.declared.event.Event.{Event}
use Rattle.mdb_fleet_runs.specs.declared.harness.Harness.{Harness}
use Rattle.mdb_fleet_runs.specs.Events.{SpellsEvent, SpellsCount, event_text, count_text}
use Rattle.mdb_fleet_runs.specs.FleetRuns.{line_of, AreEvents, Begins, text_of, StoodFrom, StoodEach, Ran, IsBadCount, IsBad, LineRuns, OpenRuns, RunEnds, Seen, Ended}
use Rattle.mdb_fleet_runs.specs.FleetText.{line_text, text_after}
use Rattle.mdb_fleet_runs.specs.Harnesses.{trial_in, Watches, IsEarly}
use Rattle.mdb_fleet_runs.specs.Trials.{Trial, fleet_options, opened, log_in, begun, outcome, after, trial_of}
use Rattle.mdb_fleet_runs.proofs.Early.{early-more, new-early}

-- what holds between two lines
pub record Between (input rest : List ℕ) (number : ℕ) (f : Harness) (log : List Entry) (held new_held : Option Held) (faults new_faults : ℕ) : Type 0 where
  pub n : ℕ
  pub events : List Event
  pub begins : Begins input n events (lines_of rest)
  pub watches : Watches n f log
  pub trial : trial_in f log ≡ trial_of n events
  pub at : number ≡ 2 + length events
  pub room : number + length rest ≤ 1 + max_input
  pub early : IsEarly number f.fleet
  pub stood : StoodEach n events
  pub taken : Took held new_held (text_of n events)
  pub same : new_faults ≡ faults

-- one more event

after-push : (n : ℕ) (t : Trial) (es : List Event) (e : Event) → after n t (es ++ e ∷ []) ≡ (outcome n (after n t es) e).trial
after-push n t [] e = refl
after-push n t (x ∷ es) e = after-push n (outcome n t x).trial es e

text-push : (n : ℕ) (t : Trial) (es : List Event) (e : Event) → text_after n t (es ++ e ∷ []) ≡ text_after n t es ++ line_text n e (outcome n (after n t es) e)
text-push n t [] e = append-nil (line_text n e (outcome n t e))
text-push n t (x ∷ es) e =
    ap (λ (xs : List ℕ). line_text n x (outcome n t x) ++ xs) (text-push n (outcome n t x).trial es e)
    ∙ sym (append_assoc (line_text n x (outcome n t x)) (text_after n (outcome n t x).trial es) (line_text n e (outcome n (after n (outcome n t x).trial es) e)))

events-push : (es : List Event) (e : Event) → AreEvents es → SpellsEvent (event_text e) e → AreEvents (es ++ e ∷ [])
events-push [] e all s = (s, tt)
events-push (x ∷ es) e all s = (all.0, events-push es e all.1 s)

lines-push : (es : List Event) (e : Event) (more : List (List ℕ)) → map line_of es ++ line_of e ∷ more ≡ map line_of (es ++ e ∷ []) ++ more
lines-push [] e more = refl
lines-push (x ∷ es) e more = ap (λ (ls : List (List ℕ)). line_of x ∷ ls) (lines-push es e more)

stood-push : (n : ℕ) (t : Trial) (es : List Event) (e : Event) → StoodFrom n t es → Stood (fleet_options n) (log_in n (after n t (es ++ e ∷ []))) → StoodFrom n t (es ++ e ∷ [])
stood-push n t [] e all last = (all, last)
stood-push n t (x ∷ es) e all last = (all.0, stood-push n (outcome n t x).trial es e all.1 last)

length-push : (es : List Event) (e : Event) → length (es ++ e ∷ []) ≡ length es + 1
length-push es e = length-append es (e ∷ [])

-- a watching harness stands for its log
watched : (n : ℕ) (f : Harness) (log : List Entry) (t : Trial) → Watches n f log → trial_in f log ≡ t → Stood (fleet_options n) (log_in n t)
watched n f log t w is = subst (λ (l : List Entry). Stood (fleet_options n) l) (w.begins ∙ ap (log_in n) is) (record { driver = f.core; own = w.own; stands = w.stands.stands })

-- its driver opened the seeds
opens-seeds : (n : ℕ) (f : Harness) (log : List Entry) → Watches n f log → OpensSeeds (fleet_options n) (history_of (opened n ∷ []))
opens-seeds n f log w = subst (λ (o : Options). OpensSeeds o (history_of (entry_after 0 [] (opening_step o) ∷ []))) w.own w.stands.opens

spelled-own : (line : List ℕ) (e : Event) → SpellsEvent line e → SpellsEvent (event_text e) e
spelled-own line e s = subst (λ (xs : List ℕ). SpellsEvent xs e) s.text s

begins-more : (input rest line behind : List ℕ) (n : ℕ) (es : List Event) (e : Event) → lines_of rest ≡ (line ++ codes "\n") ∷ lines_of behind → Begins input n es (lines_of rest) → SpellsEvent line e
    → Begins input n (es ++ e ∷ []) (lines_of behind)
begins-more input rest line behind n es e cut b s =
    let whole : line ++ codes "\n" ≡ line_of e = ap (λ (xs : List ℕ). xs ++ codes "\n") s.text in
    let next : lines_of rest ≡ line_of e ∷ lines_of behind = cut ∙ ap (λ (l : List ℕ). l ∷ lines_of behind) whole in
    record {
      cut = b.cut ∙ ap (λ (ls : List (List ℕ)). (count_text n ++ codes "\n") ∷ (map line_of es ++ ls)) next ∙ ap (λ (ls : List (List ℕ)). (count_text n ++ codes "\n") ∷ ls) (lines-push es e (lines_of behind));
      count = b.count;
      each = events-push es e b.each (spelled-own line e s);
    }

-- the first line is done
pub starts : (input first behind : List ℕ) (f : Harness) (log : List Entry) (held : Option Held) (faults : ℕ) → lines_of input ≡ (first ++ codes "\n") ∷ lines_of behind → length behind < length input → length input ≤ max_input
    → OpenRuns first log (Ok f) → Between input behind 2 f log held held faults faults
starts input first behind f log held faults cut shorter fits (n, count, fleet, log_is, w) =
    let begun-is : trial_in f log ≡ begun n = ap (λ (s : ReplicaSet). record { set = s; entries = (trial_in f log).entries }) fleet ∙ ap (λ (l : List Entry). record { set = new_set n; entries = (trial_in f l).entries }) log_is in
    record {
      n = n;
      events = [];
      begins = record {
        cut = cut ∙ ap (λ (xs : List ℕ). (xs ++ codes "\n") ∷ lines_of behind) count.text;
        count = subst (λ (xs : List ℕ). SpellsCount xs n) count.text count;
        each = tt;
      };
      watches = w;
      trial = begun-is;
      at = refl;
      room = omega (arith, shorter, fits);
      early = subst (λ (s : ReplicaSet). IsEarly 2 s) (sym fleet) (new-early n);
      stood = record { opens = opens-seeds n f log w; each = watched n f log (begun n) w begun-is };
      taken = took_nothing held;
      same = refl;
    }

-- the line that is next is done
pub goes-on : (input rest line behind : List ℕ) (number : ℕ) (f g : Harness) (log new_log : List Entry) (held mid new_held : Option Held) (faults old_faults new_faults : ℕ) (u : Unit {0})
    → lines_of rest ≡ (line ++ codes "\n") ∷ lines_of behind → length behind < length rest → (b : Between input rest number f log held mid faults old_faults)
    → LineRuns b.n number line (trial_in f log) (trial_in g new_log) mid new_held old_faults new_faults (Ok u) → Watches b.n g new_log
    → Between input behind (number + 1) g new_log held new_held faults new_faults
goes-on input rest line behind number f g log new_log held mid new_held faults old_faults new_faults u cut shorter b (e, spells, is, taken, same) w =
    let n = b.n in
    let whole : trial_in g new_log ≡ trial_of n (b.events ++ e ∷ []) = is ∙ ap (λ (t : Trial). (outcome n t e).trial) b.trial ∙ sym (after-push n (begun n) b.events e) in
    let line-is : line_text n e (outcome n (trial_in f log) e) ≡ line_text n e (outcome n (trial_of n b.events) e) = ap (λ (t : Trial). line_text n e (outcome n t e)) b.trial in
    let text-is : text_of n b.events ++ line_text n e (outcome n (trial_in f log) e) ≡ text_of n (b.events ++ e ∷ []) = ap (λ (xs : List ℕ). text_of n b.events ++ xs) line-is ∙ sym (text-push n (begun n) b.events e) in
    record {
      n = n;
      events = b.events ++ e ∷ [];
      begins = begins-more input rest line behind n b.events e cut b.begins spells;
      watches = w;
      trial = whole;
      at = omega (arith, b.at, length-push b.events e);
      room = omega (arith, b.room, shorter);
      early = subst (λ (s : ReplicaSet). IsEarly (number + 1) s) (sym (ap (λ (t : Trial). t.set) is)) (early-more n number (trial_in f log) e b.early);
      stood = record { opens = b.stood.opens; each = stood-push n (begun n) b.events e b.stood.each (watched n g new_log (after n (begun n) (b.events ++ e ∷ [])) w whole) };
      taken = subst (Took held new_held) text-is (took_more held mid new_held (text_of n b.events) (line_text n e (outcome n (trial_in f log) e)) b.taken taken);
      same = same ∙ b.same;
    }

-- all lines are done
pub done : (input rest : List ℕ) (number : ℕ) (f : Harness) (log : List Entry) (held new_held : Option Held) (faults new_faults : ℕ) → length rest ≡ 0 → Between input rest number f log held new_held faults new_faults → IsLegalLog log
    → Ran input log held new_held faults new_faults
unfolding lines_of
done input [] number f log held new_held faults new_faults none b legal =
    inr (b.n, b.events, record { begins = b.begins; answers = b.watches.begins ∙ ap (log_in b.n) b.trial; legal = legal; stood = b.stood; taken = b.taken; same = b.same })
done input (x ∷ rest) number f log held new_held faults new_faults none b legal = absurd (omega arith)

-- the line that is next ends the run
pub line-ends : (input rest line behind : List ℕ) (number : ℕ) (f g : Harness) (log new_log : List Entry) (held mid new_held : Option Held) (faults old_faults new_faults : ℕ) (c : RunError)
    → lines_of rest ≡ (line ++ codes "\n") ∷ lines_of behind → (b : Between input rest number f log held mid faults old_faults)
    → LineRuns b.n number line (trial_in f log) (trial_in g new_log) mid new_held old_faults new_faults (Err c) → RunEnds input held new_held faults new_faults c
line-ends input rest line behind number f g log new_log held mid new_held faults old_faults new_faults errors.OutOfMemory cut b (taken, same) =
    inr (b.n, b.events, lines_of rest, (b.begins, took_no_more held mid new_held (text_of b.n b.events) b.taken taken, same ∙ b.same))
line-ends input rest line behind number f g log new_log held mid new_held faults old_faults new_faults errors.ReadFault cut b h = absurd h
line-ends input rest line behind number f g log new_log held mid new_held faults old_faults new_faults errors.WriteFault cut b (e, spells, (k, front), rose) =
    let n = b.n in
    let line-is : line_text n e (outcome n (trial_in f log) e) ≡ line_text n e (outcome n (trial_of n b.events) e) = ap (λ (t : Trial). line_text n e (outcome n t e)) b.trial in
    let own : Took mid new_held (take k (line_text n e (outcome n (trial_of n b.events) e))) = subst (λ (xs : List ℕ). Took mid new_held (take k xs)) line-is front in
    let size = length (text_of n b.events) in
    let text : take (size + k) (text_of n (b.events ++ e ∷ [])) ≡ text_of n b.events ++ take k (line_text n e (outcome n (trial_of n b.events) e)) =
    ap (take (size + k)) (text-push n (begun n) b.events e) ∙ take-append-add (text_of n b.events) (line_text n e (outcome n (trial_of n b.events) e)) k in
    let took : Took held new_held (take (size + k) (text_of n (b.events ++ e ∷ []))) = subst (Took held new_held) (sym text) (took_more held mid new_held (text_of n b.events) (take k (line_text n e (outcome n (trial_of n b.events) e))) b.taken own) in
    inr (n, b.events ++ e ∷ [], lines_of behind, (begins-more input rest line behind n b.events e cut b.begins spells, (size + k, took), subst (λ (x : ℕ). Rose x new_faults) b.same rose))
line-ends input rest line behind number f g log new_log held mid new_held faults old_faults new_faults (errors.Malformed m) cut b (at, never, taken, same) =
    let begins : Begins input b.n b.events ((line ++ codes "\n") ∷ lines_of behind) = subst (λ (ls : List (List ℕ)). Begins input b.n b.events ls) cut b.begins in
    inr (b.n, b.events, lines_of behind, (line ++ codes "\n", begins, at ∙ b.at, bad, took_no_more held mid new_held (text_of b.n b.events) b.taken taken, same ∙ b.same))
  where
    bad : IsBad (line ++ codes "\n")
    bad e s eq =
        let w : line ≡ event_text e = append_cancel_right line (event_text e) (codes "\n") eq in
        never e (subst (λ (xs : List ℕ). SpellsEvent xs e) (sym w) s)
line-ends input rest line behind number f g log new_log held mid new_held faults old_faults new_faults errors.TooLong cut b h = absurd h

-- bytes without a newline end the run
pub last-ends : (input rest : List ℕ) (number : ℕ) (f : Harness) (log : List Entry) (held new_held : Option Held) (faults new_faults : ℕ) → (lines_of rest ≡ rest ∷ []) × (beyond 10 rest ≡ [])
    → Between input rest number f log held new_held faults new_faults → RunEnds input held new_held faults new_faults (errors.Malformed number)
last-ends input rest number f log held new_held faults new_faults cut b =
    let begins : Begins input b.n b.events (rest ∷ []) = subst (λ (ls : List (List ℕ)). Begins input b.n b.events ls) cut.0 b.begins in
    inr (b.n, b.events, [], (rest, begins, b.at, λ e s eq. line_not_last (event_text e) (rw eq at cut.1), b.taken, b.same))

-- the first line ends the run

pub first-last : (input : List ℕ) (held : Option Held) (faults : ℕ) → (lines_of input ≡ input ∷ []) × (beyond 10 input ≡ []) → RunEnds input held held faults faults (errors.Malformed 1)
first-last input held faults cut = inl (refl, (input, [], cut.0, λ n s eq. line_not_last (count_text n) (rw eq at cut.1)), took_nothing held, refl)

pub first-ends : (input first behind : List ℕ) (log : List Entry) (held : Option Held) (faults : ℕ) (c : RunError) → lines_of input ≡ (first ++ codes "\n") ∷ lines_of behind → OpenRuns first log (Err c) → RunEnds input held held faults faults c
first-ends input first behind log held faults errors.OutOfMemory cut h = inl (took_nothing held, refl)
first-ends input first behind log held faults errors.ReadFault cut h = absurd h
first-ends input first behind log held faults errors.WriteFault cut h = absurd h
first-ends input first behind log held faults (errors.Malformed m) cut (at, never) =
    inl (at, (first ++ codes "\n", lines_of behind, cut, bad), took_nothing held, refl)
  where
    bad : IsBadCount (first ++ codes "\n")
    bad n s eq =
        let w : first ≡ count_text n = append_cancel_right first (count_text n) (codes "\n") eq in
        never n (subst (λ (xs : List ℕ). SpellsCount xs n) (sym w) s)
first-ends input first behind log held faults errors.TooLong cut h = absurd h

-- whole runs

pub nothing-ran : (input : List ℕ) (held : Option Held) (faults : ℕ) → length input ≡ 0 → Ran input [] held held faults faults
nothing-ran [] held faults none = inl (refl, refl, took_nothing held, refl)
nothing-ran (x ∷ input) held faults none = absurd (omega arith)

pub flush-fails : (old new : Seen) (input : List ℕ) (log : List Entry) (mid : Option Held) (count : ℕ) → ReadsAll max_input old.left new.left old.reads new.reads input → Ran input log old.held mid old.writes count → Took mid new.held [] → Rose count new.writes
    → Ended old new errors.WriteFault
flush-fails old new input log mid count read (inl (none, empty, taken, same)) took rose =
    (input, read, inr (none, took_no_more old.held mid new.held [] taken took, subst (λ (f : ℕ). Rose f new.writes) same rose))
flush-fails old new input log mid count read (inr (n, events, ran)) took rose =
    let text = text_of n events in
    let all : Took old.held new.held (take (length text) text) = rw (take-length text) (took_no_more old.held mid new.held text ran.taken took) in
    (input, read, inl (inr (n, events, [], (ran.begins, (length text, all), subst (λ (f : ℕ). Rose f new.writes) ran.same rose))))

pub read-ends : (old new : Seen) (c : RunError) → new.held ≡ old.held → new.writes ≡ old.writes → ReadEnds max_input old.left new.left old.reads new.reads c → Ended old new c
read-ends old new errors.OutOfMemory held writes h = (h, writes, inl (rw held (took_nothing old.held)))
read-ends old new errors.ReadFault held writes h = (h, writes, rw held (took_nothing old.held))
read-ends old new errors.WriteFault held writes h = absurd h
read-ends old new (errors.Malformed n) held writes h = absurd h
read-ends old new errors.TooLong held writes (bytes, consumed, long, same) = (same, writes, rw held (took_nothing old.held), (bytes, consumed, long))

no-writes : (input : List ℕ) (held new_held : Option Held) (faults new_faults : ℕ) → RunEnds input held new_held faults new_faults errors.OutOfMemory → new_faults ≡ faults
no-writes input held new_held faults new_faults (inl h) = h.1
no-writes input held new_held faults new_faults (inr (n, events, more, h)) = h.2

pub lines-end : (old new : Seen) (input : List ℕ) (c : RunError) → ReadsAll max_input old.left new.left old.reads new.reads input → RunEnds input old.held new.held old.writes new.writes c → Ended old new c
lines-end old new input errors.OutOfMemory read h = (read.same, no-writes input old.held new.held old.writes new.writes h, inr (input, read, h))
lines-end old new input errors.ReadFault read (inl h) = absurd h
lines-end old new input errors.ReadFault read (inr h) = absurd h.3
lines-end old new input errors.WriteFault read h = (input, read, inl h)
lines-end old new input (errors.Malformed n) read h = (input, read, h)
lines-end old new input errors.TooLong read (inl h) = absurd h
lines-end old new input errors.TooLong read (inr h) = absurd h.3
