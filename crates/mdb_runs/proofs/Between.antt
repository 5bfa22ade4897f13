-- A run, line by line.
use Rattle.std.proofs.Common.{◌≡◌, ℕ, suc, ◌+◌, ◌<◌, ◌≤◌, true, List, [], ◌∷◌, ◌++◌, length, take, map, codes, Option, Some, None, Ok, Err, refl, sym, ap, ◌∙◌, arith, append_assoc, inl, inr, subst, length-append}
use Rattle.std.proofs.lemmas.List.{append-nil, append_cancel_right}
use Rattle.std.proofs.lemmas.List.Elements.{All-nil, All-push}
use Rattle.std.proofs.Math.Seq.{take-append-add, take-length}
use Rattle.mdb_base.specs.Outside.{Rose, Held, Took}
use Rattle.mdb_log.specs.declared.step.Step.{Step}
use Rattle.mdb_log.specs.declared.log.Entry.{Entry}
use Rattle.mdb_lines.specs.declared.run_error.RunError.{RunError}
use Rattle.mdb_lines.specs.declared.run_error.RunError.TheVariants as errors
use Rattle.mdb_lines.specs.Spelling.{spelling}
use Rattle.mdb_lines.specs.LogText.{text_of_entry, text_of}
use Rattle.mdb_lines.specs.Script.{Spells, lines_of, line_of, AreAllowed, max_input}
use Rattle.mdb_base.specs.AddressReading.{beyond}
use Rattle.mdb_lines.specs.Loops.{ReadsAll, ReadEnds}
use Rattle.mdb_lines.proofs.Loops.{took_nothing, took_more, took_no_more, line_not_last}
use Rattle.mdb_driver_rules.specs.Acts.{is_driver_act}
use Rattle.mdb_topology.specs.declared.topology.TopologyCore.{TopologyCore}
use Rattle.mdb_topology.specs.Driving.{may_come, Holds}
use Rattle.mdb_driver_rules.specs.Lines.{entry_after, log_of, log_after, steps_of}
use Rattle.mdb_log.specs.LegalLog.{IsLegalLog}
use Rattle.mdb_log.specs.History.{history_of}
use Rattle.mdb_log.specs.PlainLegal.{LegalLog}
use Rattle.mdb_topology.specs.Logging.{IsKept}
use Rattle.mdb_topology.proofs.DriverOpened.ScriptsLog.{legal-log}
use Rattle.mdb_histories.specs.SoundHistory.{SoundHistory}
use Rattle.mdb_runs.specs.Runs.{IsWithin, Begins, IsNextLine, IsBad, LineRuns, HasDriver, IsDriverLog, Ran, RunEnds, Seen, Ended}
use Rattle.mdb_runs.proofs.Headlines.{driven-headline}

-- what holds between two lines
pub record Between (input rest : List ℕ) (n : ℕ) (entries : List Entry) (held new_held : Option Held) (faults new_faults : ℕ) : Type 0 where
  pub begins : Begins input (steps_of entries) (lines_of rest)
  pub answers : entries ≡ log_of (steps_of entries)
  pub number : n ≡ 1 + length entries
  pub room : n + length rest ≤ 1 + max_input
  pub taken : Took held new_held (text_of entries)
  pub same : new_faults ≡ faults

steps_push : (log : List Entry) (e : Entry) → steps_of (log ++ e ∷ []) ≡ steps_of log ++ e.step ∷ []
steps_push [] e = refl
steps_push (f ∷ log) e = ap (λ (ss : List Step). f.step ∷ ss) (steps_push log e)

log_push : (log : List Entry) (ss : List Step) (s : Step) → log_after log (ss ++ s ∷ []) ≡ log_after log ss ++ entry_after 0 (log_after log ss) s ∷ []
log_push log [] s = refl
log_push log (t ∷ ss) s = log_push (log ++ entry_after 0 log t ∷ []) ss s

text_push : (log : List Entry) (e : Entry) → text_of (log ++ e ∷ []) ≡ text_of log ++ text_of_entry e
text_push [] e = append-nil (text_of_entry e)
text_push (f ∷ log) e = ap (λ (xs : List ℕ). text_of_entry f ++ xs) (text_push log e) ∙ sym (append_assoc (text_of_entry f) (text_of log) (text_of_entry e))

pub lines_push : (ss : List Step) (s : Step) → map line_of (ss ++ s ∷ []) ≡ map line_of ss ++ line_of s ∷ []
lines_push [] s = refl
lines_push (t ∷ ss) s = ap (λ (ls : List (List ℕ)). line_of t ∷ ls) (lines_push ss s)

pub allowed_push : (n : ℕ) (ss : List Step) (s : Step) → AreAllowed n ss → Spells (n + length ss) (spelling s) s → AreAllowed n (ss ++ s ∷ [])
allowed_push n [] s h t = (subst (λ (k : ℕ). Spells k (spelling s) s) (omega arith) t, tt)
allowed_push n (u ∷ ss) s h t = (h.0, allowed_push (n + 1) ss s h.1 (subst (λ (k : ℕ). Spells k (spelling s) s) (omega arith) t))

pub within_push : (ss : List Step) (s : Step) → IsWithin ss → may_come ss s ≡ true → IsWithin (ss ++ s ∷ [])
within_push [] s w m = (m, All-nil (λ (t : Step). is_driver_act t.act ≡ true))
within_push (u ∷ ss) s w m = (w.0, All-push (λ (t : Step). is_driver_act t.act ≡ true) ss s w.1 m)

length_steps : (log : List Entry) → length (steps_of log) ≡ length log
length_steps [] = refl
length_steps (e ∷ log) = ap suc (length_steps log)

pub starts : (input : List ℕ) (held : Option Held) (faults : ℕ) → length input ≤ max_input → Between input input 1 [] held held faults faults
starts input held faults fits = record {
  begins = record { cut = refl; allowed = tt; within = tt };
  answers = refl;
  number = refl;
  room = omega arith;
  taken = took_nothing held;
  same = refl;
}

begins_more : (input rest line behind : List ℕ) (n : ℕ) (log : List Entry) (held mid : Option Held) (faults old_faults : ℕ) (step : Step)
    → lines_of rest ≡ (line ++ codes "\n") ∷ lines_of behind → Between input rest n log held mid faults old_faults → IsNextLine n (steps_of log) line step → Begins input (steps_of log ++ step ∷ []) (lines_of behind)
begins_more input rest line behind n log held mid faults old_faults step cut s (spells, may) =
    let whole : line ++ codes "\n" ≡ line_of step = ap (λ (xs : List ℕ). xs ++ codes "\n") spells.text in
    let spelled : Spells n (spelling step) step = subst (λ (xs : List ℕ). Spells n xs step) spells.text spells in
    let at : n ≡ 1 + length (steps_of log) = rw (length_steps log) s.number in
    record {
      cut = s.begins.cut ∙ rw (cut, lines_push (steps_of log) step, whole, append_assoc (map line_of (steps_of log)) (line_of step ∷ []) (lines_of behind)) refl;
      allowed = allowed_push 1 (steps_of log) step s.begins.allowed (subst (λ (k : ℕ). Spells k (spelling step) step) at spelled);
      within = within_push (steps_of log) step s.begins.within may;
    }

-- the line that is next is done
pub goes_on : (input rest line behind : List ℕ) (n : ℕ) (log new_log : List Entry) (held mid new_held : Option Held) (faults old_faults new_faults : ℕ) (u : Unit {0})
    → lines_of rest ≡ (line ++ codes "\n") ∷ lines_of behind → length behind < length rest
    → Between input rest n log held mid faults old_faults → LineRuns n line log new_log mid new_held old_faults new_faults (Ok u)
    → Between input behind (n + 1) new_log held new_held faults new_faults
goes_on input rest line behind n log new_log held mid new_held faults old_faults new_faults u cut shorter s (step, next, added, taken, same) =
    let e = entry_after 0 log step in
    let steps : steps_of new_log ≡ steps_of log ++ step ∷ [] = rw added (steps_push log e) in
    record {
      begins = rw steps (begins_more input rest line behind n log held mid faults old_faults step cut s next);
      answers = rw (steps, log_push [] (steps_of log) step, ← s.answers) added;
      number = rw (added, length-append log (e ∷ [])) (omega (arith, s.number));
      room = omega (arith, s.room, shorter);
      taken = rw (added, text_push log e) (took_more held mid new_held (text_of log) (text_of_entry e) s.taken taken);
      same = same ∙ s.same;
    }

-- what a script's driver holds to is the log of a driver
pub has-driver : (core : Option TopologyCore) (log : List Entry) → Holds core log → HasDriver log
has-driver None log h = subst HasDriver (sym h) tt
has-driver (Some w) [] h = tt
has-driver (Some w) (e ∷ es) h = (w, h)

-- and it keeps what every log of a driver keeps
pub driver-log : (core : Option TopologyCore) (log : List Entry) → Holds core log → IsDriverLog log
driver-log core log h = record { driver = has-driver core log h; legal = legal-log core log h; keeps = driven-headline log (has-driver core log h) }

pub done : (input : List ℕ) (n : ℕ) (log : List Entry) (held new_held : Option Held) (faults new_faults : ℕ) (rest : List ℕ) → length rest ≡ 0
    → Between input rest n log held new_held faults new_faults → HasDriver log → IsLegalLog log → LegalLog log → IsKept log → SoundHistory (history_of log) → Ran input log held new_held faults new_faults
unfolding lines_of
done input n log held new_held faults new_faults [] none s driver legal plain kept sound = record { begins = s.begins; answers = s.answers; driver = driver; legal = legal; plain = plain; kept = kept; sound = sound; taken = s.taken; same = s.same }
done input n log held new_held faults new_faults (b ∷ bs) none s driver legal plain kept sound = absurd (omega arith)

-- the line that is next ends the run
pub line_ends : (input rest line behind : List ℕ) (n : ℕ) (log new_log : List Entry) (held mid new_held : Option Held) (faults old_faults new_faults : ℕ) (e : RunError)
    → lines_of rest ≡ (line ++ codes "\n") ∷ lines_of behind
    → Between input rest n log held mid faults old_faults → IsDriverLog log → IsDriverLog new_log → LineRuns n line log new_log mid new_held old_faults new_faults (Err e)
    → RunEnds input held new_held faults new_faults e
line_ends input rest line behind n log new_log held mid new_held faults old_faults new_faults errors.OutOfMemory cut s kept new_kept (taken, same) =
    (steps_of log, lines_of rest, s.begins, subst IsDriverLog s.answers kept, rw (← s.answers) (took_no_more held mid new_held (text_of log) s.taken taken), same ∙ s.same)
line_ends input rest line behind n log new_log held mid new_held faults old_faults new_faults errors.ReadFault cut s kept new_kept h = h
line_ends input rest line behind n log new_log held mid new_held faults old_faults new_faults errors.WriteFault cut s kept new_kept (step, next, added, (k, front), rose) =
    let e = entry_after 0 log step in
    let log_is : log_of (steps_of log ++ step ∷ []) ≡ log ++ e ∷ [] = rw (log_push [] (steps_of log) step, ← s.answers) refl in
    let text : take (length (text_of log) + k) (text_of (log ++ e ∷ [])) ≡ text_of log ++ take k (text_of_entry e) = rw (text_push log e, take-append-add (text_of log) (text_of_entry e) k) refl in
    let took : Took held new_held (take (length (text_of log) + k) (text_of (log ++ e ∷ []))) = rw text (took_more held mid new_held (text_of log) (take k (text_of_entry e)) s.taken front) in
    (steps_of log ++ step ∷ [], lines_of behind, begins_more input rest line behind n log held mid faults old_faults step cut s next, subst IsDriverLog (added ∙ sym log_is) new_kept, (length (text_of log) + k, rw log_is took), subst (λ (f : ℕ). Rose f new_faults) s.same rose)
line_ends input rest line behind n log new_log held mid new_held faults old_faults new_faults (errors.Malformed m) cut s kept new_kept (at, never, taken, same) =
    let begins : Begins input (steps_of log) ((line ++ codes "\n") ∷ lines_of behind) = rw (← cut) s.begins in
    (steps_of log, line ++ codes "\n", lines_of behind, begins, subst IsDriverLog s.answers kept, at ∙ s.number ∙ ap (λ (k : ℕ). 1 + k) (sym (length_steps log)), bad, rw (← s.answers) (took_no_more held mid new_held (text_of log) s.taken taken), same ∙ s.same)
  where
    bad : IsBad m (steps_of log) (line ++ codes "\n")
    bad t (sp, may) eq =
        let w : line ≡ spelling t = append_cancel_right line (spelling t) (codes "\n") eq in
        never t (subst (λ (xs : List ℕ). Spells n xs t) (sym w) (subst (λ (k : ℕ). Spells k (spelling t) t) at sp), may)
line_ends input rest line behind n log new_log held mid new_held faults old_faults new_faults errors.TooLong cut s kept new_kept h = h

-- bytes without a newline end the run
pub last_ends : (input rest : List ℕ) (n : ℕ) (log : List Entry) (held new_held : Option Held) (faults new_faults : ℕ) → (lines_of rest ≡ rest ∷ []) × (beyond 10 rest ≡ [])
    → Between input rest n log held new_held faults new_faults → IsDriverLog log → RunEnds input held new_held faults new_faults (errors.Malformed n)
last_ends input rest n log held new_held faults new_faults cut s kept =
    let begins : Begins input (steps_of log) (rest ∷ []) = rw (← cut.0) s.begins in
    (steps_of log, rest, [], begins, subst IsDriverLog s.answers kept, s.number ∙ ap (λ (k : ℕ). 1 + k) (sym (length_steps log)), λ t sp eq. line_not_last (spelling t) (rw eq at cut.1), rw (← s.answers) s.taken, s.same)

-- whole runs

pub flush_fails : (old new : Seen) (input : List ℕ) (log : List Entry) (mid : Option Held) (count : ℕ) → ReadsAll max_input old.left new.left old.reads new.reads input
    → Ran input log old.held mid old.writes count → Took mid new.held [] → Rose count new.writes → Ended old new errors.WriteFault
flush_fails old new input log mid count read ran took rose =
    let text = text_of log in
    let all : Took old.held new.held (take (length text) text) = rw (take-length text) (took_no_more old.held mid new.held text ran.taken took) in
    (input, read, (steps_of log, [], ran.begins, subst IsDriverLog ran.answers (record { driver = ran.driver; legal = ran.legal; keeps = driven-headline log ran.driver }), (length text, rw (← ran.answers) all), subst (λ (f : ℕ). Rose f new.writes) ran.same rose))

pub read_ends : (old new : Seen) (e : RunError) → new.held ≡ old.held → new.writes ≡ old.writes → ReadEnds max_input old.left new.left old.reads new.reads e → Ended old new e
read_ends old new errors.OutOfMemory held writes h = (h, writes, inl (rw held (took_nothing old.held)))
read_ends old new errors.ReadFault held writes h = (h, writes, rw held (took_nothing old.held))
read_ends old new errors.WriteFault held writes h = absurd h
read_ends old new (errors.Malformed n) held writes h = absurd h
read_ends old new errors.TooLong held writes (bytes, consumed, long, same) = (same, writes, rw held (took_nothing old.held), (bytes, consumed, long))

pub lines_end : (old new : Seen) (input : List ℕ) (e : RunError) → ReadsAll max_input old.left new.left old.reads new.reads input → RunEnds input old.held new.held old.writes new.writes e → Ended old new e
lines_end old new input errors.OutOfMemory read h = (read.same, h.5, inr (input, read, h))
lines_end old new input errors.ReadFault read h = absurd h
lines_end old new input errors.WriteFault read h = (input, read, h)
lines_end old new input (errors.Malformed n) read h = (input, read, h)
lines_end old new input errors.TooLong read h = absurd h
