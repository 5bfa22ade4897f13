-- A line that a step is spelled by is printable, and so is each text in it.
use Rattle.std.proofs.Common.{ℕ, ◌≡◌, true, List, ◌++◌, codes, decimal, Option, Some, None, sym, ◌∙◌, ap}
use Rattle.std.specs.Prelude.{if◌then◌else◌}
use Rattle.std.specs.List.{list_all}
use Rattle.std.proofs.lemmas.Bool.{and_parts}
use Rattle.std.proofs.lemmas.List.Folds.{list_all-append}
use Rattle.mdb_lines.specs.Grammar.{is_printable}
use Rattle.mdb_lines.specs.Script.{Spells}
use Rattle.mdb_log.specs.declared.step.Step.{Step}
use Rattle.mdb_session.specs.Texts.{text_in}
use Rattle.mdb_session.specs.declared.at.At.{At}
use Rattle.mdb_c.specs.Lines.{error_line, failed_line, hello_line, beaten_line, rtt_line, hosts_line}
use Rattle.mdb_c.specs.declared.connections.ConnectionNumbers.{ConnectionNumbers}

parts : (xs ys : List ℕ) → is_printable (xs ++ ys) ≡ true → (is_printable xs ≡ true) × (is_printable ys ≡ true)
parts xs ys h = and_parts (is_printable xs) (is_printable ys) (sym (list_all-append _ xs ys) ∙ h)

rest : (xs ys : List ℕ) → is_printable (xs ++ ys) ≡ true → is_printable ys ≡ true
rest xs ys h = (parts xs ys h).1

lacks_text : (xs : List ℕ) → is_printable xs ≡ true → None ≡ text_in xs → ⊥
lacks_text xs plain none = let e : ◌≡◌ {A = Option (List ℕ)} None (Some xs) = none ∙ ap (λ b. if b then Some xs else None) plain in absurd (cc)

-- what stands behind two texts
rest2 : (xs ys zs : List ℕ) → is_printable (xs ++ (ys ++ zs)) ≡ true → is_printable zs ≡ true
rest2 xs ys zs h = rest ys zs (rest xs (ys ++ zs) h)

-- what stands behind the first word of a line, its moment and a space
behind_moment : (word : List ℕ) (at : At) (zs : List ℕ) → is_printable (word ++ (decimal at.moment ++ (codes " " ++ zs))) ≡ true → is_printable zs ≡ true
behind_moment word at zs h = rest (codes " ") zs (rest2 word (decimal at.moment) (codes " " ++ zs) h)

pub error_printable : (at : At) (party : ℕ) (error : List ℕ) → None ≡ text_in error → (s : Step) → Spells 2 (error_line at party error) s → ⊥
error_printable at party error none s h =
    lacks_text error (rest2 (decimal party) (codes " ") error (behind_moment (codes "error ") at (decimal party ++ (codes " " ++ error)) h.printable)) none

pub failed_printable : (at : At) (c : ConnectionNumbers) (outcome : List ℕ) → None ≡ text_in outcome → (s : Step) → Spells 2 (failed_line at c outcome) s → ⊥
failed_printable at c outcome none s h =
    lacks_text outcome (rest2 (decimal c.id) (codes " ") outcome (rest2 (decimal c.pool) (codes " ") (decimal c.id ++ (codes " " ++ outcome))
    (behind_moment (codes "failed ") at (decimal c.pool ++ (codes " " ++ (decimal c.id ++ (codes " " ++ outcome)))) h.printable))) none

-- the two texts behind the moment of a line
both_texts : (word : List ℕ) (at : At) (monitor outcome : List ℕ) → is_printable (word ++ (decimal at.moment ++ (codes " " ++ (monitor ++ (codes " " ++ outcome))))) ≡ true
    → (is_printable monitor ≡ true) × (is_printable outcome ≡ true)
both_texts word at monitor outcome h =
    let both = parts monitor (codes " " ++ outcome) (behind_moment word at (monitor ++ (codes " " ++ outcome)) h) in
    (both.0, rest (codes " ") outcome both.1)

pub hello_monitor : (at : At) (monitor outcome : List ℕ) → None ≡ text_in monitor → (s : Step) → Spells 2 (hello_line at monitor outcome) s → ⊥
hello_monitor at monitor outcome none s h = lacks_text monitor (both_texts (codes "hello ") at monitor outcome h.printable).0 none

pub hello_outcome : (at : At) (monitor outcome : List ℕ) → None ≡ text_in outcome → (s : Step) → Spells 2 (hello_line at monitor outcome) s → ⊥
hello_outcome at monitor outcome none s h = lacks_text outcome (both_texts (codes "hello ") at monitor outcome h.printable).1 none

pub beaten_monitor : (at : At) (monitor outcome : List ℕ) → None ≡ text_in monitor → (s : Step) → Spells 2 (beaten_line at monitor outcome) s → ⊥
beaten_monitor at monitor outcome none s h = lacks_text monitor (both_texts (codes "beaten ") at monitor outcome h.printable).0 none

pub beaten_outcome : (at : At) (monitor outcome : List ℕ) → None ≡ text_in outcome → (s : Step) → Spells 2 (beaten_line at monitor outcome) s → ⊥
beaten_outcome at monitor outcome none s h = lacks_text outcome (both_texts (codes "beaten ") at monitor outcome h.printable).1 none

pub hosts_printable : (at : At) (hosts : List ℕ) → None ≡ text_in hosts → (s : Step) → Spells 2 (hosts_line at hosts) s → ⊥
hosts_printable at hosts none s h = lacks_text hosts (behind_moment (codes "hosts ") at hosts h.printable) none

pub rtt_printable : (at : At) (monitor : List ℕ) (nanos : ℕ) → None ≡ text_in monitor → (s : Step) → Spells 2 (rtt_line at monitor nanos) s → ⊥
rtt_printable at monitor nanos none s h = lacks_text monitor (both_texts (codes "rtt ") at monitor (decimal nanos) h.printable).0 none
