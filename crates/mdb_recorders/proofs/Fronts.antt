-- What a sink took of a text whose front it had taken before.
use Rattle.std.proofs.Common.{◌≡◌, ℕ, ◌+◌, ◌≤◌, List, [], ◌++◌, length, take, drop, Option, sym, ap, ◌∙◌}
use Rattle.std.proofs.lemmas.List.{append-nil, take_all}
use Rattle.std.proofs.Math.Seq.{take-add, take-append_seam, drop-append_seam}
use Rattle.mdb_base.specs.Outside.{Held, Took}
use Rattle.mdb_log.specs.declared.log.Entry.{Entry}
use Rattle.mdb_lines.specs.LogText.{text_of}
use Rattle.mdb_lines.proofs.Loops.{took_nothing}
use Rattle.mdb_recorders.specs.Writing.{Writing, Wrote}

-- nothing was written
pub wrote_none : (w : Writing) → Wrote w w []
wrote_none w = ([], took_nothing w.held, append-nil w.torn)

module _ (held held' : Option Held) (text torn rest : List ℕ) (count : ℕ) (begins : text ≡ torn ++ rest) (took : Took held held' (take count rest)) where
  -- all that was left of the text was written
  pub wrote_all : (es : List Entry) → text ≡ text_of es → length rest ≤ count → Wrote record { held = held; torn = torn } record { held = held'; torn = [] } es
  wrote_all es is all = (take count rest, took, ap (λ (l : List ℕ). torn ++ l) (take_all count rest all) ∙ (sym begins ∙ (is ∙ sym (append-nil (text_of es)))))

  front : take (length torn + count) text ≡ torn ++ take count rest
  front = ap (take (length torn + count)) begins
      ∙ (take-add (length torn) count (torn ++ rest)
      ∙ (ap (λ (l : List ℕ). l ++ take count (drop (length torn) (torn ++ rest))) (take-append_seam torn rest)
      ∙ ap (λ (l : List ℕ). torn ++ take count l) (drop-append_seam torn rest)))

  -- a part of it was written
  pub wrote_front : (torn' : List ℕ) → torn' ≡ take (length torn + count) text → Wrote record { held = held; torn = torn } record { held = held'; torn = torn' } []
  wrote_front torn' is = (take count rest, took, sym (is ∙ front))
