-- Entries that are written in two parts are written.
use Rattle.std.proofs.Common.{ℕ, List, ◌++◌, ◌∙◌, ap, sym, append_assoc}
use Rattle.std.proofs.lemmas.Grind.{flat_map-append}
use Rattle.mdb_log.specs.declared.log.Entry.{Entry}
use Rattle.mdb_lines.specs.LogText.{text_of, text_of_entry}
use Rattle.mdb_lines.proofs.Loops.{took_more}
use Rattle.mdb_recorders.specs.Writing.{Writing, Wrote}

pub wrote_both : (first then last : Writing) (xs ys : List Entry) → Wrote first then xs → Wrote then last ys → Wrote first last (xs ++ ys)
wrote_both first then last xs ys p q = (
  p.0 ++ q.0,
  took_more first.held then.held last.held p.0 q.0 p.1 q.1,
  sym (append_assoc first.torn p.0 q.0)
      ∙ (ap (λ (l : List ℕ). l ++ q.0) p.2
      ∙ (append_assoc (text_of xs) then.torn q.0
      ∙ (ap (λ (l : List ℕ). text_of xs ++ l) q.2
      ∙ (sym (append_assoc (text_of xs) (text_of ys) last.torn)
      ∙ ap (λ (l : List ℕ). l ++ last.torn) (sym (flat_map-append text_of_entry xs ys)))))),
)
