-- The lines are taken one after the other.
use Rattle.std.proofs.Common.{◌≡◌, ◌<◌, ℕ, ◌+◌, ◌==◌, Bool, true, false, if◌then◌else◌, List, [], ◌∷◌, ◌++◌, length, codes, refl, sym, ap, ◌∙◌, subst, arith, append_assoc}
use Rattle.std.proofs.lemmas.List.{append-nil}
use Rattle.mdb_base.specs.AddressReading.{beyond}
use Rattle.mdb_lines.specs.Script.{lines_of}
use Rattle.mdb_recordings.specs.declared.standard.Standard.{Standard}
use Rattle.mdb_recording_lines.specs.LineForms.{said}
use Rattle.mdb_recording_runs.specs.Cutting.{CutsFirst, without_newline}
use Rattle.mdb_recording_runs.specs.Keeping.{Keeps}
use Rattle.mdb_recording_runs.specs.Report.{Read, after_said, said_text, after_lines, lines_text, nothing, read_of}
use Rattle.mdb_recording_runs.specs.declared.reader.Reader.{Reader}

-- a line is what stands before its newline
cut-newline : (line : List ℕ) → without_newline (line ++ codes "\n") ≡ line
cut-newline [] = refl
cut-newline (b ∷ []) = refl
cut-newline (b ∷ (c ∷ bs)) = ap (λ xs. b ∷ xs) (cut-newline (c ∷ bs))

-- bytes of which none is a newline
none-behind : (b : ℕ) (bs : List ℕ) → beyond 10 (b ∷ bs) ≡ [] → ((b == 10) ≡ false) × (beyond 10 bs ≡ [])
unfolding beyond
none-behind b bs none = go (b == 10) refl none
  where
    go : (t : Bool) → (b == 10) ≡ t → (if t then b ∷ bs else beyond 10 bs) ≡ [] → ((b == 10) ≡ false) × (beyond 10 bs ≡ [])
    go true e n = absurd (cc)
    go false e n = (e, n)

-- what has no newline stays as it is
no-newline : (line : List ℕ) → beyond 10 line ≡ [] → without_newline line ≡ line
no-newline [] none = refl
no-newline (b ∷ []) none = ap (λ t. if t then [] else b ∷ []) (none-behind b [] none).0
no-newline (b ∷ (c ∷ bs)) none = ap (λ xs. b ∷ xs) (no-newline (c ∷ bs) (none-behind b (c ∷ bs) none).1)

-- What was taken so far, and the lines that are left, come to what all lines do.
pub record LinesLeft (standard : Standard) (text rest : List ℕ) (n : ℕ) (reader : Reader) : Type 0 where
  pub read : Read
  pub told : List ℕ
  pub keeps : Keeps standard read told reader
  pub reads : after_lines standard (n + 1) read (lines_of rest) ≡ read_of standard text
  pub tells : told ++ lines_text standard (n + 1) read (lines_of rest) ≡ lines_text standard 1 nothing (lines_of text)

pub lines-start : (standard : Standard) (text : List ℕ) (reader : Reader) → Keeps standard nothing [] reader → LinesLeft standard text text 0 reader
lines-start standard text reader keeps = record { read = nothing; told = []; keeps = keeps; reads = refl; tells = refl }

-- one line more
pub line-more : (standard : Standard) (text rest more line : List ℕ) (n k : ℕ) (old new : Reader) → k ≡ n + 1 → CutsFirst rest line more
    → ((s : Read) (told : List ℕ) → Keeps standard s told old → Keeps standard (after_said standard k s (said line)) (told ++ said_text standard k s (said line)) new)
    → LinesLeft standard text rest n old → LinesLeft standard text more k new
line-more standard text rest more line n k old new next cut take left = record {
  read = after_said standard k left.read (said line);
  told = left.told ++ said_text standard k left.read (said line);
  keeps = take left.read left.told left.keeps;
  reads =
      ap (λ l. after_lines standard (k + 1) (after_said standard k left.read (said l)) (lines_of more)) (sym cut.own)
      ∙ ap (λ m. after_lines standard m left.read (cut.whole ∷ lines_of more)) next
      ∙ ap (λ ls. after_lines standard (n + 1) left.read ls) (sym cut.lines) ∙ left.reads;
  tells =
      append_assoc left.told (said_text standard k left.read (said line)) (lines_text standard (k + 1) (after_said standard k left.read (said line)) (lines_of more))
      ∙ ap (λ l. left.told ++ (said_text standard k left.read (said l) ++ lines_text standard (k + 1) (after_said standard k left.read (said l)) (lines_of more))) (sym cut.own)
      ∙ ap (λ m. left.told ++ lines_text standard m left.read (cut.whole ∷ lines_of more)) next
      ∙ ap (λ ls. left.told ++ lines_text standard (n + 1) left.read ls) (sym cut.lines) ∙ left.tells;
}

-- a line with its newline
pub cuts-next : (text line behind : List ℕ) → lines_of text ≡ (line ++ codes "\n") ∷ lines_of behind → length behind < length text → CutsFirst text line behind
cuts-next text line behind cut shorter = record { whole = line ++ codes "\n"; lines = cut; own = cut-newline line; shorter = shorter }

-- the last line, which has no newline
pub cuts-last : (text : List ℕ) → lines_of text ≡ text ∷ [] → beyond 10 text ≡ [] → 0 < length text → CutsFirst text text []
unfolding lines_of
cuts-last text cut none some = record { whole = text; lines = cut; own = no-newline text none; shorter = some }

-- no line is left
pub lines-end : (standard : Standard) (text rest : List ℕ) (n : ℕ) (reader : Reader) → length rest ≡ 0 → LinesLeft standard text rest n reader → Keeps standard (read_of standard text) (lines_text standard 1 nothing (lines_of text)) reader
unfolding lines_of
lines-end standard text [] n reader none left = subst (λ s. Keeps standard s (lines_text standard 1 nothing (lines_of text)) reader) left.reads (subst (λ t. Keeps standard left.read t reader) (sym (append-nil left.told) ∙ left.tells) left.keeps)
lines-end standard text (b ∷ bs) n reader none left = absurd (omega (arith, none))
