-- A step that is raised to another moment is spelled as it was, but for the moment.
use Rattle.std.proofs.Common.{◌≡◌, ℕ, ◌==◌, ◌<◌, ◌^◌, true, false, List, ◌++◌, decimal, codes, refl, sym, ◌∙◌, ap, subst}
use Rattle.std.proofs.lemmas.Bool.{and_parts}
use Rattle.std.proofs.lemmas.List.Folds.{list_all-append}
use Rattle.std.specs.Fmt.{signed_decimal}
use Rattle.mdb_base.specs.Spelling.{address}
use Rattle.mdb_base.specs.ErrorText.{error_text}
use Rattle.mdb_event_reading.proofs.PrintLemmas.{prints, both_print, decimal_prints}
use Rattle.mdb_log.specs.declared.step.Step.{Step}
use Rattle.mdb_log.specs.declared.step.Act.{Act}
use Rattle.mdb_log.specs.declared.step.Act.TheVariants as act
use Rattle.mdb_parts.specs.Parts.{parts_text, addresses}
use Rattle.mdb_lines.specs.Grammar.{is_act, is_open}
use Rattle.mdb_lines.specs.Script.{Spells}
use Rattle.mdb_lines.specs.Spelling.{use_text, established_parts, failed_at_text, hello_text, beaten_text, act_text, spelling}
use Rattle.mdb_turns.specs.Stepping.{raised}

-- another number stands before the rest
again : (m n : ℕ) (rest : List ℕ) → n < 2 ^ 64 → prints (decimal m ++ rest) ≡ true → prints (decimal n ++ rest) ≡ true
again m n rest less h = both_print (decimal n) rest (decimal_prints n less) (and_parts (prints (decimal m)) (prints rest) (sym (list_all-append _ (decimal m) rest) ∙ h)).1

module _ (m n : ℕ) (less : n < 2 ^ 64) where
  still-prints : (does : Act) → is_open does ≡ false → prints (act_text m does) ≡ true → prints (act_text n does) ≡ true
  still-prints (act.Open o) e h = cc
  still-prints (act.Request r a) e h = again m n (codes " " ++ (decimal r ++ (codes " " ++ address a))) less h
  still-prints (act.Warm r a) e h = again m n (codes " " ++ (decimal r ++ (codes " " ++ address a))) less h
  still-prints (act.Collect r) e h = again m n (codes " " ++ decimal r) less h
  still-prints act.Claim e h = decimal_prints n less
  still-prints (act.GiveUp r) e h = again m n (codes " " ++ decimal r) less h
  still-prints (act.Established p c how) e h =
      again m n (codes " " ++ (decimal p ++ (codes " " ++ (decimal c ++ (codes " wire=" ++ (signed_decimal how.wire ++ parts_text (established_parts how))))))) less h
  still-prints (act.Failed p c at error) e h = again m n (codes " " ++ (decimal p ++ (codes " " ++ (decimal c ++ (failed_at_text at ++ (codes " " ++ error_text error)))))) less h
  still-prints (act.Return r used) e h = again m n (codes " " ++ (decimal r ++ (codes " " ++ use_text used))) less h
  still-prints (act.Pin r) e h = again m n (codes " " ++ decimal r) less h
  still-prints (act.Replicate p c) e h = again m n (codes " " ++ (decimal p ++ (codes " " ++ decimal c))) less h
  still-prints (act.Take r p c) e h = again m n (codes " " ++ (decimal r ++ (codes " " ++ (decimal p ++ (codes " " ++ decimal c))))) less h
  still-prints (act.Unpin p c) e h = again m n (codes " " ++ (decimal p ++ (codes " " ++ decimal c))) less h
  still-prints (act.Maintain a) e h = again m n (codes " " ++ address a) less h
  still-prints (act.Expire a) e h = again m n (codes " " ++ address a) less h
  still-prints (act.Error r error) e h = again m n (codes " " ++ (decimal r ++ (codes " " ++ error_text error))) less h
  still-prints (act.Hello a p came) e h = again m n (codes " " ++ (address a ++ (codes " " ++ (decimal p ++ hello_text came)))) less h
  still-prints (act.Beaten a p d came) e h = again m n (codes " " ++ (address a ++ (codes " " ++ (decimal p ++ (codes " " ++ (decimal d ++ beaten_text came)))))) less h
  still-prints (act.Beat a p) e h = again m n (codes " " ++ (address a ++ (codes " " ++ decimal p))) less h
  still-prints (act.Rtt a p d) e h = again m n (codes " " ++ (address a ++ (codes " " ++ (decimal p ++ (codes " " ++ decimal d))))) less h
  still-prints (act.Hosts hosts) e h = again m n (codes " " ++ addresses hosts) less h
  still-prints (act.ClusterTime time) e h = again m n (codes " " ++ decimal time.0) less h
  still-prints (act.Want w) e h = again m n (codes " " ++ decimal w) less h
  still-prints (act.Unwant w) e h = again m n (codes " " ++ decimal w) less h
  still-prints act.Stop e h = decimal_prints n less
  still-prints _ e h = refl

  -- no rule of the grammar but that of the first line reads the moment
  still-allowed : (does : Act) → is_open does ≡ false → is_act m does ≡ true → is_act n does ≡ true
  still-allowed (act.Open o) e h = cc
  still-allowed _ e h = h

-- a later line of a script spells the step, whatever its number and moment
pub raised-spells : (i j m : ℕ) (s t : Step) → Spells i (spelling s) s → (i == 1) ≡ false → (j == 1) ≡ false → t ≡ raised m s → t.moment < 2 ^ 64 → Spells j (spelling t) t
raised-spells i j m s t h first other is less =
    let u : Step = record { moment = t.moment; act = s.act } in
    let same : u ≡ t = ap (λ (does : Act). record { moment = t.moment; act = does }) (sym (ap (λ (x : Step). x.act) is)) in
    let closed : is_open s.act ≡ false = h.place ∙ first in
    let mine : Spells j (spelling u) u = record {
      types = (less, h.types.1);
      rules = still-allowed s.moment t.moment less s.act closed h.rules;
      place = closed ∙ sym other;
      printable = still-prints s.moment t.moment less s.act closed h.printable;
      text = refl;
    } in
    subst (λ (x : Step). Spells j (spelling x) x) same mine
