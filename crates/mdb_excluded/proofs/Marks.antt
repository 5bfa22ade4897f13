-- What facts say of whole pools, by a test of each.
use Rattle.std.proofs.Common.{ℕ, ◌≡◌, ◌==◌, Bool, true, false, ◌||◌, List, [], ◌∷◌, refl, sym, ◌∙◌, ap}
use Rattle.std.specs.List.{list_any}
use Rattle.std.proofs.lemmas.List.Folds.{list_any-append}
use Rattle.mdb_events.specs.declared.cmap.CmapEvent.TheVariants.{PoolCreated, PoolReady, PoolClosed, PoolCleared}
use Rattle.mdb_events.specs.declared.fact.Fact.{Fact}
use Rattle.mdb_events.specs.declared.fact.Fact.TheVariants.{Pool, Raised}
use Rattle.mdb_base.specs.declared.options.Options.{Options}
use Rattle.mdb_log.specs.declared.step.Step.{Step}
use Rattle.mdb_log.specs.declared.reply.Reply.{Reply}
use Rattle.mdb_log.specs.declared.reply.Reply.TheVariants.{Refused}
use Rattle.mdb_log.specs.Answer.{Answer}
use Rattle.mdb_log.specs.History.{Item}
use Rattle.mdb_log.specs.Own.{IsAccepted}
use Rattle.mdb_laws.specs.Causes.{Mark, readied, cleared, mark_of, marks_of, caused}
use Rattle.mdb_laws.specs.Logs.{TellsByReply}
use Rattle.mdb_excluded.specs.Excluded.{makes_ready, clears}

abbrev pub is_readied : ℕ → Mark → Bool
is_readied p (readied q a) = q == p
is_readied p _ = false

abbrev pub is_cleared : ℕ → Mark → Bool
is_cleared p (cleared q service error) = q == p
is_cleared p _ = false

or-none : (b : Bool) → b || false ≡ b
or-none true = refl
or-none false = refl

module _ (u : Mark → Bool) (t : Fact → Bool) (same : (f : Fact) → list_any u (mark_of f) ≡ t f) where
  marked : (facts : List Fact) → list_any u (marks_of facts) ≡ list_any t facts
  marked [] = refl
  marked (f ∷ fs) = list_any-append u (mark_of f) (marks_of fs) ∙ (ap (λ b. b || list_any u (marks_of fs)) (same f) ∙ ap (λ b. t f || b) (marked fs))

-- facts with these marks have what the marks have
pub ready-marks : (p : ℕ) (facts : List Fact) (marks : List Mark) → marks_of facts ≡ marks → list_any (makes_ready p) facts ≡ list_any (is_readied p) marks
ready-marks p facts marks e = let m = marked (is_readied p) (makes_ready p) same facts in let k = ap (list_any (is_readied p)) e in cc
  where
    same : (f : Fact) → list_any (is_readied p) (mark_of f) ≡ makes_ready p f
    same (Pool q (PoolReady e)) = or-none (q == p)
    same _ = refl

pub cleared-marks : (p : ℕ) (facts : List Fact) (marks : List Mark) → marks_of facts ≡ marks → list_any (clears p) facts ≡ list_any (is_cleared p) marks
cleared-marks p facts marks e = let m = marked (is_cleared p) (clears p) same facts in let k = ap (list_any (is_cleared p)) e in cc
  where
    same : (f : Fact) → list_any (is_cleared p) (mark_of f) ≡ clears p f
    same (Raised q service error) = or-none (q == p)
    same (Pool q (PoolCreated e)) = refl
    same (Pool q (PoolReady e)) = refl
    same (Pool q (PoolClosed e)) = refl
    same (Pool q (PoolCleared e)) = refl
    same (Pool q _) = refl
    same _ = refl

-- an answer that tells its causes, whatever its reply, has no more marks than they give
module _ (o : Options) (h : List Item) (step : Step) (a : Answer) where
  pub clears-told : (p : ℕ) (r : Reply) → TellsByReply o h step a r → list_any (clears p) a.facts ≡ true → list_any (is_cleared p) (caused o h step) ≡ true
  clears-told p (Refused why) t some = let e : list_any (clears p) a.facts ≡ false = ap (list_any (clears p)) t in let w : true ≡ false = sym some ∙ e in cc
  clears-told p _ t some = sym (cleared-marks p a.facts (caused o h step) t.marks_are) ∙ some

  -- and no fewer, where it is accepted
  pub ready-told : (p : ℕ) (r : Reply) → IsAccepted r → TellsByReply o h step a r → list_any (makes_ready p) a.facts ≡ false → list_any (is_readied p) (caused o h step) ≡ false
  ready-told p (Refused why) i t none = absurd i
  ready-told p _ i t none = sym (ready-marks p a.facts (caused o h step) t.marks_are) ∙ none
