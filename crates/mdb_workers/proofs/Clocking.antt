-- What the steps of a tick add up to.
use Rattle.std.proofs.Common.{◌≡◌, ℕ, List, [], ◌∷◌, ◌++◌, Result, Ok, Err, OnOk, OnErr, sym, subst, ap, ◌∙◌, append_assoc, append-nil}
use Rattle.mdb_base.specs.declared.address.ServerAddress.{ServerAddress}
use Rattle.mdb_describe.specs.declared.topology.TopologyDescription.{TopologyDescription}
use Rattle.mdb_log.specs.Acts.{IsDriverAct}
use Rattle.mdb_log.specs.declared.log.Entry.{Entry}
use Rattle.mdb_log.specs.declared.step.Act.{Act}
use Rattle.mdb_log.specs.declared.step.Act.TheVariants.{Expire, Maintain}
use Rattle.mdb_turns.specs.Stepping.{SeatView}
use Rattle.mdb_shared.specs.Seats.{Each}
use Rattle.mdb_log.specs.Driver.{StartsWith}
use Rattle.mdb_workers.specs.Making.{InOrder, InOrderWhen, Made, MadeAt, MadeWhen}
use Rattle.mdb_workers.specs.Ticking.{AreDue, BothDue, IsDueAct, KeptTime, TickedBy, TickedInPart, Ticked, addresses_of}
use Rattle.mdb_workers.proofs.Adding.{each_more, found_then, starts_then, made_none_at, made_then_at, made_seen}

due_more : (addresses : List ServerAddress) (es : List Entry) (a : ServerAddress) (e f : Entry) → AreDue addresses es → e.step.act ≡ Expire a → f.step.act ≡ Maintain a → AreDue (addresses ++ a ∷ []) (es ++ e ∷ f ∷ [])
due_more [] [] a e f h first second = (first, second, tt)
due_more [] (x ∷ es) a e f h first second = absurd h
due_more (b ∷ rest) [] a e f h first second = absurd h
due_more (b ∷ rest) (x ∷ []) a e f h first second = absurd h
due_more (b ∷ rest) (x ∷ y ∷ es) a e f h first second = (h.0, h.1, due_more rest es a e f h.2 first second)

all_due : (addresses : List ServerAddress) (es : List Entry) → AreDue addresses es → Each (λ e. IsDueAct e.step.act) es
all_due [] [] h = tt
all_due [] (x ∷ es) h = absurd h
all_due (b ∷ rest) [] h = absurd h
all_due (b ∷ rest) (x ∷ []) h = absurd h
all_due (b ∷ rest) (x ∷ y ∷ es) h = (subst IsDueAct (sym h.0) tt, (subst IsDueAct (sym h.1) tt, all_due rest es h.2))

-- what is due may be stepped
pub due_driver : (act : Act) → IsDueAct act → IsDriverAct act
due_driver (Expire a) d = tt
due_driver (Maintain a) d = tt
due_driver _ d = absurd d

module _ {T : Type 0} (stands : T → List Entry → Type 0) (moment : ℕ) where
  -- one step of the clock
  abbrev pub OneDue : SeatView → SeatView → Act → Type 0
  OneDue s s' act = (e : Entry) × (e.step.act ≡ act) × MadeAt stands moment s s' (e ∷ [])

  pub both_due : (a : ServerAddress) (s t u : SeatView) → OneDue s t (Expire a) → OneDue t u (Maintain a) → BothDue stands moment a s u
  both_due a s t u one two = (one.0, two.0, one.1, two.1, made_then_at stands moment s t u (one.0 ∷ []) (two.0 ∷ []) one.2 two.2)

  pub none_due : (s t : SeatView) → Made stands s t [] → TickedInPart stands moment s t
  none_due s t none = ([], tt, none)

  pub first_due : (a : ServerAddress) (s t u : SeatView) → OneDue s t (Expire a) → Made stands t u [] → TickedInPart stands moment s u
  first_due a s t u one none = (one.0 ∷ [], (subst IsDueAct (sym one.1) tt, tt), made_then_at stands moment s t u (one.0 ∷ []) [] one.2 none)

  pub ticked_none : (s : SeatView) → TickedBy stands moment [] s s
  ticked_none s = ([], tt, made_none_at stands moment s)

  module _ (addresses : List ServerAddress) (s t u : SeatView) (so : TickedBy stands moment addresses s t) where
    pub ticked_more : (a : ServerAddress) → BothDue stands moment a t u → TickedBy stands moment (addresses ++ a ∷ []) s u
    ticked_more a two = (so.0 ++ two.0 ∷ two.1 ∷ [], due_more addresses so.0 a two.0 two.1 so.1 two.2 two.3, made_then_at stands moment s t u so.0 (two.0 ∷ two.1 ∷ []) so.2 two.4)

    -- there was no memory for the rest
    pub ticked_so_far : TickedInPart stands moment t u → TickedInPart stands moment s u
    ticked_so_far part = (so.0 ++ part.0, each_more (λ (e : Entry). IsDueAct e.step.act) so.0 part.0 (all_due addresses so.0 so.1) part.1, made_then_at stands moment s t u so.0 part.0 so.2 part.2)

  pub ticked_all : (described : List Entry → TopologyDescription) (s t u : SeatView) (addresses : List ServerAddress) → Made stands s t [] → addresses ≡ addresses_of (described t.seen) → TickedBy stands moment addresses t u → Ticked stands described moment s u
  ticked_all described s t u addresses saw are by = (
    t.seen,
    made_seen stands 0 s t [] saw,
    made_seen stands moment t u by.0 by.2,
    (by.0, subst (λ (l : List ServerAddress). AreDue l by.0) are by.1, made_then_at stands moment s t u [] by.0 saw by.2),
  )

  pub ticked_part : (s t u : SeatView) → Made stands s t [] → TickedInPart stands moment t u → TickedInPart stands moment s u
  ticked_part s t u saw by = (by.0, by.1, made_then_at stands moment s t u [] by.0 saw by.2)

-- ---- a clock that keeps time

module _ {T : Type 0} (stands : T → List Entry → Type 0) (When : ℕ → Type 0) where
  when_from : (n : ℕ) (a b c es : List Entry) → StartsWith b a → InOrderWhen stands When n b es c → InOrderWhen stands When n a es c
  when_from n a b c [] f h = starts_then a b c f h
  when_from n a b c (e ∷ es) f h = (h.0, starts_then a b h.0 f h.1, h.2, h.3)

  when_then : (n : ℕ) (a b c es fs : List Entry) → InOrderWhen stands When n a es b → InOrderWhen stands When n b fs c → InOrderWhen stands When n a (es ++ fs) c
  when_then n a b c [] fs h k = when_from n a b c fs h k
  when_then n a b c (e ∷ es) fs h k = (h.0, h.1, h.2, when_then n (h.0 ++ e ∷ []) b c es fs h.3 k)

  -- what was made at one moment of the kind was made at moments of the kind
  when_at : (moment : ℕ) → When moment → (n : ℕ) (a c es : List Entry) → InOrder stands moment n a es c → InOrderWhen stands When n a es c
  when_at moment is n a c [] h = h
  when_at moment is n a c (e ∷ es) h = (h.0, h.1, (moment, is, h.2), when_at moment is n (h.0 ++ e ∷ []) c es h.3)

  made_when : (moment : ℕ) → When moment → (s t u : SeatView) (es fs : List Entry) → MadeWhen stands When s t es → MadeAt stands moment t u fs → MadeWhen stands When s u (es ++ fs)
  made_when moment is s t u es fs f g = (
    g.0 ∙ f.0,
    g.1 ∙ f.1,
    when_then s.number s.seen t.seen u.seen es fs f.2 (subst (λ (n : ℕ). InOrderWhen stands When n t.seen fs u.seen) f.1 (when_at moment is t.number t.seen u.seen fs g.2)),
    g.3 ∙ (ap (λ (l : List Entry). l ++ fs) f.3 ∙ append_assoc s.mine es fs),
    found_then s t u f.1 f.4 g.4,
  )

  -- no tick yet
  pub kept_none : (s : SeatView) → KeptTime stands When s s
  kept_none s = let none = made_none_at stands 0 s in ([], tt, (none.0, none.1, none.2, none.3, none.4))

  made_saw_when : (s t u : SeatView) (es : List Entry) → MadeWhen stands When s t es → Made stands t u [] → MadeWhen stands When s u es
  made_saw_when s t u es f g = (
    g.0 ∙ f.0,
    g.1 ∙ f.1,
    subst (λ (l : List Entry). InOrderWhen stands When s.number s.seen l u.seen) (append-nil es) (when_then s.number s.seen t.seen u.seen es [] f.2 g.2),
    g.3 ∙ (append-nil t.mine ∙ f.3),
    found_then s t u f.1 f.4 g.4,
  )

  -- a look after the ticks
  pub kept_saw : (s t u : SeatView) → KeptTime stands When s t → Made stands t u [] → KeptTime stands When s u
  kept_saw s t u so saw = (so.0, so.1, made_saw_when s t u so.0 so.2 saw)

  kept_part : (moment : ℕ) → When moment → (s t u : SeatView) → KeptTime stands When s t → TickedInPart stands moment t u → KeptTime stands When s u
  kept_part moment is s t u so part = (so.0 ++ part.0, each_more (λ (e : Entry). IsDueAct e.step.act) so.0 part.0 so.1 part.1, made_when moment is s t u so.0 part.0 so.2 part.2)

  -- one tick more, whole or in part
  pub kept_more : {A E : Type 0} (described : List Entry → TopologyDescription) (moment : ℕ) → When moment → (s t u : SeatView) (r : Result A E) → KeptTime stands When s t → OnOk r (Ticked stands described moment t u) → OnErr r (TickedInPart stands moment t u)
      → KeptTime stands When s u
  kept_more described moment is s t u (Ok done) so whole part =
      let by = whole.3 in kept_part moment is s t u so (by.0, all_due (addresses_of (described whole.0)) by.0 by.1, by.2)
  kept_more described moment is s t u (Err why) so whole part = kept_part moment is s t u so part
