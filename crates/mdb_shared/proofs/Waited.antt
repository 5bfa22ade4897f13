-- What a seat knows and has seen after tries that found the turn taken.
use Rattle.std.proofs.Common.{◌≡◌, ℕ, ◌+◌, ◌≢◌, List, [], ◌∷◌, ◌++◌, sym, ap, ◌∙◌, subst, append_assoc, append-nil}
use Rattle.mdb_log.specs.declared.log.Entry.{Entry}
use Rattle.mdb_log.specs.declared.reply.Reply.{Reply}
use Rattle.mdb_log.specs.declared.step.Step.{Step}
use Rattle.mdb_log.specs.Driver.{StartsWith, IsEntry}
use Rattle.mdb_turns.specs.Stepping.{SeatView, Stepped, OnlySaw, raised, last_in}
use Rattle.mdb_shared.specs.Seats.{Each, FoundBusy}

-- nothing but `busy` has changed
abbrev pub Waited : SeatView → SeatView → Type 0
Waited s s' = (s'.driver ≡ s.driver) × (s'.number ≡ s.number) × (s'.seen ≡ s.seen) × (s'.mine ≡ s.mine)

module _ {T : Type 0} where
  pub stepped_after : (stands : T → List Entry → Type 0) (s t u : SeatView) (step now : Step) (reply : Reply) → Waited s t → now ≡ step → Stepped stands t u now reply → Stepped stands s u step reply
  stepped_after stands s t u step now reply w is done =
      subst (λ (x : ℕ × List Entry × List Entry × Step). (before : List Entry) × (e : Entry) × StartsWith before x.1 × IsEntry x.0 (raised (last_in before) x.3) reply e × (u.seen ≡ before ++ e ∷ []) × (u.mine ≡ x.2 ++ e ∷ []) × ((core : T) × stands core u.seen))
      (λ i. (w.1 i, w.2 i, w.3 i, is i)) done

pub saw_after : (s t u : SeatView) → Waited s t → OnlySaw t u → OnlySaw s u
saw_after s t u w saw = (subst (λ (l : List Entry). StartsWith u.seen l) w.2 saw.0, saw.1 ∙ w.3)

-- the turn words that failed tries found

pub found_nothing : (s : SeatView) → FoundBusy s s
found_nothing s = ([], sym (append-nil s.busy), tt)

each_push : {X : Type 0} (P : X → Type 0) (xs : List X) (x : X) → Each P xs → P x → Each P (xs ++ x ∷ [])
each_push P [] x h p = (p, tt)
each_push P (y ∷ xs) x h p = (h.0, each_push P xs x h.1 p)

pub found_more : (s t u : SeatView) (word : ℕ) → FoundBusy s t → t.number ≡ s.number → word ≢ 0 → word ≢ t.number + 1 → u.busy ≡ t.busy ++ word ∷ [] → FoundBusy s u
found_more s t u word f same taken other is = (
  f.0 ++ word ∷ [],
  is ∙ (ap (λ (l : List ℕ). l ++ word ∷ []) f.1 ∙ append_assoc s.busy f.0 (word ∷ [])),
  each_push (λ (w : ℕ). (w ≢ 0) × (w ≢ s.number + 1)) f.0 word f.2 (taken, λ e. other (e ∙ ap (λ (n : ℕ). n + 1) (sym same))),
)

pub found_as : (s t u : SeatView) → FoundBusy s t → u.busy ≡ t.busy → FoundBusy s u
found_as s t u f is = (f.0, is ∙ f.1, f.2)
