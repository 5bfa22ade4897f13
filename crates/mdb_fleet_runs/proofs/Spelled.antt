-- A line that spells an event is read as that event, and spells no other.
use Rattle.std.proofs.Common.{◌≡◌, ℕ, ◌+◌, ◌<◌, ◌^◌, List, ◌++◌, drop, codes, Some, Result, refl, sym, ap, ◌∙◌, arith}
use Rattle.std.specs.Prelude.{decimal}
use Rattle.std.proofs.lemmas.Fmt.{decimal_injective}
use Rattle.mdb_base.specs.AddressReading.{until, beyond}
use Rattle.mdb_log.specs.declared.step.Step.{Step}
use Rattle.mdb_log.specs.declared.step.Act.{Act}
use Rattle.mdb_log.specs.declared.step.Act.TheVariants.{Collect}
use Rattle.mdb_parts.specs.declared.line_error.LineError.{LineError}
use Rattle.mdb_parts.specs.Reading.{Gives}
use Rattle.mdb_lines.proofs.SameForms.{party_same}
use Rattle.mdb_fleet_runs.specs.declared.event.Event.{Event}
use Rattle.mdb_fleet_runs.specs.declared.event.FleetAct.{FleetAct}
use Rattle.mdb_fleet_runs.specs.declared.event.FleetAct.TheVariants as act
use Rattle.mdb_fleet_runs.specs.EventForms.{act_of, ReadsEvent}
use Rattle.mdb_fleet_runs.specs.Events.{word_of, number_of, SpellsEvent, SpellsCount}

word-until : (a : FleetAct) (rest : List ℕ) → until 32 (word_of a ++ (codes " " ++ rest)) ≡ word_of a
unfolding until
word-until (act.Elect k) rest = refl
word-until (act.StepDown k) rest = refl
word-until (act.Reconf k) rest = refl
word-until (act.Ask k) rest = refl
word-until (act.Deliver i) rest = refl
word-until (act.Lose k) rest = refl

word-beyond : (a : FleetAct) (rest : List ℕ) → beyond 32 (word_of a ++ (codes " " ++ rest)) ≡ codes " " ++ rest
unfolding beyond
word-beyond (act.Elect k) rest = refl
word-beyond (act.StepDown k) rest = refl
word-beyond (act.Reconf k) rest = refl
word-beyond (act.Ask k) rest = refl
word-beyond (act.Deliver i) rest = refl
word-beyond (act.Lose k) rest = refl

named : (a : FleetAct) → act_of (word_of a) (number_of a) ≡ Some a
unfolding act_of
named (act.Elect k) = refl
named (act.StepDown k) = refl
named (act.Reconf k) = refl
named (act.Ask k) = refl
named (act.Deliver i) = refl
named (act.Lose k) = refl

abbrev numbers : Event → List ℕ
numbers e = decimal e.moment ++ (codes " " ++ decimal (number_of e.act))

-- what reading an event's text gives
pub event-read : (line : List ℕ) (e : Event) (r : Result Event LineError) → SpellsEvent line e → ReadsEvent line r → Gives e r
event-read line e r s reads =
    let word : until 32 line ≡ word_of e.act = ap (until 32) s.text ∙ word-until e.act (numbers e) in
    let rest : beyond 32 line ≡ codes " " ++ numbers e = ap (beyond 32) s.text ∙ word-beyond e.act (numbers e) in
    reads e.act e.moment (number_of e.act) s.moment s.number (ap (λ (w : List ℕ). act_of w (number_of e.act)) word ∙ named e.act) rest

some-same : (a b : FleetAct) → Some a ≡ Some b → a ≡ b
some-same a b h = cc

abbrev collects : ℕ → ℕ → Step
collects m n = record { moment = m; act = Collect n }

abbrev collected : Act → ℕ
collected (Collect n) = n
collected _ = 0

step-parts : (m n p q : ℕ) → collects m n ≡ collects p q → (m ≡ p) × (n ≡ q)
step-parts m n p q h = (ap (λ (s : Step). s.moment) h, ap (λ (s : Step). collected s.act) h)

-- a moment and a number are spelled in one way
same-numbers : (m n p q : ℕ) → m < 2 ^ 64 → n < 2 ^ 32 → p < 2 ^ 64 → q < 2 ^ 32 → codes " " ++ (decimal m ++ (codes " " ++ decimal n)) ≡ codes " " ++ (decimal p ++ (codes " " ++ decimal q)) → (m ≡ p) × (n ≡ q)
same-numbers m n p q lm ln lp lq same =
    step-parts m n p q (party_same (λ r. Collect r) m n lm ln p q lp lq same)

-- a line spells one event
pub one-event : (line : List ℕ) (e f : Event) → SpellsEvent line e → SpellsEvent line f → e ≡ f
one-event line e f s t =
    let words : word_of e.act ≡ word_of f.act = sym (word-until e.act (numbers e)) ∙ ap (until 32) (sym s.text ∙ t.text) ∙ word-until f.act (numbers f) in
    let rests : codes " " ++ numbers e ≡ codes " " ++ numbers f = sym (word-beyond e.act (numbers e)) ∙ ap (beyond 32) (sym s.text ∙ t.text) ∙ word-beyond f.act (numbers f) in
    let parts = same-numbers e.moment (number_of e.act) f.moment (number_of f.act) s.moment s.number t.moment t.number rests in
    let acts : Some e.act ≡ Some f.act = sym (named e.act) ∙ ap (λ (w : List ℕ). act_of w (number_of e.act)) words ∙ ap (act_of (word_of f.act)) parts.1 ∙ named f.act in
    ap (λ (m : ℕ). record { moment = m; act = e.act }) parts.0 ∙ ap (λ (a : FleetAct). record { moment = f.moment; act = a }) (some-same e.act f.act acts)

-- a first line spells one number
pub one-count : (line : List ℕ) (n m : ℕ) → SpellsCount line n → SpellsCount line m → n ≡ m
one-count line n m s t =
    decimal_injective n m (omega (arith, s.few)) (omega (arith, t.few)) (ap (λ (xs : List ℕ). drop 6 xs) (sym s.text ∙ t.text))
