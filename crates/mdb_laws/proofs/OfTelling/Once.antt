-- An outcome is told once: the number of a request is new when it is made, and whoever asks later finds it open.
use Rattle.std.proofs.Common.{ℕ, ◌≡◌, ◌≤◌, ◌+◌, ◌==◌, Bool, true, false, not, ◌&&◌, ◌||◌, if◌then◌else◌, List, [], ◌∷◌, Option, Some, None, is_some, refl, subst, arith}
use Rattle.mdb_base.specs.declared.options.Options.{Options}
use Rattle.mdb_events.specs.declared.fact.Fact.{Fact}
use Rattle.mdb_log.specs.declared.step.Step.{Step}
use Rattle.mdb_log.specs.declared.step.Act.{Act}
use Rattle.mdb_log.specs.declared.step.Act.TheVariants as Do
use Rattle.mdb_log.specs.declared.reply.Refused.{Refused}
use Rattle.mdb_log.specs.declared.reply.Refused.TheVariants.{UnknownServer, RequestKnown, UnknownRequest}
use Rattle.mdb_log.specs.declared.reply.Reply.{Reply}
use Rattle.mdb_log.specs.declared.reply.Reply.TheVariants.{Refused as RefusedBy}
use Rattle.mdb_log.specs.History.{Item, did, made, open_pool, with_facts, with_answer}
use Rattle.mdb_log.specs.Requests.{told, asks_how, is_outcome, is_open, some_act, was_asked, names_party, leaves}
use Rattle.mdb_pool_rules.specs.Refusal.{first_row}
use Rattle.mdb_driver_rules.specs.Answer.{answer, answered}
use Rattle.mdb_driver_rules.specs.Facts.{step_facts}
use Rattle.mdb_driver_rules.specs.Refusal.{refusal, rows_of}
use Rattle.mdb_laws.proofs.OfTelling.Accepted.{row-fails, second-fails, passes-rows}

-- The outcome of the request was told once at most, and never before its number was used.
pub record Once (h : List Item) (r : ℕ) : Type 0 where
  pub once : told h r ≤ 1
  pub new : some_act names_party h r ≡ false → told h r ≡ 0

pub none-yet : (r : ℕ) → Once [] r
none-yet r = record { once = omega arith; new = λ e. refl }

-- facts tell nobody
once-facts : (m : ℕ) (fs : List Fact) (h : List Item) (r : ℕ) → Once h r → Once (with_facts m fs h) r
once-facts m [] h r i = i
once-facts m (f ∷ fs) h r i = once-facts m fs (made m f ∷ h) r (record { once = i.once; new = i.new })

-- who asked used up the number
asking-names : (act : Act) (r : ℕ) → was_asked act r ≡ true → names_party act r ≡ true
asking-names (Do.Request q a) r e = e
asking-names (Do.Warm q a) r e = e
asking-names _ r e = cc

asked-named : (h : List Item) (r : ℕ) → some_act was_asked h r ≡ true → some_act names_party h r ≡ true
asked-named [] r e = e
asked-named (made m fact ∷ h) r e = asked-named h r e
asked-named (did step reply ∷ h) r e = either (was_asked step.act r) (some_act was_asked h r) (names_party step.act r) (some_act names_party h r) (asking-names step.act r) (asked-named h r) e
  where
    either : (a b c d : Bool) → (a ≡ true → c ≡ true) → (b ≡ true → d ≡ true) → a || b ≡ true → c || d ≡ true
    either true b c d f g k = let z : c ≡ true = f refl in grind arith
    either false b c d f g k = let z : d ≡ true = g k in grind arith

-- What is told when a step asks how the request stands: nothing was told before, and its number is used then.
abbrev IsNew : List Item → Act → ℕ → Type 0
IsNew h act r = (told h r ≡ 0) × (names_party act r || some_act names_party h r ≡ true)

module _ (o : Options) (h : List Item) (r : ℕ) (i : Once h r) where
  unnamed : (q : ℕ) → q == r ≡ true → some_act names_party h q ≡ false → told h r ≡ 0
  unnamed q same e = let f : q ≡ r = grind arith in i.new (subst (λ k. some_act names_party h k ≡ false) f e)

  opened : (a b c d : Bool) → not (a && (b && c)) ≡ false → (a ≡ true) × (b ≡ true)
  opened true true true d e = (refl, refl)
  opened _ _ _ d e = cc

  asks-new : (act : Act) → first_row (rows_of o h act) ≡ None → asks_how act r ≡ true → IsNew h act r
  asks-new (Do.Request q a) e same = (unnamed q same (second-fails (not (is_some (open_pool h a))) (some_act names_party h q) UnknownServer RequestKnown e), grind arith)
  asks-new (Do.Warm q a) e same = (unnamed q same (second-fails (not (is_some (open_pool h a))) (some_act names_party h q) UnknownServer RequestKnown e), grind arith)
  asks-new (Do.Collect q) e same = collected (row-fails (not (is_open h q)) UnknownRequest [] e).0
    where
      collected : not (is_open h q) ≡ false → IsNew h (Do.Collect q) r
      collected n =
          let f : q ≡ r = grind arith in
          let k : not (is_open h r) ≡ false = subst (λ x. not (is_open h x) ≡ false) f n in
          let both = opened (some_act was_asked h r) (told h r == 0) (not (some_act leaves h r)) true k in
          let none : told h r ≡ 0 = let z : told h r == 0 ≡ true = both.1 in grind arith in
          (none, asked-named h r both.0)
  asks-new _ e same = cc

  tells-once : (a t n s : Bool) (k : ℕ) → (a ≡ true → (k ≡ 0) × (n || s ≡ true)) → k ≤ 1 → (s ≡ false → k ≡ 0) → ((if a && t then k + 1 else k) ≤ 1) × (n || s ≡ false → (if a && t then k + 1 else k) ≡ 0)
  tells-once false t n s k f g z = (g, λ e. z (unused n s e))
    where
      unused : (n s : Bool) → n || s ≡ false → s ≡ false
      unused false s e = e
      unused true s e = cc
  tells-once true false n s k f g z = (g, λ e. (f refl).0)
  tells-once true true n s k f g z = let w : k ≡ 0 = (f refl).0 in (omega (arith, w), λ e. let u : n || s ≡ true = (f refl).1 in cc)

  once-did : (step : Step) (reply : Reply) → refusal o h step ≡ None → Once (did step reply ∷ h) r
  once-did step reply e =
      let both = tells-once (asks_how step.act r) (is_outcome reply) (names_party step.act r) (some_act names_party h r) (told h r) (asks-new step.act (passes-rows o h step e)) i.once i.new in
      record { once = both.0; new = both.1 }

  once-accepted : (step : Step) (reply : Reply) (fs : List Fact) → refusal o h step ≡ None → Once (with_answer step reply fs h) r
  once-accepted step (RefusedBy why) fs e = i
  once-accepted step _ fs e = once-facts step.moment fs _ r (once-did step _ e)

  once-answered : (step : Step) (why : Option Refused) (fs : List Fact) → refusal o h step ≡ why → Once (with_answer step (answered o h step why fs).reply (answered o h step why fs).facts h) r
  once-answered step (Some why) fs e = i
  once-answered step None fs e = once-accepted step (answered o h step None fs).reply (answered o h step None fs).facts e

  -- an answer keeps it so
  pub once-answer : (step : Step) → Once (with_answer step (answer o h step).reply (answer o h step).facts h) r
  once-answer step = once-answered step (refusal o h step) (step_facts o h step) refl
