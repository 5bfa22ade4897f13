-- What an accepted act leaves as it was: the pools that it does not concern.
use Rattle.std.proofs.Common.{ℕ, ◌≡◌, ◌≢◌, ◌==◌, Bool, true, false, not, List, [], ◌∷◌, Option, Some, None, is_some, refl, sym, ◌∙◌, subst, arith}
use Rattle.std.specs.Prelude.{find}
use Rattle.std.specs.List.{list_any}
use Rattle.mdb_base.specs.declared.options.Options.{Options}
use Rattle.mdb_log.specs.declared.step.Step.{Step}
use Rattle.mdb_log.specs.declared.step.Act.{Act}
use Rattle.mdb_log.specs.declared.step.Act.TheVariants as Do
use Rattle.mdb_log.specs.declared.step.FailedAt.TheVariants.{Pre, Post}
use Rattle.mdb_log.specs.declared.reply.Reply.TheVariants.{Done as DoneReply}
use Rattle.mdb_log.specs.declared.reply.Refused.TheVariants.{NotHolder, PinState}
use Rattle.mdb_log.specs.History.{Item, did, PoolItem, if_so, is_number, of_pool, open_pool, after_act, given, has_asked, has_party}
use Rattle.mdb_log.specs.Connections.{holding}
use Rattle.mdb_log.specs.Homes.{Home, homes}
use Rattle.mdb_log.proofs.Frame.{asked-party, no-party-asked}
use Rattle.mdb_pool_rules.specs.Refusal.{first_row}
use Rattle.mdb_pool_rules.proofs.FirstRow.{first-passes, one-passes}
use Rattle.mdb_pool_rules.specs.Rested.{Rested}
use Rattle.mdb_driver_rules.specs.Homes.{concerns, home_of}
use Rattle.mdb_driver_rules.specs.Refusal.{rows_of, homeless, holds_pinned}
use Rattle.mdb_histories.specs.SoundHistory.{SoundHistory, MayCome, was_opened}
use Rattle.mdb_histories.proofs.Parties.{each-sound, apart, number-one, equal-one}
use Rattle.mdb_histories.proofs.Opened.{unopened-empty}
use Rattle.mdb_histories.proofs.Begins.{given-at}
use Rattle.mdb_histories.proofs.Steps.{given-party}
use Rattle.mdb_histories.proofs.Accepted.{only-there, step-comes}

-- where none of the pools passes a test, the one with a number doesn't
pub find-none : (test : ℕ → Bool) (hs : List Home) (p : ℕ) → find (λ x. test x.number) hs ≡ None → list_any (λ y. y.number == p) hs ≡ true → test p ≡ false
find-none test [] p e f = cc
find-none test (x ∷ hs) p e f = on (test x.number) (x.number == p) refl refl (find-none test hs p)
  where
    on : (b c : Bool) → test x.number ≡ b → (x.number == p) ≡ c → (find (λ y. test y.number) hs ≡ None → list_any (λ y. y.number == p) hs ≡ true → test p ≡ false) → test p ≡ false
    on true c g k deeper = let w : ◌≡◌ {A = Option Home} (Some x) None = sym (rw g refl) ∙ e in cc
    on false true g k deeper = let same : x.number ≡ p = grind arith in subst (λ n. test n ≡ false) same g
    on false false g k deeper = deeper (sym (rw g refl) ∙ e) (sym (rw k refl) ∙ f)

module _ (o : Options) (h : List Item) (s : SoundHistory h) (rest : (p : ℕ) → Rested (of_pool p h)) (m : ℕ) where
  none : (p : ℕ) (b : Bool) (x : PoolItem) → b ≡ false → if_so b x (of_pool p h) ≡ of_pool p h
  none p b x e = rw e refl

  absent : (p : ℕ) (act : Act) (b : Bool) → (b ≡ true → concerns h act p ≡ true) → concerns h act p ≡ false → b ≡ false
  absent p act true f e = let w : concerns h act p ≡ true = f refl in cc
  absent p act false f e = refl

  -- where it does not concern the pool
  alike-when : (act : Act) → first_row (rows_of o h act) ≡ None → (p : ℕ) → concerns h act p ≡ false → after_act p (open_pool h) m act (of_pool p h) ≡ of_pool p h
  alike-when (Do.Request r a) f p e = none p (is_number (open_pool h a) p) _ e
  alike-when (Do.Warm r a) f p e = none p (is_number (open_pool h a) p) _ e
  alike-when (Do.GiveUp r) f p e = none p (has_asked (of_pool p h) r) _ e
  alike-when (Do.Established q c how) f p e = none p (q == p) _ e
  alike-when (Do.Failed q c Pre error) f p e = none p (q == p) _ e
  alike-when (Do.Failed q c (Post service) error) f p e = none p (q == p) _ e
  alike-when (Do.Return r used) f p e =
      let w : not (is_some (home_of h (Do.Return r used))) ≡ false = one-passes (homeless h (Do.Return r used)) NotHolder f in
      none p (is_some (given (of_pool p h) r)) _ (absent p (Do.Return r used) (is_some (given (of_pool p h) r)) (only-there o h s rest (Do.Return r used) r (λ q. refl) (home_of h (Do.Return r used)) refl w p) e)
  alike-when (Do.Pin r) f p e =
      let w : not (is_some (home_of h (Do.Pin r))) ≡ false = (first-passes (homeless h (Do.Pin r)) NotHolder ((holds_pinned h (home_of h (Do.Pin r)) r, PinState) ∷ []) f).0 in
      none p (is_some (given (of_pool p h) r)) _ (absent p (Do.Pin r) (is_some (given (of_pool p h) r)) (only-there o h s rest (Do.Pin r) r (λ q. refl) (home_of h (Do.Pin r)) refl w p) e)
  alike-when (Do.Replicate q c) f p e = none p (q == p) _ e
  alike-when (Do.Take r q c) f p e = none p (q == p) _ e
  alike-when (Do.Unpin q c) f p e = none p (q == p) _ e
  alike-when _ f p e = refl

  -- where it concerns none
  pub alike-none : (step : Step) → step.moment ≡ m → first_row (rows_of o h step.act) ≡ None → home_of h step.act ≡ None → (p : ℕ) → after_act p (open_pool h) m step.act (of_pool p h) ≡ of_pool p h
  alike-none step same f e p = on (was_opened h p) refl
    where
      on : (b : Bool) → was_opened h p ≡ b → after_act p (open_pool h) m step.act (of_pool p h) ≡ of_pool p h
      on true g = alike-when step.act f p (find-none (concerns h step.act) (homes h) p e g)
      on false g =
          let come : MayCome h (did step DoneReply) = step-comes o h s rest step DoneReply f in
          let after : of_pool p (did step DoneReply ∷ h) ≡ [] = unopened-empty (did step DoneReply ∷ h) (come, s) p g in
          subst (λ n. after_act p (open_pool h) n step.act (of_pool p h) ≡ []) same after ∙ sym (unopened-empty h s p g)

  -- where it concerns another
  module _ (x : Home) (p : ℕ) (ne : x.number ≢ p) where
    no-party : (r : ℕ) → has_party (of_pool x.number h) r ≡ true → has_party (of_pool p h) r ≡ false
    no-party r e = apart h s r x.number p ne e

    none-given : (r : ℕ) → is_some (holding (of_pool x.number h) r) ≡ true → is_some (given (of_pool p h) r) ≡ false
    none-given r e = on (is_some (given (of_pool p h) r)) refl
      where
        party : has_party (of_pool p h) r ≡ false
        party = no-party r (given-party (of_pool x.number h) (each-sound h s x.number) r (given-at o h s rest m r x.number e))

        on : (b : Bool) → is_some (given (of_pool p h) r) ≡ b → is_some (given (of_pool p h) r) ≡ false
        on true f = let v : has_party (of_pool p h) r ≡ false = party in let w : has_party (of_pool p h) r ≡ true = given-party (of_pool p h) (each-sound h s p) r f in cc
        on false f = f

    pub alike-beside : (act : Act) → concerns h act x.number ≡ true → after_act p (open_pool h) m act (of_pool p h) ≡ of_pool p h
    alike-beside (Do.Request r a) e = none p (is_number (open_pool h a) p) _ (number-one (open_pool h a) x.number p ne e)
    alike-beside (Do.Warm r a) e = none p (is_number (open_pool h a) p) _ (number-one (open_pool h a) x.number p ne e)
    alike-beside (Do.GiveUp r) e = none p (has_asked (of_pool p h) r) _ (no-party-asked (of_pool p h) r (no-party r (asked-party (of_pool x.number h) r e)))
    alike-beside (Do.Established q c how) e = none p (q == p) _ (equal-one q x.number p ne e)
    alike-beside (Do.Failed q c Pre error) e = none p (q == p) _ (equal-one q x.number p ne e)
    alike-beside (Do.Failed q c (Post service) error) e = none p (q == p) _ (equal-one q x.number p ne e)
    alike-beside (Do.Return r used) e = none p (is_some (given (of_pool p h) r)) _ (none-given r e)
    alike-beside (Do.Pin r) e = none p (is_some (given (of_pool p h) r)) _ (none-given r e)
    alike-beside (Do.Replicate q c) e = none p (q == p) _ (equal-one q x.number p ne e)
    alike-beside (Do.Take r q c) e = none p (q == p) _ (equal-one q x.number p ne e)
    alike-beside (Do.Unpin q c) e = none p (q == p) _ (equal-one q x.number p ne e)
    alike-beside _ e = refl
