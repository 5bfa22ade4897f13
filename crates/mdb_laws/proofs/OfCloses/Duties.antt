-- What a step has to close is closed by the answer of a driver.
use Rattle.std.proofs.Common.{ℕ, ◌≡◌, ◌≢◌, ◌==◌, ◌&&◌, Bool, true, false, not, List, [], ◌∷◌, Option, Some, None, is_some, inl, refl, sym, ◌∙◌, ap, subst, arith}
use Rattle.std.proofs.lemmas.Bool.{not-false}
use Rattle.mdb_base.specs.declared.address.ServerAddress.{ServerAddress}
use Rattle.mdb_base.specs.declared.error.Error.{Error}
use Rattle.mdb_base.specs.declared.options.Options.{Options}
use Rattle.mdb_events.specs.declared.fact.Fact.{Fact}
use Rattle.mdb_events.specs.declared.reasons.ConnectionClosedReason.{ConnectionClosedReason}
use Rattle.mdb_events.specs.declared.reasons.ConnectionClosedReason.TheVariants.{Error as ErrorReason, PoolClosed as AsPoolClosed}
use Rattle.mdb_log.specs.declared.options.PoolOptions.{PoolOptions}
use Rattle.mdb_log.specs.declared.reply.Refused.TheVariants.{NotPending, WrongMode}
use Rattle.mdb_log.specs.declared.step.Step.{Step}
use Rattle.mdb_log.specs.declared.step.Act.{Act}
use Rattle.mdb_log.specs.declared.step.Act.TheVariants as Do
use Rattle.mdb_log.specs.declared.step.FailedAt.{FailedAt}
use Rattle.mdb_log.specs.declared.step.FailedAt.TheVariants.{Pre, Post}
use Rattle.mdb_log.specs.declared.step.Use.{Use}
use Rattle.mdb_log.specs.History.{Item, of_pool, open_pool, if_so, unpinned, given, has_asked, has_party, with_facts}
use Rattle.mdb_log.specs.Connections.{has, pending_list, available_list, holding, is_pinned}
use Rattle.mdb_log.specs.Homes.{Home, homes}
use Rattle.mdb_log.specs.Opening.{pool_options}
use Rattle.mdb_log.proofs.Numbers.{same-number}
use Rattle.mdb_pool_rules.specs.Refusal.{first_row}
use Rattle.mdb_pool_rules.specs.Facts.{sweep, act_facts}
use Rattle.mdb_pool_rules.proofs.FirstRow.{first-passes, one-passes}
use Rattle.mdb_pool_rules.specs.Rested.{Rested}
use Rattle.mdb_sound.proofs.Steady.{held-given}
use Rattle.mdb_driver_rules.specs.Facts.{trouble, clear_of, clearing, asking, own_facts, serve_all, step_facts}
use Rattle.mdb_driver_rules.specs.Acts.{is_pool_act}
use Rattle.mdb_driver_rules.specs.Homes.{concerns, home_of, begun}
use Rattle.mdb_driver_rules.specs.Refusal.{rows_of}
use Rattle.mdb_driver_rules.specs.Turns.{in_turn}
use Rattle.mdb_driver_pools.proofs.OnePool.TellsNoTopology.{plain-facts}
use Rattle.mdb_histories.specs.SoundHistory.{SoundHistory, was_opened}
use Rattle.mdb_histories.proofs.Begins.{number-is}
use Rattle.mdb_histories.proofs.Beside.{find-none}
use Rattle.mdb_histories.proofs.Opened.{open-opened, unopened-empty, party-opened}
use Rattle.mdb_histories.proofs.Outside.{told, parts-are}
use Rattle.mdb_histories.proofs.Parties.{each-sound, apart}
use Rattle.mdb_histories.proofs.Steps.{home-concerned, given-party}
use Rattle.mdb_pool_laws.specs.Dues.{Closes, Due}
use Rattle.mdb_pool_laws.proofs.OfCloses.Dues.{closes-left, closes-right, returned-due, given_up-due, unpinned-due, sweep-due}
use Rattle.mdb_laws.proofs.OfCloses.Steps.{cleared, then_asked}

module _ (o : Options) (h : List Item) (s : SoundHistory h) (rest : (p : ℕ) → Rested (of_pool p h)) (p m : ℕ) where
  abbrev po : PoolOptions
  po = pool_options o

  -- the pool that an act concerns is found
  found : (act : Act) → concerns h act p ≡ true → was_opened h p ≡ true → ((n : ℕ) → concerns h act n ≡ true → n ≡ p) → (x : Home) × ((home_of h act ≡ Some x) × (x.number ≡ p))
  found act e opened one = on (home_of h act) refl
    where
      on : (y : Option Home) → home_of h act ≡ y → (x : Home) × ((home_of h act ≡ Some x) × (x.number ≡ p))
      on None f = let none : concerns h act p ≡ false = find-none (concerns h act) (homes h) p f opened in cc
      on (Some x) f = (x, (f, one x.number (home-concerned h act x f)))

  opened-if : (of_pool p h ≡ [] → ⊥) → was_opened h p ≡ true
  opened-if some = on (was_opened h p) refl
    where
      on : (b : Bool) → was_opened h p ≡ b → was_opened h p ≡ true
      on true e = e
      on false e = absurd (some (unopened-empty h s p e))

  party : (n r : ℕ) → is_some (holding (of_pool n h) r) ≡ true → has_party (of_pool n h) r ≡ true
  party n r e = on (holding (of_pool n h) r) refl
    where
      on : (x : Option ℕ) → holding (of_pool n h) r ≡ x → has_party (of_pool n h) r ≡ true
      on None f = let g : is_some (holding (of_pool n h) r) ≡ false = ap is_some f in cc
      on (Some c) f = given-party (of_pool n h) (each-sound h s n) r (ap is_some (held-given (of_pool n h) r c f))

  asker : (n r : ℕ) → has_asked (of_pool n h) r ≡ true → has_party (of_pool n h) r ≡ true
  asker n r e = rw e refl

  one-pool : (n r : ℕ) → has_party (of_pool n h) r ≡ true → has_party (of_pool p h) r ≡ true → n ≡ p
  one-pool n r e f = on (n == p) refl
    where
      on : (b : Bool) → (n == p) ≡ b → n ≡ p
      on true g = grind arith
      on false g = let ne : n ≢ p = grind arith in let none : has_party (of_pool p h) r ≡ false = apart h s r n p ne e in cc

  -- what is closed by the own facts of an act of the pool is closed by the answer
  module _ (act : Act) (rows : first_row (rows_of o h act) ≡ None) (e : is_pool_act act ≡ true) (c : ℕ) (why : ConnectionClosedReason) where
    abbrev step : Step
    step = record { moment = m; act = act }

    abbrev k : List Item
    k = begun h step

    own-due : (x : Home) × ((home_of h act ≡ Some x) × (x.number ≡ p)) → ((x : Home) → Closes p c why (act_facts p x.address po m (of_pool p h) (of_pool p k) act)) → Closes p c why (step_facts o h step)
    own-due w due =
        let x : Home = w.0 in
        let own : Closes p c why (act_facts x.number x.address po m (of_pool x.number h) (of_pool x.number k) act) = subst (λ n. Closes p c why (act_facts n x.address po m (of_pool n h) (of_pool n k) act)) (sym w.1.1) (due x) in
        let here : Closes p c why (own_facts o h step (home_of h act) k) = subst (λ y. Closes p c why (own_facts o h step y k)) (sym w.1.0) own in
        subst (Closes p c why) (sym (plain-facts o h step e)) (closes-left p c why (own_facts o h step (home_of h act) k) (serve_all o m (with_facts m (own_facts o h step (home_of h act) k) k)) here)

  returns-due : (r : ℕ) (used : Use) → first_row (rows_of o h (Do.Return r used)) ≡ None → Due p po (open_pool h) m (of_pool p h) (Do.Return r used) (step_facts o h (record { moment = m; act = Do.Return r used }))
  returns-due r used rows c f t n =
      let mine : is_some (holding (of_pool p h) r) ≡ true = ap is_some f in
      own-due (Do.Return r used) rows refl c AsPoolClosed (found (Do.Return r used) mine (party-opened h s p r (party p r mine)) (λ i e. one-pool i r (party i r e) (party p r mine)))
      (λ x. returned-due p x.address po m (of_pool p h) r c used (is_some (given (of_pool p h) r)) f t n)

  gives_up-due : (r : ℕ) → first_row (rows_of o h (Do.GiveUp r)) ≡ None → Due p po (open_pool h) m (of_pool p h) (Do.GiveUp r) (step_facts o h (record { moment = m; act = Do.GiveUp r }))
  gives_up-due r rows mine c f t n =
      own-due (Do.GiveUp r) rows refl c AsPoolClosed (found (Do.GiveUp r) mine (party-opened h s p r (asker p r mine)) (λ i e. one-pool i r (asker i r e) (asker p r mine)))
      (λ x. given_up-due p x.address po m (of_pool p h) r c (has_asked (of_pool p h) r) ((rest p).unended r c (held-given (of_pool p h) r c f)) f t n)

  unpins-due : (q c : ℕ) → first_row (rows_of o h (Do.Unpin q c)) ≡ None → Due p po (open_pool h) m (of_pool p h) (Do.Unpin q c) (step_facts o h (record { moment = m; act = Do.Unpin q c }))
  unpins-due q c rows same f n t =
      let mine : (q == p) ≡ true = subst (λ i. (q == i) ≡ true) same (same-number q) in
      let opened : was_opened h p ≡ true = opened-if (λ g. (let none : is_pinned (of_pool p h) c ≡ false = ap (λ xs. is_pinned xs c) g in cc)) in
      own-due (Do.Unpin q c) rows refl c AsPoolClosed (found (Do.Unpin q c) mine opened (λ i e. (let w : q ≡ i = grind arith in sym w ∙ same)))
      (λ x. subst (λ b. Closes p c AsPoolClosed (act_facts p x.address po m (of_pool p h) (if_so b (unpinned c) (of_pool p h)) (Do.Unpin q c))) (sym mine) (unpinned-due p x.address po m (of_pool p h) c f n t))

  maintains-due : (a : ServerAddress) → first_row (rows_of o h (Do.Maintain a)) ≡ None → Due p po (open_pool h) m (of_pool p h) (Do.Maintain a) (step_facts o h (record { moment = m; act = Do.Maintain a }))
  maintains-due a rows mine c why w f =
      let there : open_pool h a ≡ Some p = number-is (open_pool h a) p mine in
      own-due (Do.Maintain a) rows refl c why (found (Do.Maintain a) mine (open-opened h a p there) (λ i e. (let g : Some i ≡ Some p = sym (number-is (open_pool h a) i e) ∙ there in cc)))
      (λ x. closes-left p c why (sweep p x.address po m (of_pool p h) (available_list (of_pool p h))) _ (sweep-due p x.address po m (of_pool p h) c why f (available_list (of_pool p h)) w))

  module _ (q c : ℕ) (at : FailedAt) (error : Error) (rows : first_row (rows_of o h (Do.Failed q c at error)) ≡ None) where
    abbrev failing_step : Step
    failing_step = record { moment = m; act = Do.Failed q c at error }

    waits : has c (pending_list (of_pool q h)) ≡ true
    waits = not-false (has c (pending_list (of_pool q h))) (on at rows)
      where
        on : (at : FailedAt) → first_row (rows_of o h (Do.Failed q c at error)) ≡ None → not (has c (pending_list (of_pool q h))) ≡ false
        on Pre e = one-passes (not (has c (pending_list (of_pool q h)))) NotPending e
        on (Post service) e = (first-passes (not (has c (pending_list (of_pool q h)))) NotPending ((not o.load_balanced && is_some service, WrongMode) ∷ []) e).0

    fails-due : Due p po (open_pool h) m (of_pool p h) (Do.Failed q c at error) (step_facts o h failing_step)
    fails-due same =
        let mine : (q == p) ≡ true = subst (λ i. (q == i) ≡ true) same (same-number q) in
        let opened : was_opened h p ≡ true = opened-if (λ g. (let some : has c (pending_list (of_pool p h)) ≡ true = subst (λ i. has c (pending_list (of_pool i h)) ≡ true) same waits in let none : has c (pending_list (of_pool p h)) ≡ false = ap (λ xs. has c (pending_list xs)) g in cc)) in
        let w : (x : Home) × ((home_of h (Do.Failed q c at error) ≡ Some x) × (x.number ≡ p)) = found (Do.Failed q c at error) mine opened (λ i e. (let v : q ≡ i = grind arith in sym v ∙ same)) in
        let says : List Fact = in_turn m (told o h s rest failing_step rows) (begun h failing_step) in
        let j : List Item = with_facts m says (begun h failing_step) in
        let i : List Item = cleared o h s rest failing_step rows p j in
        let j2 : List Item = then_asked o h s rest failing_step rows p j in
        let own : Closes p c ErrorReason (own_facts o h failing_step (home_of h (Do.Failed q c at error)) j2) = subst (λ y. Closes p c ErrorReason (own_facts o h failing_step y j2)) (sym w.1.0) (inl (w.1.1, refl, refl)) in
        subst (Closes p c ErrorReason) (sym (parts-are o h s rest failing_step rows [] refl))
        (closes-right p c ErrorReason says _ (closes-right p c ErrorReason (clearing o m (trouble o h failing_step) (clear_of o h failing_step) j) _ (closes-right p c ErrorReason (asking o (trouble o h failing_step) (clear_of o h failing_step) i) _ (closes-left p c ErrorReason (own_facts o h failing_step (home_of h (Do.Failed q c at error)) j2) _ own))))

  -- each act
  pub act-due : (act : Act) → first_row (rows_of o h act) ≡ None → Due p po (open_pool h) m (of_pool p h) act (step_facts o h (record { moment = m; act = act }))
  act-due (Do.Failed q c at error) rows = fails-due q c at error rows
  act-due (Do.Return r used) rows = returns-due r used rows
  act-due (Do.GiveUp r) rows = gives_up-due r rows
  act-due (Do.Unpin q c) rows = unpins-due q c rows
  act-due (Do.Maintain a) rows = maintains-due a rows
  act-due _ rows = tt
