-- What a failed connection does is the answer to its step.
use Rattle.std.proofs.Common.{ℕ, ◌≡◌, ◌-◌, true, ◌||◌, List, [], ◌∷◌, ◌++◌, Some, None, is_some, refl, sym, ◌∙◌, subst, ap, Option}
use Rattle.mdb_base.specs.declared.error.Error.{Error}
use Rattle.mdb_events.specs.declared.fact.Fact.{Fact}
use Rattle.mdb_events.specs.declared.end.End.TheVariants.{Failed as FailedEnd}
use Rattle.mdb_events.specs.declared.reasons.ConnectionClosedReason.TheVariants.{Error as ErrorReason}
use Rattle.mdb_log.specs.declared.step.Act.TheVariants.{Failed as FailedAct}
use Rattle.mdb_log.specs.declared.step.FailedAt.{FailedAt}
use Rattle.mdb_log.specs.declared.reply.Reply.TheVariants.{Done}
use Rattle.mdb_pool.specs.declared.kept.connection.Connection.{Connection}
use Rattle.mdb_pool.specs.declared.kept.connection.Place.TheVariants.{Pending}
use Rattle.mdb_pool.specs.declared.kept.request.Request.{Request}
use Rattle.mdb_pool.specs.Core.{PoolCore}
use Rattle.mdb_log.specs.History.{PoolItem, failed, closed, ended, after_fact, after_facts, has_asked, service_in}
use Rattle.mdb_pool_rules.specs.Facts.{act_facts, closed_fact}
use Rattle.mdb_pool.specs.Standing.{Fits, Accepts, SameHome}
use Rattle.mdb_pool.specs.Acts.Doing.{Serves, SameNotes}
use Rattle.mdb_pool.specs.Kept.Values.{connection_at, request_at, given_of, holder_at, holder_request, is_shut}
use Rattle.mdb_pool.specs.Acts.Changes.{failing, forgetting, over_facts}
use Rattle.mdb_pool.proofs.Answered.Act.{accepts, live-service, given-open}
use Rattle.mdb_pool_rules.proofs.Listed.Values.{entry_at-key}
use Rattle.mdb_pool.proofs.Turns.EndFacts.{over-is, over-known, over-fair, over-own, over-open}
use Rattle.mdb_log.proofs.Numbers.{same-number}
use Rattle.mdb_pool.proofs.Follows.Fits.{fail-fits, forget-fits, asked-known}
use Rattle.mdb_log.specs.Connections.{has, held}
use Rattle.mdb_log.specs.Requests.{end_of}
use Rattle.mdb_pool.specs.Kept.Places.{is_pending, stays}
use Rattle.mdb_pool.proofs.SameAnswers.StaysHome.{stays-home}

-- a pending connection
module _ (s : PoolCore) (xs : List PoolItem) (z : Fits s xs) (n : ℕ) (x : Connection) (at : FailedAt) (error : Error) where
  abbrev ys : List PoolItem
  ys = failed x.id (service_in at) ∷ xs

  abbrev over : Request → List Fact
  over q = over_facts s q.number q.warm (n - q.asked_at) (FailedEnd error)

  -- its request has not ended
  fail-are : (q : Request) → connection_at s x.id ≡ Some x → x.place ≡ Pending → x.holder ≡ Some q.number → request_at s q.number ≡ Some q → act_facts s.pool s.address s.options n xs ys (FailedAct s.pool x.id at error) ≡ closed_fact s.pool s.address x.id ErrorReason x.service ∷ over q
  fail-are q at_x place held at_q =
      let party : x.party ≡ Some q.number = z.matches.links.waits x.id x q.number at_x (ap is_pending place) held in
      let mine : given_of (request_at s q.number) ≡ Some x.id = z.matches.links.owned x.id q.number (ap holder_at at_x ∙ held) in
      let still : end_of xs q.number ≡ None = z.matches.requests.ends q.number ∙ given-open (request_at s q.number) x.id mine in
      rw (z.matches.connections.granted_to x.id x at_x ∙ party, still, live-service s xs z.matches x.id x at_x) (ap (λ fs. closed_fact s.pool s.address x.id ErrorReason x.service ∷ fs) (over-is s xs z.matches n q (FailedEnd error) at_q))

  -- its party gave up, or it has none
  forget-are : connection_at s x.id ≡ Some x → x.place ≡ Pending → x.holder ≡ None → act_facts s.pool s.address s.options n xs ys (FailedAct s.pool x.id at error) ≡ closed_fact s.pool s.address x.id ErrorReason x.service ∷ []
  forget-are at_x place alone = on x.party refl
    where
      on : (o : Option ℕ) → x.party ≡ o → act_facts s.pool s.address s.options n xs ys (FailedAct s.pool x.id at error) ≡ closed_fact s.pool s.address x.id ErrorReason x.service ∷ []
      on None e = rw (z.matches.connections.granted_to x.id x at_x ∙ e, live-service s xs z.matches x.id x at_x) refl
      on (Some k) e =
          let gone : is_some (end_of xs k) ≡ true = ap is_some (z.matches.requests.ends k) ∙ z.matches.links.left_by x.id x k at_x (ap is_pending place) alone e in
          rw (z.matches.connections.granted_to x.id x at_x ∙ e, gone, live-service s xs z.matches x.id x at_x) refl

  pub fail-accepts : (s1 t : PoolCore) (before f1 after : List Fact) (q : Request) → connection_at s x.id ≡ Some x → x.place ≡ Pending → x.holder ≡ Some q.number → request_at s q.number ≡ Some q → s1 ≡ failing s n x q (FailedEnd error)
      → f1 ≡ before ++ closed_fact s.pool s.address x.id ErrorReason x.service ∷ over q → SameHome s1 t → SameNotes s1 t
      → ((k : List PoolItem) → Fits s1 k → Serves s1 t n f1 after k)
      → Accepts s t before after n (FailedAct s.pool x.id at error) Done xs ys
  fail-accepts s1 t before f1 after q at_x place held at_q s1_is f1_is home notes serves =
      let asked : has_asked xs q.number ≡ true = asked-known s xs z q.number ∙ z.matches.links.known x.id x q.number at_x (z.matches.links.waits x.id x q.number at_x (ap is_pending place) held) in
      let first : after_fact s.pool n (closed_fact s.pool s.address x.id ErrorReason x.service) ys ≡ closed x.id ∷ ys = rw (same-number s.pool) refl in
      let known : after_facts s.pool n (closed_fact s.pool s.address x.id ErrorReason x.service ∷ over q) ys ≡ ended q.number (FailedEnd error) ∷ closed x.id ∷ ys = ap (after_facts s.pool n (over q)) first ∙ over-known s s.pool n q.number (n - q.asked_at) (FailedEnd error) q.warm (closed x.id ∷ ys) asked in
      accepts s s1 t t before f1 after n (FailedAct s.pool x.id at error) Done (closed_fact s.pool s.address x.id ErrorReason x.service ∷ over q) xs ys
      (fail-are q at_x place held at_q)
      f1_is (rw s1_is (stays-home refl refl refl refl)) (rw s1_is (subst (Fits (failing s n x q (FailedEnd error))) (sym known) (fail-fits s xs z n x (service_in at) q (FailedEnd error) at_x at_q held (z.matches.pinning.loose x.id x at_x (ap stays place))))) serves
      (λ zs v. v)
      (λ claims own zs m. refl)
      tt
      (ap is_shut (notes.status ∙ ap (λ k. k.kept.status) s1_is) ∙ ap (λ b. b || is_shut s.kept.status) (sym (over-open s s.pool n q.number (n - q.asked_at) (FailedEnd error) q.warm)))
      (λ r. ap (has r) (notes.settled ∙ ap (λ k. k.kept.settled) s1_is))
      (λ c. ap (has c) (notes.claimed ∙ ap (λ k. k.kept.claimed) s1_is))
      (tt, over-fair s s.pool n q.number (n - q.asked_at) (FailedEnd error) q.warm (after_fact s.pool n (closed_fact s.pool s.address x.id ErrorReason x.service) ys))
      (refl, over-own s s.pool n q.number (n - q.asked_at) (FailedEnd error) q.warm (after_fact s.pool n (closed_fact s.pool s.address x.id ErrorReason x.service) ys) refl (subst (λ k. has_asked k q.number ≡ true) (sym first) asked))

  pub forget-accepts : (s1 t : PoolCore) (before f1 after : List Fact) → connection_at s x.id ≡ Some x → x.place ≡ Pending → x.holder ≡ None → s1 ≡ forgetting s n x → f1 ≡ before ++ closed_fact s.pool s.address x.id ErrorReason x.service ∷ [] → SameHome s1 t → SameNotes s1 t
      → ((k : List PoolItem) → Fits s1 k → Serves s1 t n f1 after k)
      → Accepts s t before after n (FailedAct s.pool x.id at error) Done xs ys
  forget-accepts s1 t before f1 after at_x place alone s1_is f1_is home notes serves =
      accepts s s1 t t before f1 after n (FailedAct s.pool x.id at error) Done (closed_fact s.pool s.address x.id ErrorReason x.service ∷ []) xs ys
      (forget-are at_x place alone)
      f1_is (rw s1_is (stays-home refl refl refl refl)) (rw (s1_is, same-number s.pool) (forget-fits s xs z n x (service_in at) at_x alone (z.matches.pinning.loose x.id x at_x (ap stays place)))) serves
      (λ zs v. v)
      (λ claims own zs m. refl)
      tt
      (ap is_shut (notes.status ∙ ap (λ k. k.kept.status) s1_is))
      (λ r. ap (has r) (notes.settled ∙ ap (λ k. k.kept.settled) s1_is))
      (λ c. ap (has c) (notes.claimed ∙ ap (λ k. k.kept.claimed) s1_is))
      (tt, tt)
      (refl, tt)

-- the request of a connection is that of its holder
pub holder-some : (s : PoolCore) (x : Connection) (q : Request) → holder_request s x ≡ Some q → (x.holder ≡ Some q.number) × (request_at s q.number ≡ Some q)
holder-some s x q e = on x.holder refl
  where
    on : (o : Option ℕ) → x.holder ≡ o → (x.holder ≡ Some q.number) × (request_at s q.number ≡ Some q)
    on None f = let k : holder_request s x ≡ None = rw f refl in let w : ◌≡◌ {A = Option Request} None (Some q) = sym k ∙ e in cc
    on (Some r) f =
        let t : holder_request s x ≡ request_at s r = rw f refl in
        let k : request_at s r ≡ Some q = sym t ∙ e in
        let i : q.number ≡ r = entry_at-key (λ (k : Request). k.number) r q s.kept.requests k in
        (f ∙ ap Some (sym i), subst (λ d. request_at s d ≡ Some q) (sym i) k)

-- without one nobody has it
pub holder-none : (s : PoolCore) (xs : List PoolItem) (z : Fits s xs) (x : Connection) → connection_at s x.id ≡ Some x → holder_request s x ≡ None → x.holder ≡ None
holder-none s xs z x at_x e = on x.holder refl
  where
    on : (o : Option ℕ) → x.holder ≡ o → x.holder ≡ None
    on None f = f
    on (Some r) f =
        let t : holder_request s x ≡ request_at s r = rw f refl in
        let k : request_at s r ≡ None = sym t ∙ e in
        let mine : given_of (request_at s r) ≡ Some x.id = z.matches.links.owned x.id r (ap holder_at at_x ∙ f) in
        let none : given_of (request_at s r) ≡ None = ap given_of k in
        cc

-- a failure does what its step says, by the numbers that its calls are given
pub fail-of : (s s1 t : PoolCore) (before f1 after : List Fact) (n c : ℕ) (x : Connection) (q : Request) (at : FailedAt) (error : Error) (xs : List PoolItem) → Fits s xs → connection_at s c ≡ Some x → x.place ≡ Pending → holder_request s x ≡ Some q → s1 ≡ failing s n x q (FailedEnd error)
    → f1 ≡ before ++ closed_fact s.pool s.address x.id ErrorReason x.service ∷ over_facts s q.number q.warm (n - q.asked_at) (FailedEnd error) → SameHome s1 t → SameNotes s1 t → ((k : List PoolItem) → Fits s1 k → Serves s1 t n f1 after k)
    → Accepts s t before after n (FailedAct s.pool c at error) Done xs (failed c (service_in at) ∷ xs)
fail-of s s1 t before f1 after n c x q at error xs z at_c place asker s1_is f1_is home notes serves =
    let e : x.id ≡ c = entry_at-key (λ (y : Connection). y.id) c x s.kept.connections at_c in
    let v : (x.holder ≡ Some q.number) × (request_at s q.number ≡ Some q) = holder-some s x q asker in
    subst (λ d. Accepts s t before after n (FailedAct s.pool d at error) Done xs (failed d (service_in at) ∷ xs)) e (fail-accepts s xs z n x at error s1 t before f1 after q (subst (λ d. connection_at s d ≡ Some x) (sym e) at_c) place v.0 v.1 s1_is f1_is home notes serves)

pub forget-of : (s s1 t : PoolCore) (before f1 after : List Fact) (n c : ℕ) (x : Connection) (at : FailedAt) (error : Error) (xs : List PoolItem) → Fits s xs → connection_at s c ≡ Some x → x.place ≡ Pending → holder_request s x ≡ None → s1 ≡ forgetting s n x
    → f1 ≡ before ++ closed_fact s.pool s.address x.id ErrorReason x.service ∷ [] → SameHome s1 t → SameNotes s1 t → ((k : List PoolItem) → Fits s1 k → Serves s1 t n f1 after k)
    → Accepts s t before after n (FailedAct s.pool c at error) Done xs (failed c (service_in at) ∷ xs)
forget-of s s1 t before f1 after n c x at error xs z at_c place none s1_is f1_is home notes serves =
    let e : x.id ≡ c = entry_at-key (λ (y : Connection). y.id) c x s.kept.connections at_c in
    let at_x : connection_at s x.id ≡ Some x = subst (λ d. connection_at s d ≡ Some x) (sym e) at_c in
    subst (λ d. Accepts s t before after n (FailedAct s.pool d at error) Done xs (failed d (service_in at) ∷ xs)) e (forget-accepts s xs z n x at error s1 t before f1 after at_x place (holder-none s xs z x at_x none) s1_is f1_is home notes serves)
