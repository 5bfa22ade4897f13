-- What an act does is the answer to its step.
use Rattle.std.proofs.Common.{ℕ, ◌≡◌, ◌≤◌, Bool, true, false, ◌||◌, List, ◌∷◌, ◌++◌, Option, Some, None, is_some, refl, sym, ◌∙◌, ap, subst, arith, if◌then◌else◌, append_assoc, append-nil, nat_lt, not, ◌&&◌}
use Rattle.std.proofs.lemmas.Bool.Decides.{nat_tests}
use Rattle.mdb_events.specs.declared.fact.Fact.{Fact}
use Rattle.mdb_events.specs.declared.end.End.{End}
use Rattle.mdb_log.specs.declared.step.Step.{Step}
use Rattle.mdb_log.specs.declared.step.Act.{Act}
use Rattle.mdb_log.specs.declared.reply.Refused.{Refused}
use Rattle.mdb_log.specs.declared.reply.Reply.{Reply}
use Rattle.mdb_log.specs.declared.reply.Reply.TheVariants.{Pooled, Establishing, Waiting, Ended, Job, NoJob, Changed, Count, Done, Refused as RefusedBy}
use Rattle.mdb_pool.specs.Now.{queries}
use Rattle.mdb_pool.specs.declared.kept.connection.Connection.{Connection}
use Rattle.mdb_pool.specs.declared.kept.connection.Place.{Place}
use Rattle.mdb_pool.specs.declared.kept.request.Phase.{Phase}
use Rattle.mdb_pool.specs.declared.kept.connection.Place.TheVariants.{Pending, Available, Held, Pinned}
use Rattle.mdb_pool.specs.declared.kept.request.Request.{Request}
use Rattle.mdb_pool.specs.declared.kept.request.Phase.TheVariants.{Queued, Given, Over, Ended as EndedPhase}
use Rattle.mdb_pool.specs.Core.{PoolCore}
use Rattle.mdb_log.specs.History.{Item, did, PoolItem, has_party, of_pool, with_facts, with_answer, after_facts, given, has_asked, open_pool, with_act}
use Rattle.mdb_log.specs.Connections.{has, pending_list, holding, known_service, last_use, is_errored, is_dropped, pins}
use Rattle.mdb_log.specs.Requests.{outcome_of, names_party, is_claimed, asks_how, is_outcome, told, was_asked, leaves, some_act, settles, is_job}
use Rattle.mdb_pool_rules.specs.Refusal.{refusal_of}
use Rattle.mdb_pool_rules.specs.Facts.{act_facts}
use Rattle.mdb_pool_rules.specs.Answer.{all_facts, reply_of, answer, answered}
use Rattle.mdb_pool_rules.specs.Serving.{serving, IsServed}
use Rattle.mdb_pool.specs.Standing.{Fits, StandsFor, Accepts, Answers, SameHome}
use Rattle.mdb_pool.specs.Acts.Doing.{Serves}
use Rattle.mdb_pool.specs.Kept.Matching.{Matches}
use Rattle.mdb_pool.specs.Kept.Values.{connection_at, request_at, held_connection, outcome_now, is_pending_at, given_of, given_in, holder_at, if_held, end_at, is_shut, pins_at}
use Rattle.mdb_log.specs.Legal.{IsFairAnswer, NoneLeftWaiting, AllFirstCome}
use Rattle.mdb_log.specs.Own.{IsAccepted, AllOwn, shuts}
use Rattle.mdb_pool.specs.Kept.Places.{is_pending, is_held, is_available, is_at_pin}
use Rattle.mdb_pool_rules.proofs.Listed.Values.{has-where, passes, entry_at-key}
use Rattle.mdb_pool.proofs.Listed.FirstOrLast.{id_or}
use Rattle.mdb_pool_rules.proofs.Fair.{fair-append, serve-fair, own-append, serve-own, with-serve, size}
use Rattle.mdb_pool_rules.proofs.NoMove.{serving-serves, served-settled}
use Rattle.mdb_log.proofs.Later.{of_pool-with_facts, after-append, with_answer-accepted, opens-after, claimed-reply}
use Rattle.mdb_log.proofs.Frame.{last-facts, acts-facts, open-facts, open-home, party-facts, asked-facts, told-facts, claimed-facts}
use Rattle.mdb_base.specs.Equality.{same_address}

fair-accepted : (p : ℕ) (h : List Item) (step : Step) (reply : Reply) (facts : List Fact) → IsAccepted reply → AllFirstCome p step.moment (with_act p h step) facts → IsFairAnswer p h step reply facts
fair-accepted p h step (Pooled q c) facts i f = f
fair-accepted p h step (Establishing q c) facts i f = f
fair-accepted p h step Waiting facts i f = f
fair-accepted p h step (Ended e) facts i f = f
fair-accepted p h step (Job q c) facts i f = f
fair-accepted p h step NoJob facts i f = f
fair-accepted p h step (Changed b) facts i f = f
fair-accepted p h step (Count n) facts i f = f
fair-accepted p h step Done facts i f = f
fair-accepted p h step (RefusedBy why) facts i f = absurd i

-- a refused step leaves all as it was
pub refuses : (s : PoolCore) (before : List Fact) (step : Step) (why : Refused) (h : List Item) → StandsFor s h → refusal_of s.pool s.options h step ≡ Some why → Answers s s before before step (RefusedBy why) h
refuses s before step why h z e =
    let a : answer s.pool s.address s.options h step ≡ answered s.pool s.address s.options h step (Some why) = ap (answered s.pool s.address s.options h step) e in
    record {
      reply_is = ap (λ k. k.reply) (sym a);
      facts_are = sym (append-nil before) ∙ ap (λ k. before ++ k.facts) (sym a);
      stands = subst (λ k. StandsFor s (with_answer step k.reply k.facts h)) (sym a) z;
      fair = subst (λ k. IsFairAnswer s.pool h step k.reply k.facts) (sym a) refl;
      none_left = subst (λ k. NoneLeftWaiting s.options (of_pool s.pool h) → NoneLeftWaiting s.options (of_pool s.pool (with_answer step k.reply k.facts h))) (sym a) (λ i. i);
    }

-- an accepted act makes some facts and leads to a state that is then served, and notes what was told
pub accepts : (s s1 t u : PoolCore) (before f1 after : List Fact) (m : ℕ) (act : Act) (reply : Reply) (acts : List Fact) (xs ys : List PoolItem)
    → act_facts s.pool s.address s.options m xs ys act ≡ acts
    → f1 ≡ before ++ acts
    → SameHome s s1
    → Fits s1 (after_facts s.pool m acts ys)
    → ((zs : List PoolItem) → Fits s1 zs → Serves s1 t m f1 after zs)
    → ((zs : List PoolItem) → Fits t zs → Fits u zs)
    → ((claimed : ℕ → Bool) → ((c : ℕ) → claimed c ≡ has c s.kept.claimed) → (zs : List PoolItem) → Matches t zs → reply ≡ reply_of s.pool claimed xs zs act)
    → IsAccepted reply
    → is_shut u.kept.status ≡ shuts acts || is_shut s.kept.status
    → ((r : ℕ) → has r u.kept.settled ≡ settles act reply r || has r s.kept.settled)
    → ((c : ℕ) → has c u.kept.claimed ≡ is_job s.pool reply c || has c s.kept.claimed)
    → AllFirstCome s.pool m ys acts
    → AllOwn s.pool m ys acts
    → Accepts s u before after m act reply xs ys
unfolding queries
accepts s s1 t u before f1 after m act reply acts xs ys facts_of f1_is home fits1 serves noted reply_is fine shut settled claimed acts_fair acts_own =
    let zs : List PoolItem = after_facts s.pool m acts ys in
    let v : Serves s1 t m f1 after zs = serves zs fits1 in
    let served : serving s1.pool s1.address s1.options m zs ≡ serving s.pool s.address s.options m zs = rw (home.pool, home.address, home.options) refl in
    let all : all_facts s.pool s.address s.options m xs ys act ≡ acts ++ serving s.pool s.address s.options m zs = ap (λ f. f ++ serving s.pool s.address s.options m (after_facts s.pool m f ys)) facts_of in
    let fits : Fits t (after_facts s.pool m (acts ++ serving s.pool s.address s.options m zs) ys) =
    subst (Fits t) (sym (after-append s.pool m acts (serving s.pool s.address s.options m zs) ys)) (subst (λ p. Fits t (after_facts p m (serving s.pool s.address s.options m zs) zs)) home.pool (subst (λ k. Fits t (after_facts s1.pool m k zs)) served v.fits)) in
    record {
      facts_are = v.facts ∙ (ap (λ f. f ++ serving s1.pool s1.address s1.options m zs) f1_is ∙ (append_assoc before acts (serving s1.pool s1.address s1.options m zs) ∙ ap (λ f. before ++ f) (ap (λ f. acts ++ f) served ∙ sym all)));
      reply_is = λ claims own. reply_is claims own (after_facts s.pool m (all_facts s.pool s.address s.options m xs ys act) ys) (subst (λ f. Fits t (after_facts s.pool m f ys)) (sym all) fits).matches;
      accepted = fine;
      shut = shut ∙ ap (λ b. b || is_shut s.kept.status) (sym (ap shuts all ∙ with-serve s.pool s.address s.options m acts (size s.pool s.address s.options m zs) zs));
      settled = settled;
      claimed = claimed;
      fits = noted (after_facts s.pool m (all_facts s.pool s.address s.options m xs ys act) ys) (subst (λ f. Fits t (after_facts s.pool m f ys)) (sym all) fits);
      fair = subst (AllFirstCome s.pool m ys) (sym all) (fair-append s.pool s.address s.options m acts (serving s.pool s.address s.options m zs) ys acts_fair (serve-fair s.pool s.address s.options m (size s.pool s.address s.options m zs) zs));
      own = subst (AllOwn s.pool m ys) (sym all) (own-append s.pool s.address s.options m acts (serving s.pool s.address s.options m zs) ys acts_own (serve-own s.pool s.address s.options m (size s.pool s.address s.options m zs) zs));
      served = subst (λ f. IsServed s.options (after_facts s.pool m f ys)) (sym all) (subst (IsServed s.options) (sym (after-append s.pool m acts (serving s.pool s.address s.options m zs) ys)) (serving-serves s.pool s.address s.options m zs));
    }

-- on a history of the pool's own an accepted act is the answer
pub own-answers : (s t : PoolCore) (before after : List Fact) (step : Step) (reply : Reply) (ys : List PoolItem) (h : List Item) → StandsFor s h
    → refusal_of s.pool s.options h step ≡ None
    → with_act s.pool h step ≡ ys
    → ((r : ℕ) → has_party ys r ≡ names_party step.act r || has_party (of_pool s.pool h) r)
    → ((r : ℕ) → has_asked ys r ≡ was_asked step.act r || has_asked (of_pool s.pool h) r)
    → SameHome s t → t.kept.last ≡ step.moment
    → Accepts s t before after step.moment step.act reply (of_pool s.pool h) ys
    → Answers s t before after step reply h
unfolding queries
own-answers s t before after step reply ys h z none same names asks home last_is v =
    let p : ℕ = s.pool in
    let m : ℕ = step.moment in
    let facts : List Fact = all_facts p s.address s.options m (of_pool p h) ys step.act in
    let k : List Item = with_facts m facts (did step reply ∷ h) in
    let known : of_pool p k ≡ after_facts p m facts ys = of_pool-with_facts p m facts (did step reply ∷ h) ∙ ap (after_facts p m facts) same in
    let e : answered p s.address s.options h step None ≡ record { reply = reply; facts = facts } = rw (same, ← v.reply_is (is_claimed h p) z.claims) refl in
    let a : answer p s.address s.options h step ≡ record { reply = reply; facts = facts } = ap (answered p s.address s.options h step) none ∙ e in
    let w : with_answer step reply facts h ≡ k = with_answer-accepted step reply facts h v.accepted in
    let stands : StandsFor t k = record {
      fits = subst (λ q. Fits t (of_pool q k)) (sym home.pool) (subst (Fits t) (sym known) v.fits);
      last_is = last-facts m facts (did step reply ∷ h) ∙ sym last_is;
      open_here = λ a. open-facts p m facts ys (did step reply ∷ h) a v.own ∙ (open-home p (same_address s.address a) (is_shut s.kept.status) (is_shut t.kept.status) (shuts facts) (open_pool h a) (z.open_here a) v.shut ∙ rw (home.address, home.pool) refl);
      asked_once = λ r. acts-facts names_party m r facts (did step reply ∷ h) ∙ (ap (λ b. names_party step.act r || b) (z.asked_once r) ∙ (sym (names r) ∙ (sym (party-facts p m r facts ys) ∙ (ap (λ zs. has_party zs r) (sym known) ∙ ap (λ q. has_party (of_pool q k) r) (sym home.pool)))));
      requested = λ r. acts-facts was_asked m r facts (did step reply ∷ h) ∙ (ap (λ b. was_asked step.act r || b) (z.requested r) ∙ (sym (asks r) ∙ (sym (asked-facts p m r facts ys) ∙ (ap (λ zs. has_asked zs r) (sym known) ∙ ap (λ q. has_asked (of_pool q k) r) (sym home.pool)))));
      opens = λ r. rw (told-facts m r facts (did step reply ∷ h), acts-facts leaves m r facts (did step reply ∷ h)) (opens-after (asks_how step.act r && is_outcome reply) (leaves step.act r) (some_act leaves h r) (told h r) (has r s.kept.settled) (z.opens r) ∙ ap not (sym (v.settled r)));
      claims = λ c. claimed-facts t.pool m c facts (did step reply ∷ h) ∙ (ap (λ q. is_claimed (did step reply ∷ h) q c) home.pool ∙ (claimed-reply p c step reply h ∙ (ap (λ b. is_job p reply c || b) (z.claims c) ∙ sym (v.claimed c))));
    } in
    record {
      reply_is = ap (λ k. k.reply) (sym a);
      facts_are = v.facts_are ∙ ap (λ k. before ++ k.facts) (sym a);
      stands = subst (λ b. StandsFor t (with_answer step b.reply b.facts h)) (sym a) (subst (StandsFor t) (sym w) stands);
      fair = subst (λ b. IsFairAnswer p h step b.reply b.facts) (sym a) (fair-accepted p h step reply facts v.accepted (subst (λ zs. AllFirstCome p m zs facts) (sym same) v.fair));
      none_left = λ i. subst (λ b. NoneLeftWaiting s.options (of_pool p (with_answer step b.reply b.facts h))) (sym a) (subst (λ j. NoneLeftWaiting s.options (of_pool p j)) (sym w) (subst (NoneLeftWaiting s.options) (sym known) (served-settled s.options (after_facts p m facts ys) v.served s.address)));
    }

pub not-back : (n m : ℕ) → m ≤ n → nat_lt n m ≡ false
not-back n m l = grind (arith, nat_tests)

at_pending : (o : Option Connection) → passes (λ (x : Connection). x.id) (λ x. is_pending x.place) o ≡ is_pending_at o
at_pending None = refl
at_pending (Some x) = refl

-- what the state says of parties and connections
module _ (s : PoolCore) (xs : List PoolItem) (z : Fits s xs) where
  pub pending-is : (c : ℕ) → has c (pending_list xs) ≡ is_pending_at (connection_at s c)
  pending-is c = rw z.matches.counts.pending (has-where (λ (x : Connection). x.id) (λ x. is_pending x.place) c s.kept.connections (z.matches.counts.single c) ∙ at_pending (connection_at s c))

  -- whoever is given a connection holds it, or it is pending
  pub holding-is : (r : ℕ) → holding xs r ≡ id_or (held_connection s r) None
  holding-is r = on (request_at s r) refl
    where
      at_place : (c : ℕ) (x : Connection) (p : Place) → connection_at s c ≡ Some x → x.place ≡ p → holder_at (connection_at s c) ≡ Some r → (if has c (pending_list xs) then None else Some c) ≡ id_or (if is_held x.place then Some x else None) None
      at_place c x Pending e f t = let k : has c (pending_list xs) ≡ true = pending-is c ∙ (ap is_pending_at e ∙ ap is_pending f) in rw (k, f) refl
      at_place c x Available e f t = let k : holder_at (Some x) ≡ None = z.matches.links.free c x e (ap is_available f) in let v : holder_at (Some x) ≡ Some r = ap holder_at (sym e) ∙ t in cc
      at_place c x Held e f t = let k : has c (pending_list xs) ≡ false = pending-is c ∙ (ap is_pending_at e ∙ ap is_pending f) in let v : x.id ≡ c = entry_at-key (λ (y : Connection). y.id) c x s.kept.connections e in rw (k, f) (ap Some (sym v))
      at_place c x Pinned e f t = let k : holder_at (Some x) ≡ None = z.matches.pinning.rests c x e (ap is_at_pin f) in let v : holder_at (Some x) ≡ Some r = ap holder_at (sym e) ∙ t in cc

      at_connection : (c : ℕ) (o : Option Connection) → connection_at s c ≡ o → holder_at (connection_at s c) ≡ Some r → (if has c (pending_list xs) then None else Some c) ≡ id_or (if_held o) None
      at_connection c None e t = let v : holder_at None ≡ Some r = ap holder_at (sym e) ∙ t in cc
      at_connection c (Some x) e t = at_place c x x.place e refl t

      at_phase : (q : Request) (p : Phase) → request_at s r ≡ Some q → q.phase ≡ p → holding xs r ≡ id_or (held_connection s r) None
      at_phase q Queued e f = rw (z.matches.requests.given r, e, f) refl
      at_phase q (Given c) e f = let t : holder_at (connection_at s c) ≡ Some r = z.matches.links.taken r c (ap given_of e ∙ ap given_in f) in rw (z.matches.requests.given r, e, f) (at_connection c (connection_at s c) refl t)
      at_phase q Over e f = rw (z.matches.requests.given r, e, f) refl
      at_phase q (EndedPhase end) e f = rw (z.matches.requests.given r, e, f) refl

      on : (o : Option Request) → request_at s r ≡ o → holding xs r ≡ id_or (held_connection s r) None
      on None e = rw (z.matches.requests.given r, e) refl
      on (Some q) e = at_phase q q.phase e refl

-- what the request is told
pub outcome-is : (s : PoolCore) (zs : List PoolItem) (m : Matches s zs) (r : ℕ) → outcome_of s.pool zs r ≡ outcome_now s r
outcome-is s zs m r = on (end_at (request_at s r)) (given_of (request_at s r)) refl refl
  where
    pending-in : (c : ℕ) → has c (pending_list zs) ≡ is_pending_at (connection_at s c)
    pending-in c = rw m.counts.pending (has-where (λ (x : Connection). x.id) (λ x. is_pending x.place) c s.kept.connections (m.counts.single c) ∙ at_pending (connection_at s c))

    on : (o : Option End) (k : Option ℕ) → end_at (request_at s r) ≡ o → given_of (request_at s r) ≡ k → outcome_of s.pool zs r ≡ outcome_now s r
    on (Some end) k e f = rw (m.requests.ends r, e) refl
    on None None e f = rw (m.requests.ends r, m.requests.given r, e, f) refl
    on None (Some c) e f = rw (m.requests.ends r, m.requests.given r, e, f, pending-in c) refl

-- the kinds of outcomes
pub outcome-any : (P : Reply → Type 0) → ((end : End) → P (Ended end)) → P Waiting → ((p c : ℕ) → P (Establishing p c)) → ((p c : ℕ) → P (Pooled p c)) → (s : PoolCore) (r : ℕ) → P (outcome_now s r)
outcome-any P at_end at_wait at_pending at_pooled s r = on (end_at (request_at s r)) (given_of (request_at s r)) refl refl
  where
    at_connection : (c : ℕ) (b : Bool) → end_at (request_at s r) ≡ None → given_of (request_at s r) ≡ Some c → is_pending_at (connection_at s c) ≡ b → P (outcome_now s r)
    at_connection c true e f g = rw (e, f, g) (at_pending s.pool c)
    at_connection c false e f g = rw (e, f, g) (at_pooled s.pool c)

    on : (o : Option End) (k : Option ℕ) → end_at (request_at s r) ≡ o → given_of (request_at s r) ≡ k → P (outcome_now s r)
    on (Some end) k e f = rw e (at_end end)
    on None None e f = rw (e, f) at_wait
    on None (Some c) e f = at_connection c (is_pending_at (connection_at s c)) e f refl

pub outcome-accepted : (s : PoolCore) (r : ℕ) → IsAccepted (outcome_now s r)
outcome-accepted s r = outcome-any IsAccepted (λ e. tt) tt (λ p c. tt) (λ p c. tt) s r

pub outcome-no-job : (s : PoolCore) (r p c : ℕ) → is_job p (outcome_now s r) c ≡ false
outcome-no-job s r p c = outcome-any (λ reply. is_job p reply c ≡ false) (λ e. refl) refl (λ q d. refl) (λ q d. refl) s r

-- how a live connection was used
pub live-errored : (s : PoolCore) (xs : List PoolItem) (m : Matches s xs) (c : ℕ) (x : Connection) → connection_at s c ≡ Some x → is_errored xs c ≡ x.errored
live-errored s xs m c x e = grind (arith, m.uses.errored c, e)

pub live-dropped : (s : PoolCore) (xs : List PoolItem) (m : Matches s xs) (c : ℕ) (x : Connection) → connection_at s c ≡ Some x → is_dropped (last_use xs c) ≡ is_dropped x.used
live-dropped s xs m c x e = grind (arith, m.uses.dropped c, e)

pub live-pins : (s : PoolCore) (xs : List PoolItem) (m : Matches s xs) (c : ℕ) (x : Connection) → connection_at s c ≡ Some x → pins xs c ≡ x.pins
live-pins s xs m c x e = m.pinning.pins c ∙ ap pins_at e

pub live-service : (s : PoolCore) (xs : List PoolItem) (m : Matches s xs) (c : ℕ) (x : Connection) → connection_at s c ≡ Some x → known_service xs c ≡ x.service
live-service s xs m c x e = grind (arith, m.told.service c, e)

-- who is given a connection has not ended
pub given-open : (o : Option Request) (c : ℕ) → given_of o ≡ Some c → end_at o ≡ None
given-open None c e = refl
given-open (Some q) c e = on q.phase refl
  where
    on : (p : Phase) → q.phase ≡ p → end_at (Some q) ≡ None
    on Queued f = rw f refl
    on (Given d) f = rw f refl
    on Over f = rw f refl
    on (EndedPhase end) f = let k : given_of (Some q) ≡ None = rw f refl in cc

-- who holds a connection was given it
holding-given : (xs : List PoolItem) (r : ℕ) → is_some (holding xs r) ≡ true → is_some (given xs r) ≡ true
holding-given xs r e = on (given xs r) refl
  where
    on : (o : Option ℕ) → given xs r ≡ o → is_some (given xs r) ≡ true
    on None f = let g : is_some (holding xs r) ≡ false = rw f refl in cc
    on (Some c) f = rw f refl

some-id : (o : Option Connection) → is_some (id_or o None) ≡ is_some o
some-id None = refl
some-id (Some x) = refl

pub holds-is : (s : PoolCore) (xs : List PoolItem) → Fits s xs → (r : ℕ) → is_some (holding xs r) ≡ is_some (held_connection s r)
holds-is s xs z r = ap is_some (holding-is s xs z r) ∙ some-id (held_connection s r)

-- who holds a connection is known
pub held-known : (s : PoolCore) (r : ℕ) → is_some (held_connection s r) ≡ true → is_some (request_at s r) ≡ true
held-known s r e = on (request_at s r) refl
  where
    on : (o : Option Request) → request_at s r ≡ o → is_some (request_at s r) ≡ true
    on None f = let k : is_some (held_connection s r) ≡ false = rw f refl in cc
    on (Some q) f = rw f refl

pub holds-given : (s : PoolCore) (xs : List PoolItem) → Fits s xs → (r : ℕ) → is_some (held_connection s r) ≡ true → is_some (given xs r) ≡ true
holds-given s xs z r e = holding-given xs r (ap is_some (holding-is s xs z r) ∙ (some-id (held_connection s r) ∙ e))

pub no-some : (o : Option Request) → is_some o ≡ false → o ≡ None
no-some None f = refl
no-some (Some q) f = cc

pub no-holder : (o : Option Connection) → is_some o ≡ false → o ≡ None
no-holder None f = refl
no-holder (Some q) f = cc
