-- What the printed entries of a legal log show is a legal log: events of servers and of the topology, of which the text alone is shown, say nothing of pools.
use Rattle.std.proofs.Common.{ℕ, ◌≡◌, Bool, true, false, not, ◌&&◌, ◌||◌, if◌then◌else◌, filter, List, [], ◌∷◌, map, All, Option, Some, None, ◌⊎◌, inl, inr, refl, sym, ap, ◌∙◌, subst}
use Rattle.std.specs.Bool.{MatchBool}
use Rattle.std.specs.List.{list_all}
use Rattle.std.specs.Prelude.{nat_lt}
use Rattle.std.proofs.lemmas.List.Elements.{All-map}
use Rattle.mdb_base.specs.declared.address.ServerAddress.{ServerAddress}
use Rattle.mdb_base.specs.declared.options.Options.{Options}
use Rattle.mdb_events.specs.declared.fact.Fact.{Fact}
use Rattle.mdb_events.specs.declared.fact.Fact.TheVariants as fact
use Rattle.mdb_log.specs.declared.log.Entry.{Entry}
use Rattle.mdb_log.specs.declared.options.PoolOptions.{PoolOptions}
use Rattle.mdb_log.specs.declared.step.Act.{Act}
use Rattle.mdb_log.specs.declared.step.Act.TheVariants.{Open}
use Rattle.mdb_log.specs.declared.step.Step.{Step}
use Rattle.mdb_log.specs.declared.reply.Reply.{Reply}
use Rattle.mdb_log.specs.declared.reply.Reply.TheVariants.{Refused}
use Rattle.mdb_log.specs.History.{Item, did, made, is_number, of_pool, with_facts, with_answer}
use Rattle.mdb_log.specs.Connections.{has}
use Rattle.mdb_log.specs.Homes.{Home, homes}
use Rattle.mdb_log.specs.Legal.{first}
use Rattle.mdb_log.specs.Opening.{is_opening, pool_options}
use Rattle.mdb_log.specs.PlainLegal.{IsNext, FirstCome, AllFirstCome, IsFairAnswer, InPlace, OnePlace, NoneLeftWaiting, IsLegal, IsOpened, LegalLog, with_entry, counts_from, is_ascending, has_address, opens_seeds}
use Rattle.mdb_log.specs.PlainRequests.{requests, waiting}
use Rattle.mdb_log.specs.State.{State}
use Rattle.mdb_log.specs.PlainState.{pools, last_state, has_ready, is_ready_pool, could_be_granted}
use Rattle.mdb_entries.specs.OfLog.{shown_of_fact, shown_of}
use Rattle.mdb_judging.specs.Shown.{facts_of, entry_of, entries_of}
use Rattle.mdb_tallies.specs.Standing.{connection_of, party_of, pool_stands}
use Rattle.mdb_tallies.specs.Verdicts.{in_place_now, could_grant_now}
use Rattle.mdb_tallies.specs.declared.party.Party.{Party}
use Rattle.mdb_judging.proofs.Alike.{Alike, alike-none, alike-fact, alike-told, alike-step}
use Rattle.mdb_tallies.proofs.Counted.{in-place, in-place-not, could-grant}

-- the facts that the printed ones show
abbrev told_of : List Fact → List Fact
told_of facts = facts_of (map shown_of_fact facts)

alike-facts : (o : PoolOptions) (m : ℕ) (facts : List Fact) (h k : List Item) → Alike o h k → Alike o (with_facts m facts h) (with_facts m (told_of facts) k)
alike-facts o m [] h k x = x
alike-facts o m (fact.Opened p a ∷ fs) h k x = alike-facts o m fs (made m (fact.Opened p a) ∷ h) (made m (fact.Opened p a) ∷ k) (alike-fact o m (fact.Opened p a) h k x)
alike-facts o m (fact.Pool p e ∷ fs) h k x = alike-facts o m fs (made m (fact.Pool p e) ∷ h) (made m (fact.Pool p e) ∷ k) (alike-fact o m (fact.Pool p e) h k x)
alike-facts o m (fact.Granted r p c ∷ fs) h k x = alike-facts o m fs (made m (fact.Granted r p c) ∷ h) (made m (fact.Granted r p c) ∷ k) (alike-fact o m (fact.Granted r p c) h k x)
alike-facts o m (fact.Ended r e ∷ fs) h k x = alike-facts o m fs (made m (fact.Ended r e) ∷ h) (made m (fact.Ended r e) ∷ k) (alike-fact o m (fact.Ended r e) h k x)
alike-facts o m (fact.Raised p service e ∷ fs) h k x = alike-facts o m fs (made m (fact.Raised p service e) ∷ h) (made m (fact.Raised p service e) ∷ k) (alike-fact o m (fact.Raised p service e) h k x)
alike-facts o m (fact.Sdam event ∷ fs) h k x = alike-facts o m fs (made m (fact.Sdam event) ∷ h) k (alike-told o m event h k x)
alike-facts o m (fact.CheckNow a ∷ fs) h k x = alike-facts o m fs (made m (fact.CheckNow a) ∷ h) (made m (fact.CheckNow a) ∷ k) (alike-fact o m (fact.CheckNow a) h k x)
alike-facts o m (fact.Cancel a ∷ fs) h k x = alike-facts o m fs (made m (fact.Cancel a) ∷ h) (made m (fact.Cancel a) ∷ k) (alike-fact o m (fact.Cancel a) h k x)

alike-answer : (o : PoolOptions) (step : Step) (reply : Reply) (facts : List Fact) (h k : List Item) → Alike o h k → Alike o (with_answer step reply facts h) (with_answer step reply (told_of facts) k)
alike-answer o step (Refused why) facts h k x = x
alike-answer o step reply facts h k x = alike-facts o step.moment facts (did step reply ∷ h) (did step reply ∷ k) (alike-step o step.moment step.act reply h k x)

-- grants

-- who is next, by what is known of the parties and by the order of the requests
abbrev next_by : (ℕ → Party) → List ℕ → ℕ → ℕ → Type 0
next_by known rs p r =
    let queue : List ℕ = filter (λ q. is_number (known q).pool p && not ((known q).is_granted || (known q).is_ended)) rs in
    MatchBool (known r).is_warm (has r queue ≡ true) (first (filter (λ q. not (known q).is_warm) queue) ≡ Some r)

next-same : (o : PoolOptions) (h k : List Item) (p r : ℕ) → Alike o h k → IsNext p h r → IsNext p k r
next-same o h k p r x next = subst (λ rs. next_by (party_of k) rs p r) x.requests_are (subst (λ (known : ℕ → Party). next_by known (requests h) p r) (λ i q. x.parties q i) next)

granted-same : (o : PoolOptions) (h k : List Item) (r p c : ℕ) → Alike o h k → FirstCome h (fact.Granted r p c) → FirstCome k (fact.Granted r p c)
granted-same o h k r p c x fair = (sym (ap (λ z. z.pool) (x.parties r)) ∙ fair.0, sym (ap (λ z. nat_lt 0 z.creations) (x.connections p c)) ∙ fair.1, next-same o h k p r x fair.2)

fair-facts : (o : PoolOptions) (m : ℕ) (facts : List Fact) (h k : List Item) → Alike o h k → AllFirstCome m h facts → AllFirstCome m k (told_of facts)
fair-facts o m [] h k x fair = tt
fair-facts o m (fact.Opened p a ∷ fs) h k x fair = (tt, fair-facts o m fs (made m (fact.Opened p a) ∷ h) (made m (fact.Opened p a) ∷ k) (alike-fact o m (fact.Opened p a) h k x) fair.1)
fair-facts o m (fact.Pool p e ∷ fs) h k x fair = (tt, fair-facts o m fs (made m (fact.Pool p e) ∷ h) (made m (fact.Pool p e) ∷ k) (alike-fact o m (fact.Pool p e) h k x) fair.1)
fair-facts o m (fact.Granted r p c ∷ fs) h k x fair = (granted-same o h k r p c x fair.0, fair-facts o m fs (made m (fact.Granted r p c) ∷ h) (made m (fact.Granted r p c) ∷ k) (alike-fact o m (fact.Granted r p c) h k x) fair.1)
fair-facts o m (fact.Ended r e ∷ fs) h k x fair = (tt, fair-facts o m fs (made m (fact.Ended r e) ∷ h) (made m (fact.Ended r e) ∷ k) (alike-fact o m (fact.Ended r e) h k x) fair.1)
fair-facts o m (fact.Raised p service e ∷ fs) h k x fair = (tt, fair-facts o m fs (made m (fact.Raised p service e) ∷ h) (made m (fact.Raised p service e) ∷ k) (alike-fact o m (fact.Raised p service e) h k x) fair.1)
fair-facts o m (fact.Sdam event ∷ fs) h k x fair = fair-facts o m fs (made m (fact.Sdam event) ∷ h) k (alike-told o m event h k x) fair.1
fair-facts o m (fact.CheckNow a ∷ fs) h k x fair = (tt, fair-facts o m fs (made m (fact.CheckNow a) ∷ h) (made m (fact.CheckNow a) ∷ k) (alike-fact o m (fact.CheckNow a) h k x) fair.1)
fair-facts o m (fact.Cancel a ∷ fs) h k x fair = (tt, fair-facts o m fs (made m (fact.Cancel a) ∷ h) (made m (fact.Cancel a) ∷ k) (alike-fact o m (fact.Cancel a) h k x) fair.1)

fair-answer : (o : PoolOptions) (h k : List Item) (step : Step) (reply : Reply) (facts : List Fact) → Alike o h k → IsFairAnswer h step reply facts → IsFairAnswer k step reply (told_of facts)
fair-answer o h k step (Refused why) facts x fair = tt
fair-answer o h k step reply facts x fair = fair-facts o step.moment facts (did step reply ∷ h) (did step reply ∷ k) (alike-step o step.moment step.act reply h k x) fair

-- places, and who waits

one-place-same : (o : PoolOptions) (h k : List Item) → Alike o h k → OnePlace h → OnePlace k
one-place-same o h k x one = λ p c. in-place p k c ((λ i. in_place_now (sym (x.connections p c) i) (sym (x.pinned_are p c) i)) ∙ in-place-not p h c (one p c))

-- who waits, by the same
abbrev waiting_by : (ℕ → Party) → List ℕ → ℕ → List ℕ
waiting_by known rs p = filter (λ q. not (known q).is_warm) (filter (λ q. is_number (known q).pool p && not ((known q).is_granted || (known q).is_ended)) rs)

waiting-same : (o : PoolOptions) (h k : List Item) (p : ℕ) → Alike o h k → waiting p h ≡ waiting p k
waiting-same o h k p x = λ i. waiting_by (λ q. x.parties q i) (x.requests_are i) p

none-left-same : (o : PoolOptions) (h k : List Item) → Alike o h k → NoneLeftWaiting o h → NoneLeftWaiting o k
none-left-same o h k x none = λ p. at p (none p)
  where
    at : (p : ℕ) → (waiting p h ≡ []) ⊎ (could_be_granted o p h ≡ false) → (waiting p k ≡ []) ⊎ (could_be_granted o p k ≡ false)
    at p (inl e) = inl (sym (waiting-same o h k p x) ∙ e)
    at p (inr e) = inr (could-grant o p k ∙ sym (ap (could_grant_now o) (x.pools p)) ∙ sym (could-grant o p h) ∙ e)

-- entries

legal-shown : (o : PoolOptions) (h k : List Item) (entries : List Entry) → Alike o h k → IsLegal o h entries → IsLegal o k (entries_of (map shown_of entries))
legal-shown o h k [] x legal = tt
legal-shown o h k (e ∷ entries) x legal =
    let y : Alike o (with_entry h e) (with_entry k (entry_of (shown_of e))) = alike-answer o e.step e.reply e.facts h k x in (
      fair-answer o h k e.step e.reply e.facts x legal.0,
      one-place-same o (with_entry h e) (with_entry k (entry_of (shown_of e))) y legal.1,
      none-left-same o (with_entry h e) (with_entry k (entry_of (shown_of e))) y legal.2,
      legal-shown o (with_entry h e) (with_entry k (entry_of (shown_of e))) entries y legal.3,
    )

-- the rule of the first entry

opened_ready : (b : Bool) (s : Option State) → has_ready (if b then s else None) ≡ b && has_ready s
opened_ready true s = refl
opened_ready false s = refl

ready-same : (o : PoolOptions) (h k : List Item) (p : ℕ) → Alike o h k → is_ready_pool o p h ≡ is_ready_pool o p k
ready-same o h k p x = opened_ready (has p (pools h)) (last_state o (of_pool p h)) ∙ ap (λ z. z.is_opened && z.is_ready) (x.pools p) ∙ sym (opened_ready (has p (pools k)) (last_state o (of_pool p k)))

-- which pools the history opens, by these and by which of them are ready
abbrev opens_by : Options → List Home → (ℕ → Bool) → Bool
opens_by o xs ready =
    let addresses : List ServerAddress = map (λ x. x.address) xs in
    counts_from 0 xs && (is_ascending addresses && (list_all (has_address addresses) o.seeds && (list_all (has_address o.seeds) addresses
    && (not o.load_balanced || list_all (λ x. ready x.number) xs))))

opens-same : (o : Options) (h k : List Item) → Alike (pool_options o) h k → opens_seeds o h ≡ opens_seeds o k
opens-same o h k x = λ i. opens_by o (x.homes_are i) (λ p. ready-same (pool_options o) h k p x i)

opened-shown : (act : Act) (e : Entry) (log : List Entry) → IsOpened act e log → IsOpened act (entry_of (shown_of e)) (entries_of (map shown_of log))
opened-shown (Open o) e log opened = (
  opened.0,
  sym (opens-same o (with_entry [] e) (with_entry [] (entry_of (shown_of e))) (alike-answer (pool_options o) e.step e.reply e.facts [] [] (alike-none (pool_options o)))) ∙ opened.1,
  All-map (λ z. is_opening z.step.act ≡ false) entry_of (map shown_of log) (All-map (λ z. is_opening z.step.act ≡ false) shown_of log opened.2),
  legal-shown (pool_options o) [] [] (e ∷ log) (alike-none (pool_options o)) opened.3,
)
opened-shown act e log opened = absurd opened

-- Legal entries show legal ones.
pub legal-log-shown : (log : List Entry) → LegalLog log → LegalLog (entries_of (map shown_of log))
legal-log-shown [] legal = tt
legal-log-shown (e ∷ log) legal = opened-shown e.step.act e log legal
