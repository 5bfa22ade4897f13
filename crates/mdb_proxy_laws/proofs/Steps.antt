-- In the log of a driver whose steps are those that a proxy makes, each pending connection of a pool has a party after each entry.
use Rattle.std.proofs.Common.{ℕ, ◌≡◌, ◌==◌, Bool, true, false, List, [], ◌∷◌, ◌++◌, Option, Some, None, is_some, refl, sym, ◌∙◌, ap, subst, append-nil, append_assoc}
use Rattle.std.specs.Prelude.{⊤}
use Rattle.mdb_base.specs.declared.address.ServerAddress.{ServerAddress}
use Rattle.mdb_base.specs.declared.options.Options.{Options}
use Rattle.mdb_log.specs.declared.log.Entry.{Entry}
use Rattle.mdb_log.specs.declared.step.Step.{Step}
use Rattle.mdb_log.specs.declared.step.Act.{Act}
use Rattle.mdb_log.specs.declared.step.Act.TheVariants as act
use Rattle.mdb_log.specs.declared.step.FailedAt.TheVariants.{Pre, Post}
use Rattle.mdb_log.specs.declared.reply.Refused.{Refused as RefusedBy}
use Rattle.mdb_log.specs.declared.reply.Reply.{Reply}
use Rattle.mdb_log.specs.Answer.{Answer}
use Rattle.mdb_log.specs.History.{Item, did, PoolItem, is_number, given, if_so, of_pool, open_pool, after_act, after_facts, with_act, with_facts, with_answer, history_of}
use Rattle.mdb_log.proofs.Later.{of_pool-with_facts, with_answer-accepted, with_entries-append}
use Rattle.mdb_sound.specs.Sound.{Sound}
use Rattle.mdb_topology.specs.declared.topology.TopologyCore.{TopologyCore}
use Rattle.mdb_driver_rules.specs.Answer.{answer, reply_to}
use Rattle.mdb_driver_rules.specs.Facts.{step_facts}
use Rattle.mdb_driver_rules.specs.Homes.{begun}
use Rattle.mdb_driver_rules.specs.Lines.{options_in, answer_after, entry_after}
use Rattle.mdb_topology.specs.Logging.{opening_step, Stood, AreDriven, IsDriverOf}
use Rattle.mdb_driver_rules.specs.Refusal.{refusal}
use Rattle.mdb_histories.specs.SoundHistory.{SoundHistory}
use Rattle.mdb_histories.proofs.Answers.{keeps-sound, opening-sound}
use Rattle.mdb_histories.proofs.Parties.{each-sound}
use Rattle.mdb_histories.proofs.Replies.{accepted-reply}
use Rattle.mdb_proxies.specs.Passing.{is_passed}
use Rattle.mdb_proxy_laws.proofs.Uncreating.{is_maintaining}
use Rattle.mdb_proxy_laws.proofs.Paired.{step-paired}
use Rattle.mdb_proxy_laws.proofs.Owned.{IsOwned, owned-item, before-facts, owned-facts}

-- an act that a proxy makes
abbrev pub is_proxied : Act → Bool
is_proxied (act.Request r a) = true
is_proxied (act.Collect r) = true
is_proxied (act.Return r used) = true
is_proxied a = is_passed a

-- so are those of these entries
abbrev pub AreProxied : List Entry → Type 0
AreProxied [] = ⊤
AreProxied (e ∷ es) = (is_proxied e.step.act ≡ true) × AreProxied es

proxied-maintains : (a : Act) → is_proxied a ≡ true → is_maintaining a ≡ false
proxied-maintains (act.Maintain a) e = absurd (let k : false ≡ true = e in cc)
proxied-maintains _ e = refl

-- each pool is owned
abbrev pub AreOwned : List Item → Type 0
AreOwned h = (p : ℕ) → IsOwned (of_pool p h)

module _ (p : ℕ) (here : ServerAddress → Option ℕ) (m : ℕ) (xs : List PoolItem) (w : IsOwned xs) where
  if-owned : (b : Bool) (x : PoolItem) → Sound (if_so b x xs) → (Sound (x ∷ xs) → IsOwned (x ∷ xs)) → IsOwned (if_so b x xs)
  if-owned true x s f = f s
  if-owned false x s f = w

  owned-act : (a : Act) → is_proxied a ≡ true → Sound (after_act p here m a xs) → IsOwned (after_act p here m a xs)
  owned-act (act.Request r b) e s = if-owned (is_number (here b) p) _ s (λ t. owned-item xs _ t w refl refl)
  owned-act (act.Established q c how) e s = if-owned (q == p) _ s (λ t. owned-item xs _ t w refl refl)
  owned-act (act.Failed q c Pre error) e s = if-owned (q == p) _ s (λ t. owned-item xs _ t w refl refl)
  owned-act (act.Failed q c (Post service) error) e s = if-owned (q == p) _ s (λ t. owned-item xs _ t w refl refl)
  owned-act (act.Return r used) e s = if-owned (is_some (given xs r)) _ s (λ t. owned-item xs _ t w refl refl)
  owned-act (act.Warm r b) e s = absurd (let k : false ≡ true = e in cc)
  owned-act (act.GiveUp r) e s = absurd (let k : false ≡ true = e in cc)
  owned-act (act.Pin r) e s = absurd (let k : false ≡ true = e in cc)
  owned-act (act.Replicate q c) e s = absurd (let k : false ≡ true = e in cc)
  owned-act (act.Take r q c) e s = absurd (let k : false ≡ true = e in cc)
  owned-act (act.Unpin q c) e s = absurd (let k : false ≡ true = e in cc)
  owned-act _ e s = w

-- an answer that keeps the history sound keeps its pools owned
answer-owned : (o : Options) (h : List Item) (step : Step) → is_maintaining step.act ≡ false → ((p : ℕ) → Sound (with_act p h step) → IsOwned (with_act p h step))
    → SoundHistory (with_answer step (answer o h step).reply (answer o h step).facts h) → AreOwned h → AreOwned (with_answer step (answer o h step).reply (answer o h step).facts h)
answer-owned o h step e acts sound w p = on (refusal o h step) refl sound
  where
    by : (reply : Reply) → SoundHistory (with_facts step.moment (step_facts o h step) (did step reply ∷ h)) → IsOwned (of_pool p (with_facts step.moment (step_facts o h step) (did step reply ∷ h)))
    by reply s =
        let is = of_pool-with_facts p step.moment (step_facts o h step) (did step reply ∷ h) in
        let t : Sound (after_facts p step.moment (step_facts o h step) (with_act p h step)) = subst Sound is (each-sound (with_facts step.moment (step_facts o h step) (did step reply ∷ h)) s p) in
        let before : Sound (with_act p h step) = before-facts p step.moment (step_facts o h step) (with_act p h step) t in
        subst IsOwned (sym is) (owned-facts p step.moment (step_facts o h step) (with_act p h step) (step-paired o h step e) t (acts p before))

    on : (why : Option RefusedBy) → refusal o h step ≡ why → SoundHistory (with_answer step (answer o h step).reply (answer o h step).facts h) → IsOwned (of_pool p (with_answer step (answer o h step).reply (answer o h step).facts h))
    on (Some why) i s = rw i (w p)
    on None i s =
        let told : Reply = reply_to o h step (with_facts step.moment (step_facts o h step) (begun h step)) step.act in
        let same : answer o h step ≡ record { reply = told; facts = step_facts o h step } = rw i refl in
        let z : SoundHistory (with_answer step told (step_facts o h step) h) = subst (λ (a : Answer). SoundHistory (with_answer step a.reply a.facts h)) same s in
        let accepted = with_answer-accepted step told (step_facts o h step) h (accepted-reply o h step (with_facts step.moment (step_facts o h step) (begun h step)) step.act) in
        subst (λ (a : Answer). IsOwned (of_pool p (with_answer step a.reply a.facts h))) (sym same)
        (subst (λ (k : List Item). IsOwned (of_pool p k)) (sym accepted) (by told (subst SoundHistory accepted z)))

-- the entries that a driver made after a log
driven-owned : (o : Options) (first : Entry) (log es : List Entry) → options_in first.step.act ≡ o → Stood o (first ∷ log) → AreDriven o (first ∷ log) es → AreProxied es → SoundHistory (history_of (first ∷ log)) → AreOwned (history_of (first ∷ log))
    → AreOwned (history_of (first ∷ (log ++ es)))
driven-owned o first log [] own stood driven acts sound owned = subst (λ (l : List Entry). AreOwned (history_of (first ∷ l))) (sym (append-nil log)) owned
driven-owned o first log (e ∷ es) own stood driven acts sound owned =
    let h : List Item = history_of (first ∷ log) in
    let w : TopologyCore = stood.driver in
    let same : answer_after (first ∷ log) e.step ≡ answer w.options h e.step = ap (λ (q : Options). answer q h e.step) (own ∙ sym stood.own) in
    let told : SoundHistory (with_answer e.step (answer w.options h e.step).reply (answer w.options h e.step).facts h) = keeps-sound w h stood.stands sound e.step driven.0.taken in
    let kept : AreOwned (with_answer e.step (answer w.options h e.step).reply (answer w.options h e.step).facts h) = answer-owned w.options h e.step (proxied-maintains e.step.act acts.0) (λ p z. owned-act p (open_pool h) e.step.moment (of_pool p h) (owned p) e.step.act acts.0 z) told owned in
    let longer : history_of (first ∷ (log ++ e ∷ [])) ≡ with_answer e.step e.reply e.facts h = with_entries-append (first ∷ log) e [] in
    let sound-now : SoundHistory (history_of (first ∷ (log ++ e ∷ []))) = subst SoundHistory (sym longer) (subst (λ (x : Entry). SoundHistory (with_answer e.step x.reply x.facts h)) (sym driven.0.answers) (subst (λ (a : Answer). SoundHistory (with_answer e.step a.reply a.facts h)) (sym same) told)) in
    let owned-now : AreOwned (history_of (first ∷ (log ++ e ∷ []))) = subst AreOwned (sym longer) (subst (λ (x : Entry). AreOwned (with_answer e.step x.reply x.facts h)) (sym driven.0.answers) (subst (λ (a : Answer). AreOwned (with_answer e.step a.reply a.facts h)) (sym same) kept)) in
    subst (λ (l : List Entry). AreOwned (history_of (first ∷ l))) (append_assoc log (e ∷ []) es) (driven-owned o first (log ++ e ∷ []) es own driven.0.stood driven.1 acts.1 sound-now owned-now)

none-owned : IsOwned []
none-owned = record { simple = refl; each = λ c h. absurd (let k : false ≡ true = h in cc) }

opening-owned : (o : Options) → AreOwned (with_answer (opening_step o) (answer o [] (opening_step o)).reply (answer o [] (opening_step o)).facts [])
opening-owned o = answer-owned o [] (opening_step o) refl (λ p z. none-owned) (opening-sound o) (λ p. none-owned)

cons-tail : {A : Type 0} (x y : A) (xs ys : List A) → x ∷ xs ≡ y ∷ ys → xs ≡ ys
cons-tail x y xs ys e = cc

-- Behind an opening with steps that a proxy makes each pool is owned.
pub log-owned : (w : TopologyCore) (first : Entry) (later : List Entry) → IsDriverOf w (first ∷ later) → AreProxied later → AreOwned (history_of (first ∷ later))
log-owned w first later z acts =
    let begin : Entry = entry_after z.seat [] (opening_step w.options) in
    let same : later ≡ z.entries = cons-tail first begin later z.entries z.logged in
    subst (λ (l : List Entry). AreOwned (history_of l)) (sym z.logged)
    (driven-owned w.options begin [] z.entries refl z.began z.driven (subst AreProxied same acts) (opening-sound w.options) (opening-owned w.options))
