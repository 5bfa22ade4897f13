-- What the calls of a harness come to.
use Rattle.std.proofs.Common.{◌≡◌, ℕ, ◌+◌, ◌<◌, true, inl, inr, List, [], ◌∷◌, ◌++◌, length, refl, sym, ap, ◌∙◌, subst, arith}
use Rattle.std.specs.Prelude.{nat_lt, unwrap_or, Option, Some, Result, Ok, Err, IfOk}
use Rattle.mdb_hello.specs.declared.response.HelloCommandResponse.{HelloCommandResponse}
use Rattle.mdb_base.specs.declared.address.ServerAddress.{ServerAddress}
use Rattle.std.proofs.Math.ListN.{set}
use Rattle.std.proofs.lemmas.Bool.{cases_Bool}
use Rattle.std.proofs.lemmas.List.{length-set, length-replicate}
use Rattle.mdb_base.specs.declared.options.Options.{Options}
use Rattle.mdb_log.specs.History.{history_of, open_pool}
use Rattle.mdb_log.specs.declared.checked.HelloResult.{HelloResult}
use Rattle.mdb_log.specs.declared.checked.HelloResult.TheVariants as hello
use Rattle.mdb_log.specs.declared.step.Act.TheVariants.{Hello}
use Rattle.mdb_log.specs.declared.log.Entry.{Entry}
use Rattle.mdb_log.specs.declared.reply.Reply.{Reply}
use Rattle.mdb_log.specs.declared.step.Step.{Step}
use Rattle.mdb_topology.specs.declared.topology.TopologyCore.{TopologyCore}
use Rattle.mdb_driver_rules.specs.Answer.{answer as answer_of}
use Rattle.mdb_driver_rules.specs.Lines.{entry_after}
use Rattle.mdb_topology.specs.Logging.{opening_step, IsDriverOf}
use Rattle.mdb_topology.specs.Stepping.{IsLogged}
use Rattle.mdb_topology.specs.Driving.{IsTaken}
use Rattle.mdb_driver_rules.specs.Acts.{is_driver_act}
use Rattle.mdb_topology.proofs.DriverOpened.ScriptsLog.{steps-opened}
use Rattle.mdb_fleets.specs.declared.member.Member.{Member}
use Rattle.mdb_fleets.specs.declared.member.Sent.{Sent}
use Rattle.mdb_fleet_runs.specs.declared.event.FleetAct.{FleetAct}
use Rattle.mdb_fleets.specs.MemberReplies.{address_of}
use Rattle.mdb_fleets.specs.Members.{new_member, is_primary, winner, greatest_version}
use Rattle.mdb_fleets.specs.ReplicaSet.{ReplicaSet, new_set, member_at, elected, changed_primary}
use Rattle.mdb_fleet_runs.specs.declared.answers.FleetAnswer.{FleetAnswer}
use Rattle.mdb_fleet_runs.specs.declared.answers.FleetAnswer.TheVariants as answer
use Rattle.mdb_fleet_runs.specs.declared.harness.Harness.{Harness}
use Rattle.mdb_fleet_runs.specs.Harnesses.{behind, trial_in, Watches, Comes}
use Rattle.mdb_fleet_runs.specs.Trials.{Trial, Outcome, fleet_options, opened, log_in, history_in, pool_of, hello_step, refuses, with_set, steps, delivers, by_member, happens}

-- a refused event
pub refuses-so : (n : ℕ) (f : Harness) (log : List Entry) (why : FleetAnswer) → Watches n f log → Comes n f log why (refuses why (trial_in f log))
refuses-so n f log why w = record { answered = refl; trial = refl; watches = w }

-- an event of the fleet alone
pub sets-so : (n : ℕ) (f : Harness) (s : ReplicaSet) (log : List Entry) (told : FleetAnswer) → Watches n f log → length s.members ≡ length f.fleet.members → Comes n (record f { fleet = s }) log told (with_set told (trial_in f log) s)
sets-so n f s log told w same = record {
  answered = refl;
  trial = refl;
  watches = record { size = same ∙ w.size; own = w.own; stands = w.stands; begins = w.begins };
}

-- a step of the driver
pub steps-so : (n : ℕ) (f : Harness) (v : TopologyCore) (log after : List Entry) (step : Step) (told : Reply) → Watches n f log → v.options ≡ f.core.options → IsLogged f.core v log after 0 step
    → is_driver_act step.act ≡ true → told ≡ (answer_of f.core.options (history_of log) step).reply → Comes n (record f { core = v }) after (answer.Told told) (steps n (trial_in f log) step)
steps-so n f v log after step told w same logs act is =
    let taken : IsTaken log step = subst (λ (l : List Entry). IsTaken l step) (sym w.begins) act in
    let both = steps-opened f.core v log after step w.stands taken same logs in
    let t : Trial = trial_in f log in
    let e : Entry = entry_after 0 (log_in n t) step in
    let grown : after ≡ log_in n t ++ e ∷ [] = both.0 ∙ ap (λ (l : List Entry). l ++ entry_after 0 l step ∷ []) w.begins in
    let its : told ≡ e.reply = is ∙ ap (λ (o : Options). (answer_of o (history_of log) step).reply) w.own ∙ ap (λ (l : List Entry). (answer_of (fleet_options n) (history_of l) step).reply) w.begins in
    record {
      answered = ap (λ (r : Reply). answer.Told r) its;
      trial = ap (λ (l : List Entry). record { set = f.fleet; entries = behind l }) grown;
      watches = record {
        size = w.size;
        own = same ∙ w.own;
        stands = both.1;
        begins = grown ∙ ap (λ (es : List Entry). opened n ∷ es) (sym (ap behind grown));
      };
    }

-- an opening
pub opens-so : (n : ℕ) (f : Harness) (o : Options) (log : List Entry) → f.fleet ≡ new_set n → f.core.options ≡ o → o ≡ fleet_options n → log ≡ entry_after 0 [] (opening_step o) ∷ [] → IsDriverOf f.core log
    → (log ≡ opened n ∷ []) × Watches n f log
opens-so n f o log fleet own is first stands =
    let size : length f.fleet.members ≡ n = ap (λ (s : ReplicaSet). length s.members) fleet ∙ length-replicate n new_member in
    let begun : log ≡ opened n ∷ [] = first ∙ ap (λ (q : Options). entry_after 0 [] (opening_step q) ∷ []) is in
    (begun, record { size = size; own = own ∙ is; stands = stands; begins = begun ∙ ap (λ (es : List Entry). opened n ∷ es) (sym (ap behind begun)) })

-- changes keep the number of members

pub elected-size : (s : ReplicaSet) (k : ℕ) → length (elected s k).members ≡ length s.members
elected-size s k = length-set s.members k (winner (s.elections + 1) (greatest_version s.members) (member_at s k))

pub changed-size : (change : Member → Member) (s : ReplicaSet) (k : ℕ) → length (changed_primary change s k).members ≡ length s.members
changed-size change s k = elim (cases_Bool (is_primary (member_at s k))) [
  | inl primary ↦ rw primary (length-set s.members k (change (member_at s k)))
  | inr other ↦ rw other refl
]

abbrev asked_by : ℕ → ServerAddress → ℕ → HelloResult → Step
asked_by m a p came = record { moment = m; act = Hello a p came }

-- a hello by the monitor of a member's open pool
pub hello-so : (n : ℕ) (f : Harness) (v : TopologyCore) (log after : List Entry) (m k : ℕ) (a : ServerAddress) (p : ℕ) (came : HelloResult) (told : Reply) → Watches n f log → a ≡ address_of k
    → p ≡ unwrap_or (open_pool (history_of log) a) 0 → v.options ≡ f.core.options → IsLogged f.core v log after 0 (record { moment = m; act = Hello a p came })
    → told ≡ (answer_of f.core.options (history_of log) (record { moment = m; act = Hello a p came })).reply
    → Comes n (record f { core = v }) after (answer.Told told) (steps n (trial_in f log) (hello_step n (trial_in f log) m k came))
hello-so n f v log after m k a p came told w at pool same logs is =
    let t : Trial = trial_in f log in
    let its-pool : p ≡ pool_of n t k = pool ∙ ap (λ (l : List Entry). unwrap_or (open_pool (history_of l) a) 0) w.begins ∙ ap (λ (b : ServerAddress). unwrap_or (open_pool (history_in n t) b) 0) at in
    let step-is : asked_by m a p came ≡ hello_step n t m k came = ap (λ (b : ServerAddress). asked_by m b p came) at ∙ ap (λ (q : ℕ). asked_by m (address_of k) q came) its-pool in
    subst (λ (s : Step). Comes n (record f { core = v }) after (answer.Told told) (steps n t s)) step-is (steps-so n f v log after (asked_by m a p came) told w same logs refl is)

-- what holds of an answer that was given

pub if-ok-map : {T E : Type 0} (r : Result T E) (P Q : T → Type 0) → ((x : T) → P x → Q x) → IfOk r P → IfOk r Q
if-ok-map (Ok x) P Q f h = f x h
if-ok-map (Err e) P Q f h = tt

-- a member that is there does what only a member can
pub member-comes : (n : ℕ) (f g : Harness) (log after : List Entry) (told : FleetAnswer) (k : ℕ) (o : Outcome) → k < length f.fleet.members → Comes n g after told o → Comes n g after told (by_member (trial_in f log) k o)
member-comes n f g log after told k o there h = let so : nat_lt k (length f.fleet.members) ≡ true = grind arith in rw so h

-- a reply that is there is delivered
pub delivers-so : (n m : ℕ) (f g : Harness) (log after : List Entry) (told : FleetAnswer) (x : Sent) (o : Option Sent) (reply : HelloCommandResponse) → o ≡ Some x → reply ≡ x.response
    → Comes n g after told (steps n (trial_in f log) (hello_step n (trial_in f log) m x.member (hello.Ok 0 reply))) → Comes n g after told (delivers n (trial_in f log) m o)
delivers-so n m f g log after told x o reply at is h =
    subst (λ (y : Option Sent). Comes n g after told (delivers n (trial_in f log) m y)) (sym at)
    (subst (λ (r : HelloCommandResponse). Comes n g after told (steps n (trial_in f log) (hello_step n (trial_in f log) m x.member (hello.Ok 0 r)))) is h)

-- an event is what its act does
pub acts-so : (n m : ℕ) (g : Harness) (t : Trial) (after : List Entry) (told : FleetAnswer) (a b : FleetAct) → a ≡ b → Comes n g after told (happens n t m b) → Comes n g after told (happens n t m a)
acts-so n m g t after told a b same h = subst (λ (x : FleetAct). Comes n g after told (happens n t m x)) (sym same) h
