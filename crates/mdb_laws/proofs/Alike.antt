-- An accepted error that tells of no trouble leaves every query as it was.
use Rattle.std.proofs.Common.{ℕ, ◌≡◌, ◌+◌, Bool, true, false, List, ◌∷◌, None, refl, ◌∙◌, ap, arith}
use Rattle.mdb_base.specs.declared.options.Options.{Options}
use Rattle.mdb_base.specs.declared.error.Error.{Error}
use Rattle.mdb_log.specs.declared.options.PoolOptions.{PoolOptions}
use Rattle.mdb_log.specs.declared.step.Step.{Step}
use Rattle.mdb_describe.specs.declared.topology.TopologyDescription.{TopologyDescription}
use Rattle.mdb_log.specs.declared.step.Act.{Act}
use Rattle.mdb_log.specs.declared.step.Act.TheVariants as Do
use Rattle.mdb_log.specs.declared.checked.HelloResult.TheVariants as Hello
use Rattle.mdb_log.specs.declared.checked.BeatenResult.TheVariants as Beaten
use Rattle.mdb_log.specs.declared.reply.Reply.TheVariants.{Changed}
use Rattle.mdb_log.specs.History.{Item, did}
use Rattle.mdb_log.specs.Opening.{pool_options}
use Rattle.mdb_driver_rules.specs.Homes.{begun}
use Rattle.mdb_driver_rules.specs.Description.{description_of, published, is_stopped, rule_of, step_rule, rule_after, changed}
use Rattle.mdb_laws.specs.Alike.{ConnectionsAlike, PoolsAlike, RequestsAlike, ServersAlike, TellsAlike}

module _ (o : Options) (h : List Item) (m r : ℕ) (e : Error) where
  abbrev step : Step
  step = record { moment = m; act = Do.Error r e }

  abbrev k : List Item
  k = did step (Changed false) ∷ h

  connections : (q : PoolOptions) → ConnectionsAlike q h k
  connections q = record {
    live_is = λ p c. refl;
    created_is = λ p c. refl;
    pending_is = λ p c. refl;
    available_is = λ p c. refl;
    since_is = λ p c. refl;
    held_is = λ p c. refl;
    parties_are = λ p c. refl;
    holding_is = λ p n. refl;
    pins_are = λ p c. refl;
    pinned_is = λ p c. refl;
    service_is = λ p c. refl;
    wire_is = λ p c. refl;
    use_is = λ p c. refl;
    errored_is = λ p c. refl;
    stale_is = λ p c. refl;
    idle_is = λ p n c. refl;
    reason_is = λ p c. refl;
    perished_is = λ p n c. refl;
    interrupted_is = λ p c. refl;
  }

  pools : (q : PoolOptions) → PoolsAlike q h k
  pools q = record {
    homes_are = refl;
    open_is = λ a. refl;
    state_is = λ p. refl;
    generation_is = λ p s. refl;
    before_is = λ p c s. refl;
    created_are = λ p. refl;
    living_are = λ p. refl;
    pending_are = λ p. refl;
    available_are = λ p. refl;
    could_is = λ p. refl;
  }

  requests : RequestsAlike h k
  requests = record {
    queued_are = λ p. refl;
    waiting_are = λ p. refl;
    belongs_is = λ p n. refl;
    asked_is = λ p n. refl;
    outcome_is = λ p n. refl;
    named_is = λ n. refl;
    told_is = λ n. refl;
    open_is = λ n. refl;
    claimed_is = λ p c. refl;
  }

  module _ (none : rule_after o h step ≡ None) where
    described : description_of o k ≡ description_of o h
    described = rw none refl

    publications : published o k ≡ published o h
    publications = let same : published o h + 0 ≡ published o h = omega arith in rw none same

    -- a later step has the same rule
    rules : (t : TopologyDescription) (n : ℕ) (act : Act) → rule_of o (begun k (record { moment = n; act = act })) t n act ≡ rule_of o (begun h (record { moment = n; act = act })) t n act
    rules t n (Do.Hello a p (Hello.Ok rtt came)) = refl
    rules t n (Do.Hello a p (Hello.Err error)) = refl
    rules t n (Do.Beaten a p duration (Beaten.Ok came more)) = refl
    rules t n (Do.Beaten a p duration (Beaten.Err error)) = refl
    rules t n (Do.Beaten a p duration (Beaten.Cancelled error)) = refl
    rules t n (Do.Error q error) = refl
    rules t n (Do.Failed p c at error) = refl
    rules t n _ = refl

    ruled : (later : Step) → rule_after o k later ≡ rule_after o h later
    ruled later = ap (λ (t : TopologyDescription). step_rule o k t later) described ∙ on (is_stopped h) refl
      where
        on : (b : Bool) → is_stopped h ≡ b → step_rule o k (description_of o h) later ≡ step_rule o h (description_of o h) later
        on true f = rw f refl
        on false f = rw f (rules (description_of o h) later.moment later.act)

    changes : (later : Step) → changed o k later ≡ changed o h later
    changes later = rw (ruled later, described) refl

    numbers : (n : ℕ) → n + 0 ≡ n
    numbers n = omega arith

    servers : ServersAlike o h k
    servers = record {
      described_is = described;
      changed_is = changes;
      published_is = publications;
      stopped_is = refl;
      checks_are = λ p. refl;
      average_is = λ p. refl;
      numbers_are = numbers _;
      watchers_are = refl;
      count_is = refl;
    }

    pub error-alike : TellsAlike o h k
    error-alike = record { connections = connections (pool_options o); pools = pools (pool_options o); requests = requests; servers = servers }
