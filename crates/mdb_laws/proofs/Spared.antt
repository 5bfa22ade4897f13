-- Facts of connections and requests alone, and failures that spare the server.
use Rattle.std.proofs.Common.{ℕ, ◌≡◌, ◌==◌, Bool, true, false, List, [], ◌∷◌, Option, Some, None, refl, sym, ◌∙◌, ap, subst}
use Rattle.std.specs.Prelude.{All, flat_map}
use Rattle.std.proofs.lemmas.List.Elements.{All-nil, All-cons}
use Rattle.mdb_base.specs.declared.object_id.ObjectId.{ObjectId}
use Rattle.mdb_base.specs.declared.options.Options.{Options}
use Rattle.mdb_base.specs.declared.error.Error.{Error}
use Rattle.mdb_events.specs.declared.cmap.CmapEvent.TheVariants.{PoolCreated, PoolReady, PoolCleared, PoolClosed, ConnectionCreated, ConnectionClosed, ConnectionCheckedIn}
use Rattle.mdb_events.specs.declared.fact.Fact.{Fact}
use Rattle.mdb_events.specs.declared.fact.Fact.TheVariants.{Opened, Pool, Granted, Ended, Raised}
use Rattle.mdb_log.specs.declared.options.PoolOptions.{PoolOptions}
use Rattle.mdb_log.specs.declared.step.Step.{Step}
use Rattle.mdb_log.specs.declared.step.Act.{Act}
use Rattle.mdb_log.specs.declared.step.Act.TheVariants as Do
use Rattle.mdb_log.specs.declared.step.FailedAt.{FailedAt}
use Rattle.mdb_log.specs.declared.step.FailedAt.TheVariants.{Pre, Post}
use Rattle.mdb_log.specs.declared.reply.Reply.{Reply}
use Rattle.mdb_log.specs.declared.reply.Reply.TheVariants.{Done}
use Rattle.mdb_log.specs.History.{Item, did, made, PoolItem, created, closed, checked_in, granted, ended, failed, of_pool, open_pool, has_asked, after_fact, if_so, with_facts}
use Rattle.mdb_log.specs.State.{state_of, generation_of}
use Rattle.mdb_log.specs.Homes.{Home, homes}
use Rattle.mdb_log.specs.Opening.{pool_options}
use Rattle.mdb_pool_rules.specs.Serving.{serving}
use Rattle.mdb_topology.specs.declared.topology.TopologyCore.{TopologyCore}
use Rattle.mdb_driver_rules.specs.Homes.{home_of, begun}
use Rattle.mdb_driver_rules.specs.Current.{complaint_of}
use Rattle.mdb_driver_rules.specs.Description.{description_of, is_stopped, marking_rule, rule_after}
use Rattle.mdb_driver_rules.specs.Facts.{trouble, own_facts, serve_all, step_facts}
use Rattle.mdb_driver_rules.specs.OfServers.{is_of_server}
use Rattle.mdb_driver_rules.specs.Refusal.{refusal}
use Rattle.mdb_driver_rules.specs.Answer.{answer, answered, pool_reply}
use Rattle.mdb_topology.specs.Standing.{StandsFor}
use Rattle.mdb_driver_rules.proofs.NumbersWithinLimits.{any_out, out-append, out-open, serving-free, act-free}
use Rattle.mdb_driver_rules.proofs.TellsNothing.{plain-step}
use Rattle.mdb_laws.specs.Stale.{is_stale_failure, after, SparesServer}
use Rattle.mdb_laws.proofs.Stale.{outdated-none}

-- a list of which none is of a server begins with one that is not, and goes on so
out-head : (f : Fact) (fs : List Fact) → any_out (f ∷ fs) ≡ false → (is_of_server f ≡ false) × (any_out fs ≡ false)
out-head f fs e = on (is_of_server f) refl e
  where
    on : (b : Bool) → is_of_server f ≡ b → any_out (f ∷ fs) ≡ false → (is_of_server f ≡ false) × (any_out fs ≡ false)
    on true g d = let t : true ≡ false = sym (rw g refl) ∙ d in cc
    on false g d = (g, sym (rw g refl) ∙ d)

pub out-all : (fs : List Fact) → any_out fs ≡ false → All (λ f. is_of_server f ≡ false) fs
out-all [] e = All-nil (λ f. is_of_server f ≡ false)
out-all (f ∷ fs) e = let x : (is_of_server f ≡ false) × (any_out fs ≡ false) = out-head f fs e in All-cons (λ f. is_of_server f ≡ false) f fs x.0 (out-all fs x.1)

-- one item more that changes neither, where the test holds
if-state : (o : PoolOptions) (b : Bool) (x : PoolItem) (xs : List PoolItem) → state_of o (x ∷ xs) ≡ state_of o xs → state_of o (if_so b x xs) ≡ state_of o xs
if-state o true x xs e = e
if-state o false x xs e = refl

if-generation : (b : Bool) (x : PoolItem) (xs : List PoolItem) (s : Option ObjectId) → generation_of (x ∷ xs) s ≡ generation_of xs s → generation_of (if_so b x xs) s ≡ generation_of xs s
if-generation true x xs s e = e
if-generation false x xs s e = refl

-- such a fact changes no state and no generation
one-state : (o : PoolOptions) (p m : ℕ) (f : Fact) (xs : List PoolItem) → is_of_server f ≡ false → state_of o (after_fact p m f xs) ≡ state_of o xs
one-state o p m (Opened q a) xs e = cc
one-state o p m (Raised q s error) xs e = cc
one-state o p m (Pool q (PoolCreated v)) xs e = cc
one-state o p m (Pool q (PoolReady v)) xs e = cc
one-state o p m (Pool q (PoolCleared v)) xs e = cc
one-state o p m (Pool q (PoolClosed v)) xs e = cc
one-state o p m (Pool q (ConnectionCreated v)) xs e = if-state o (q == p) (created v.connection_id m) xs refl
one-state o p m (Pool q (ConnectionClosed v)) xs e = if-state o (q == p) (closed v.connection_id) xs refl
one-state o p m (Pool q (ConnectionCheckedIn v)) xs e = if-state o (q == p) (checked_in v.connection_id m) xs refl
one-state o p m (Pool q _) xs e = refl
one-state o p m (Granted r q c) xs e = if-state o (q == p) (granted r c) xs refl
one-state o p m (Ended r end) xs e = if-state o (has_asked xs r) (ended r end) xs refl
one-state o p m _ xs e = refl

one-generation : (p m : ℕ) (f : Fact) (xs : List PoolItem) (s : Option ObjectId) → is_of_server f ≡ false → generation_of (after_fact p m f xs) s ≡ generation_of xs s
one-generation p m (Opened q a) xs s e = cc
one-generation p m (Raised q t error) xs s e = cc
one-generation p m (Pool q (PoolCreated v)) xs s e = cc
one-generation p m (Pool q (PoolReady v)) xs s e = cc
one-generation p m (Pool q (PoolCleared v)) xs s e = cc
one-generation p m (Pool q (PoolClosed v)) xs s e = cc
one-generation p m (Pool q (ConnectionCreated v)) xs s e = if-generation (q == p) (created v.connection_id m) xs s refl
one-generation p m (Pool q (ConnectionClosed v)) xs s e = if-generation (q == p) (closed v.connection_id) xs s refl
one-generation p m (Pool q (ConnectionCheckedIn v)) xs s e = if-generation (q == p) (checked_in v.connection_id m) xs s refl
one-generation p m (Pool q _) xs s e = refl
one-generation p m (Granted r q c) xs s e = if-generation (q == p) (granted r c) xs s refl
one-generation p m (Ended r end) xs s e = if-generation (has_asked xs r) (ended r end) xs s refl
one-generation p m _ xs s e = refl

pub out-state : (o : PoolOptions) (p m : ℕ) (fs : List Fact) (k : List Item) → any_out fs ≡ false → state_of o (of_pool p (with_facts m fs k)) ≡ state_of o (of_pool p k)
out-state o p m [] k e = refl
out-state o p m (f ∷ fs) k e = let x : (is_of_server f ≡ false) × (any_out fs ≡ false) = out-head f fs e in out-state o p m fs (made m f ∷ k) x.1 ∙ one-state o p m f (of_pool p k) x.0

pub out-generation : (p m : ℕ) (fs : List Fact) (k : List Item) (s : Option ObjectId) → any_out fs ≡ false → generation_of (of_pool p (with_facts m fs k)) s ≡ generation_of (of_pool p k) s
out-generation p m [] k s e = refl
out-generation p m (f ∷ fs) k s e = let x : (is_of_server f ≡ false) × (any_out fs ≡ false) = out-head f fs e in out-generation p m fs (made m f ∷ k) s x.1 ∙ one-generation p m f (of_pool p k) s x.0

-- no fact tells of the servers
facts-described : (o : Options) (m : ℕ) (fs : List Fact) (k : List Item) → description_of o (with_facts m fs k) ≡ description_of o k
facts-described o m [] k = refl
facts-described o m (f ∷ fs) k = facts-described o m fs (made m f ∷ k)

-- the item of a failure changes no state and no generation
failed-state : (o : PoolOptions) (p m q c : ℕ) (at : FailedAt) (e : Error) (reply : Reply) (h : List Item) → state_of o (of_pool p (did (record { moment = m; act = Do.Failed q c at e }) reply ∷ h)) ≡ state_of o (of_pool p h)
failed-state o p m q c Pre e reply h = if-state o (q == p) (failed c None) (of_pool p h) refl
failed-state o p m q c (Post s) e reply h = if-state o (q == p) (failed c s) (of_pool p h) refl

failed-generation : (p m q c : ℕ) (at : FailedAt) (e : Error) (reply : Reply) (h : List Item) (s : Option ObjectId) → generation_of (of_pool p (did (record { moment = m; act = Do.Failed q c at e }) reply ∷ h)) s ≡ generation_of (of_pool p h) s
failed-generation p m q c Pre e reply h s = if-generation (q == p) (failed c None) (of_pool p h) s refl
failed-generation p m q c (Post t) e reply h s = if-generation (q == p) (failed c t) (of_pool p h) s refl

module _ (w : TopologyCore) (h : List Item) (m q c : ℕ) (at : FailedAt) (e : Error) where
  abbrev o : Options
  o = w.options

  abbrev act : Act
  act = Do.Failed q c at e

  abbrev step : Step
  step = record { moment = m; act = act }

  module _ (none : trouble o h step ≡ None) (accepted : refusal o h step ≡ None) where
    no-rule : rule_after o h step ≡ None
    no-rule = on (is_stopped h) refl
      where
        on : (b : Bool) → is_stopped h ≡ b → rule_after o h step ≡ None
        on true f = rw f refl
        on false f = rw f (ap (marking_rule o) none)

    own-out : (x : Option Home) (k : List Item) → any_out (own_facts o h step x k) ≡ false
    own-out None k = refl
    own-out (Some x) k = act-free x.number x.address (pool_options o) m (of_pool x.number h) (of_pool x.number k) act tt

    servings-out : (k : List Item) (xs : List Home) → any_out (flat_map (λ x. serving x.number x.address (pool_options o) m (of_pool x.number k)) xs) ≡ false
    servings-out k [] = refl
    servings-out k (x ∷ xs) =
        let one : List Fact = serving x.number x.address (pool_options o) m (of_pool x.number k) in
        let more : List Fact = flat_map (λ (y : Home). serving y.number y.address (pool_options o) m (of_pool y.number k)) xs in
        out-append one more ∙ rw (serving-free x.number x.address (pool_options o) m (of_pool x.number k), servings-out k xs) refl

    facts-out : any_out (step_facts o h step) ≡ false
    facts-out =
        let own : List Fact = own_facts o h step (home_of h act) (begun h step) in
        let k : List Item = with_facts m own (begun h step) in
        ap any_out (plain-step o h step refl no-rule none) ∙ (out-append own (serve_all o m k) ∙ rw (own-out (home_of h act) (begun h step), servings-out k (homes k)) refl)

    facts-are : (answer o h step).facts ≡ step_facts o h step
    facts-are = ap (λ x. (answered o h step x (step_facts o h step)).facts) accepted

    reply-is : (answer o h step).reply ≡ Done
    reply-is = ap (λ x. (answered o h step x (step_facts o h step)).reply) accepted ∙ on (home_of h act)
      where
        on : (x : Option Home) → pool_reply h (with_facts m (step_facts o h step) (begun h step)) act x ≡ Done
        on None = refl
        on (Some x) = refl

    abbrev F : List Fact
    F = step_facts o h step

    after-is : after o h step ≡ with_facts m F (begun h step)
    after-is = rw (reply-is, facts-are) refl

    pub spares-server : SparesServer o h step
    spares-server = record {
      facts_are = subst (λ fs. All (λ f. is_of_server f ≡ false) fs) (sym facts-are) (out-all F facts-out);
      described_is = ap (description_of o) after-is ∙ (facts-described o m F (begun h step) ∙ rw no-rule refl);
      open_is = λ a. ap (λ k. open_pool k a) after-is ∙ out-open m a F (begun h step) facts-out;
      state_is = λ p. ap (λ k. state_of (pool_options o) (of_pool p k)) after-is ∙ (out-state (pool_options o) p m F (begun h step) facts-out ∙ failed-state (pool_options o) p m q c at e Done h);
      generation_is = λ p s. ap (λ k. generation_of (of_pool p k) s) after-is ∙ (out-generation p m F (begun h step) s facts-out ∙ failed-generation p m q c at e Done h s);
    }

pub stale-spares : (w : TopologyCore) (h : List Item) (step : Step) → StandsFor w h → refusal w.options h step ≡ None → is_stale_failure w.options h step ≡ true → SparesServer w.options h step
stale-spares w h step z accepted stale = on step.moment step.act accepted stale
  where
    on : (m : ℕ) (act : Act) → refusal w.options h (record { moment = m; act = act }) ≡ None → is_stale_failure w.options h (record { moment = m; act = act }) ≡ true → SparesServer w.options h (record { moment = m; act = act })
    on m (Do.Failed q c at e) a s = spares-server w h m q c at e (outdated-none w.options (begun h (record { moment = m; act = Do.Failed q c at e })) (description_of w.options h) (complaint_of (begun h (record { moment = m; act = Do.Failed q c at e })) (Do.Failed q c at e)) s) a
    on m _ a s = cc
