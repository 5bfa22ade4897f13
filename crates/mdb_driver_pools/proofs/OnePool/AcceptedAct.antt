-- An accepted act of one pool is the answer of all.
use Rattle.std.proofs.Common.{ℕ, ◌≡◌, ◌≢◌, ◌||◌, Bool, true, false, List, [], ◌∷◌, ◌++◌, map, Option, Some, None, refl, sym, ◌∙◌, ap, subst}
use Rattle.std.specs.Prelude.{slice_get, flat_map}
use Rattle.mdb_base.specs.declared.options.Options.{Options}
use Rattle.mdb_events.specs.declared.fact.Fact.{Fact}
use Rattle.mdb_log.specs.declared.step.Step.{Step}
use Rattle.mdb_log.specs.declared.reply.Reply.{Reply}
use Rattle.mdb_pool.specs.Core.{PoolCore}
use Rattle.mdb_log.specs.History.{Item, did, PoolItem, of_pool, with_facts, after_facts, has_party, has_asked, with_act}
use Rattle.mdb_pool_rules.specs.Facts.{act_facts}
use Rattle.mdb_pool_rules.specs.Serving.{serving}
use Rattle.mdb_pool_rules.specs.Answer.{all_facts, reply_of}
use Rattle.mdb_log.specs.Requests.{names_party, was_asked, asks_how, leaves, is_claimed}
use Rattle.mdb_log.specs.Connections.{created_total}
use Rattle.mdb_pool_rules.proofs.FactsGrantNothing.{IsBound}
use Rattle.mdb_log.specs.Own.{AllOwn}
use Rattle.mdb_pool.specs.Now.{knows_now}
use Rattle.mdb_pool.specs.Standing.{Accepts}
use Rattle.mdb_pool.proofs.Told.OfQueries.{party-is}
use Rattle.mdb_log.proofs.Later.{of_pool-with_facts, own-prefix}
use Rattle.mdb_pool_rules.proofs.NoMove.{served-serving}
use Rattle.mdb_log.proofs.Frame.{other-facts}
use Rattle.mdb_log.specs.Homes.{Home, homes}
use Rattle.mdb_log.specs.Opening.{pool_options}
use Rattle.mdb_driver_rules.specs.Homes.{home_of, begun}
use Rattle.mdb_driver_rules.specs.Monitors.{heartbeat}
use Rattle.mdb_driver_rules.specs.Description.{rule_after}
use Rattle.mdb_driver_rules.specs.Facts.{trouble, own_facts, serve_all, step_facts}
use Rattle.mdb_driver_rules.specs.Refusal.{refusal}
use Rattle.mdb_driver_rules.specs.Answer.{reply_to, answered, answer}
use Rattle.mdb_driver_pools.specs.Standing.{home, knows, PoolFits, PoolsStand}
use Rattle.mdb_driver_rules.proofs.General.OneElement.{any-none, flat-one}
use Rattle.mdb_driver_pools.proofs.OnePool.FactsLeaveOthers.{homes-facts, apart-items}
use Rattle.mdb_driver_rules.proofs.TellsNothing.{plain-step}

-- the step is an act of the pool i alone, after which that pool knows ys; it tells nothing of the topology, and its reply is the pool's
pub record Concerns (o : Options) (pools : List PoolCore) (h : List Item) (s : PoolCore) (step : Step) (ys : List PoolItem) : Type 0 where
  pub mine : with_act s.pool h step ≡ ys
  pub others : (q : ℕ) → s.pool ≢ q → with_act q h step ≡ of_pool q h
  pub names : (r : ℕ) → has_party ys r ≡ names_party step.act r || has_party (of_pool s.pool h) r
  pub asks : (r : ℕ) → has_asked ys r ≡ was_asked step.act r || has_asked (of_pool s.pool h) r
  pub fresh : (r : ℕ) → names_party step.act r ≡ true → knows pools r ≡ false
  pub parties : (r : ℕ) → asks_how step.act r || leaves step.act r ≡ true → has_party ys r ≡ true
  pub bound : IsBound (created_total (of_pool s.pool h)) (of_pool s.pool h) step.act
  pub quiet : heartbeat o h step.act ≡ []
  pub rule : rule_after o h step ≡ None
  pub calm : trouble o h step ≡ None
  pub replies : (z : List Item) → reply_to o h step z step.act ≡ reply_of s.pool (is_claimed h s.pool) (of_pool s.pool h) (of_pool s.pool z) step.act
  pub accepted : refusal o h step ≡ None
  pub place : home_of h step.act ≡ Some (home s)

module _ (o : Options) (pools : List PoolCore) (h : List Item) (z : PoolsStand (pool_options o) pools h) (i : ℕ) (s t : PoolCore) (at_i : slice_get pools i ≡ Some s)
    (step : Step) (reply : Reply) (ys : List PoolItem) (before after : List Fact) (w : Concerns o pools h s step ys)
    (v : Accepts s t before after step.moment step.act reply (of_pool s.pool h) ys) where
  abbrev m : ℕ
  m = step.moment

  abbrev own-stands : PoolFits (pool_options o) h i s
  own-stands = z.fit.each i s at_i

  abbrev F : List Fact
  F = all_facts s.pool s.address s.options m (of_pool s.pool h) ys step.act

  abbrev A : List Fact
  A = act_facts s.pool s.address s.options m (of_pool s.pool h) ys step.act

  abbrev k : List Item
  k = with_facts m A (begun h step)

  -- the pool at another place has another number
  apart-number : (j : ℕ) (x : PoolCore) → slice_get pools j ≡ Some x → i ≢ j → s.pool ≢ x.pool
  apart-number j x e ne f = ne (sym own-stands.number ∙ (f ∙ (z.fit.each j x e).number))

  -- the parties of the act are none of another pool's
  apart-act : (q : ℕ) → s.pool ≢ q → (r : ℕ) → has_party ys r ≡ true → has_party (of_pool q h) r ≡ false
  apart-act q ne r e = on (names_party step.act r) refl (sym (w.names r) ∙ e)
    where
      at_pool : (a : Option PoolCore) → slice_get pools q ≡ a → names_party step.act r ≡ true → has_party (of_pool q h) r ≡ false
      at_pool None f g = ap (λ xs. has_party xs r) (z.fit.rest q f)
      at_pool (Some x) f g = party-is x _ (z.fit.each q x f).fits r ∙ any-none (λ u. knows_now u r) pools q x (w.fresh r g) f

      on : (b : Bool) → names_party step.act r ≡ b → names_party step.act r || has_party (of_pool s.pool h) r ≡ true → has_party (of_pool q h) r ≡ false
      on true f g = at_pool (slice_get pools q) refl f
      on false f g = apart-items (pool_options o) pools h z.fit s.pool q ne r (subst (λ b. b || has_party (of_pool s.pool h) r ≡ true) f g)

  own : AllOwn s.pool m ys A
  own = own-prefix s.pool m A (serving s.pool s.address s.options m (after_facts s.pool m A ys)) ys v.own

  -- own facts leave the other pools as they were
  elsewhere : (q : ℕ) → s.pool ≢ q → of_pool q k ≡ of_pool q h
  elsewhere q ne = of_pool-with_facts q m A (begun h step) ∙ (ap (after_facts q m A) (w.others q ne) ∙ other-facts s.pool q m ne A ys (of_pool q h) (apart-act q ne) own)

  here : of_pool s.pool k ≡ after_facts s.pool m A ys
  here = of_pool-with_facts s.pool m A (begun h step) ∙ ap (after_facts s.pool m A) w.mine

  -- the other pools have nothing to serve
  quiet : (j : ℕ) (x : PoolCore) → slice_get pools j ≡ Some x → i ≢ j → serving x.pool x.address (pool_options o) m (of_pool x.pool k) ≡ []
  quiet j x e ne =
      let d : PoolFits (pool_options o) h j x = z.fit.each j x e in
      let at_x : of_pool x.pool k ≡ of_pool j h = elsewhere x.pool (apart-number j x e ne) ∙ ap (λ q. of_pool q h) d.number in
      ap (serving x.pool x.address (pool_options o) m) at_x ∙ served-serving (pool_options o) (of_pool j h) (z.served j) x.pool x.address m

  acts-are : own_facts o h step (home_of h step.act) (begun h step) ≡ A
  acts-are =
      ap (λ x. own_facts o h step x (begun h step)) w.place ∙ (
      ap (λ zs. act_facts s.pool s.address (pool_options o) m (of_pool s.pool h) zs step.act) w.mine ∙
      ap (λ c. act_facts s.pool s.address c m (of_pool s.pool h) ys step.act) (sym own-stands.options))

  serves-are : serve_all o m k ≡ serving s.pool s.address s.options m (after_facts s.pool m A ys)
  serves-are =
      let places : homes k ≡ map home pools = homes-facts s.pool m A ys (begun h step) own ∙ z.fit.homes_are in
      ap (flat_map (λ (x : Home). serving x.number x.address (pool_options o) m (of_pool x.number k))) places ∙ (
      flat-one home (λ (x : Home). serving x.number x.address (pool_options o) m (of_pool x.number k)) pools i s at_i quiet ∙ (
      ap (serving s.pool s.address (pool_options o) m) here ∙
      ap (λ c. serving s.pool s.address c m (after_facts s.pool m A ys)) (sym own-stands.options)))

  facts-are : step_facts o h step ≡ F
  facts-are =
      plain-step o h step w.quiet w.rule w.calm ∙ (
      ap (λ fs. fs ++ serve_all o m (with_facts m fs (begun h step))) acts-are ∙
      ap (λ fs. A ++ fs) serves-are)

  pub answer-is : answer o h step ≡ record { reply = reply; facts = F }
  answer-is =
      let claims : (c : ℕ) → is_claimed h s.pool c ≡ _ = λ c. ap (λ p. is_claimed h p c) own-stands.number ∙ z.fit.claims i s c at_i in
      let told : reply_of s.pool (is_claimed h s.pool) (of_pool s.pool h) (after_facts s.pool m F ys) step.act ≡ reply = sym (v.reply_is (is_claimed h s.pool) claims) in
      let known : of_pool s.pool (with_facts m F (begun h step)) ≡ after_facts s.pool m F ys = of_pool-with_facts s.pool m F (begun h step) ∙ ap (after_facts s.pool m F) w.mine in
      let replied : reply_to o h step (with_facts m F (begun h step)) step.act ≡ reply = w.replies (with_facts m F (begun h step)) ∙ (ap (λ zs. reply_of s.pool (is_claimed h s.pool) (of_pool s.pool h) zs step.act) known ∙ told) in
      ap (λ a. answered o h step a (step_facts o h step)) w.accepted ∙ (
      ap (answered o h step None) facts-are ∙
      ap (λ b. record { reply = b; facts = F }) replied)

  -- what each pool knows after all facts
  pub all-here : of_pool s.pool (with_facts m F (did step reply ∷ h)) ≡ after_facts s.pool m F ys
  all-here = of_pool-with_facts s.pool m F (did step reply ∷ h) ∙ ap (after_facts s.pool m F) w.mine

  pub all-there : (q : ℕ) → s.pool ≢ q → of_pool q (with_facts m F (did step reply ∷ h)) ≡ of_pool q h
  all-there q ne = of_pool-with_facts q m F (did step reply ∷ h) ∙ (ap (after_facts q m F) (w.others q ne) ∙ other-facts s.pool q m ne F ys (of_pool q h) (apart-act q ne) v.own)
