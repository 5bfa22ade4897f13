-- The answer to an accepted act of a pool may come after a sound history.
use Rattle.std.proofs.Common.{ℕ, ◌≡◌, ◌≢◌, ◌==◌, Bool, true, false, List, Option, Some, None, refl, sym, subst, arith}
use Rattle.mdb_base.specs.declared.options.Options.{Options}
use Rattle.mdb_events.specs.declared.fact.Fact.{Fact}
use Rattle.mdb_log.specs.declared.step.Step.{Step}
use Rattle.mdb_log.specs.declared.reply.Reply.TheVariants.{Done as DoneReply}
use Rattle.mdb_log.specs.History.{Item, of_pool, open_pool, after_act, after_facts, with_facts}
use Rattle.mdb_log.specs.Homes.{Home}
use Rattle.mdb_log.specs.Opening.{pool_options}
use Rattle.mdb_log.specs.Own.{AllOwn}
use Rattle.mdb_log.proofs.Later.{of_pool-with_facts}
use Rattle.mdb_pool_rules.specs.Refusal.{first_row}
use Rattle.mdb_sound.proofs.Acts.{Done, act-fine}
use Rattle.mdb_sound.proofs.Establishes.{calm-rested}
use Rattle.mdb_pool_rules.specs.Rested.{Rested}
use Rattle.mdb_sound.proofs.Served.{Fine}
use Rattle.mdb_driver_rules.specs.Homes.{concerns, home_of, begun}
use Rattle.mdb_driver_rules.specs.Refusal.{rows_of}
use Rattle.mdb_driver_rules.specs.Acts.{is_pool_act}
use Rattle.mdb_driver_rules.specs.Facts.{own_facts, serve_all, step_facts}
use Rattle.mdb_driver_pools.proofs.OnePool.TellsNoTopology.{plain-facts}
use Rattle.mdb_histories.specs.SoundHistory.{SoundHistory, was_opened}
use Rattle.mdb_histories.proofs.Accepted.{step-comes}
use Rattle.mdb_histories.proofs.Begins.{home-done}
use Rattle.mdb_histories.proofs.Beside.{alike-none, alike-beside}
use Rattle.mdb_histories.proofs.Comes.{AllMayCome, come-sound, come-both, own-come, own-leave}
use Rattle.mdb_histories.proofs.Opened.{home-opened}
use Rattle.mdb_histories.proofs.Owns.{act-own}
use Rattle.mdb_histories.proofs.Parties.{each-sound}
use Rattle.mdb_histories.proofs.Servings.{serve-all-come}
use Rattle.mdb_histories.proofs.Steps.{home-concerned}

-- facts that may come, and leave each pool fine
pub record ComeFine (m : ℕ) (k : List Item) (fs : List Fact) : Type 0 where
  pub come : AllMayCome m k fs
  pub fine : (p : ℕ) → Fine (of_pool p (with_facts m fs k))

-- facts of one pool that leave it fine may come, and leave the others fine
pub own-fine : (p m : ℕ) (fs : List Fact) (k : List Item) → SoundHistory k → was_opened k p ≡ true → AllOwn p m (of_pool p k) fs → Fine (after_facts p m fs (of_pool p k)) → ((q : ℕ) → p ≢ q → Fine (of_pool q k)) → ComeFine m k fs
own-fine p m fs k s w own here there =
    let come : AllMayCome m k fs = own-come p m fs k s w own here.0 in
    record { come = come; fine = λ q. on come q (p == q) refl }
  where
    on : AllMayCome m k fs → (q : ℕ) (b : Bool) → (p == q) ≡ b → Fine (of_pool q (with_facts m fs k))
    on come q true e = let same : p ≡ q = grind arith in subst (λ n. Fine (of_pool n (with_facts m fs k))) same (subst Fine (sym (of_pool-with_facts p m fs k)) here)
    on come q false e = let ne : p ≢ q = grind arith in subst Fine (sym (own-leave p m fs k s come own q ne)) (there q ne)

module _ (o : Options) (h : List Item) (s : SoundHistory h) (rest : (p : ℕ) → Rested (of_pool p h)) (step : Step) (rows : first_row (rows_of o h step.act) ≡ None) where
  abbrev m : ℕ
  m = step.moment

  abbrev k : List Item
  k = begun h step

  pub begun-sound : SoundHistory k
  begun-sound = (step-comes o h s rest step DoneReply rows, s)

  pub still-fine : (p : ℕ) → after_act p (open_pool h) m step.act (of_pool p h) ≡ of_pool p h → Fine (of_pool p k)
  still-fine p e = subst Fine (sym e) (each-sound h s p, calm-rested (of_pool p h) (rest p))

  -- its own facts
  own-part : (x : Option Home) → home_of h step.act ≡ x → ComeFine m k (own_facts o h step x k)
  own-part None e = record { come = tt; fine = λ p. still-fine p (alike-none o h s rest m step refl rows e p) }
  own-part (Some x) e =
      let here : concerns h step.act x.number ≡ true = home-concerned h step.act x e in
      let d : Done m (of_pool x.number h) step.act (of_pool x.number k) = home-done o h s rest m step.act x.number here rows in
      own-fine x.number m (own_facts o h step (Some x) k) k begun-sound (home-opened h (λ y. concerns h step.act y.number) x e)
      (act-own x.number x.address (pool_options o) m (of_pool x.number h) (rest x.number) step.act (of_pool x.number k) d)
      (act-fine x.number x.address (pool_options o) m (of_pool x.number h) (each-sound h s x.number) (rest x.number) step.act (of_pool x.number k) d)
      (λ p ne. still-fine p (alike-beside o h s rest m x p ne step.act here))

  -- and then the serving
  pub pool-come : is_pool_act step.act ≡ true → AllMayCome m k (step_facts o h step)
  pool-come e =
      let own : List Fact = own_facts o h step (home_of h step.act) k in
      let j : List Item = with_facts m own k in
      let first : ComeFine m k own = own-part (home_of h step.act) refl in
      let second : AllMayCome m j (serve_all o m j) = serve-all-come o m j first.fine (come-sound m own k begun-sound first.come) in
      subst (AllMayCome m k) (sym (plain-facts o h step e)) (come-both m own (serve_all o m j) k first.come second)
