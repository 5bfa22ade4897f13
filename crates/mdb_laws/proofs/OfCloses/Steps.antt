-- Every close that an accepted act of a pool, or of none, makes in a driver has a cause.
use Rattle.std.proofs.Common.{ℕ, ◌≡◌, true, List, [], ◌++◌, Option, Some, None, refl, sym, subst}
use Rattle.mdb_base.specs.declared.address.ServerAddress.{ServerAddress}
use Rattle.mdb_base.specs.declared.options.Options.{Options}
use Rattle.mdb_events.specs.declared.fact.Fact.{Fact}
use Rattle.mdb_log.specs.declared.options.PoolOptions.{PoolOptions}
use Rattle.mdb_log.specs.declared.step.Step.{Step}
use Rattle.mdb_log.specs.declared.step.Act.{Act}
use Rattle.mdb_log.specs.declared.step.Act.TheVariants as Do
use Rattle.mdb_log.specs.History.{Item, of_pool, open_pool, is_number, after_act, with_facts}
use Rattle.mdb_log.specs.Homes.{Home}
use Rattle.mdb_log.specs.Opening.{pool_options}
use Rattle.mdb_pool_rules.specs.Refusal.{first_row}
use Rattle.mdb_pool_rules.specs.Facts.{clear_facts}
use Rattle.mdb_sound.proofs.Acts.{Done}
use Rattle.mdb_sound.proofs.Establishes.{calm-rested}
use Rattle.mdb_pool_rules.specs.Rested.{Rested}
use Rattle.mdb_sound.proofs.Served.{Fine}
use Rattle.mdb_driver_rules.specs.Description.{description_of, rule_after}
use Rattle.mdb_driver_rules.specs.Errors.{Clear, nothing, whole, only, Trouble}
use Rattle.mdb_driver_rules.specs.Facts.{trouble, clear_of, clearing, asking, own_facts, serve_all, step_facts}
use Rattle.mdb_driver_rules.specs.Acts.{is_pool_act}
use Rattle.mdb_driver_rules.specs.Homes.{concerns, home_of, begun}
use Rattle.mdb_driver_rules.specs.Monitors.{heartbeat}
use Rattle.mdb_driver_rules.specs.Refusal.{rows_of}
use Rattle.mdb_driver_rules.specs.Turns.{in_turn}
use Rattle.mdb_driver_pools.proofs.OnePool.TellsNoTopology.{plain-facts}
use Rattle.mdb_histories.specs.SoundHistory.{SoundHistory}
use Rattle.mdb_histories.proofs.Begins.{home-done}
use Rattle.mdb_histories.proofs.Comes.{AllMayCome, come-sound}
use Rattle.mdb_histories.proofs.Outside.{IsOutside, last_parts, told, k1, k2, parts-are, outside-come}
use Rattle.mdb_topology.proofs.OfMonitors.FactsOfCheck.{heartbeat-calm}
use Rattle.mdb_histories.proofs.Owns.{act-own, clear-own}
use Rattle.mdb_histories.proofs.Parties.{each-sound}
use Rattle.mdb_histories.proofs.PoolSteps.{begun-sound, pool-come}
use Rattle.mdb_histories.proofs.Steps.{home-concerned}
use Rattle.mdb_histories.proofs.Troubles.{asking-calm}
use Rattle.mdb_histories.proofs.Turns.{Turn, ComeTurn, calm-turn}
use Rattle.mdb_pool_laws.specs.CloseCauses.{AllCaused}
use Rattle.mdb_pool_laws.proofs.OfCloses.Acts.{act-caused, clear-caused}
use Rattle.mdb_laws.proofs.OfCloses.Pools.{come-split, calm-caused, at-pool, parts-both, serve-all-caused}
use Rattle.mdb_laws.proofs.OfCloses.Published.{told-caused}

module _ (o : Options) (h : List Item) (s : SoundHistory h) (rest : (p : ℕ) → Rested (of_pool p h)) (step : Step) (rows : first_row (rows_of o h step.act) ≡ None) (p : ℕ) where
  abbrev pub po : PoolOptions
  po = pool_options o

  abbrev pub m : ℕ
  m = step.moment

  abbrev pub k : List Item
  k = begun h step

  -- closes in the pool p, after the history j
  abbrev pub Caused : List Item → List Fact → Type 0
  Caused j fs = AllCaused p po (open_pool h) m step.act (of_pool p j) fs

  -- its own facts
  own-caused : (x : Option Home) → home_of h step.act ≡ x → Caused k (own_facts o h step x k)
  own-caused None e = tt
  own-caused (Some x) e =
      let here : concerns h step.act x.number ≡ true = home-concerned h step.act x e in
      let d : Done m (of_pool x.number h) step.act (of_pool x.number k) = home-done o h s rest m step.act x.number here rows in
      let swept : (b : ServerAddress) → step.act ≡ Do.Maintain b → is_number (open_pool h b) x.number ≡ true = λ b same. subst (λ act. concerns h act x.number ≡ true) same here in
      at-pool p po (open_pool h) m step.act x.number (own_facts o h step (Some x) k) k
      (act-own x.number x.address po m (of_pool x.number h) (rest x.number) step.act (of_pool x.number k) d)
      (act-caused x.number x.address po (open_pool h) m step.act (of_pool x.number h) (each-sound h s x.number) (rest x.number) (of_pool x.number k) swept d)

  -- an act of one pool
  pub pool-caused : is_pool_act step.act ≡ true → Caused k (step_facts o h step)
  pool-caused e =
      let own : List Fact = own_facts o h step (home_of h step.act) k in
      let j : List Item = with_facts m own k in
      let come : AllMayCome m k (own ++ serve_all o m j) = subst (AllMayCome m k) (plain-facts o h step e) (pool-come o h s rest step rows e) in
      let w : AllMayCome m k own × AllMayCome m j (serve_all o m j) = come-split m own (serve_all o m j) k come in
      let sound : SoundHistory j = come-sound m own k (begun-sound o h s rest step rows) w.0 in
      subst (Caused k) (sym (plain-facts o h step e)) (parts-both p po (open_pool h) m step.act own (serve_all o m j) k (own-caused (home_of h step.act) refl) (serve-all-caused p o (open_pool h) m step.act j sound w.1))

  -- the clear by a trouble closes nothing
  clearing-caused : (y : Option Trouble) (clear : Clear) (j : List Item) → Caused j (clearing o m y clear j)
  clearing-caused None clear j = tt
  clearing-caused (Some x) nothing j = tt
  clearing-caused (Some x) whole j = at-pool p po (open_pool h) m step.act x.pool (clear_facts x.pool x.address po m (of_pool x.pool j) None x.error) j (clear-own x.pool x.address po m (of_pool x.pool j) None x.error) (clear-caused x.pool x.address po (open_pool h) m step.act (of_pool x.pool j) (of_pool x.pool j) None x.error)
  clearing-caused (Some x) (only t) j = at-pool p po (open_pool h) m step.act x.pool (clear_facts x.pool x.address po m (of_pool x.pool j) (Some t) x.error) j (clear-own x.pool x.address po m (of_pool x.pool j) (Some t) x.error) (clear-caused x.pool x.address po (open_pool h) m step.act (of_pool x.pool j) (of_pool x.pool j) (Some t) x.error)

  -- the history with the clear, and with what the monitor is asked
  abbrev pub cleared : List Item → List Item
  cleared j = with_facts m (clearing o m (trouble o h step) (clear_of o h step) j) j

  abbrev pub then_asked : List Item → List Item
  then_asked j = with_facts m (asking o (trouble o h step) (clear_of o h step) (cleared j)) (cleared j)

  -- the last parts, where the closes among the act's own facts have causes
  pub last-caused : (j : List Item) → SoundHistory j → AllMayCome m j (in_turn m (last_parts o h s rest step rows) j) → Caused (then_asked j) (own_facts o h step (home_of h step.act) (then_asked j)) → Caused j (in_turn m (last_parts o h s rest step rows) j)
  last-caused j sound come owns =
      let cl : List Fact = clearing o m (trouble o h step) (clear_of o h step) j in
      let j1 : List Item = with_facts m cl j in
      let ask : List Fact = asking o (trouble o h step) (clear_of o h step) j1 in
      let j2 : List Item = with_facts m ask j1 in
      let own : List Fact = own_facts o h step (home_of h step.act) j2 in
      let j3 : List Item = with_facts m own j2 in
      let serve : List Fact = serve_all o m j3 in
      let a : AllMayCome m j cl × AllMayCome m j1 (ask ++ (own ++ (serve ++ []))) = come-split m cl (ask ++ (own ++ (serve ++ []))) j come in
      let b : AllMayCome m j1 ask × AllMayCome m j2 (own ++ (serve ++ [])) = come-split m ask (own ++ (serve ++ [])) j1 a.1 in
      let c : AllMayCome m j2 own × AllMayCome m j3 (serve ++ []) = come-split m own (serve ++ []) j2 b.1 in
      let d : AllMayCome m j3 serve × AllMayCome m (with_facts m serve j3) [] = come-split m serve [] j3 c.1 in
      let s3 : SoundHistory j3 = come-sound m own j2 (come-sound m ask j1 (come-sound m cl j sound a.0) b.0) c.0 in
      let served : Caused j3 (serve ++ []) = parts-both p po (open_pool h) m step.act serve [] j3 (serve-all-caused p o (open_pool h) m step.act j3 s3 d.0) tt in
      parts-both p po (open_pool h) m step.act cl (ask ++ (own ++ (serve ++ []))) j (clearing-caused (trouble o h step) (clear_of o h step) j)
      (parts-both p po (open_pool h) m step.act ask (own ++ (serve ++ [])) j1 (calm-caused p po (open_pool h) m step.act ask (of_pool p j1) (asking-calm o (trouble o h step) (clear_of o h step) j1))
      (parts-both p po (open_pool h) m step.act own (serve ++ []) j2 owns served))

  module _ (outside : IsOutside step.act) where
    same-items : (q : ℕ) → of_pool q k ≡ of_pool q h
    same-items q = on step.act outside
      where
        on : (act : Act) → IsOutside act → after_act q (open_pool h) m act (of_pool q h) ≡ of_pool q h
        on (Do.Open options) c = refl
        on (Do.Error r e) c = refl
        on (Do.Hello a q came) c = refl
        on (Do.Beat a q) c = refl
        on (Do.Beaten a q d came) c = refl
        on (Do.Rtt a q d) c = refl
        on (Do.Hosts hosts) c = refl
        on (Do.ClusterTime t) c = refl
        on (Do.Want w) c = refl
        on (Do.Unwant w) c = refl
        on Do.Stop c = refl
        on _ c = elim c [ ]

    no-own : (i : List Item) → own_facts o h step (home_of h step.act) i ≡ []
    no-own i = on step.act outside (home_of h step.act)
      where
        on : (act : Act) → IsOutside act → (x : Option Home) → own_facts o h (record { moment = m; act = act }) x i ≡ []
        on act c None = refl
        on (Do.Open options) c (Some x) = refl
        on (Do.Error r e) c (Some x) = refl
        on (Do.Hello a q came) c (Some x) = refl
        on (Do.Beat a q) c (Some x) = refl
        on (Do.Beaten a q d came) c (Some x) = refl
        on (Do.Rtt a q d) c (Some x) = refl
        on (Do.Hosts hosts) c (Some x) = refl
        on (Do.ClusterTime t) c (Some x) = refl
        on (Do.Want w) c (Some x) = refl
        on (Do.Unwant w) c (Some x) = refl
        on Do.Stop c (Some x) = refl
        on _ c (Some x) = elim c [ ]

    at-first : Turn k
    at-first = record {
      sound = begun-sound o h s rest step rows;
      fine = λ q. subst Fine (sym (same-items q)) (each-sound h s q, calm-rested (of_pool q h) (rest q));
      rest = λ a q e. subst Rested (sym (same-items q)) (rest q);
    }

    -- an act of no pool
    pub outside-caused : Caused k (step_facts o h step)
    outside-caused =
        let hb : List Fact = heartbeat o h step.act in
        let i : List Item = k1 o h s rest step rows hb refl in
        let j : List Item = k2 o h s rest step rows hb refl in
        let first : ComeTurn m k hb = calm-turn m hb k (heartbeat-calm o h step.act) at-first in
        let says : List Fact = in_turn m (told o h s rest step rows) i in
        let last : List Fact = in_turn m (last_parts o h s rest step rows) j in
        let come : AllMayCome m k (hb ++ (says ++ last)) = subst (AllMayCome m k) (parts-are o h s rest step rows hb refl) (outside-come o h s rest step rows outside) in
        let a : AllMayCome m k hb × AllMayCome m i (says ++ last) = come-split m hb (says ++ last) k come in
        let b : AllMayCome m i says × AllMayCome m j last = come-split m says last i a.1 in
        let sound : SoundHistory j = come-sound m says i (come-sound m hb k (begun-sound o h s rest step rows) a.0) b.0 in
        subst (Caused k) (sym (parts-are o h s rest step rows hb refl))
        (parts-both p po (open_pool h) m step.act hb (says ++ last) k (calm-caused p po (open_pool h) m step.act hb (of_pool p k) (heartbeat-calm o h step.act))
        (parts-both p po (open_pool h) m step.act says last i (told-caused p o (open_pool h) m step.act (rule_after o h step) (description_of o h) i first.turn)
        (last-caused j sound b.1 (subst (Caused (then_asked j)) (sym (no-own (then_asked j))) tt))))
