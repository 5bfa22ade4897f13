-- The answer to an accepted act of no pool may come after a sound history.
use Rattle.std.proofs.Common.{ℕ, ◌≡◌, true, List, [], ◌∷◌, ◌++◌, Option, Some, None, refl, sym, ◌∙◌, ap, subst, append-nil}
use Rattle.std.specs.Prelude.{⊤}
use Rattle.mdb_base.specs.declared.options.Options.{Options}
use Rattle.mdb_events.specs.declared.fact.Fact.{Fact}
use Rattle.mdb_log.specs.declared.step.Step.{Step}
use Rattle.mdb_log.specs.declared.step.Act.{Act}
use Rattle.mdb_log.specs.declared.step.Act.TheVariants as Do
use Rattle.mdb_log.specs.History.{Item, of_pool, open_pool, after_act, with_facts}
use Rattle.mdb_log.specs.Homes.{Home}
use Rattle.mdb_pool_rules.specs.Refusal.{first_row}
use Rattle.mdb_sound.proofs.Establishes.{calm-rested}
use Rattle.mdb_pool_rules.specs.Rested.{Rested}
use Rattle.mdb_sound.proofs.Served.{Fine}
use Rattle.mdb_driver_rules.specs.Description.{description_of, rule_after}
use Rattle.mdb_driver_rules.specs.Errors.{Trouble}
use Rattle.mdb_driver_rules.specs.Facts.{trouble, clear_of, clearing, asking, own_facts, serve_all, step_facts}
use Rattle.mdb_driver_rules.specs.Homes.{home_of, begun}
use Rattle.mdb_driver_rules.specs.Monitors.{heartbeat}
use Rattle.mdb_driver_rules.specs.Publishing.{told_by}
use Rattle.mdb_driver_rules.specs.Refusal.{rows_of}
use Rattle.mdb_driver_rules.specs.Turns.{in_turn}
use Rattle.mdb_topology.proofs.OfMonitors.FactsOfCheck.{heartbeat-calm}
use Rattle.mdb_driver_rules.proofs.LeavesAsItIs.{turn-append}
use Rattle.mdb_histories.specs.SoundHistory.{SoundHistory, was_opened}
use Rattle.mdb_histories.proofs.Comes.{AllMayCome, come-sound, come-both}
use Rattle.mdb_histories.proofs.Parties.{each-sound}
use Rattle.mdb_histories.proofs.PoolSteps.{ComeFine, begun-sound}
use Rattle.mdb_histories.proofs.Publications.{told-good}
use Rattle.mdb_histories.proofs.Servings.{serve-all-come, opened-facts}
use Rattle.mdb_histories.proofs.Troubles.{calm-fine, asking-calm, trouble-here, trouble-opened, clearing-come}
use Rattle.mdb_histories.proofs.Turns.{Turn, ComeTurn, turns, calm-turn}

-- an act of no pool
abbrev pub IsOutside : Act → Type 0
IsOutside (Do.Open q) = ⊤
IsOutside (Do.Error r e) = ⊤
IsOutside (Do.Hello a p came) = ⊤
IsOutside (Do.Beat a p) = ⊤
IsOutside (Do.Beaten a p d came) = ⊤
IsOutside (Do.Rtt a p d) = ⊤
IsOutside (Do.Hosts hosts) = ⊤
IsOutside (Do.ClusterTime t) = ⊤
IsOutside (Do.Want w) = ⊤
IsOutside (Do.Unwant w) = ⊤
IsOutside Do.Stop = ⊤
IsOutside _ = ⊥

module _ (o : Options) (h : List Item) (s : SoundHistory h) (rest : (p : ℕ) → Rested (of_pool p h)) (step : Step) (rows : first_row (rows_of o h step.act) ≡ None) where
  abbrev pub m : ℕ
  m = step.moment

  abbrev pub k : List Item
  k = begun h step

  -- the parts after those that tell of the topology
  abbrev pub last_parts : List (List Item → List Fact)
  last_parts = clearing o m (trouble o h step) (clear_of o h step) ∷ asking o (trouble o h step) (clear_of o h step) ∷ own_facts o h step (home_of h step.act) ∷ serve_all o m ∷ []

  abbrev pub told : List (List Item → List Fact)
  told = told_by o m (rule_after o h step) (description_of o h)

  -- where all facts before the clear are told
  module _ (hb : List Fact) (is_hb : heartbeat o h step.act ≡ hb) where
    abbrev pub k1 : List Item
    k1 = with_facts m hb k

    abbrev pub k2 : List Item
    k2 = with_facts m (in_turn m told k1) k1

    pub parts-are : step_facts o h step ≡ hb ++ (in_turn m told k1 ++ in_turn m last_parts k2)
    parts-are = ap (λ fs. fs ++ in_turn m (told ++ last_parts) (with_facts m fs k)) is_hb ∙ ap (λ fs. hb ++ fs) (turn-append m told last_parts k1)

  pub trouble-known : (x : Trouble) → trouble o h step ≡ Some x → was_opened k x.pool ≡ true
  trouble-known x e = trouble-opened k x (trouble-here o k (description_of o h) step.act x e)

  -- the last parts of an act without facts of its own
  pub last-come : (j : List Item) → SoundHistory j → ((p : ℕ) → Fine (of_pool p j)) → ((x : Trouble) → trouble o h step ≡ Some x → was_opened j x.pool ≡ true) → ((i : List Item) → own_facts o h step (home_of h step.act) i ≡ []) → AllMayCome m j (in_turn m last_parts j)
  last-come j sound fine known none =
      let cl : List Fact = clearing o m (trouble o h step) (clear_of o h step) j in
      let first : ComeFine m j cl = clearing-come o m j sound fine (trouble o h step) (clear_of o h step) known in
      let j1 : List Item = with_facts m cl j in
      let s1 : SoundHistory j1 = come-sound m cl j sound first.come in
      let asked_facts : List Fact = asking o (trouble o h step) (clear_of o h step) j1 in
      let second : ComeFine m j1 asked_facts = calm-fine m asked_facts j1 (asking-calm o (trouble o h step) (clear_of o h step) j1) s1 first.fine in
      let j2 : List Item = with_facts m asked_facts j1 in
      let s2 : SoundHistory j2 = come-sound m asked_facts j1 s1 second.come in
      let serve : AllMayCome m j2 (serve_all o m j2) = serve-all-come o m j2 second.fine s2 in
      let end : AllMayCome m j2 (in_turn m (own_facts o h step (home_of h step.act) ∷ serve_all o m ∷ []) j2) =
      subst (λ fs. AllMayCome m j2 (fs ++ (serve_all o m (with_facts m fs j2) ++ []))) (sym (none j2)) (subst (AllMayCome m j2) (sym (append-nil (serve_all o m j2))) serve) in
      come-both m cl _ j first.come (come-both m asked_facts _ j1 second.come end)

  module _ (outside : IsOutside step.act) where
    same-items : (p : ℕ) → of_pool p k ≡ of_pool p h
    same-items p = on step.act outside
      where
        on : (act : Act) → IsOutside act → after_act p (open_pool h) m act (of_pool p h) ≡ of_pool p h
        on (Do.Open q) c = refl
        on (Do.Error r e) c = refl
        on (Do.Hello a q came) c = refl
        on (Do.Beat a q) c = refl
        on (Do.Beaten a q d came) c = refl
        on (Do.Rtt a q d) c = refl
        on (Do.Hosts hosts) c = refl
        on (Do.ClusterTime t) c = refl
        on (Do.Want w) c = refl
        on (Do.Unwant w) c = refl
        on Do.Stop c = refl
        on _ c = elim c [ ]

    no-own : (i : List Item) → own_facts o h step (home_of h step.act) i ≡ []
    no-own i = on step.act outside (home_of h step.act)
      where
        on : (act : Act) → IsOutside act → (x : Option Home) → own_facts o h (record { moment = m; act = act }) x i ≡ []
        on act c None = refl
        on (Do.Open q) c (Some x) = refl
        on (Do.Error r e) c (Some x) = refl
        on (Do.Hello a q came) c (Some x) = refl
        on (Do.Beat a q) c (Some x) = refl
        on (Do.Beaten a q d came) c (Some x) = refl
        on (Do.Rtt a q d) c (Some x) = refl
        on (Do.Hosts hosts) c (Some x) = refl
        on (Do.ClusterTime t) c (Some x) = refl
        on (Do.Want w) c (Some x) = refl
        on (Do.Unwant w) c (Some x) = refl
        on Do.Stop c (Some x) = refl
        on _ c (Some x) = elim c [ ]

    at-first : Turn k
    at-first = record {
      sound = begun-sound o h s rest step rows;
      fine = λ p. subst Fine (sym (same-items p)) (each-sound h s p, calm-rested (of_pool p h) (rest p));
      rest = λ a p e. subst Rested (sym (same-items p)) (rest p);
    }

    pub outside-come : AllMayCome m k (step_facts o h step)
    outside-come =
        let hb : List Fact = heartbeat o h step.act in
        let first : ComeTurn m k hb = calm-turn m hb k (heartbeat-calm o h step.act) at-first in
        let second : ComeTurn m (k1 hb refl) (in_turn m told (k1 hb refl)) = turns m told (told-good o m (rule_after o h step) (description_of o h)) (k1 hb refl) first.turn in
        let known : (x : Trouble) → trouble o h step ≡ Some x → was_opened (k2 hb refl) x.pool ≡ true = λ x e. opened-facts m x.pool (in_turn m told (k1 hb refl)) (k1 hb refl) (opened-facts m x.pool hb k (trouble-known x e)) in
        let third : AllMayCome m (k2 hb refl) (in_turn m last_parts (k2 hb refl)) = last-come (k2 hb refl) second.turn.sound second.turn.fine known no-own in
        subst (AllMayCome m k) (sym (parts-are hb refl)) (come-both m hb _ k first.come (come-both m (in_turn m told (k1 hb refl)) _ (k1 hb refl) second.come third))
