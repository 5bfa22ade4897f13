-- Histories of which the pools know the same.
use Rattle.std.proofs.Common.{ℕ, ◌≡◌, if◌then◌else◌, List, [], ◌∷◌, ◌++◌, Some, None, refl, sym, ◌∙◌, ap}
use Rattle.std.specs.Prelude.{⊤}
use Rattle.mdb_base.specs.Equality.{same_address}
use Rattle.mdb_base.specs.declared.address.ServerAddress.{ServerAddress}
use Rattle.mdb_events.specs.declared.fact.Fact.{Fact}
use Rattle.mdb_events.specs.declared.fact.Fact.TheVariants.{Opened, Pool, Sdam, CheckNow, Cancel}
use Rattle.mdb_events.specs.declared.cmap.CmapEvent.TheVariants.{PoolClosed}
use Rattle.mdb_log.specs.declared.step.Step.{Step}
use Rattle.mdb_log.specs.declared.step.Act.{Act}
use Rattle.mdb_log.specs.declared.step.Act.TheVariants as Do
use Rattle.mdb_log.specs.declared.reply.Reply.{Reply}
use Rattle.mdb_log.specs.declared.reply.Reply.TheVariants.{Done, Changed, Count}
use Rattle.mdb_log.specs.History.{Item, did, made, of_pool, open_pool, is_number, after_fact, with_facts}
use Rattle.mdb_log.specs.Requests.{some_act, names_party, was_asked, leaves, told, is_claimed}
use Rattle.mdb_log.specs.Homes.{homes}
use Rattle.mdb_driver_rules.specs.Homes.{begun}

-- all that the pools of a driver are read off
pub record SameFor (h k : List Item) : Type 0 where
  pub items : (p : ℕ) → of_pool p k ≡ of_pool p h
  pub homes_are : homes k ≡ homes h
  pub open_are : (a : ServerAddress) → open_pool k a ≡ open_pool h a
  pub names : (r : ℕ) → some_act names_party k r ≡ some_act names_party h r
  pub asks : (r : ℕ) → some_act was_asked k r ≡ some_act was_asked h r
  pub leaving : (r : ℕ) → some_act leaves k r ≡ some_act leaves h r
  pub tells : (r : ℕ) → told k r ≡ told h r
  pub claims : (p c : ℕ) → is_claimed k p c ≡ is_claimed h p c

-- a fact of no pool
abbrev pub IsCalm : Fact → Type 0
IsCalm (Sdam e) = ⊤
IsCalm (CheckNow a) = ⊤
IsCalm (Cancel a) = ⊤
IsCalm _ = ⊥

pub calm : (m : ℕ) (f : Fact) (h : List Item) → IsCalm f → SameFor h (made m f ∷ h)
calm m (Sdam e) h c = record { items = λ p. refl; homes_are = refl; open_are = λ a. refl; names = λ r. refl; asks = λ r. refl; leaving = λ r. refl; tells = λ r. refl; claims = λ p d. refl }
calm m (CheckNow a) h c = record { items = λ p. refl; homes_are = refl; open_are = λ a. refl; names = λ r. refl; asks = λ r. refl; leaving = λ r. refl; tells = λ r. refl; claims = λ p d. refl }
calm m (Cancel a) h c = record { items = λ p. refl; homes_are = refl; open_are = λ a. refl; names = λ r. refl; asks = λ r. refl; leaving = λ r. refl; tells = λ r. refl; claims = λ p d. refl }
calm m _ h c = elim c [ ]

-- an act of no pool
abbrev pub IsOutside : Act → Type 0
IsOutside (Do.Error r e) = ⊤
IsOutside (Do.Hello a p came) = ⊤
IsOutside (Do.Beat a p) = ⊤
IsOutside (Do.Beaten a p d came) = ⊤
IsOutside (Do.Rtt a p d) = ⊤
IsOutside (Do.Hosts hosts) = ⊤
IsOutside (Do.ClusterTime t) = ⊤
IsOutside (Do.Want w) = ⊤
IsOutside (Do.Unwant w) = ⊤
IsOutside Do.Stop = ⊤
IsOutside _ = ⊥

-- a reply to it
abbrev pub IsPlain : Reply → Type 0
IsPlain Done = ⊤
IsPlain (Changed b) = ⊤
IsPlain (Count n) = ⊤
IsPlain _ = ⊥

pub outside : (m : ℕ) (act : Act) (reply : Reply) (h : List Item) → IsOutside act → IsPlain reply → SameFor h (did (record { moment = m; act = act }) reply ∷ h)
outside m act reply h c d = record { items = λ p. at_items p act c; homes_are = refl; open_are = λ a. refl; names = λ r. at_names r act c; asks = λ r. at_asks r act c; leaving = λ r. at_leaving r act c; tells = λ r. at_tells r act c; claims = λ p e. at_claims p e reply d }
  where
    step : Act → Step
    step act = record { moment = m; act = act }

    at_items : (p : ℕ) (act : Act) → IsOutside act → of_pool p (did (step act) reply ∷ h) ≡ of_pool p h
    at_items p (Do.Error r e) c = refl
    at_items p (Do.Hello a q came) c = refl
    at_items p (Do.Beat a q) c = refl
    at_items p (Do.Beaten a q d came) c = refl
    at_items p (Do.Rtt a q d) c = refl
    at_items p (Do.Hosts hosts) c = refl
    at_items p (Do.ClusterTime t) c = refl
    at_items p (Do.Want w) c = refl
    at_items p (Do.Unwant w) c = refl
    at_items p Do.Stop c = refl
    at_items p _ c = elim c [ ]

    at_names : (r : ℕ) (act : Act) → IsOutside act → some_act names_party (did (step act) reply ∷ h) r ≡ some_act names_party h r
    at_names r (Do.Error q e) c = refl
    at_names r (Do.Hello a q came) c = refl
    at_names r (Do.Beat a q) c = refl
    at_names r (Do.Beaten a q d came) c = refl
    at_names r (Do.Rtt a q d) c = refl
    at_names r (Do.Hosts hosts) c = refl
    at_names r (Do.ClusterTime t) c = refl
    at_names r (Do.Want w) c = refl
    at_names r (Do.Unwant w) c = refl
    at_names r Do.Stop c = refl
    at_names r _ c = elim c [ ]

    at_asks : (r : ℕ) (act : Act) → IsOutside act → some_act was_asked (did (step act) reply ∷ h) r ≡ some_act was_asked h r
    at_asks r (Do.Error q e) c = refl
    at_asks r (Do.Hello a q came) c = refl
    at_asks r (Do.Beat a q) c = refl
    at_asks r (Do.Beaten a q d came) c = refl
    at_asks r (Do.Rtt a q d) c = refl
    at_asks r (Do.Hosts hosts) c = refl
    at_asks r (Do.ClusterTime t) c = refl
    at_asks r (Do.Want w) c = refl
    at_asks r (Do.Unwant w) c = refl
    at_asks r Do.Stop c = refl
    at_asks r _ c = elim c [ ]

    at_leaving : (r : ℕ) (act : Act) → IsOutside act → some_act leaves (did (step act) reply ∷ h) r ≡ some_act leaves h r
    at_leaving r (Do.Error q e) c = refl
    at_leaving r (Do.Hello a q came) c = refl
    at_leaving r (Do.Beat a q) c = refl
    at_leaving r (Do.Beaten a q d came) c = refl
    at_leaving r (Do.Rtt a q d) c = refl
    at_leaving r (Do.Hosts hosts) c = refl
    at_leaving r (Do.ClusterTime t) c = refl
    at_leaving r (Do.Want w) c = refl
    at_leaving r (Do.Unwant w) c = refl
    at_leaving r Do.Stop c = refl
    at_leaving r _ c = elim c [ ]

    at_tells : (r : ℕ) (act : Act) → IsOutside act → told (did (step act) reply ∷ h) r ≡ told h r
    at_tells r (Do.Error q e) c = refl
    at_tells r (Do.Hello a q came) c = refl
    at_tells r (Do.Beat a q) c = refl
    at_tells r (Do.Beaten a q d came) c = refl
    at_tells r (Do.Rtt a q d) c = refl
    at_tells r (Do.Hosts hosts) c = refl
    at_tells r (Do.ClusterTime t) c = refl
    at_tells r (Do.Want w) c = refl
    at_tells r (Do.Unwant w) c = refl
    at_tells r Do.Stop c = refl
    at_tells r _ c = elim c [ ]

    at_claims : (p c : ℕ) (reply : Reply) → IsPlain reply → is_claimed (did (step act) reply ∷ h) p c ≡ is_claimed h p c
    at_claims p c Done d = refl
    at_claims p c (Changed b) d = refl
    at_claims p c (Count n) d = refl
    at_claims p c _ d = elim d [ ]

-- one fact more, and more facts
pub same-fact : (m : ℕ) (f : Fact) (h k : List Item) → SameFor h k → SameFor (made m f ∷ h) (made m f ∷ k)
same-fact m f h k e = record { items = λ p. ap (after_fact p m f) (e.items p); homes_are = at_homes f; open_are = λ a. at_open a f; names = e.names; asks = e.asks; leaving = e.leaving; tells = e.tells; claims = e.claims }
  where
    at_homes : (f : Fact) → homes (made m f ∷ k) ≡ homes (made m f ∷ h)
    at_homes (Opened p a) = ap (λ hs. hs ++ record { number = p; address = a } ∷ []) e.homes_are
    at_homes _ = e.homes_are

    at_open : (a : ServerAddress) (f : Fact) → open_pool (made m f ∷ k) a ≡ open_pool (made m f ∷ h) a
    at_open a (Opened p b) = ap (λ x. if same_address b a then Some p else x) (e.open_are a)
    at_open a (Pool p (PoolClosed ev)) = ap (λ x. if is_number x p then None else x) (e.open_are a)
    at_open a _ = e.open_are a

pub same-facts : (m : ℕ) (fs : List Fact) (h k : List Item) → SameFor h k → SameFor (with_facts m fs h) (with_facts m fs k)
same-facts m [] h k e = e
same-facts m (f ∷ fs) h k e = same-facts m fs (made m f ∷ h) (made m f ∷ k) (same-fact m f h k e)

pub same-trans : (h k l : List Item) → SameFor h k → SameFor k l → SameFor h l
same-trans h k l e f = record { items = λ p. f.items p ∙ e.items p; homes_are = f.homes_are ∙ e.homes_are; open_are = λ a. f.open_are a ∙ e.open_are a; names = λ r. f.names r ∙ e.names r; asks = λ r. f.asks r ∙ e.asks r; leaving = λ r. f.leaving r ∙ e.leaving r; tells = λ r. f.tells r ∙ e.tells r; claims = λ p c. f.claims p c ∙ e.claims p c }

pub same-sym : (h k : List Item) → SameFor h k → SameFor k h
same-sym h k e = record { items = λ p. sym (e.items p); homes_are = sym e.homes_are; open_are = λ a. sym (e.open_are a); names = λ r. sym (e.names r); asks = λ r. sym (e.asks r); leaving = λ r. sym (e.leaving r); tells = λ r. sym (e.tells r); claims = λ p c. sym (e.claims p c) }

-- the facts of an act of no pool were read off a history with the reply Done: the true reply tells the pools the same
pub same-reply : (m : ℕ) (act : Act) (reply : Reply) (h : List Item) (fs : List Fact) → IsOutside act → IsPlain reply
    → SameFor (with_facts m fs (begun h (record { moment = m; act = act }))) (with_facts m fs (did (record { moment = m; act = act }) reply ∷ h))
same-reply m act reply h fs c d =
    let step : Step = record { moment = m; act = act } in
    same-facts m fs (begun h step) (did step reply ∷ h) (same-trans (begun h step) h (did step reply ∷ h) (same-sym h (begun h step) (outside m act Done h c tt)) (outside m act reply h c d))
