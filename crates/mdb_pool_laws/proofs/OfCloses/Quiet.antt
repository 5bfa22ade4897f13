-- Facts with causes, one after another; and facts that close nothing of the pool.
use Rattle.std.proofs.Common.{ℕ, ◌≡◌, ◌≢◌, ◌||◌, Bool, true, false, List, [], ◌∷◌, ◌++◌, Option, refl, sym, ◌∙◌, subst}
use Rattle.std.specs.List.{list_any}
use Rattle.mdb_base.specs.declared.address.ServerAddress.{ServerAddress}
use Rattle.mdb_events.specs.declared.cmap.CmapEvent.TheVariants.{ConnectionClosed, ConnectionCheckedIn}
use Rattle.mdb_events.specs.declared.end.End.{End}
use Rattle.mdb_events.specs.declared.fact.Fact.{Fact}
use Rattle.mdb_events.specs.declared.fact.Fact.TheVariants.{Pool}
use Rattle.mdb_events.specs.declared.reasons.ConnectionClosedReason.{ConnectionClosedReason}
use Rattle.mdb_log.specs.declared.options.PoolOptions.{PoolOptions}
use Rattle.mdb_log.specs.declared.step.Act.{Act}
use Rattle.mdb_log.specs.History.{PoolItem, after_fact, after_facts}
use Rattle.mdb_log.specs.Requests.{is_warm}
use Rattle.mdb_log.specs.Own.{IsOwn, AllOwn}
use Rattle.mdb_pool_rules.specs.Facts.{end_facts, all_ends}
use Rattle.mdb_pool_laws.specs.CloseCauses.{closes_pool, IsShut, IsCaused, IsClosedNext, failing, checking_in, coming_back, meeting, sweeping, shutting, HasCause, AllCaused}

any-more : (test : Fact → Bool) (fs gs : List Fact) → list_any test fs ≡ true → list_any test (fs ++ gs) ≡ true
any-more test [] gs e = cc
any-more test (f ∷ fs) gs e = on (test f) refl (any-more test fs gs)
  where
    on : (b : Bool) → test f ≡ b → (list_any test fs ≡ true → list_any test (fs ++ gs) ≡ true) → list_any test (f ∷ fs ++ gs) ≡ true
    on true g deeper = rw g refl
    on false g deeper = rw g (deeper (subst (λ b. b || list_any test fs ≡ true) g e))

module _ (p : ℕ) (o : PoolOptions) (here : ServerAddress → Option ℕ) (m : ℕ) (act : Act) where
  -- more facts may come later
  grown : (xs : List PoolItem) (later more : List Fact) (c : ℕ) (why : ConnectionClosedReason) → IsCaused p o here m act xs later c why → IsCaused p o here m act xs (later ++ more) c why
  grown xs later more c why (failing i e) = failing i e
  grown xs later more c why (checking_in i e) = checking_in i e
  grown xs later more c why (coming_back i e) = coming_back i e
  grown xs later more c why (meeting i e) = meeting i e
  grown xs later more c why (sweeping i e) = sweeping i e
  grown xs later more c why (shutting i e) = let w : IsShut p later xs c = i in shutting (record { closes = any-more (closes_pool p) later more w.closes; there = w.there }) e

  next-grown : (later more : List Fact) (c : ℕ) (why : ConnectionClosedReason) → IsClosedNext p c why later → IsClosedNext p c why (later ++ more)
  next-grown [] more c why w = absurd w
  next-grown (Pool q (ConnectionClosed e) ∷ later) more c why w = w
  next-grown (_ ∷ later) more c why w = elim w [ ]

  cause-grown : (f : Fact) (xs : List PoolItem) (later more : List Fact) → HasCause p o here m act xs f later → HasCause p o here m act xs f (later ++ more)
  cause-grown (Pool q (ConnectionClosed e)) xs later more w = λ same. grown xs later more e.connection_id e.reason (w same)
  cause-grown (Pool q (ConnectionCheckedIn e)) xs later more w = λ same why r. next-grown later more e.connection_id why (w same why r)
  cause-grown _ xs later more w = tt

  pub caused-both : (fs gs : List Fact) (xs : List PoolItem) → AllCaused p o here m act xs fs → AllCaused p o here m act (after_facts p m fs xs) gs → AllCaused p o here m act xs (fs ++ gs)
  caused-both [] gs xs a b = b
  caused-both (f ∷ fs) gs xs a b = (cause-grown f xs fs gs a.0, caused-both fs gs (after_fact p m f xs) a.1 b)

  -- facts of another pool
  other-caused : (q : ℕ) → p ≢ q → (f : Fact) (later : List Fact) (ys xs : List PoolItem) → IsOwn q ys f → HasCause p o here m act xs f later
  other-caused q ne (Pool k (ConnectionClosed e)) later ys xs i = λ same. absurd (ne (sym same ∙ i))
  other-caused q ne (Pool k (ConnectionCheckedIn e)) later ys xs i = λ same. absurd (ne (sym same ∙ i))
  other-caused q ne _ later ys xs i = tt

  pub others-caused : (q : ℕ) → p ≢ q → (fs : List Fact) (ys xs : List PoolItem) → AllOwn q m ys fs → AllCaused p o here m act xs fs
  others-caused q ne [] ys xs i = tt
  others-caused q ne (f ∷ fs) ys xs i = (other-caused q ne f fs ys xs i.0, others-caused q ne fs (after_fact q m f ys) (after_fact p m f xs) i.1)

  -- ends close nothing
  pub end-caused : (q : ℕ) (a : ServerAddress) (ws xs : List PoolItem) (r : ℕ) (end : End) → AllCaused p o here m act xs (end_facts q a m ws r end)
  end-caused q a ws xs r end = on (is_warm ws r) refl
    where
      on : (b : Bool) → is_warm ws r ≡ b → AllCaused p o here m act xs (end_facts q a m ws r end)
      on true e = rw e (tt, tt)
      on false e = rw e (tt, (tt, tt))

  pub ends-caused : (q : ℕ) (a : ServerAddress) (ws xs : List PoolItem) (end : End) (rs : List ℕ) → AllCaused p o here m act xs (all_ends q a m ws end rs)
  ends-caused q a ws xs end [] = tt
  ends-caused q a ws xs end (r ∷ rs) = caused-both (end_facts q a m ws r end) (all_ends q a m ws end rs) xs (end-caused q a ws xs r end) (ends-caused q a ws (after_facts p m (end_facts q a m ws r end) xs) end rs)
