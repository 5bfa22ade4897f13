-- Who waits, who is next, and which grants are fair, by the plain sentences.
use Rattle.std.proofs.Common.{ℕ, ◌≡◌, Bool, true, not, ◌||◌, List, ◌∷◌, refl, sym, ◌∙◌, ap, arith, filter}
use Rattle.mdb_events.specs.declared.fact.Fact.{Fact}
use Rattle.mdb_events.specs.declared.fact.Fact.TheVariants.{Granted}
use Rattle.mdb_log.specs.History.{Item, made, PoolItem, granted, of_pool, has_asked}
use Rattle.mdb_log.specs.Connections.{has, live}
use Rattle.mdb_log.specs.Requests.{requests, queued, waiting, is_warm}
use Rattle.mdb_log.specs.Legal.{IsNext}
use Rattle.mdb_log.specs.PlainRequests.{requests as all_requests, is_warm as is_warm_one, is_granted, is_ended, queued as queued_at, waiting as waiting_at}
use Rattle.mdb_log.specs.PlainLegal.{FirstCome, IsNext as IsNextOf}
use Rattle.mdb_log.proofs.Numbers.{same-number}
use Rattle.mdb_log.proofs.Pins.{queued-asked}
use Rattle.mdb_sound.specs.Sound.{MayGrant}
use Rattle.mdb_sound.proofs.Connections.{named-lives}
use Rattle.mdb_sound.proofs.Once.{next-queued}
use Rattle.mdb_sound.proofs.Order.{requests-asked}
use Rattle.mdb_histories.specs.SoundHistory.{SoundHistory}
use Rattle.mdb_histories.proofs.OfPlain.Lists.{filter-same, filter-filter}
use Rattle.mdb_histories.proofs.OfPlain.Totals.{lives-created}
use Rattle.mdb_histories.proofs.OfPlain.Parties.{sound-pool}
use Rattle.mdb_histories.proofs.OfPlain.Across.{may-grant, grant-asked}
use Rattle.mdb_histories.proofs.OfPlain.Alike.{ended-alike, granted-alike}
use Rattle.mdb_histories.proofs.OfPlain.Queues.{is_left, queue-left}
use Rattle.mdb_histories.proofs.OfPlain.Asked.{at, pool-requests}
use Rattle.mdb_histories.proofs.OfPlain.Warmth.{OfPool, request-alike}

module _ (h : List Item) (s : SoundHistory h) (p : ℕ) where
  abbrev xs : List PoolItem
  xs = of_pool p h

  abbrev left_one : ℕ → Bool
  left_one r = not (is_granted h r || is_ended h r)

  left-alike : (r : ℕ) → has r (requests xs) ≡ true → left_one r ≡ is_left xs r
  left-alike r e =
      let a : has_asked xs r ≡ true = sym (requests-asked xs r) ∙ e in
      rw (granted-alike h s p r a, ended-alike h s p r a) refl

  -- The queue of a pool.
  pub queued-alike : queued_at p h ≡ queued xs
  queued-alike =
      sym (filter-filter left_one (at p h) (all_requests h)) ∙
      (ap (filter left_one) (pool-requests h s p) ∙ (filter-same left_one (is_left xs) (requests xs) left-alike ∙ sym (queue-left xs (sound-pool h s p))))

  callers : (r : ℕ) → has r (queued xs) ≡ true → not (is_warm_one h r) ≡ not (is_warm xs r)
  callers r e = let o : OfPool h p r = request-alike h s p r (queued-asked xs r e) in ap not o.warmth

  -- The callers in it.
  pub waiting-alike : waiting_at p h ≡ waiting xs
  waiting-alike = ap (filter (λ r. not (is_warm_one h r))) queued-alike ∙ filter-same (λ r. not (is_warm_one h r)) (λ r. not (is_warm xs r)) (queued xs) callers

  -- Who is next.
  pub next-alike : (r : ℕ) → IsNext xs r → IsNextOf p h r
  next-alike r n =
      let o : OfPool h p r = request-alike h s p r (queued-asked xs r (next-queued xs r n)) in
      rw (o.warmth, waiting-alike, queued-alike) n

-- A grant is to who comes first, of a connection of the pool that was asked.
pub grant-fair : (h : List Item) (m : ℕ) (f : Fact) → SoundHistory (made m f ∷ h) → FirstCome h f
grant-fair h m (Granted r p c) s =
    let w : MayGrant (of_pool p h) r c = may-grant h m r p c s in
    let o : OfPool h p r = request-alike h s.1 p r (grant-asked h m r p c s) in
    let l : live (of_pool p h) c ≡ 1 = named-lives (of_pool p h) (granted r c) (w, sound-pool h s.1 p) c (same-number c) refl in
    (o.pool, lives-created (of_pool p h) (sound-pool h s.1 p) c (omega arith), next-alike h s.1 p r w.next)
grant-fair h m _ s = tt
