-- Every accepted act of a pool, with all facts of its answer, keeps the items sound.
use Rattle.std.proofs.Common.{ℕ, ◌≡◌, ◌<◌, Bool, true, false, List, [], ◌∷◌, Option, is_some, refl, sym, subst}
use Rattle.mdb_base.specs.declared.object_id.ObjectId.{ObjectId}
use Rattle.mdb_base.specs.declared.address.ServerAddress.{ServerAddress}
use Rattle.mdb_base.specs.declared.error.Error.{Error}
use Rattle.mdb_events.specs.declared.fact.Fact.{Fact}
use Rattle.mdb_log.specs.declared.options.PoolOptions.{PoolOptions}
use Rattle.mdb_log.specs.declared.step.Act.{Act}
use Rattle.mdb_log.specs.declared.step.Act.TheVariants.{Request, Warm, GiveUp, Established, Failed, Return, Pin, Replicate, Take, Unpin, Maintain, Expire, Ready, Clear, Close}
use Rattle.mdb_log.specs.declared.step.FailedAt.{FailedAt}
use Rattle.mdb_log.specs.declared.step.Use.{Use}
use Rattle.mdb_log.specs.declared.step.Established.{Established as Establishment}
use Rattle.mdb_log.specs.History.{PoolItem, asked, warmed, gave_up, returned, pinned_by, established, failed, replicated, taken, unpinned, closed, after_facts, if_so}
use Rattle.mdb_log.specs.Connections.{has, pending_list, pins, granted_to}
use Rattle.mdb_log.specs.Requests.{end_of}
use Rattle.mdb_pool_rules.specs.Facts.{act_facts, fail_requester}
use Rattle.mdb_pool_rules.specs.Serving.{serving}
use Rattle.mdb_pool_rules.specs.Answer.{all_facts}
use Rattle.mdb_log.proofs.Later.{after-append}
use Rattle.mdb_log.proofs.Numbers.{same-number}
use Rattle.mdb_sound.specs.Sound.{Sound, MayAsk, MayGiveUp, MayTake, Holds}
use Rattle.mdb_pool_rules.specs.Rested.{Rested}
use Rattle.mdb_sound.proofs.Served.{Fine, serving-sound}
use Rattle.mdb_sound.proofs.Ends.{asked-fine, warmed-fine}
use Rattle.mdb_sound.proofs.Establishes.{calm-rested, established-fine}
use Rattle.mdb_sound.proofs.Fails.{failed-fine}
use Rattle.mdb_sound.proofs.Returns.{returned-fine, given_up-fine, gave_up-fine, replicated-fine, pinned-fine, taken-fine, unpinned-fine}
use Rattle.mdb_sound.proofs.Maintains.{maintained-fine, cleared-fine, expired-fine, readied-fine}
use Rattle.mdb_sound.proofs.Closings.{closed-fine}

-- The act may come after the items xs, which are ys with it.
pub data Done (m : ℕ) (xs : List PoolItem) : Act → List PoolItem → Type 0 where
  requests : (r : ℕ) (b : ServerAddress) → MayAsk xs r → Done m xs (Request r b) (asked r m ∷ xs)
  warms : (r : ℕ) (b : ServerAddress) → MayAsk xs r → Done m xs (Warm r b) (warmed r m ∷ xs)
  gives_up : (r : ℕ) → MayGiveUp xs r → Done m xs (GiveUp r) (gave_up r ∷ xs)
  establishes : (q c : ℕ) (how : Establishment) → has c (pending_list xs) ≡ true → Done m xs (Established q c how) (established c how m ∷ xs)
  fails : (q c : ℕ) (at : FailedAt) (error : Error) (service : Option ObjectId) → has c (pending_list xs) ≡ true → Done m xs (Failed q c at error) (failed c service ∷ xs)
  returns : (r : ℕ) (used : Use) → Holds xs r → Done m xs (Return r used) (returned r used ∷ xs)
  pins_one : (r : ℕ) → Holds xs r → Done m xs (Pin r) (pinned_by r ∷ xs)
  replicates : (q c : ℕ) → 0 < pins xs c → Done m xs (Replicate q c) (replicated c ∷ xs)
  takes : (r q c : ℕ) → MayTake xs r c → Done m xs (Take r q c) (taken r c ∷ xs)
  unpins : (q c : ℕ) → 0 < pins xs c → Done m xs (Unpin q c) (unpinned c ∷ xs)
  maintains : (b : ServerAddress) → Done m xs (Maintain b) xs
  expires : (b : ServerAddress) → Done m xs (Expire b) xs
  readies : (q : ℕ) → Done m xs (Ready q) xs
  clears : (q : ℕ) (service : Option ObjectId) (error : Error) → Done m xs (Clear q service error) xs
  shuts : (q : ℕ) → Done m xs (Close q) xs
  -- an act that makes no facts
  tells : (act : Act) → ((p : ℕ) (a : ServerAddress) (o : PoolOptions) → act_facts p a o m xs xs act ≡ []) → Done m xs act xs

module _ (p : ℕ) (a : ServerAddress) (o : PoolOptions) (m : ℕ) (xs : List PoolItem) (s : Sound xs) (z : Rested xs) where
  fine : Fine xs
  fine = (s, calm-rested xs z)

  -- the facts of the act itself
  pub act-fine : (act : Act) (ys : List PoolItem) → Done m xs act ys → Fine (after_facts p m (act_facts p a o m xs ys act) ys)
  act-fine act ys (requests r b w) = asked-fine p a o m xs fine r w
  act-fine act ys (warms r b w) = warmed-fine p a o m xs fine r w
  act-fine act ys (gives_up r w) = on (is_some (end_of xs r)) refl
    where
      on : (b : Bool) → is_some (end_of xs r) ≡ b → Fine (after_facts p m (act_facts p a o m xs (gave_up r ∷ xs) (GiveUp r)) (gave_up r ∷ xs))
      on true e = rw e (gave_up-fine p a o m xs s z r w)
      on false e = rw e (given_up-fine p a o m xs s z r w e)
  act-fine act ys (establishes q c how w) = established-fine p a o m xs s z c how w
  act-fine act ys (fails q c at error service w) = subst (λ b. Fine (after_facts p m (fail_requester p a o m (failed c service ∷ xs) error (granted_to xs c)) (if_so b (closed c) (failed c service ∷ xs)))) (sym (same-number p)) (failed-fine p a o m xs s z c service error w)
  act-fine act ys (returns r used h) = returned-fine p a o m xs s z r used h
  act-fine act ys (pins_one r h) = pinned-fine p a o m xs s z r h
  act-fine act ys (replicates q c w) = replicated-fine p a o m xs s z c w
  act-fine act ys (takes r q c w) = taken-fine p a o m xs s z r c w
  act-fine act ys (unpins q c w) = unpinned-fine p a o m xs s z c w
  act-fine act ys (maintains b) = maintained-fine p a o m xs fine
  act-fine act ys (expires b) = expired-fine p a o m xs fine
  act-fine act ys (readies q) = readied-fine p a o m xs fine
  act-fine act ys (clears q service error) = cleared-fine p a o m xs service error fine
  act-fine act ys (shuts q) = closed-fine p a o m xs s z
  act-fine act ys (tells k quiet) = rw (quiet p a o) fine

  -- and then those of the serving
  pub all-sound : (act : Act) (ys : List PoolItem) → Done m xs act ys → Sound (after_facts p m (all_facts p a o m xs ys act) ys)
  all-sound act ys d =
      let facts : List Fact = act_facts p a o m xs ys act in
      let acted : Fine (after_facts p m facts ys) = act-fine act ys d in
      let served : Fine (after_facts p m (serving p a o m (after_facts p m facts ys)) (after_facts p m facts ys)) = serving-sound p a o m (after_facts p m facts ys) acted in
      subst Sound (sym (after-append p m facts (serving p a o m (after_facts p m facts ys)) ys)) served.0
