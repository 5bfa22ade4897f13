-- Generations never fall, and a closed pool stays closed.
use Rattle.std.proofs.Common.{ℕ, ◌≡◌, ◌≤◌, true, false, List, [], ◌∷◌, ◌++◌, Option, refl, ◌∙◌, ap, arith}
use Rattle.std.proofs.lemmas.Grind.{common_steps}
use Rattle.mdb_base.specs.declared.object_id.ObjectId.{ObjectId}
use Rattle.mdb_log.specs.declared.options.PoolOptions.{PoolOptions}
use Rattle.mdb_log.specs.History.{PoolItem, asked, warmed, gave_up, returned, pinned_by, established, failed, replicated, taken, unpinned, created, closed, checked_in, granted, ended, raised, pool_created, pool_ready, pool_closed, without}
use Rattle.mdb_log.specs.Connections.{has, pending_list, available_list}
use Rattle.mdb_log.specs.Requests.{queued}
use Rattle.mdb_log.specs.State.{state_of, generation_of}
use Rattle.mdb_sound.specs.Sound.{Sound, was_closed, MayAsk, MayCreate, MayCheckIn, MayGrant, MayShut}
use Rattle.mdb_sound.specs.Laws.{GenerationLaws, IsOver, ClosedForGood}

never-falls : (xs : List PoolItem) (s : Option ObjectId) (later : List PoolItem) → generation_of xs s ≤ generation_of (later ++ xs) s
never-falls xs s [] = omega arith
never-falls xs s (asked q m ∷ later) = never-falls xs s later
never-falls xs s (warmed q m ∷ later) = never-falls xs s later
never-falls xs s (gave_up q ∷ later) = never-falls xs s later
never-falls xs s (returned q used ∷ later) = never-falls xs s later
never-falls xs s (pinned_by q ∷ later) = never-falls xs s later
never-falls xs s (established d how m ∷ later) = never-falls xs s later
never-falls xs s (failed d service ∷ later) = never-falls xs s later
never-falls xs s (replicated d ∷ later) = never-falls xs s later
never-falls xs s (taken q d ∷ later) = never-falls xs s later
never-falls xs s (unpinned d ∷ later) = never-falls xs s later
never-falls xs s (created d m ∷ later) = never-falls xs s later
never-falls xs s (closed d ∷ later) = never-falls xs s later
never-falls xs s (checked_in d m ∷ later) = never-falls xs s later
never-falls xs s (granted q d ∷ later) = never-falls xs s later
never-falls xs s (ended q end ∷ later) = never-falls xs s later
never-falls xs s (pool_created ∷ later) = never-falls xs s later
never-falls xs s (pool_ready ∷ later) = never-falls xs s later
never-falls xs s (pool_closed ∷ later) = never-falls xs s later
never-falls xs s (raised t error ∷ later) = let d : generation_of xs s ≤ generation_of (later ++ xs) s = never-falls xs s later in omega arith

pub generation-laws : (xs : List PoolItem) (s : Option ObjectId) → GenerationLaws xs s
generation-laws xs s = record {
  never_fall = never-falls xs s;
  others_stay = λ t error e. grind (arith, common_steps);
  own_rises = λ t error e. grind (arith, common_steps);
}

nothing-pending : (c : ℕ) (ks : List ℕ) → ks ≡ [] → has c ks ≡ true → ⊥
nothing-pending c ks e f = let g : has c ks ≡ false = ap (has c) e in cc

-- an item that changes none of these leaves the pool over
still-over : (o : PoolOptions) (x : PoolItem) (xs : List PoolItem) → state_of o (x ∷ xs) ≡ state_of o xs → pending_list (x ∷ xs) ≡ pending_list xs → available_list (x ∷ xs) ≡ available_list xs → queued (x ∷ xs) ≡ queued xs → IsOver o xs → IsOver o (x ∷ xs)
still-over o x xs e f g k i = record { stays_closed = e ∙ i.stays_closed; none_pending = f ∙ i.none_pending; none_available = g ∙ i.none_available; none_queued = k ∙ i.none_queued }

pub closed-for-good : (o : PoolOptions) (xs : List PoolItem) → Sound xs → ClosedForGood o xs
closed-for-good o [] s e = cc
closed-for-good o (gave_up q ∷ xs) s e = still-over o (gave_up q) xs refl refl refl refl (closed-for-good o xs s.1 e)
closed-for-good o (returned q used ∷ xs) s e = still-over o (returned q used) xs refl refl refl refl (closed-for-good o xs s.1 e)
closed-for-good o (pinned_by q ∷ xs) s e = still-over o (pinned_by q) xs refl refl refl refl (closed-for-good o xs s.1 e)
closed-for-good o (replicated d ∷ xs) s e = still-over o (replicated d) xs refl refl refl refl (closed-for-good o xs s.1 e)
closed-for-good o (taken q d ∷ xs) s e = still-over o (taken q d) xs refl refl refl refl (closed-for-good o xs s.1 e)
closed-for-good o (unpinned d ∷ xs) s e = still-over o (unpinned d) xs refl refl refl refl (closed-for-good o xs s.1 e)
closed-for-good o (asked q m ∷ xs) s e = let w : MayAsk xs q = s.0 in let f : was_closed xs ≡ false = w.unshut in cc
closed-for-good o (warmed q m ∷ xs) s e = let w : MayAsk xs q = s.0 in let f : was_closed xs ≡ false = w.unshut in cc
closed-for-good o (created d m ∷ xs) s e = let w : MayCreate xs d = s.0 in let f : was_closed xs ≡ false = w.unshut in cc
closed-for-good o (checked_in d m ∷ xs) s e = let w : MayCheckIn xs d = s.0 in let f : was_closed xs ≡ false = w.unshut in cc
closed-for-good o (granted q d ∷ xs) s e = let w : MayGrant xs q d = s.0 in let f : was_closed xs ≡ false = w.unshut in cc
closed-for-good o (established d how m ∷ xs) s e = let i : IsOver o xs = closed-for-good o xs s.1 e in absurd (nothing-pending d (pending_list xs) i.none_pending s.0)
closed-for-good o (failed d service ∷ xs) s e = let i : IsOver o xs = closed-for-good o xs s.1 e in absurd (nothing-pending d (pending_list xs) i.none_pending s.0)
closed-for-good o (closed d ∷ xs) s e = let i : IsOver o xs = closed-for-good o xs s.1 e in record { stays_closed = i.stays_closed; none_pending = ap (without d) i.none_pending; none_available = ap (without d) i.none_available; none_queued = i.none_queued }
closed-for-good o (ended q end ∷ xs) s e = let i : IsOver o xs = closed-for-good o xs s.1 e in record { stays_closed = i.stays_closed; none_pending = i.none_pending; none_available = i.none_available; none_queued = ap (without q) i.none_queued }
closed-for-good o (raised t error ∷ xs) s e = let f : was_closed xs ≡ false = s.0 in cc
closed-for-good o (pool_created ∷ xs) s e = let f : was_closed xs ≡ false = ap was_closed s.0 in cc
closed-for-good o (pool_ready ∷ xs) s e = let f : was_closed xs ≡ false = s.0 in cc
closed-for-good o (pool_closed ∷ xs) s e = let w : MayShut xs = s.0 in record { stays_closed = refl; none_pending = w.none_pending; none_available = w.none_available; none_queued = w.none_queued }
