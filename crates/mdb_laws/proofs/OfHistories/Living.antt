-- What each pool of a sound history says of connections, requests and generations.
use Rattle.std.proofs.Common.{ℕ, zero, suc, ◌≡◌, ◌+◌, ◌≤◌, true, false, List, [], ◌∷◌, Some, refl, sym, ◌∙◌, ap, subst, arith}
use Rattle.mdb_base.specs.declared.object_id.ObjectId.{ObjectId}
use Rattle.mdb_base.specs.declared.address.ServerAddress.{ServerAddress}
use Rattle.mdb_base.specs.declared.error.Error.{Error}
use Rattle.mdb_log.specs.declared.options.PoolOptions.{PoolOptions}
use Rattle.mdb_log.specs.History.{Item, PoolItem, raised, of_pool}
use Rattle.mdb_log.specs.Connections.{live, pending, available, held, pinned, created_total}
use Rattle.mdb_log.specs.Legal.{OnePlace}
use Rattle.mdb_log.specs.Opening.{pool_options}
use Rattle.mdb_log.specs.Requests.{queued, end_of}
use Rattle.mdb_log.specs.State.{State, is_new, is_ready, is_paused, is_closed, state_of, ready, generation_of}
use Rattle.mdb_log.proofs.Numbers.{same-number}
use Rattle.mdb_pool_rules.specs.Facts.{clear_facts, readied}
use Rattle.std.specs.List.{list_any}
use Rattle.mdb_driver_pools.proofs.Orderly.{one-place-each}
use Rattle.mdb_sound.specs.Counts.{creations, closings, establishings, failures, names, creates}
use Rattle.mdb_sound.specs.Laws.{ConnectionLaws, NamingLaws}
use Rattle.mdb_sound.specs.Sound.{Sound}
use Rattle.mdb_sound.proofs.Connections.{connection-laws, naming-laws}
use Rattle.mdb_sound.proofs.Earlier.{earlier-sound}
use Rattle.mdb_sound.proofs.Generations.{generation-laws}
use Rattle.mdb_sound.proofs.Order.{in-order}
use Rattle.mdb_sound.proofs.Parties.{request-laws}
use Rattle.mdb_topology.specs.declared.topology.TopologyCore.{TopologyCore}
use Rattle.mdb_topology.specs.Standing.{StandsFor}
use Rattle.mdb_laws.specs.HistoryLaws.{LivesOnce, ServesInOrder, total, IsCounted, is_end, cleared_for, ClearsOne, IsReadyOnce}
use Rattle.mdb_histories.specs.SoundHistory.{SoundHistory}
use Rattle.mdb_histories.proofs.Parties.{each-sound, apart}

pub lives-once : (xs : List PoolItem) → Sound xs → (c : ℕ) → LivesOnce xs c
lives-once xs s c =
    let w : ConnectionLaws xs c = connection-laws xs s c in
    record {
      created_once = w.created_once;
      ready_once = let d : establishings xs c + failures xs c ≤ creations xs c = w.decided_once in let one : creations xs c ≤ 1 = w.created_once in omega arith;
      closed_once = w.closed_once;
      created_first = λ later before x e n k. first before x (earlier-sound later (x ∷ before) (subst Sound e s)) n k;
      silent_after_close = λ later before x e l. (naming-laws before x (earlier-sound later (x ∷ before) (subst Sound e s)) c).silent_after_close l;
    }
  where
    first : (before : List PoolItem) (x : PoolItem) → Sound (x ∷ before) → names x c ≡ true → creates x c ≡ false → creations before c ≡ 1
    first before x sound n k =
        let v : NamingLaws before x c = naming-laws before x sound c in
        let lives : live before c ≡ 1 = v.named_lives n k in
        let laws : ConnectionLaws before c = connection-laws before sound.1 c in
        let sum : live before c + closings before c ≡ creations before c = laws.lives_till_closed in
        let one : creations before c ≤ 1 = laws.created_once in
        omega arith

pub serves-in-order : (h : List Item) → SoundHistory h → ServesInOrder h
serves-in-order h s = record { once = λ p r. request-laws (of_pool p h) (each-sound h s p) r; in_order = λ p. in-order (of_pool p h) (each-sound h s p); one_pool = λ r p q ne e. apart h s r p q ne e }

total-sum : (f g : ℕ → ℕ) (n : ℕ) → total (λ c. f c + g c) n ≡ total f n + total g n
total-sum f g zero = refl
total-sum f g (suc n) = let d : total (λ c. f c + g c) n ≡ total f n + total g n = total-sum f g n in omega arith

total-same : (f g : ℕ → ℕ) → ((c : ℕ) → f c ≡ g c) → (n : ℕ) → total f n ≡ total g n
total-same f g e zero = refl
total-same f g e (suc n) = let d : total f n ≡ total g n = total-same f g e n in let one : f (suc n) ≡ g (suc n) = e (suc n) in omega arith

places-counted : (xs : List PoolItem) → Sound xs → OnePlace xs → IsCounted xs
places-counted xs s place = record {
  each = λ c. (let e : pending xs c + available xs c + held xs c + pinned xs c ≡ live xs c = (place c).0 in let sum : live xs c + closings xs c ≡ creations xs c = (connection-laws xs s c).lives_till_closed in omega arith);
  all =
      let n : ℕ = created_total xs in
      let same : total (live xs) n ≡ total (λ c. pending xs c + available xs c + held xs c + pinned xs c) n = total-same (live xs) (λ c. pending xs c + available xs c + held xs c + pinned xs c) (λ c. sym (place c).0) n in
      same ∙ (total-sum (λ c. pending xs c + available xs c + held xs c) (pinned xs) n
      ∙ ap (λ k. k + total (pinned xs) n) (total-sum (λ c. pending xs c + available xs c) (held xs) n ∙ ap (λ k. k + total (held xs) n) (total-sum (pending xs) (available xs) n)));
}

pub each-counted : (w : TopologyCore) (h : List Item) → StandsFor w h → SoundHistory h → (p : ℕ) → IsCounted (of_pool p h)
each-counted w h z s p = places-counted (of_pool p h) (each-sound h s p) (one-place-each (pool_options w.options) w.pools.cores.items h z.pools.fit p)

-- a clear for a service says no more than that, and nothing where the pool is closed
data ClearsSo (p : ℕ) (a : ServerAddress) (o : PoolOptions) (m : ℕ) (xs : List PoolItem) (s : ObjectId) (error : Error) : Type 0 where
  leaves : cleared_for p a o m xs s error ≡ xs → ClearsSo p a o m xs s error
  raises : cleared_for p a o m xs s error ≡ raised (Some s) error ∷ xs → ClearsSo p a o m xs s error

clears-so : (p : ℕ) (a : ServerAddress) (o : PoolOptions) (m : ℕ) (xs : List PoolItem) (s : ObjectId) (error : Error) → ClearsSo p a o m xs s error
clears-so p a o m xs s error = on (state_of o xs) refl
  where
    on : (t : State) → state_of o xs ≡ t → ClearsSo p a o m xs s error
    on is_closed e = leaves (rw e refl)
    on is_new e = raises (rw (e, same-number p) refl)
    on is_ready e = raises (rw (e, same-number p) refl)
    on (is_paused why) e = raises (rw (e, same-number p) refl)

pub clears-one : (p : ℕ) (a : ServerAddress) (o : PoolOptions) (m : ℕ) (xs : List PoolItem) (s : ObjectId) (error : Error) → ClearsOne p a o m xs s error
clears-one p a o m xs s error = by (clears-so p a o m xs s error)
  where
    none : (t : State) → state_of o xs ≡ t → list_any is_end (clear_facts p a o m xs (Some s) error) ≡ false
    none is_new e = rw e refl
    none is_ready e = rw e refl
    none (is_paused why) e = rw e refl
    none is_closed e = rw e refl

    by : ClearsSo p a o m xs s error → ClearsOne p a o m xs s error
    by (leaves k) = record {
      others_stay = λ t e. ap (λ ys. generation_of ys t) k;
      state_stays = ap (state_of o) k;
      queue_stays = ap queued k;
      ends_stay = λ r. ap (λ ys. end_of ys r) k;
      ends_none = none (state_of o xs) refl;
    }
    by (raises k) = record {
      others_stay = λ t e. ap (λ ys. generation_of ys t) k ∙ (generation-laws xs t).others_stay (Some s) error e;
      state_stays = ap (state_of o) k;
      queue_stays = ap queued k;
      ends_stay = λ r. ap (λ ys. end_of ys r) k;
      ends_none = none (state_of o xs) refl;
    }

pub ready-once : (p : ℕ) (a : ServerAddress) (o : PoolOptions) (m : ℕ) (xs : List PoolItem) → IsReadyOnce p a o m xs
ready-once p a o m xs r = on (state_of o xs) refl
  where
    on : (t : State) → state_of o xs ≡ t → readied p a o m xs ≡ []
    on is_ready e = rw e refl
    on is_closed e = rw e refl
    on is_new e = let w : ready (state_of o xs) ≡ false = ap ready e in cc
    on (is_paused why) e = let w : ready (state_of o xs) ≡ false = ap ready e in cc
