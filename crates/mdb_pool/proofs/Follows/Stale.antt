-- Which connections are stale, by the clears that the state keeps.
use Rattle.std.proofs.Common.{ℕ, ◌≡◌, ◌+◌, ◌≤◌, Bool, true, false, not, ◌&&◌, ◌==◌, List, [], ◌∷◌, Option, Some, None, refl, ◌∙◌, arith, if◌then◌else◌, nat_lt}
use Rattle.std.specs.Prelude.{count_by}
use Rattle.std.proofs.lemmas.Grind.{common_steps}
use Rattle.std.proofs.lemmas.Bool.Decides.{nat_tests}
use Rattle.mdb_base.specs.declared.object_id.ObjectId.{ObjectId}
use Rattle.mdb_pool.specs.declared.kept.connection.Connection.{Connection}
use Rattle.mdb_pool.specs.declared.kept.status.Clear.{Clear}
use Rattle.mdb_pool.specs.declared.kept.status.Status.{Status}
use Rattle.mdb_pool.specs.declared.kept.status.Status.TheVariants.{New, Ready, Paused, Closed}
use Rattle.mdb_pool.specs.Core.{PoolCore}
use Rattle.mdb_log.specs.History.{PoolItem, same_service}
use Rattle.mdb_log.specs.Connections.{service_of}
use Rattle.mdb_log.specs.State.{is_stale, ready, generation_of, generation_before}
use Rattle.mdb_pool.specs.Kept.Matching.{Matches}
use Rattle.mdb_pool.specs.Kept.Values.{connection_at, clears_for, clears_before, cleared_since, stale_for, state_in, is_ready_now, is_shut}
use Rattle.mdb_pool_rules.proofs.Listed.Values.{named}

pub ready-is : (t : Status) → ready (state_in t) ≡ is_ready_now t
ready-is New = refl
ready-is Ready = refl
ready-is (Paused error) = refl
ready-is Closed = refl

pub ready-status : (t : Status) → is_ready_now t ≡ true → t ≡ Ready
ready-status New e = cc
ready-status Ready e = refl
ready-status (Paused error) e = cc
ready-status Closed e = cc

pub shut-status : (t : Status) → is_shut t ≡ true → t ≡ Closed
shut-status New e = cc
shut-status Ready e = cc
shut-status (Paused error) e = cc
shut-status Closed e = refl

-- the clears after the creation of a connection
abbrev clears_after : ℕ → Option ObjectId → List Clear → ℕ
clears_after c t ks = count_by (λ k. same_service k.service t && not (nat_lt k.after c)) ks

parts : (c : ℕ) (t : Option ObjectId) (ks : List Clear) → clears_before c t ks + clears_after c t ks ≡ clears_for t ks
parts c t [] = refl
parts c t (k ∷ ks) = on (same_service k.service t) (nat_lt k.after c) refl refl (parts c t ks)
  where
    on : (a b : Bool) → same_service k.service t ≡ a → nat_lt k.after c ≡ b → clears_before c t ks + clears_after c t ks ≡ clears_for t ks → clears_before c t (k ∷ ks) + clears_after c t (k ∷ ks) ≡ clears_for t (k ∷ ks)
    on true true e f rest = grind (arith, common_steps, e, f, rest)
    on true false e f rest = grind (arith, common_steps, e, f, rest)
    on false true e f rest = grind (arith, common_steps, e, f, rest)
    on false false e f rest = grind (arith, common_steps, e, f, rest)

some-after : (c : ℕ) (t : Option ObjectId) (ks : List Clear) → cleared_since c t ks ≡ not (clears_after c t ks == 0)
some-after c t [] = refl
some-after c t (k ∷ ks) = on (same_service k.service t && not (nat_lt k.after c)) refl (some-after c t ks)
  where
    on : (a : Bool) → (same_service k.service t && not (nat_lt k.after c)) ≡ a → cleared_since c t ks ≡ not (clears_after c t ks == 0) → cleared_since c t (k ∷ ks) ≡ not (clears_after c t (k ∷ ks) == 0)
    on true e rest = grind (arith, common_steps, nat_tests, e)
    on false e rest = grind (arith, common_steps, nat_tests, e, rest)

differ : (a b : ℕ) → not (a == a + b) ≡ not (b == 0)
differ a b = grind (arith, nat_tests)

pub since_is : (c : ℕ) (t : Option ObjectId) (ks : List Clear) → not (clears_before c t ks == clears_for t ks) ≡ cleared_since c t ks
since_is c t ks = rw (← parts c t ks, some-after c t ks) (differ (clears_before c t ks) (clears_after c t ks))

module _ (s : PoolCore) (xs : List PoolItem) (m : Matches s xs) where
  pub live-created : (c : ℕ) (x : Connection) → connection_at s c ≡ Some x → c ≤ s.kept.created
  live-created c x e = grind (arith, m.counts.unused c, e)

  pub live-served : (c : ℕ) (x : Connection) → connection_at s c ≡ Some x → service_of xs c ≡ x.service
  live-served c x e = grind (arith, m.told.served c, e)

  -- whatever items without a clear come after them
  pub stale-in : (ys : List PoolItem) (c : ℕ) (service : Option ObjectId) → c ≤ s.kept.created → service_of ys c ≡ service → ((t : Option ObjectId) → generation_before ys c t ≡ generation_before xs c t) → ((t : Option ObjectId) → generation_of ys t ≡ generation_of xs t) → is_stale s.options ys c ≡ stale_for s c service
  stale-in ys c service l named before now =
      let t : Option ObjectId = if s.options.load_balanced then service else None in
      rw (named, before t ∙ m.clearing.before c t l, now t ∙ m.clearing.clears t, since_is c t s.kept.clears) refl

  pub stale-at : (c : ℕ) (x : Connection) → connection_at s c ≡ Some x → is_stale s.options xs c ≡ stale_for s c x.service
  stale-at c x e = stale-in xs c x.service (live-created c x e) (live-served c x e) (λ t. refl) (λ t. refl)
