-- The facts by which a request ends.
use Rattle.std.proofs.Common.{ℕ, ◌≡◌, ◌-◌, Bool, true, false, List, ◌∷◌, Some, refl, ◌∙◌, ap}
use Rattle.mdb_events.specs.declared.end.End.{End}
use Rattle.mdb_pool.specs.declared.kept.request.Request.{Request}
use Rattle.mdb_pool.specs.Core.{PoolCore}
use Rattle.mdb_log.specs.History.{PoolItem, ended, after_facts, has_asked}
use Rattle.mdb_pool_rules.specs.Facts.{end_facts}
use Rattle.mdb_pool.specs.Kept.Values.{request_at, asked_at_of, warm_of}
use Rattle.mdb_pool.specs.Acts.Changes.{over_facts}
use Rattle.mdb_log.specs.Legal.{AllFirstCome}
use Rattle.mdb_log.specs.Own.{AllOwn, shuts}
use Rattle.mdb_pool.specs.Kept.Matching.{Matches}

-- they are those of the definitions
pub over-is : (s : PoolCore) (xs : List PoolItem) → Matches s xs → (n : ℕ) (q : Request) (end : End) → request_at s q.number ≡ Some q → end_facts s.pool s.address n xs q.number end ≡ over_facts s q.number q.warm (n - q.asked_at) end
over-is s xs m n q end at_q = rw (m.requests.warm q.number ∙ ap warm_of at_q, m.requests.asked_at q.number ∙ ap asked_at_of at_q) refl

module _ (s : PoolCore) (p n r : ℕ) (d : ℕ) (end : End) where
  pub over-known : (w : Bool) (ys : List PoolItem) → has_asked ys r ≡ true → after_facts p n (over_facts s r w d end) ys ≡ ended r end ∷ ys
  over-known true ys e = rw e refl
  over-known false ys e = rw e refl

  pub over-fair : (w : Bool) (ys : List PoolItem) → AllFirstCome p n ys (over_facts s r w d end)
  over-fair true ys = (tt, tt)
  over-fair false ys = (tt, (tt, tt))

  pub over-own : (w : Bool) (ys : List PoolItem) → s.pool ≡ p → has_asked ys r ≡ true → AllOwn p n ys (over_facts s r w d end)
  over-own true ys e f = (f, tt)
  over-own false ys e f = (f, (e, tt))

  pub over-open : (w : Bool) → shuts (over_facts s r w d end) ≡ false
  over-open true = refl
  over-open false = refl
