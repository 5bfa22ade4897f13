-- A request that left does not end once more.
use Rattle.std.proofs.Common.{◌≡◌, ℕ, true, false, ◌⊎◌, inl, inr, None, Some, map}
use Rattle.mdb_slots.specs.Lists.{apart}
use Rattle.mdb_pool.specs.declared.kept.request.Request.{Request}
use Rattle.mdb_pool.specs.Core.{PoolCore}
use Rattle.mdb_pool.specs.Acts.Changes.{ended_one}
use Rattle.mdb_pool.specs.Kept.Values.{kept_request, request_at, unserved_in}
use Rattle.mdb_pool.proofs.KeptInLittle.RequestsThatStay.{number-of}
use Rattle.mdb_pool.proofs.KeptInLittle.AskedOfThoseThatStay.{gone-served}
use Rattle.mdb_pool.proofs.Turns.EndUnserved.{none-found, one-stays}

pub left-stays : (s : PoolCore) (k : ℕ) → apart (map number-of s.kept.requests) ≡ true → kept_request s k ≡ None → ended_one s k ≡ s.kept.requests
left-stays s k a e = on (gone-served s (request_at s k) e)
  where
    on : (request_at s k ≡ None) ⊎ ((q : Request) × (request_at s k ≡ Some q) × (unserved_in s q.phase ≡ false)) → ended_one s k ≡ s.kept.requests
    on (inl f) = none-found s k s.kept.requests f
    on (inr h) = one-stays s k s.kept.requests h.0 a h.1 h.2
