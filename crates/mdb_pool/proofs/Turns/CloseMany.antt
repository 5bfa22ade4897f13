-- Many connections are closed and many requests end, one after another.
use Rattle.std.proofs.Common.{ℕ, ◌≡◌, ◌+◌, ◌-◌, Bool, true, false, List, [], ◌∷◌, ◌++◌, length, filter, sym, ◌∙◌, ap, arith, take, get_or, ◌<◌, append_assoc, append-nil}
use Rattle.std.proofs.lemmas.Grind.{common_steps}
use Rattle.mdb_events.specs.declared.end.End.TheVariants.{Closed as ClosedEnd}
use Rattle.mdb_pool.specs.declared.kept.request.Request.{Request}
use Rattle.mdb_pool.specs.Core.{PoolCore}
use Rattle.mdb_pool.specs.Acts.Changes.{over_facts, off_facts}
use Rattle.mdb_pool.specs.Kept.Values.{unserved_in}
use Rattle.std.proofs.lemmas.List.{take_more}

-- the facts of one more end come last
pub off_facts_append : (s : PoolCore) (m : ℕ) (qs : List Request) (q : Request) → off_facts s m (qs ++ q ∷ []) ≡ off_facts s m qs ++ over_facts s q.number q.warm (m - q.asked_at) ClosedEnd
off_facts_append s m [] q = append-nil (over_facts s q.number q.warm (m - q.asked_at) ClosedEnd)
off_facts_append s m (k ∷ qs) q = ap (λ fs. over_facts s k.number k.warm (m - k.asked_at) ClosedEnd ++ fs) (off_facts_append s m qs q) ∙ sym (append_assoc (over_facts s k.number k.warm (m - k.asked_at) ClosedEnd) (off_facts s m qs) (over_facts s q.number q.warm (m - q.asked_at) ClosedEnd))

-- how the facts grow with each request, as it ends or not
module _ (s : PoolCore) (m : ℕ) (qs : List Request) (i : ℕ) (q : Request) (within : i < length qs) (at : q ≡ get_or qs i q) where
  abbrev chosen : Request → Bool
  chosen k = unserved_in s k.phase

  one-more : take (i + 1) qs ≡ take i qs ++ q ∷ []
  one-more = take_more qs i q within ∙ ap (λ k. take i qs ++ k ∷ []) (sym at)

  pub off_facts_more : unserved_in s q.phase ≡ true → off_facts s m (filter chosen (take (i + 1) qs)) ≡ off_facts s m (filter chosen (take i qs)) ++ over_facts s q.number q.warm (m - q.asked_at) ClosedEnd
  off_facts_more e =
      let f : filter chosen (take (i + 1) qs) ≡ filter chosen (take i qs) ++ q ∷ [] = ap (filter chosen) one-more ∙ grind (arith, common_steps, e) in
      ap (off_facts s m) f ∙ off_facts_append s m (filter chosen (take i qs)) q

  pub off_facts_same : unserved_in s q.phase ≡ false → off_facts s m (filter chosen (take (i + 1) qs)) ≡ off_facts s m (filter chosen (take i qs))
  off_facts_same e =
      let f : filter chosen (take (i + 1) qs) ≡ filter chosen (take i qs) = ap (filter chosen) one-more ∙ grind (arith, common_steps, e) in
      ap (off_facts s m) f
