-- The queue of a pool: its requests, in their order, that were neither granted a connection nor ended.
use Rattle.std.proofs.Common.{ℕ, ◌≡◌, ◌==◌, Bool, true, false, not, ◌&&◌, ◌||◌, List, [], ◌∷◌, ◌++◌, Option, Some, is_some, refl, sym, ◌∙◌, ap, arith, if◌then◌else◌, filter}
use Rattle.mdb_events.specs.declared.end.End.{End}
use Rattle.mdb_log.specs.History.{PoolItem, asked, warmed, granted, ended, has_asked, has_party, without}
use Rattle.mdb_log.specs.Requests.{requests, queued, end_of}
use Rattle.mdb_sound.specs.Sound.{Sound, MayAsk}
use Rattle.mdb_sound.specs.Counts.{was_granted}
use Rattle.mdb_sound.proofs.Once.{OnceEach, once}
use Rattle.mdb_histories.proofs.OfPlain.Lists.{filter-more, filter-cut}

-- neither granted a connection nor ended
abbrev pub is_left : List PoolItem → ℕ → Bool
is_left xs r = not (was_granted xs r || is_some (end_of xs r))

-- who is new is left
new-left : (xs : List PoolItem) → Sound xs → (r : ℕ) → has_party xs r ≡ false → is_left xs r ≡ true
new-left xs s r n =
    let i : OnceEach xs r = once xs s r in
    let ga : was_granted xs r ≡ true → has_asked xs r ≡ true = i.granted_asked in
    let ea : is_some (end_of xs r) ≡ true → has_asked xs r ≡ true = i.ended_asked in
    grind arith

more : (xs : List PoolItem) (q : ℕ) → is_left xs q ≡ true → queued xs ≡ filter (is_left xs) (requests xs) → queued xs ++ q ∷ [] ≡ filter (is_left xs) (requests xs ++ q ∷ [])
more xs q e i = sym (filter-more (is_left xs) (requests xs) q ∙ rw (e, sym i) refl)

same-back : (q k : ℕ) → (q == k) ≡ (k == q)
same-back q k = on (q == k) (k == q) refl refl
  where
    on : (a b : Bool) → (q == k) ≡ a → (k == q) ≡ b → a ≡ b
    on true true e f = refl
    on true false e f = absurd (grind arith)
    on false true e f = absurd (grind arith)
    on false false e f = refl

pub queue-left : (xs : List PoolItem) → Sound xs → queued xs ≡ filter (is_left xs) (requests xs)
queue-left [] s = refl
queue-left (asked q m ∷ xs) s = let w : MayAsk xs q = s.0 in more xs q (new-left xs s.1 q w.fresh) (queue-left xs s.1)
queue-left (warmed q m ∷ xs) s = let w : MayAsk xs q = s.0 in more xs q (new-left xs s.1 q w.fresh) (queue-left xs s.1)
queue-left (granted q c ∷ xs) s = ap (without q) (queue-left xs s.1) ∙ sym (filter-cut (is_left (granted q c ∷ xs)) (is_left xs) q (requests xs) cut)
  where
    on : (a g e : Bool) → not ((a || g) || e) ≡ not (g || e) && not a
    on true true e = refl
    on true false true = refl
    on true false false = refl
    on false true e = refl
    on false false true = refl
    on false false false = refl

    cut : (k : ℕ) → is_left (granted q c ∷ xs) k ≡ is_left xs k && not (k == q)
    cut k = on (q == k) (was_granted xs k) (is_some (end_of xs k)) ∙ ap (λ b. is_left xs k && not b) (same-back q k)
queue-left (ended q end ∷ xs) s = ap (without q) (queue-left xs s.1) ∙ sym (filter-cut (is_left (ended q end ∷ xs)) (is_left xs) q (requests xs) cut)
  where
    on : (a g : Bool) (e : Option End) → not (g || is_some (if a then Some end else e)) ≡ not (g || is_some e) && not a
    on true true e = refl
    on true false e = off (not (is_some e))
      where
        off : (b : Bool) → false ≡ b && false
        off true = refl
        off false = refl
    on false true e = refl
    on false false e = all (not (is_some e))
      where
        all : (b : Bool) → b ≡ b && true
        all true = refl
        all false = refl

    cut : (k : ℕ) → is_left (ended q end ∷ xs) k ≡ is_left xs k && not (k == q)
    cut k = on (q == k) (was_granted xs k) (end_of xs k) ∙ ap (λ b. is_left xs k && not b) (same-back q k)
queue-left (_ ∷ xs) s = queue-left xs s.1
