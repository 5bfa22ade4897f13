-- Queues after a caller joined one of them.
use Rattle.std.proofs.Common.{ℕ, ◌+◌, ◌≡◌, ◌<◌, ◌≤◌, ◌==◌, Bool, true, false, if◌then◌else◌, filter, List, [], ◌∷◌, ◌++◌, Some, refl, sym, ap, subst, ◌∙◌, arith, add-one}
use Rattle.std.proofs.lemmas.Grind.{common_steps}
use Rattle.std.proofs.lemmas.List.Elements.{filter-append}
use Rattle.mdb_log.specs.History.{Item}
use Rattle.mdb_log.specs.Requests.{some_act, was_asked}
use Rattle.mdb_log.specs.PlainRequests.{waiting}
use Rattle.mdb_judging.specs.declared.queues.Queues.{Queues}
use Rattle.mdb_tallies.specs.Lists.{nth, len, Pushes}
use Rattle.mdb_tallies.specs.Tables.{at}
use Rattle.mdb_tallies.specs.Standing.{party_of}
use Rattle.mdb_tallies.specs.Verdicts.{waits_now}
use Rattle.mdb_judging.specs.Queueing.{callers_of, QueuesStand}
use Rattle.mdb_tallies.proofs.Placed.{same}
use Rattle.mdb_tallies.proofs.Pushed.{pushed-len, pushed-last, pushed-below, apart-len, apart-nth}
use Rattle.mdb_judging.proofs.Firsts.{first-same}
use Rattle.mdb_judging.proofs.Queueing.{waits, AsksFirst, callers-before, grown, append-none}

-- the callers of the pool that the party joined
callers-joined : (p s : ℕ) (old new : Queues) → Pushes p s old.callers new.callers → callers_of new p ≡ callers_of old p ++ s ∷ []
callers-joined p s old new e = rw (pushed-len p s old.callers new.callers e, add-one (len old.callers p), pushed-last p s old.callers new.callers e) (ap (λ l. l ++ s ∷ []) (first-same (len old.callers p) (nth new.callers p) (nth old.callers p) (pushed-below p s old.callers new.callers e)))

-- those of another pool
callers-apart : (p q s : ℕ) (old new : Queues) → Pushes p s old.callers new.callers → (p == q) ≡ false → callers_of new q ≡ callers_of old q
callers-apart p q s old new e n = rw (apart-len p q s old.callers new.callers e n) (first-same (len old.callers q) (nth new.callers q) (nth old.callers q) (λ i l. apart-nth p q s old.callers new.callers e n i))

-- who was a caller is the same one
kept-nth : (p q s : ℕ) (old new : Queues) → Pushes p s old.callers new.callers → (i : ℕ) → i < len old.callers q → nth new.callers q i ≡ nth old.callers q i
kept-nth p q s old new e i below = by (p == q) refl
  where
    by : (b : Bool) → (p == q) ≡ b → nth new.callers q i ≡ nth old.callers q i
    by true u = subst (λ m. i < len old.callers m → nth new.callers m i ≡ nth old.callers m i) (same p q u) (pushed-below p s old.callers new.callers e i) below
    by false u = apart-nth p q s old.callers new.callers e u i

kept-len : (p q s : ℕ) (old new : Queues) → Pushes p s old.callers new.callers → len old.callers q ≤ len new.callers q
kept-len p q s old new e = by (p == q) refl
  where
    by : (b : Bool) → (p == q) ≡ b → len old.callers q ≤ len new.callers q
    by true u = let more : len new.callers p ≡ len old.callers p + 1 = pushed-len p s old.callers new.callers e in subst (λ m. len old.callers m ≤ len new.callers m) (same p q u) (omega (arith, more))
    by false u = let is : len new.callers q ≡ len old.callers q = apart-len p q s old.callers new.callers e u in omega (arith, is)

waits-elsewhere : (h : List Item) (p q s : ℕ) → (party_of h s).pool ≡ Some p → (p == q) ≡ false → waits h q s ≡ false
waits-elsewhere h p q s e u = rw (e, u) refl

joined-waiting : (h k : List Item) (s p : ℕ) (old new : Queues) → AsksFirst h k s → (party_of k s).pool ≡ Some p → Pushes p s old.callers new.callers → QueuesStand h old → (q : ℕ) → filter (waits k q) (callers_of new q) ≡ waiting q k
joined-waiting h k s p old new a e push st q = by (p == q) refl
  where
    here : filter (waits k p) (callers_of new p) ≡ waiting p k
    here = ap (filter (waits k p)) (callers-joined p s old new push) ∙ filter-append (waits k p) (callers_of old p) (s ∷ []) ∙ grown h k s old p a st

    by : (b : Bool) → (p == q) ≡ b → filter (waits k q) (callers_of new q) ≡ waiting q k
    by true u = subst (λ m. filter (waits k m) (callers_of new m) ≡ waiting m k) (same p q u) here
    by false u = ap (filter (waits k q)) (callers-apart p q s old new push u) ∙ sym (append-none (filter (waits k q) (callers_of old q))) ∙ ap (λ b. filter (waits k q) (callers_of old q) ++ (if b then (s ∷ []) else [])) (sym (waits-elsewhere k p q s e u)) ∙ grown h k s old q a st

joined-asked : (h k : List Item) (s p : ℕ) (old new : Queues) → AsksFirst h k s → Pushes p s old.callers new.callers → QueuesStand h old → (q i : ℕ) → i < len new.callers q → some_act was_asked k (nth new.callers q i) ≡ true
joined-asked h k s p old new a push st q i below = by (p == q) refl
  where
    before : (m : ℕ) → i < len old.callers m → some_act was_asked k (nth new.callers m i) ≡ true
    before m less = rw (kept-nth p m s old new push i less) (a.still (nth old.callers m i) (st.asked m i less))

    last : (b : Bool) → (i == len old.callers p) ≡ b → i < len new.callers p → some_act was_asked k (nth new.callers p i) ≡ true
    last true u less = rw (same i (len old.callers p) u, pushed-last p s old.callers new.callers push) a.known
    last false u less = let more : len new.callers p ≡ len old.callers p + 1 = pushed-len p s old.callers new.callers push in let less : i < len old.callers p = grind (arith, common_steps) in before p less

    by : (b : Bool) → (p == q) ≡ b → some_act was_asked k (nth new.callers q i) ≡ true
    by true u = subst (λ m. i < len new.callers m → some_act was_asked k (nth new.callers m i) ≡ true) (same p q u) (last (i == len old.callers p) refl) below
    by false u = before q (rw (apart-len p q s old.callers new.callers push u) at below)

-- The party asked the pool with its first step, and is its last caller.
pub queues-joined : (h k : List Item) (s p : ℕ) (old new : Queues) → AsksFirst h k s → (party_of k s).pool ≡ Some p → Pushes p s old.callers new.callers → new.gone ≡ old.gone → QueuesStand h old → QueuesStand k new
queues-joined h k s p old new a e push g st = record {
  waiting = joined-waiting h k s p old new a e push st;
  asked = joined-asked h k s p old new a push st;
  gone = gone;
  within = within;
}
  where
    gone : (q i : ℕ) → i < at new.gone q 0 0 → waits_now q (party_of k (nth new.callers q i)) ≡ false
    gone q i below =
        let less : i < at old.gone q 0 0 = subst (λ t. i < at t q 0 0) g below in
        let most : at old.gone q 0 0 ≤ len old.callers q = st.within q in
        let there : i < len old.callers q = omega (arith, less, most) in
        ap (waits k q) (kept-nth p q s old new push i there) ∙ callers-before h k s old q a st i there ∙ st.gone q i less

    within : (q : ℕ) → at new.gone q 0 0 ≤ len new.callers q
    within q =
        let most : at old.gone q 0 0 ≤ len old.callers q = st.within q in
        let longer : len old.callers q ≤ len new.callers q = kept-len p q s old new push in
        subst (λ t. at t q 0 0 ≤ len new.callers q) (sym g) (omega (arith, most, longer))
