-- Queues after an item with which no caller joins them.
use Rattle.std.proofs.Common.{ℕ, ◌≡◌, ◌<◌, ◌≤◌, ◌==◌, Bool, true, false, ◌&&◌, if◌then◌else◌, filter, List, [], ◌∷◌, ◌++◌, refl, sym, ap, ◌∙◌, arith}
use Rattle.std.proofs.lemmas.List.Elements.{filter-append}
use Rattle.mdb_log.specs.History.{Item}
use Rattle.mdb_log.specs.Requests.{some_act, was_asked}
use Rattle.mdb_log.specs.PlainRequests.{requests, waiting}
use Rattle.mdb_judging.specs.declared.queues.Queues.{Queues}
use Rattle.mdb_tallies.specs.Lists.{nth, len}
use Rattle.mdb_tallies.specs.Tables.{at}
use Rattle.mdb_tallies.specs.Standing.{party_of}
use Rattle.mdb_tallies.specs.Verdicts.{waits_now}
use Rattle.mdb_judging.specs.Queueing.{callers_of, QueuesStand}
use Rattle.mdb_tallies.proofs.Placed.{same}
use Rattle.mdb_judging.proofs.Firsts.{filter-first, filter-but}
use Rattle.mdb_judging.proofs.Queued.{waiting-filter, still-same, requests-asked}

-- the party waits at the pool after the history
abbrev pub waits : List Item → ℕ → ℕ → Bool
waits h p r = waits_now p (party_of h r)

still_false : (a b : Bool) → a ≡ false → a && b ≡ false
still_false a b e = rw e refl

-- One item that no request comes with: who waits still is told by keep.
pub queues-kept : (h k : List Item) (keep : ℕ → Bool) (q : Queues) → ((p r : ℕ) → waits k p r ≡ waits h p r && keep r) → requests k ≡ requests h → ((r : ℕ) → some_act was_asked h r ≡ true → some_act was_asked k r ≡ true) → QueuesStand h q → QueuesStand k q
queues-kept h k keep q e all asked s = record {
  waiting = λ p. still-same (waits h p) (waits k p) keep (callers_of q p) (requests h) (e p) (s.waiting p ∙ waiting-filter p h) ∙ ap (filter (waits k p)) (sym all) ∙ sym (waiting-filter p k);
  asked = λ p i below. asked (nth q.callers p i) (s.asked p i below);
  gone = λ p i below. e p (nth q.callers p i) ∙ still_false (waits h p (nth q.callers p i)) (keep (nth q.callers p i)) (s.gone p i below);
  within = s.within;
}

-- The party s asks with its first step.
pub record AsksFirst (h k : List Item) (s : ℕ) : Type 0 where
  pub unknown : some_act was_asked h s ≡ false
  pub known : some_act was_asked k s ≡ true
  pub all : requests k ≡ requests h ++ s ∷ []
  pub others : (r : ℕ) → (s == r) ≡ false → party_of k r ≡ party_of h r
  pub still : (r : ℕ) → some_act was_asked h r ≡ true → some_act was_asked k r ≡ true

-- who asked before is another
other-asked : (h k : List Item) (s r : ℕ) → AsksFirst h k s → some_act was_asked h r ≡ true → (s == r) ≡ false
other-asked h k s r a e = by (s == r) refl
  where
    by : (b : Bool) → (s == r) ≡ b → (s == r) ≡ false
    by true u = let is : s ≡ r = same s r u in let known : some_act was_asked h s ≡ true = rw is e in let clash : false ≡ true = sym a.unknown ∙ known in cc
    by false u = u

-- the callers of a pool wait as before
pub callers-before : (h k : List Item) (s : ℕ) (q : Queues) (p : ℕ) → AsksFirst h k s → QueuesStand h q → (i : ℕ) → i < len q.callers p → waits k p (nth q.callers p i) ≡ waits h p (nth q.callers p i)
callers-before h k s q p a st i below = ap (waits_now p) (a.others (nth q.callers p i) (other-asked h k s (nth q.callers p i) a (st.asked p i below)))

-- the waiting of a pool: those of before, and the party if it waits there
pub grown : (h k : List Item) (s : ℕ) (q : Queues) (p : ℕ) → AsksFirst h k s → QueuesStand h q → filter (waits k p) (callers_of q p) ++ filter (waits k p) (s ∷ []) ≡ waiting p k
grown h k s q p a st =
    let before : filter (waits k p) (callers_of q p) ≡ filter (waits h p) (requests h) = filter-first (len q.callers p) (nth q.callers p) (waits k p) (waits h p) (callers-before h k s q p a st) ∙ st.waiting p ∙ waiting-filter p h in
    let listed : filter (waits k p) (requests h) ≡ filter (waits h p) (requests h) = filter-but s (requests h) (waits k p) (waits h p) (requests-asked h s ∙ a.unknown) (λ r n. ap (waits_now p) (a.others r n)) in
    ap (λ l. l ++ filter (waits k p) (s ∷ [])) (before ∙ sym listed) ∙ sym (filter-append (waits k p) (requests h) (s ∷ [])) ∙ ap (filter (waits k p)) (sym a.all) ∙ sym (waiting-filter p k)

pub append-none : (ks : List ℕ) → ks ++ [] ≡ ks
append-none [] = refl
append-none (k ∷ ks) = ap (λ l. k ∷ l) (append-none ks)

-- It waits at no pool: the queues are as before.
pub queues-unjoined : (h k : List Item) (s : ℕ) (q : Queues) → AsksFirst h k s → ((p : ℕ) → waits k p s ≡ false) → QueuesStand h q → QueuesStand k q
queues-unjoined h k s q a idle st = record {
  waiting = λ p. sym (append-none (filter (waits k p) (callers_of q p))) ∙ ap (λ b. filter (waits k p) (callers_of q p) ++ (if b then (s ∷ []) else [])) (sym (idle p)) ∙ grown h k s q p a st;
  asked = λ p i below. a.still (nth q.callers p i) (st.asked p i below);
  gone = λ p i below. let within : at q.gone p 0 0 ≤ len q.callers p = st.within p in callers-before h k s q p a st i (omega (arith, below, within)) ∙ st.gone p i below;
  within = st.within;
}
