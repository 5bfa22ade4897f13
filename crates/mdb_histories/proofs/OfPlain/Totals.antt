-- How many connections of a pool were closed, how many live, and whether one more may be created, where its history is sound.
use Rattle.std.proofs.Common.{ℕ, ◌≡◌, ◌+◌, ◌-◌, ◌<◌, ◌≤◌, ◌==◌, Bool, true, false, not, List, [], ◌∷◌, length, refl, sym, ◌∙◌, ap, arith, nat_lt}
use Rattle.std.proofs.lemmas.Grind.{common_steps}
use Rattle.std.proofs.lemmas.Bool.Decides.{nat_tests}
use Rattle.std.specs.List.{list_any}
use Rattle.mdb_log.specs.declared.options.PoolOptions.{PoolOptions}
use Rattle.mdb_log.specs.History.{PoolItem, created, closed, without}
use Rattle.mdb_log.specs.Connections.{one_if, has, live, live_total, created_total, available_list}
use Rattle.mdb_log.specs.State.{max_size, may_create, is_empty}
use Rattle.mdb_log.specs.PlainConnections.{closings, connections, is_created, is_available, closed_total}
use Rattle.mdb_log.specs.PlainState.{may_create as may_create_one}
use Rattle.mdb_pool_rules.proofs.Listed.Values.{without-absent}
use Rattle.mdb_sound.specs.Sound.{Sound, MayCreate, MayClose}
use Rattle.mdb_sound.specs.Counts.{creations as made, closings as shut}
use Rattle.mdb_sound.specs.Laws.{ConnectionLaws}
use Rattle.mdb_sound.proofs.Steady.{AsItIs, steady, above}
use Rattle.mdb_sound.proofs.Connections.{connection-laws}
use Rattle.mdb_sound.proofs.Order.{times}
use Rattle.mdb_histories.proofs.OfPlain.Lists.{any-has, any-none}
use Rattle.mdb_histories.proofs.OfPlain.Connections.{times-connections, connections-created, untouched, next-new, pending-totals}

-- the numbers of all, added up
abbrev total : (ℕ → ℕ) → List ℕ → ℕ
total f [] = 0
total f (c ∷ cs) = total f cs + f c

total-few : (f : ℕ → ℕ) (cs : List ℕ) → ((c : ℕ) → f c ≤ 1) → total f cs ≤ length cs
total-few f [] few = omega arith
total-few f (c ∷ cs) few = let a : f c ≤ 1 = few c in let b : total f cs ≤ length cs = total-few f cs few in grind (arith, common_steps)

total-more : (f : ℕ → ℕ) (d : ℕ) (cs : List ℕ) → total (λ c. f c + one_if (d == c)) cs ≡ total f cs + times d cs
total-more f d [] = refl
total-more f d (c ∷ cs) = on (d == c) (c == d) refl refl (total-more f d cs)
  where
    on : (a b : Bool) → (d == c) ≡ a → (c == d) ≡ b → total (λ c. f c + one_if (d == c)) cs ≡ total f cs + times d cs → total (λ c. f c + one_if (d == c)) cs + (f c + one_if a) ≡ (total f cs + f c) + (times d cs + one_if b)
    on true true e g rest = grind (arith, common_steps)
    on true false e g rest = absurd (grind arith)
    on false true e g rest = absurd (grind arith)
    on false false e g rest = grind (arith, common_steps)

-- the next connection is none of those that were created
next-absent : (xs : List PoolItem) → Sound xs → (c : ℕ) → c ≡ created_total xs + 1 → without c (connections xs) ≡ connections xs
next-absent xs s c e = without-absent c (connections xs) (connections-created xs c ∙ ap (nat_lt 0) (next-new xs s c e))

pub length-connections : (xs : List PoolItem) → Sound xs → length (connections xs) ≡ created_total xs
length-connections [] s = refl
length-connections (created d m ∷ xs) s =
    let w : MayCreate xs d = s.0 in
    let i : length (connections xs) ≡ created_total xs = length-connections xs s.1 in
    rw (next-absent xs s.1 d w.next) (grind (arith, common_steps))
length-connections (_ ∷ xs) s = length-connections xs s.1

pub lives-created : (xs : List PoolItem) → Sound xs → (c : ℕ) → 0 < live xs c → is_created xs c ≡ true
lives-created xs s c l =
    let i : AsItIs xs c = steady xs s c in
    let b : live xs c + shut xs c ≡ made xs c = i.balanced in
    let k : 0 < made xs c = omega arith in
    grind (arith, nat_tests)

-- what was created lives or was closed
pub live-totals : (xs : List PoolItem) → Sound xs → live_total xs + closed_total xs ≡ created_total xs
live-totals [] s = refl
live-totals (created d m ∷ xs) s =
    let w : MayCreate xs d = s.0 in
    let none : closings xs d ≡ 0 = (untouched xs s.1 d (next-new xs s.1 d w.next)).1 in
    let i : live_total xs + closed_total xs ≡ created_total xs = live-totals xs s.1 in
    let same : closed_total (created d m ∷ xs) ≡ closed_total xs + closings xs d = ap (λ cs. total (closings xs) cs + closings xs d) (next-absent xs s.1 d w.next) in
    grind (arith, common_steps)
live-totals (closed d ∷ xs) s =
    let w : MayClose xs d = s.0 in
    let there : is_created xs d ≡ true = lives-created xs s.1 d (above (live xs d) w.lives) in
    let one : times d (connections xs) ≡ 1 = times-connections xs d ∙ rw there refl in
    let i : live_total xs + closed_total xs ≡ created_total xs = live-totals xs s.1 in
    let more : closed_total (closed d ∷ xs) ≡ closed_total xs + times d (connections xs) = total-more (closings xs) d (connections xs) in
    let few : closed_total (closed d ∷ xs) ≤ length (connections xs) = total-few (closings (closed d ∷ xs)) (connections xs) (λ c. let l : ConnectionLaws (closed d ∷ xs) c = connection-laws (closed d ∷ xs) s c in l.closed_once) in
    let all : length (connections xs) ≡ created_total xs = length-connections xs s.1 in
    let goal : (live_total xs - 1) + closed_total (closed d ∷ xs) ≡ created_total xs = omega arith in
    goal
live-totals (_ ∷ xs) s = live-totals xs s.1

-- some connection of the pool is available where the list of the available ones is not empty
pub available-alike : (xs : List PoolItem) → Sound xs → list_any (is_available xs) (connections xs) ≡ not (is_empty (available_list xs))
available-alike xs s = on (available_list xs) refl
  where
    on : (ks : List ℕ) → available_list xs ≡ ks → list_any (is_available xs) (connections xs) ≡ not (is_empty (available_list xs))
    on [] e =
        let none : not (is_empty (available_list xs)) ≡ false = ap (λ ks. not (is_empty ks)) e in
        any-none (is_available xs) (connections xs) (λ k. ap (has k) e) ∙ sym none
    on (k ∷ ks) e =
        let some : not (is_empty (available_list xs)) ≡ true = ap (λ ks. not (is_empty ks)) e in
        let own : has k (k ∷ ks) ≡ true = grind arith in
        let there : is_available xs k ≡ true = ap (has k) e ∙ own in
        let i : AsItIs xs k = steady xs s k in
        let l : live xs k ≡ 1 = i.available_lives there in
        any-has (is_available xs) k (connections xs) (connections-created xs k ∙ lives-created xs s k (omega arith)) there ∙ sym some

less : (l c t m : ℕ) → l + c ≡ t → nat_lt t (m + c) ≡ nat_lt l m
less l c t m e = on (nat_lt l m) refl
  where
    on : (b : Bool) → nat_lt l m ≡ b → nat_lt t (m + c) ≡ b
    on true f = grind (arith, nat_tests)
    on false f = grind (arith, nat_tests)

pub may-create-alike : (o : PoolOptions) (xs : List PoolItem) → Sound xs → may_create_one o xs ≡ may_create o xs
may-create-alike o xs s = rw (less (live_total xs) (closed_total xs) (created_total xs) (max_size o) (live-totals xs s), pending-totals xs s) refl
