-- What a change of one connection changes of the counts of its pool.
use Rattle.std.proofs.Common.{ℕ, ◌+◌, ◌-◌, ◌≡◌, ◌==◌, Bool, true, false, not, ◌&&◌, ◌||◌, if◌then◌else◌, nat_lt, List, [], ◌∷◌, ◌++◌, refl, sym, ap, ◌∙◌, arith}
use Rattle.std.proofs.lemmas.Grind.{common_steps}
use Rattle.mdb_base.specs.declared.object_id.ObjectId.{ObjectId}
use Rattle.std.proofs.Common.{Option}
use Rattle.mdb_log.specs.declared.step.Established.{Established}
use Rattle.mdb_log.specs.History.{PoolItem, created, closed, checked_in, established, failed, granted, without}
use Rattle.mdb_log.specs.Connections.{has, one_if, available_list}
use Rattle.mdb_log.specs.PlainConnections.{connections, creations, closings, is_created, is_tried, is_pending, is_available, pending_total, closed_total}
use Rattle.mdb_log.proofs.Numbers.{has-without-is}
use Rattle.mdb_tallies.specs.Totals.{total, count, Once}
use Rattle.mdb_tallies.proofs.Totals.{once-first, without-first, total-change, total-same, count-change, filter-count}
use Rattle.mdb_tallies.proofs.Pooled.{arrives, departs, established_available}

once_more : (n : ℕ) (b : Bool) → nat_lt 0 (n + one_if b) ≡ (b || nat_lt 0 n)
once_more n true = grind (arith, common_steps)
once_more n false = grind (arith, common_steps)

listed : (b u : Bool) → b || (u && not b) ≡ b || u
listed true u = refl
listed false true = refl
listed false false = refl

-- the connections of a pool are those that were created
pub connections-created : (xs : List PoolItem) (c : ℕ) → has c (connections xs) ≡ is_created xs c
connections-created [] c = refl
connections-created (created d m ∷ xs) c = ap (λ b. (d == c) || b) (has-without-is c d (connections xs)) ∙ listed (d == c) (has c (connections xs)) ∙ ap (λ b. (d == c) || b) (connections-created xs c) ∙ sym (once_more (creations xs c) (d == c))
connections-created (x ∷ xs) c = connections-created xs c

pub connections-once : (xs : List PoolItem) → Once (connections xs)
connections-once [] = tt
connections-once (created d m ∷ xs) = once-first d (connections xs) (connections-once xs)
connections-once (x ∷ xs) = connections-once xs

-- the closings that count
abbrev pub counted : List PoolItem → ℕ → ℕ
counted xs c = if is_created xs c then closings xs c else 0

abbrev pub at_hand : List PoolItem → ℕ → Bool
at_hand xs c = is_created xs c && is_available xs c

where_created : (xs : List PoolItem) (c : ℕ) → has c (connections xs) ≡ true → is_created xs c ≡ true
where_created xs c e = sym (connections-created xs c) ∙ e

where_none : (xs : List PoolItem) (c : ℕ) → has c (connections xs) ≡ false → is_created xs c ≡ false
where_none xs c e = sym (connections-created xs c) ∙ e

pub closed-counted : (xs : List PoolItem) → closed_total xs ≡ total (counted xs) (connections xs)
closed-counted xs = total-same (closings xs) (counted xs) (connections xs) (λ c e. let created : is_created xs c ≡ true = where_created xs c e in rw created refl)

available-counted : (xs : List PoolItem) → count (is_available xs) (connections xs) ≡ count (at_hand xs) (connections xs)
available-counted xs = total-same (λ c. one_if (is_available xs c)) (λ c. one_if (at_hand xs c)) (connections xs) (λ c e. let created : is_created xs c ≡ true = where_created xs c e in rw created refl)

-- the two say the same of all connections but one
pub record Alone (d : ℕ) (ys xs : List PoolItem) : Type 0 where
  pub created : (c : ℕ) → (d == c) ≡ false → creations ys c ≡ creations xs c
  pub closed : (c : ℕ) → (d == c) ≡ false → closings ys c ≡ closings xs c
  pub tried : (c : ℕ) → (d == c) ≡ false → is_tried ys c ≡ is_tried xs c
  pub available : (c : ℕ) → (d == c) ≡ false → is_available ys c ≡ is_available xs c
  pub others : without d (connections ys) ≡ without d (connections xs)

pub alone-closed : (d : ℕ) (ys xs : List PoolItem) → Alone d ys xs → closed_total ys ≡ (closed_total xs + counted ys d) - counted xs d
alone-closed d ys xs a =
    let before = closed-counted xs in
    let after = closed-counted ys in
    let change : total (counted ys) (connections ys) + counted xs d ≡ total (counted xs) (connections xs) + counted ys d = total-change (counted xs) (counted ys) d (connections xs) (connections ys) (connections-once xs) (connections-once ys) a.others (λ c e. rw (a.created c e, a.closed c e) refl) (λ e. let none : is_created xs d ≡ false = where_none xs d e in rw none refl) (λ e. let none : is_created ys d ≡ false = where_none ys d e in rw none refl) in
    omega arith

pub alone-pending : (d : ℕ) (ys xs : List PoolItem) → Alone d ys xs → pending_total ys ≡ (pending_total xs + one_if (is_pending ys d)) - one_if (is_pending xs d)
alone-pending d ys xs a =
    let before : pending_total xs ≡ count (is_pending xs) (connections xs) = filter-count (is_pending xs) (connections xs) in
    let after : pending_total ys ≡ count (is_pending ys) (connections ys) = filter-count (is_pending ys) (connections ys) in
    let change : count (is_pending ys) (connections ys) ≡ (count (is_pending xs) (connections xs) + one_if (is_pending ys d)) - one_if (is_pending xs d) = count-change (is_pending xs) (is_pending ys) d (connections xs) (connections ys) (connections-once xs) (connections-once ys) a.others (λ c e. rw (a.created c e, a.tried c e, a.closed c e) refl) (λ e. let none : is_created xs d ≡ false = where_none xs d e in rw none refl) (λ e. let none : is_created ys d ≡ false = where_none ys d e in rw none refl) in
    after ∙ change ∙ ap (λ n. (n + one_if (is_pending ys d)) - one_if (is_pending xs d)) (sym before)

pub alone-available : (d : ℕ) (ys xs : List PoolItem) → Alone d ys xs → count (is_available ys) (connections ys) ≡ (count (is_available xs) (connections xs) + one_if (at_hand ys d)) - one_if (at_hand xs d)
alone-available d ys xs a =
    let change : count (at_hand ys) (connections ys) ≡ (count (at_hand xs) (connections xs) + one_if (at_hand ys d)) - one_if (at_hand xs d) = count-change (at_hand xs) (at_hand ys) d (connections xs) (connections ys) (connections-once xs) (connections-once ys) a.others (λ c e. rw (a.created c e, a.available c e) refl) (λ e. let none : is_created xs d ≡ false = where_none xs d e in rw none refl) (λ e. let none : is_created ys d ≡ false = where_none ys d e in rw none refl) in
    available-counted ys ∙ change ∙ ap (λ n. (n + one_if (at_hand ys d)) - one_if (at_hand xs d)) (sym (available-counted xs))

not_here : (n : ℕ) (b : Bool) → b ≡ false → n + one_if b ≡ n
not_here n b e = let none : one_if b ≡ 0 = rw e refl in omega arith

arrives_not : (d c : ℕ) (cs : List ℕ) → (d == c) ≡ false → has c (without d cs ++ d ∷ []) ≡ has c cs
arrives_not d c cs e = arrives d c cs ∙ rw e refl

departs_not : (d c : ℕ) (cs : List ℕ) → (d == c) ≡ false → has c (without d cs) ≡ has c cs
departs_not d c cs e = departs d c cs ∙ rw e refl

pub created-alone : (d m : ℕ) (xs : List PoolItem) → Alone d (created d m ∷ xs) xs
created-alone d m xs = record { created = λ c e. not_here (creations xs c) (d == c) e; closed = λ c e. refl; tried = λ c e. refl; available = λ c e. refl; others = without-first d (connections xs) }

pub closed-alone : (d : ℕ) (xs : List PoolItem) → Alone d (closed d ∷ xs) xs
closed-alone d xs = record { created = λ c e. refl; closed = λ c e. not_here (closings xs c) (d == c) e; tried = λ c e. refl; available = λ c e. departs_not d c (available_list xs) e; others = refl }

pub checked_in-alone : (d m : ℕ) (xs : List PoolItem) → Alone d (checked_in d m ∷ xs) xs
checked_in-alone d m xs = record { created = λ c e. refl; closed = λ c e. refl; tried = λ c e. refl; available = λ c e. arrives_not d c (available_list xs) e; others = refl }

pub established-alone : (d : ℕ) (how : Established) (m : ℕ) (xs : List PoolItem) → Alone d (established d how m ∷ xs) xs
established-alone d how m xs = record { created = λ c e. refl; closed = λ c e. refl; tried = λ c e. rw e refl; available = λ c e. established_available d c xs ∙ rw e refl; others = refl }

pub failed-alone : (d : ℕ) (service : Option ObjectId) (xs : List PoolItem) → Alone d (failed d service ∷ xs) xs
failed-alone d service xs = record { created = λ c e. refl; closed = λ c e. refl; tried = λ c e. rw e refl; available = λ c e. refl; others = refl }

pub granted-alone : (r d : ℕ) (xs : List PoolItem) → Alone d (granted r d ∷ xs) xs
granted-alone r d xs = record { created = λ c e. refl; closed = λ c e. refl; tried = λ c e. refl; available = λ c e. departs_not d c (available_list xs) e; others = refl }
