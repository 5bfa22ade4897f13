-- All seats are one, and the driver is closed.
use Rattle.std.proofs.Common.{◌≡◌, ℕ, zero, suc, ◌+◌, ◌<◌, ◌≤◌, eqb, ◌≢◌, Bool, true, false, Some, List, [], ◌∷◌, ◌++◌, length, All, slice_get, get_or, sym, refl, ap, ◌∙◌, subst, ⊎_elim, arith, length-append, append_assoc, append-nil, eq-eqb, ne_eqb}
use mathlib.Core.Logic.{dite}
use mathlib.Core.Option.{some, some-injective, some-ne-none}
use native.Mathlib.Decide.{ℕ_discrete}
use lib.ListN.{get_elem?}
use Rattle.atomic_table.specs.Seated.{TableId}
use Rattle.atomic_table.specs.Table.{Me, Final, Seen}
use Rattle.atomic_table.proofs.Lists.{at_longer, at_last}
use Rattle.mdb_log.specs.declared.log.Entry.{Entry}
use Rattle.mdb_turns.specs.declared.rule.SeatEntries.{SeatEntries}
use Rattle.mdb_turns.specs.declared.rule.View.{View}
use Rattle.mdb_log.specs.Driver.{StartsWith}
use Rattle.mdb_turns.specs.Turning.{own, seat_entries, Keeps, Slot, Settles}
use Rattle.mdb_turns.specs.Stepping.{SeatView, seat_view, mine_of, IsReady}
use Rattle.mdb_shared.specs.Seats.{AllOf, seat_entries_of, behind, Each, ByOne, Accounts}
use Rattle.mdb_turns.proofs.Keeping.{true_not_false}

-- ---- as many distinct numbers below n as n are all of them

abbrev one_if : Bool → ℕ
one_if true = 1
one_if false = 0

abbrev times : ℕ → List SeatEntries → ℕ
times n [] = 0
times n (p ∷ ps) = one_if (eqb p.number n) + times n ps

abbrev sum_below : ℕ → (ℕ → ℕ) → ℕ
sum_below zero f = 0
sum_below (suc m) f = sum_below m f + f m

sum_add : (m : ℕ) (f g : ℕ → ℕ) → sum_below m (λ n. f n + g n) ≡ sum_below m f + sum_below m g
sum_add zero f g = refl
sum_add (suc m) f g = let h = sum_add m f g in omega arith

sum_zero : (m : ℕ) → sum_below m (λ n. 0) ≡ 0
sum_zero zero = refl
sum_zero (suc m) = let h = sum_zero m in omega arith

is_one : (x n : ℕ) → x ≡ n → one_if (eqb x n) ≡ 1
is_one x n e = ap one_if (eq-eqb x n e)

is_zero : (x n : ℕ) → x ≢ n → one_if (eqb x n) ≡ 0
is_zero x n e = ap one_if (ne_eqb x n e)

sum_past : (m x : ℕ) → m ≤ x → sum_below m (λ n. one_if (eqb x n)) ≡ 0
sum_past zero x h = refl
sum_past (suc m) x h = let i = sum_past m x (omega arith) in let j = is_zero x m (λ e. omega arith) in omega arith

sum_once : (m x : ℕ) → x < m → sum_below m (λ n. one_if (eqb x n)) ≡ 1
sum_once zero x h = absurd (omega arith)
sum_once (suc m) x h = dite (ℕ_discrete x m) (λ e. let i = sum_past m x (omega arith) in let j = is_one x m e in omega arith)
    (λ ne. let i = sum_once m x (omega arith) in let j = is_zero x m ne in omega arith)

sum_times : (m : ℕ) (ps : List SeatEntries) → ((k : ℕ) (p : SeatEntries) → get_elem? ps k ≡ some p → p.number < m) → sum_below m (λ n. times n ps) ≡ length ps
sum_times m [] low = sum_zero m
sum_times m (p ∷ ps) low = let a = sum_add m (λ n. one_if (eqb p.number n)) (λ n. times n ps) in let b = sum_once m p.number (low 0 p refl) in let c = sum_times m ps (λ k q e. low (suc k) q e) in omega arith

all_ones : (m : ℕ) (f : ℕ → ℕ) → ((n : ℕ) → f n ≤ 1) → (sum_below m f ≤ m) × (m ≤ sum_below m f → (n : ℕ) → n < m → f n ≡ 1)
all_ones zero f most = (omega arith, λ _ n h. absurd (omega arith))
all_ones (suc m) f most = let h = all_ones m f most in let a = h.0 in let b = most m in (
  omega arith,
  λ full n low. dite (ℕ_discrete n m) (λ e. let c : f m ≡ 1 = omega arith in ap f e ∙ c) (λ ne. h.1 (omega arith) n (omega arith)),
)

found : (n : ℕ) (ps : List SeatEntries) → 0 < times n ps → (k : ℕ) × (p : SeatEntries) × (get_elem? ps k ≡ some p) × (p.number ≡ n)
found n [] h = absurd (omega arith)
found n (p ∷ ps) h = dite (ℕ_discrete p.number n) (λ e. (0, p, refl, e))
    (λ ne. let z = is_zero p.number n ne in let t = found n ps (omega arith) in (suc t.0, t.1, t.2, t.3))

at_most_once : (n : ℕ) (ps : List SeatEntries) → ((j k : ℕ) (p q : SeatEntries) → get_elem? ps j ≡ some p → get_elem? ps k ≡ some q → p.number ≡ q.number → j ≡ k) → times n ps ≤ 1
at_most_once n [] apart = omega arith
at_most_once n (p ∷ ps) apart = let h = at_most_once n ps (λ j k q r a b e. let same : suc j ≡ suc k = apart (suc j) (suc k) q r a b e in omega arith) in dite (ℕ_discrete p.number n)
    (λ e. let one = is_one p.number n e in dite (ℕ_discrete (times n ps) 0) (λ z. omega arith)
    (λ nz. let t = found n ps (omega arith) in let same : 0 ≡ suc t.0 = apart 0 (suc t.0) p t.1 refl t.2 (e ∙ sym t.3) in absurd (omega arith)))
    (λ ne. let z = is_zero p.number n ne in omega arith)

pub covers : (m : ℕ) (ps : List SeatEntries) → ((k : ℕ) (p : SeatEntries) → get_elem? ps k ≡ some p → p.number < m)
    → ((j k : ℕ) (p q : SeatEntries) → get_elem? ps j ≡ some p → get_elem? ps k ≡ some q → p.number ≡ q.number → j ≡ k) → m ≤ length ps
    → (n : ℕ) → n < m → (k : ℕ) × (p : SeatEntries) × (get_elem? ps k ≡ some p) × (p.number ≡ n)
covers m ps low apart full n h = let s = sum_times m ps low in let ones = all_ones m (λ i. times i ps) (λ i. at_most_once i ps apart) in
    let one = ones.1 (omega arith) n h in found n ps (omega arith)

pub at_most : (m : ℕ) (ps : List SeatEntries) → ((k : ℕ) (p : SeatEntries) → get_elem? ps k ≡ some p → p.number < m)
    → ((j k : ℕ) (p q : SeatEntries) → get_elem? ps j ≡ some p → get_elem? ps k ≡ some q → p.number ≡ q.number → j ≡ k) → length ps ≤ m
at_most m ps low apart = let s = sum_times m ps low in let ones = all_ones m (λ i. times i ps) (λ i. at_most_once i ps apart) in let most = ones.0 in omega arith

-- ---- the end

module _ {T : Type 0} (stands : T → List Entry → Type 0) (base : List Entry) (seats : ℕ) where
  abbrev S : Type 0
  S = Slot T

  pub ends : (id : ℕ) (v : View) (ws : List ℕ) (xs : List S) → Final (Seen (Keeps stands base seats) id v) ws xs → v.turn ≡ false → seats ≤ length v.own_numbers → (x : S) → get_elem? xs 0 ≡ some x
      → (c : T) × (log : List Entry) × (x ≡ Some (c, log)) × stands c log × Settles base v log × (length v.own_numbers ≤ seats)
  ends id v ws xs f off enough x at_x =
      let s = f.0 in let r = f.1.0 in let at = f.1.1 in let turn : ℕ = get_or s.words 0 0 in let g = r.fits id v at in
      let low : (k : ℕ) (p : SeatEntries) → get_elem? v.own_numbers k ≡ some p → p.number < r.next = λ k p e. (g.own_numbers k p e).1 in
      let few = r.few in
      let cover : (n : ℕ) → n < r.next → (k : ℕ) × (p : SeatEntries) × (get_elem? v.own_numbers k ≡ some p) × (p.number ≡ n) = covers r.next v.own_numbers low g.apart (omega arith) in
      let is_free : turn ≡ 0 = dite (ℕ_discrete turn 0) (λ z. z) (λ nz. let t = r.taken nz in let u = r.fits t.0 t.1 t.2 in let h = u.holds_turn t.3 in
      let p = u.own_numbers 0 (seat_entries h.0 h.1) (ap (λ (ps : List SeatEntries). get_elem? ps 0) h.2) in
      let q = cover h.0 p.1 in let mine = g.own_numbers q.0 q.1 q.2 in
      let same : t.0 ≡ id = sym p.0 ∙ (ap r.owner (sym q.3) ∙ mine.0) in
      let view : t.1 ≡ v = some-injective t.1 v (sym t.2 ∙ (ap (λ (k : ℕ). get_elem? s.views k) same ∙ at)) in
      absurd (true_not_false v.turn (ap (λ (y : View). y.turn) (sym view) ∙ t.3) off)) in
      let home = r.free is_free in let log : List Entry = base ++ r.past in
      let value : get_elem? xs 0 ≡ some (Some (home.0, log)) = f.4 0 (Some (home.0, log)) home.1 in (
        home.0,
        log,
        some-injective x (Some (home.0, log)) (sym at_x ∙ value),
        home.2,
        (
          g.seen,
          (
            r.past,
            refl,
            (λ k p e. (g.own_numbers k p e).2),
            (λ k e there. cover e.seat (r.authors k e there)),
          ),
        ),
        (let most = at_most r.next v.own_numbers low g.apart in omega arith),
      )

-- ---- from parts to seats

pub length_behind : (ss : List SeatView) → length (behind ss) ≡ length ss
length_behind [] = refl
length_behind (s ∷ ss) = let h = length_behind ss in let a = length-append (behind ss) (seat_entries_of s ∷ []) in omega arith

each_behind : (P : SeatEntries → Type 0) (ss : List SeatView) → ((k : ℕ) (p : SeatEntries) → get_elem? (behind ss) k ≡ some p → P p) → Each (λ s. P (seat_entries_of s)) ss
each_behind P [] all = tt
each_behind P (s ∷ ss) all = (
  all (length (behind ss)) (seat_entries_of s) (at_last (behind ss) (seat_entries_of s) (length (behind ss)) refl),
  each_behind P ss (λ k p e. all k p (at_longer (behind ss) (seat_entries_of s ∷ []) k p e)),
)

some_behind : (ss : List SeatView) (k : ℕ) (p : SeatEntries) → get_elem? (behind ss) k ≡ some p → (i : ℕ) × (s : SeatView) × (slice_get ss i ≡ Some s) × (seat_entries_of s ≡ p)
some_behind [] k p e = absurd (some-ne-none p (sym e))
some_behind (s ∷ ss) k p e = ⊎_elim (λ (t : get_elem? (behind ss) k ≡ some p). let h = some_behind ss k p t in (suc h.0, h.1, h.2, h.3)) (λ (t : (k ≡ length (behind ss)) × (seat_entries_of s ≡ p)). (0, s, refl, t.1))
    (Rattle.mdb_turns.proofs.Keeping.at_end (behind ss) (seat_entries_of s) p k e)

each_from : (P : Entry → Type 0) (es : List Entry) → ((k : ℕ) (e : Entry) → get_elem? es k ≡ some e → P e) → Each P es
each_from P [] all = tt
each_from P (e ∷ es) all = (all 0 e refl, each_from P es (λ k x at. all (suc k) x at))

pub each_more : {X : Type 0} (P Q : X → Type 0) (xs : List X) → ((x : X) → P x → Q x) → Each P xs → Each Q xs
each_more P Q [] go h = tt
each_more P Q (x ∷ xs) go h = (go x h.0, each_more P Q xs go h.1)

pub starts_trans : (a b c : List Entry) → StartsWith a b → StartsWith b c → StartsWith a c
starts_trans a b c p q = (q.0 ++ p.0, p.1 ∙ (ap (λ (l : List Entry). l ++ p.0) q.1 ∙ append_assoc c q.0 p.0))

pub accounts : (base log : List Entry) (v : View) (ss : List SeatView) → v.own_numbers ≡ behind ss → Each (λ s. StartsWith v.seen s.seen) ss → Settles base v log → Accounts base ss log
accounts base log v ss are seen settled = let past = settled.1.0 in (
  each_more (λ s. StartsWith v.seen s.seen) (λ s. StartsWith log s.seen) ss (λ s h. starts_trans log v.seen s.seen settled.0 h) seen,
  (
    past,
    settled.1.1,
    each_behind (λ p. own p.number past ≡ p.mine) ss (λ k p e. settled.1.2 k p (ap (λ (ps : List SeatEntries). get_elem? ps k) are ∙ e)),
    each_from (ByOne ss) past (λ k e at. let t = settled.1.3 k e at in let h = some_behind ss t.0 t.1 (ap (λ (ps : List SeatEntries). get_elem? ps t.0) (sym are) ∙ t.2) in
        (h.0, h.1, h.2, sym t.3 ∙ ap (λ (p : SeatEntries). p.number) (sym h.3))),
  ),
)

-- ---- the loop that makes all seats one

all_each : {X : Type 0} (P : X → Type 0) (xs : List X) → All P xs → Each P xs
all_each P [] h = tt
all_each P (x ∷ xs) h = (h 0 x (omega arith), all_each P xs (λ k d l. h (suc k) d (omega arith)))

each_mid : {X : Type 0} (P : X → Type 0) (xs ys : List X) (x : X) → Each P (xs ++ x ∷ ys) → P x
each_mid P [] ys x h = h.0
each_mid P (y ∷ xs) ys x h = each_mid P xs ys x h.1

-- the seats that were taken in are one, which has this view
abbrev pub Gathered : {T : Type 0} → List SeatView → List SeatView → Me (Slot T) View → Type 0
Gathered {T} all left m = (rest : List SeatView) × (all ≡ left ++ rest) × (m.1 ≡ []) × (m.0.turn ≡ false) × (m.0.own_numbers ≡ behind rest) × Each (λ s. StartsWith m.0.seen s.seen) rest

-- a seat's only part
one_part : (z : TableId) (n : ℕ) (v : View) (s : SeatView) → seat_view z n v ≡ s → v.own_numbers ≡ seat_entries n (mine_of v.own_numbers) ∷ [] → v.own_numbers ≡ seat_entries_of s ∷ []
one_part z n v s is one = one ∙ ap (λ (x : SeatView). seat_entries_of x ∷ []) is

pub first_own : (all left : List SeatView) (s : SeatView) (y z : TableId) (n : ℕ) (v : View) → all ≡ left ++ s ∷ [] → seat_view z n v ≡ s → AllOf y all → z ≡ y
first_own all left s y z n v popped is of_z = ap (λ (x : SeatView). x.driver) is ∙ each_mid (λ x. x.driver ≡ y) left [] s (subst (Each (λ x. x.driver ≡ y)) popped (all_each (λ x. x.driver ≡ y) all of_z))

module _ {T : Type 0} where
  pub gather_first : (all left : List SeatView) (s : SeatView) (z : TableId) (n : ℕ) (m : Me (Slot T) View) → all ≡ left ++ s ∷ [] → seat_view z n m.0 ≡ s → IsReady n m → Gathered all left m
  gather_first all left s z n m popped is ready = (s ∷ [], popped, ready.0, ready.1, one_part z n m.0 s is ready.2, (subst (λ (l : List Entry). StartsWith m.0.seen l) (ap (λ (x : SeatView). x.seen) is) ([], sym (append-nil m.0.seen)), tt))

  pub gather_more : (all left now : List SeatView) (s : SeatView) (z : TableId) (n : ℕ) (m p m' : Me (Slot T) View) → Gathered all left m → left ≡ now ++ s ∷ [] → seat_view z n p.0 ≡ s → IsReady n p
      → m'.1 ≡ m.1 → m'.0.turn ≡ false → m'.0.own_numbers ≡ m.0.own_numbers ++ p.0.own_numbers → StartsWith m'.0.seen m.0.seen → StartsWith m'.0.seen p.0.seen → Gathered all now m'
  gather_more all left now s z n m p m' g popped is ready same off own_numbers front front' = let rest = g.0 in (
    s ∷ rest,
    g.1 ∙ (ap (λ (l : List SeatView). l ++ rest) popped ∙ append_assoc now (s ∷ []) rest),
    same ∙ g.2,
    off,
    own_numbers ∙ (ap (λ (ps : List SeatEntries). ps ++ p.0.own_numbers) g.4 ∙ ap (λ (ps : List SeatEntries). behind rest ++ ps) (one_part z n p.0 s is ready.2)),
    (subst (λ (l : List Entry). StartsWith m'.0.seen l) (ap (λ (x : SeatView). x.seen) is) front', each_more (λ x. StartsWith m.0.seen x.seen) (λ x. StartsWith m'.0.seen x.seen) rest (λ x h. starts_trans m'.0.seen m.0.seen x.seen front h) g.5),
  )

  -- the next seat is of this driver
  pub next_own : (all left now : List SeatView) (s : SeatView) (y z : TableId) (n : ℕ) (m : Me (Slot T) View) (v : View) → Gathered all left m → left ≡ now ++ s ∷ [] → seat_view z n v ≡ s → AllOf y all → z ≡ y
  next_own all left now s y z n m v g popped is own = ap (λ (x : SeatView). x.driver) is
      ∙ each_mid (λ x. x.driver ≡ y) now g.0 s (subst (Each (λ x. x.driver ≡ y)) (g.1 ∙ (ap (λ (l : List SeatView). l ++ g.0) popped ∙ append_assoc now (s ∷ []) g.0)) (all_each (λ x. x.driver ≡ y) all own))

  pub gathered : (all left : List SeatView) (m : Me (Slot T) View) → Gathered all left m → left ≡ [] → (m.0.own_numbers ≡ behind all) × Each (λ s. StartsWith m.0.seen s.seen) all
  gathered all left m g none_left = let e : all ≡ g.0 = g.1 ∙ ap (λ (l : List SeatView). l ++ g.0) none_left in
      (g.4 ∙ ap behind (sym e), subst (λ (l : List SeatView). Each (λ s. StartsWith m.0.seen s.seen) l) (sym e) g.5)

pub same_content : {A : Type 0} (a b : A) → Some a ≡ Some b → a ≡ b
same_content a b e = cc

pub empty_list : {A : Type 0} (xs : List A) → length xs ≡ 0 → xs ≡ []
empty_list [] h = refl
empty_list (x ∷ xs) h = absurd (omega arith)
