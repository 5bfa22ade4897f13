-- The lists of grants after a change have each connection that a party was granted, once.
use Rattle.std.proofs.Common.{ℕ, ◌≡◌, ◌<◌, ◌==◌, Bool, true, false, not, ◌&&◌, ◌||◌, if◌then◌else◌, refl, sym, ap, subst, ◌∙◌}
use Rattle.std.proofs.lemmas.Bool.{not-true, not-false}
use Rattle.mdb_tallies.specs.declared.occurrence.Occurrence.{Occurrence}
use Rattle.mdb_tallies.specs.declared.occurrence.Occurrence.TheVariants as change
use Rattle.mdb_tallies.specs.declared.connection.Place.{Place}
use Rattle.mdb_tallies.specs.declared.lists.Lists.{Lists}
use Rattle.mdb_tallies.specs.declared.party.Gift.{Gift}
use Rattle.mdb_tallies.specs.declared.tables.Tables.{Tables}
use Rattle.mdb_tallies.specs.Tables.{at}
use Rattle.mdb_tallies.specs.Lists.{nth, len, listed, is_place, Pushes, PushesIf}
use Rattle.mdb_tallies.specs.Changes.{gift_after}
use Rattle.mdb_tallies.proofs.Placed.{same}
use Rattle.mdb_tallies.proofs.Pushed.{apart-len, apart-nth}
use Rattle.mdb_tallies.proofs.Covered.{listed-same, listed-pushed, once-pushed}
use Rattle.mdb_log.proofs.Bools.{both-left, both-right}
use Rattle.mdb_pins.specs.Following.{EachOnce, GrantsFollow}

-- the lists have each connection that a party was granted, once
abbrev pub Have : (ℕ → ℕ → ℕ → Gift) → Lists Place → Type 0
Have g l = ((r p c : ℕ) → listed (len l r) (nth l r) p c ≡ (g r p c).is_granted) × ((r : ℕ) → EachOnce l r)

granted-bit : (b : Bool) (x : Gift) → (if b then record x { is_granted = true } else x).is_granted ≡ b || x.is_granted
granted-bit true x = refl
granted-bit false x = refl

taken-bit : (b : Bool) (x : Gift) → (if b then record x { is_taken = true } else x).is_granted ≡ x.is_granted
taken-bit true x = refl
taken-bit false x = refl

-- one grant more
more : (g : ℕ → ℕ → ℕ → Gift) (r p c : ℕ) (old new : Lists Place) → (g r p c).is_granted ≡ false → Pushes r (record { pool = p; id = c }) old new → Have g old → Have (λ q x y. gift_after (change.Granted r p c) q x y (g q x y)) new
more g r p c old new fresh push has = (λ q x y. all q x y (r == q) refl, λ q i. once q i (r == q) refl)
  where
    v : Place
    v = record { pool = p; id = c }

    bit : (q x y : ℕ) (b : Bool) → (r == q) ≡ b → (gift_after (change.Granted r p c) q x y (g q x y)).is_granted ≡ ((b && (p == x)) && (c == y)) || (g q x y).is_granted
    bit q x y b u = granted-bit (((r == q) && (p == x)) && (c == y)) (g q x y) ∙ ap (λ k. ((k && (p == x)) && (c == y)) || (g q x y).is_granted) u

    all : (q x y : ℕ) (b : Bool) → (r == q) ≡ b → listed (len new q) (nth new q) x y ≡ (gift_after (change.Granted r p c) q x y (g q x y)).is_granted
    all q x y true u = subst (λ n. listed (len new n) (nth new n) x y ≡ (gift_after (change.Granted r p c) q x y (g q x y)).is_granted) (same r q u) (listed-pushed r (record { pool = p; id = c }) old new push x y ∙ ap (λ k. is_place (record { pool = p; id = c }) x y || k) (has.0 r x y ∙ ap (λ n. (g n x y).is_granted) (same r q u)) ∙ sym (bit q x y true u))
    all q x y false u = let n : len new q ≡ len old q = apart-len r q (record { pool = p; id = c }) old new push u in rw n (listed-same (len old q) (nth new q) (nth old q) x y (λ j m. apart-nth r q (record { pool = p; id = c }) old new push u j) ∙ has.0 q x y ∙ sym (bit q x y false u))

    once : (q i : ℕ) (b : Bool) → (r == q) ≡ b → i < len new q → listed i (nth new q) (nth new q i).pool (nth new q i).id ≡ false
    once q i true u below = let is : r ≡ q = same r q u in subst (λ n. i < len new n → listed i (nth new n) (nth new n i).pool (nth new n i).id ≡ false) is (once-pushed r (record { pool = p; id = c }) old new push (has.1 r) (has.0 r p c ∙ fresh) i) below
    once q i false u below =
        let n : len new q ≡ len old q = apart-len r q (record { pool = p; id = c }) old new push u in
        let one : nth new q i ≡ nth old q i = apart-nth r q (record { pool = p; id = c }) old new push u i in
        rw one (listed-same i (nth new q) (nth old q) (nth old q i).pool (nth old q i).id (λ j m. apart-nth r q (record { pool = p; id = c }) old new push u j) ∙ has.1 q i (rw n at below))

-- a grant that was made before
again : (g : ℕ → ℕ → ℕ → Gift) (r p c : ℕ) (l : Lists Place) → (g r p c).is_granted ≡ true → Have g l → Have (λ q x y. gift_after (change.Granted r p c) q x y (g q x y)) l
again g r p c l before has = (λ q x y. has.0 q x y ∙ sym (granted-bit (((r == q) && (p == x)) && (c == y)) (g q x y) ∙ by q x y (((r == q) && (p == x)) && (c == y)) refl), has.1)
  where
    by : (q x y : ℕ) (b : Bool) → (((r == q) && (p == x)) && (c == y)) ≡ b → b || (g q x y).is_granted ≡ (g q x y).is_granted
    by q x y false u = refl
    by q x y true u =
        let a : r ≡ q = same r q (both-left (r == q) (p == x) (both-left ((r == q) && (p == x)) (c == y) u)) in
        let b : p ≡ x = same p x (both-right (r == q) (p == x) (both-left ((r == q) && (p == x)) (c == y) u)) in
        let d : c ≡ y = same c y (both-right ((r == q) && (p == x)) (c == y) u) in
        rw (← a, ← b, ← d) (sym before)

still : (g f : ℕ → ℕ → ℕ → Gift) (old new : Lists Place) → new ≡ old → ((r p c : ℕ) → (f r p c).is_granted ≡ (g r p c).is_granted) → Have g old → Have f new
still g f old new e same has = subst (Have f) (sym e) (λ r p c. has.0 r p c ∙ sym (same r p c), has.1)

pub grants-next : (ch : Occurrence) (t : Tables) (old new : Lists Place) (g : ℕ → ℕ → ℕ → Gift) → ((r p c : ℕ) → at t.gifts r p c ≡ g r p c) → Have g old → GrantsFollow ch t old new → Have (λ r p c. gift_after ch r p c (g r p c)) new
grants-next (change.Granted r p c) t old new g is has f = by (not (at t.gifts r p c).is_granted) refl f
  where
    by : (b : Bool) → not (at t.gifts r p c).is_granted ≡ b → PushesIf b r (record { pool = p; id = c }) old new → Have (λ q x y. gift_after (change.Granted r p c) q x y (g q x y)) new
    by true u push = more g r p c old new (ap (λ x. x.is_granted) (sym (is r p c)) ∙ not-true (at t.gifts r p c).is_granted u) push has
    by false u push = subst (Have (λ q x y. gift_after (change.Granted r p c) q x y (g q x y))) (sym push) (again g r p c old (ap (λ x. x.is_granted) (sym (is r p c)) ∙ not-false (at t.gifts r p c).is_granted u) has)
grants-next (change.Taken r p c) t old new g is has f = still g (λ q x y. gift_after (change.Taken r p c) q x y (g q x y)) old new f (λ q x y. taken-bit (((r == q) && (p == x)) && (c == y)) (g q x y)) has
grants-next ch t old new g is has f = still g (λ q x y. gift_after ch q x y (g q x y)) old new f (λ q x y. refl) has
