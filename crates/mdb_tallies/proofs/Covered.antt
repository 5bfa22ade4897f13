-- The lists of places after one was given.
use Rattle.std.proofs.Common.{ℕ, zero, suc, ◌+◌, ◌≡◌, ◌<◌, ◌≤◌, ◌==◌, Bool, true, false, not, ◌&&◌, ◌||◌, if◌then◌else◌, refl, sym, ap, subst, ◌∙◌, arith, add-one}
use Rattle.std.proofs.lemmas.Grind.{common_steps}
use Rattle.std.proofs.lemmas.Bool.{not-true, not-false}
use Rattle.mdb_log.proofs.Numbers.{same-number}
use Rattle.mdb_log.proofs.Bools.{both-left, both-right}
use Rattle.mdb_tallies.specs.declared.connection.Place.{Place}
use Rattle.mdb_tallies.specs.declared.lists.Lists.{Lists}
use Rattle.mdb_tallies.specs.declared.party.Gift.{Gift}
use Rattle.mdb_tallies.specs.declared.default_map.DefaultMap.{DefaultMap}
use Rattle.mdb_tallies.specs.declared.tables.Tables.{Tables}
use Rattle.mdb_tallies.specs.Tables.{at, same_key}
use Rattle.mdb_tallies.specs.Lists.{nth, len, listed, is_place, Pushes, PushesIf}
use Rattle.mdb_tallies.specs.Kept.{Covers, Gives}
use Rattle.mdb_tallies.proofs.Placed.{same}
use Rattle.mdb_tallies.proofs.Pushed.{pushed-len, pushed-last, pushed-below, apart-len, apart-nth}

-- lists that agree below a number list the same below it
pub listed-same : (n : ℕ) (f g : ℕ → Place) (p c : ℕ) → ((i : ℕ) → i < n → f i ≡ g i) → listed n f p c ≡ listed n g p c
listed-same zero f g p c e = refl
listed-same (suc n) f g p c e = let last : f n ≡ g n = e n (omega arith) in let rest : listed n f p c ≡ listed n g p c = listed-same n f g p c (λ i l. e i (omega arith)) in rw (last, rest) refl

-- where the last was not listed, each stands once
pub once-pushed : (r : ℕ) (v : Place) (old new : Lists Place) → Pushes r v old new → ((i : ℕ) → i < len old r → listed i (nth old r) (nth old r i).pool (nth old r i).id ≡ false) → listed (len old r) (nth old r) v.pool v.id ≡ false → (i : ℕ) → i < len new r → listed i (nth new r) (nth new r i).pool (nth new r i).id ≡ false
once-pushed r v old new e once fresh i below = by (i == len old r) refl
  where
    length : i < len old r + 1
    length = rw (← pushed-len r v old new e) below

    alike : (n : ℕ) → n ≤ len old r → (p c : ℕ) → listed n (nth new r) p c ≡ listed n (nth old r) p c
    alike n l p c = listed-same n (nth new r) (nth old r) p c (λ j m. pushed-below r v old new e j (omega arith))

    by : (b : Bool) → (i == len old r) ≡ b → listed i (nth new r) (nth new r i).pool (nth new r i).id ≡ false
    by true u = let is : i ≡ len old r = same i (len old r) u in rw (is, pushed-last r v old new e) (alike (len old r) (omega arith) v.pool v.id ∙ fresh)
    by false u = let less : i < len old r = grind (arith, common_steps) in rw (pushed-below r v old new e i less) (alike i (omega arith) (nth old r i).pool (nth old r i).id ∙ once i less)

pub listed-pushed : (r : ℕ) (v : Place) (old new : Lists Place) → Pushes r v old new → (p c : ℕ) → listed (len new r) (nth new r) p c ≡ is_place v p c || listed (len old r) (nth old r) p c
listed-pushed r v old new e p c = rw (pushed-len r v old new e, add-one (len old r), pushed-last r v old new e) (ap (λ b. is_place v p c || b) (listed-same (len old r) (nth new r) (nth old r) p c (λ j m. pushed-below r v old new e j m)))

abbrev any_way : Gift → Bool
any_way g = g.is_granted || g.is_taken

-- the gift of the pair itself, and of others
given-flags : (b : Bool) (g x : Gift) → any_way g ≡ true → any_way (if b then g else x) ≡ b || any_way x
given-flags true g x e = e
given-flags false g x e = refl

-- of a pair that was given before
given-again : (b : Bool) (g x : Gift) → any_way g ≡ true → (b ≡ true → any_way x ≡ true) → any_way (if b then g else x) ≡ any_way x
given-again true g x e f = e ∙ sym (f refl)
given-again false g x e f = refl

-- the lists cover with one place more
pub covers-more : (old : Tables) (r p c : ℕ) (g : Gift) (lists : Lists Place) (t : DefaultMap Gift) → any_way g ≡ true → any_way (at old.gifts r p c) ≡ false → Pushes r (record { pool = p; id = c }) old.places lists → ((x y z : ℕ) → at t x y z ≡ (if same_key r p c x y z then g else at old.gifts x y z)) → Covers old → Covers (record old { gifts = t; places = lists })
covers-more old r p c g lists t way fresh push there covers = record { all = λ q x y. all q x y (r == q) refl; once = λ q i. once q i (r == q) refl }
  where
    v : Place
    v = record { pool = p; id = c }

    whole : (q x y : ℕ) (b : Bool) → (r == q) ≡ b → any_way (at t q x y) ≡ ((b && (p == x)) && (c == y)) || any_way (at old.gifts q x y)
    whole q x y b u = ap any_way (there q x y) ∙ given-flags (same_key r p c q x y) g (at old.gifts q x y) way ∙ ap (λ k. ((k && (p == x)) && (c == y)) || any_way (at old.gifts q x y)) u

    all : (q x y : ℕ) (b : Bool) → (r == q) ≡ b → listed (len lists q) (nth lists q) x y ≡ any_way (at t q x y)
    all q x y true u = let is : r ≡ q = same r q u in subst (λ n. listed (len lists n) (nth lists n) x y ≡ any_way (at t n x y)) is (listed-pushed r (record { pool = p; id = c }) old.places lists push x y ∙ ap (λ k. is_place (record { pool = p; id = c }) x y || k) (covers.all r x y) ∙ sym (whole r x y true (same-number r)))
    all q x y false u = let n : len lists q ≡ len old.places q = apart-len r q (record { pool = p; id = c }) old.places lists push u in rw n (listed-same (len old.places q) (nth lists q) (nth old.places q) x y (λ j m. apart-nth r q (record { pool = p; id = c }) old.places lists push u j) ∙ covers.all q x y ∙ sym (whole q x y false u))

    once : (q i : ℕ) (b : Bool) → (r == q) ≡ b → i < len lists q → listed i (nth lists q) (nth lists q i).pool (nth lists q i).id ≡ false
    once q i true u below = let is : r ≡ q = same r q u in subst (λ n. i < len lists n → listed i (nth lists n) (nth lists n i).pool (nth lists n i).id ≡ false) is (once-pushed r (record { pool = p; id = c }) old.places lists push (covers.once r) (covers.all r p c ∙ fresh) i) below
    once q i false u below =
        let n : len lists q ≡ len old.places q = apart-len r q (record { pool = p; id = c }) old.places lists push u in
        let one : nth lists q i ≡ nth old.places q i = apart-nth r q (record { pool = p; id = c }) old.places lists push u i in
        rw one (listed-same i (nth lists q) (nth old.places q) (nth old.places q i).pool (nth old.places q i).id (λ j m. apart-nth r q (record { pool = p; id = c }) old.places lists push u j) ∙ covers.once q i (rw n at below))

-- the lists cover as before where the pair was given before
pub covers-again : (old : Tables) (r p c : ℕ) (g : Gift) (t : DefaultMap Gift) → any_way g ≡ true → any_way (at old.gifts r p c) ≡ true → ((x y z : ℕ) → at t x y z ≡ (if same_key r p c x y z then g else at old.gifts x y z)) → Covers old → Covers (record old { gifts = t })
covers-again old r p c g t way before there covers = record { all = λ q x y. covers.all q x y ∙ sym (ap any_way (there q x y) ∙ given-again (same_key r p c q x y) g (at old.gifts q x y) way (λ k. known q x y k)); once = covers.once }
  where
    known : (q x y : ℕ) → same_key r p c q x y ≡ true → any_way (at old.gifts q x y) ≡ true
    known q x y k = let a : r ≡ q = same r q (both-left (r == q) (p == x) (both-left ((r == q) && (p == x)) (c == y) k)) in let b : p ≡ x = same p x (both-right (r == q) (p == x) (both-left ((r == q) && (p == x)) (c == y) k)) in let d : c ≡ y = same c y (both-right ((r == q) && (p == x)) (c == y) k) in rw (← a, ← b, ← d) before

-- the tables after the party was given the connection
pub gives : (old : Tables) (r p c : ℕ) (g : Gift) (lists : Lists Place) (t : DefaultMap Gift) → g.is_granted || g.is_taken ≡ true → PushesIf (not ((at old.gifts r p c).is_granted || (at old.gifts r p c).is_taken)) r (record { pool = p; id = c }) old.places lists → ((x y z : ℕ) → at t x y z ≡ (if same_key r p c x y z then g else at old.gifts x y z)) → Gives r p c g old (record old { gifts = t; places = lists })
gives old r p c g lists t way push there = record { gifts = there; connections = refl; parties = refl; pools = refl; lists = λ covers. by covers (not (any_way (at old.gifts r p c))) refl push }
  where
    by : Covers old → (b : Bool) → not (any_way (at old.gifts r p c)) ≡ b → PushesIf b r (record { pool = p; id = c }) old.places lists → Covers (record old { gifts = t; places = lists })
    by covers true e push = covers-more old r p c g lists t way (not-true (any_way (at old.gifts r p c)) e) push there covers
    by covers false e push = subst (λ l. Covers (record old { gifts = t; places = l })) (sym push) (covers-again old r p c g t way (not-false (any_way (at old.gifts r p c)) e) there covers)
