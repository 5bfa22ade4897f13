-- Lists after one value was pushed.
use Rattle.std.proofs.Common.{ℕ, ◌+◌, ◌≡◌, ◌<◌, ◌==◌, true, false, if◌then◌else◌, refl, ap, ◌∙◌, arith}
use Rattle.std.proofs.lemmas.Grind.{common_steps}
use Rattle.mdb_log.proofs.Numbers.{same-number}
use Rattle.mdb_tallies.specs.declared.lists.Lists.{Lists}
use Rattle.mdb_tallies.specs.Tables.{same_key}
use Rattle.mdb_tallies.specs.Lists.{nth, len, Pushes}

other-number : (k j : ℕ) → j < k → (k == j) ≡ false
other-number k j l = grind (arith, common_steps)

-- the list itself

pub pushed-len : {V : Type 0} (r : ℕ) (v : V) (old new : Lists V) → Pushes r v old new → len new r ≡ len old r + 1
pushed-len r v old new e = let key : same_key r 0 0 r 0 0 ≡ true = rw (same-number r) refl in e.lengths r 0 0 ∙ ap (λ b. if b then len old r + 1 else len old r) key

pub pushed-last : {V : Type 0} (r : ℕ) (v : V) (old new : Lists V) → Pushes r v old new → nth new r (len old r) ≡ v
pushed-last r v old new e = let key : same_key r (len old r) 0 r (len old r) 0 ≡ true = rw (same-number r, same-number (len old r)) refl in e.items r (len old r) 0 ∙ ap (λ b. if b then v else nth old r (len old r)) key

pub pushed-below : {V : Type 0} (r : ℕ) (v : V) (old new : Lists V) → Pushes r v old new → (i : ℕ) → i < len old r → nth new r i ≡ nth old r i
pushed-below r v old new e i l = let other : (len old r == i) ≡ false = other-number (len old r) i l in let key : same_key r (len old r) 0 r i 0 ≡ false = rw (same-number r, other) refl in e.items r i 0 ∙ ap (λ b. if b then v else nth old r i) key

-- the list of another

pub apart-len : {V : Type 0} (r q : ℕ) (v : V) (old new : Lists V) → Pushes r v old new → (r == q) ≡ false → len new q ≡ len old q
apart-len r q v old new e n = e.lengths q 0 0 ∙ rw n refl

pub apart-nth : {V : Type 0} (r q : ℕ) (v : V) (old new : Lists V) → Pushes r v old new → (r == q) ≡ false → (i : ℕ) → nth new q i ≡ nth old q i
apart-nth r q v old new e n i = e.items q i 0 ∙ rw n refl
