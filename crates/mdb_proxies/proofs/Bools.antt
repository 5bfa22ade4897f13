-- Truth values in tests.
use Rattle.std.proofs.Common.{◌≡◌, ℕ, Bool, true, false, ◌&&◌, ◌||◌, ◌==◌, refl, sym}
use Rattle.std.proofs.lemmas.Bool.Decides.{Decides-eqb, same_from_decides}

pub left : (a b : Bool) → (a && b) ≡ true → a ≡ true
left true b e = refl
left false b e = e

pub right : (a b : Bool) → (a && b) ≡ true → b ≡ true
right true b e = e
right false b e = absurd (let k : false ≡ true = e in cc)

pub both : (a b : Bool) → a ≡ true → b ≡ true → (a && b) ≡ true
both true b h k = k
both false b h k = h

pub first : (a b : Bool) → (a || b) ≡ false → a ≡ false
first false b e = refl
first true b e = e

pub rest : (a b : Bool) → (a || b) ≡ false → b ≡ false
rest false b e = e
rest true b e = absurd (let k : true ≡ false = e in cc)

-- where one holds and not both, the other does not
pub other : (a b : Bool) → a ≡ true → (a && b) ≡ false → b ≡ false
other true b i e = e
other false b i e = absurd (let k : false ≡ true = i in cc)

pub swapped : (m n : ℕ) → (m == n) ≡ (n == m)
swapped m n = same_from_decides (m == n) (n == m) (Decides-eqb m n) ((λ h. sym ((Decides-eqb n m).0 h)), (λ h. (Decides-eqb n m).1 (sym h)))
