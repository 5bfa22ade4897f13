-- Walks over a list of servers, a step at a time.
use Rattle.std.proofs.Common.{◌≡◌, ℕ, ◌<◌, ◌≤◌, ◌+◌, zero, suc, true, false, List, [], ◌∷◌, ◌++◌, length, get_or, set, take, drop, map, below_more, refl, sym, ap, subst, ◌∙◌, arith}
use Rattle.std.specs.List.{insert}
use Rattle.mdb_base.specs.declared.address.ServerAddress.{ServerAddress}
use Rattle.mdb_base.specs.AddressOrder.{is_before}
use Rattle.mdb_base.specs.Equality.{same_address}
use Rattle.mdb_describe.specs.declared.description.ServerDescription.{ServerDescription}
use Rattle.mdb_describe.specs.Servers.{store, put}

-- the description is not stored before the place i
abbrev pub StoresFrom : ServerDescription → List ServerDescription → ℕ → Type 0
StoresFrom d xs i = (j : ℕ) → j < i → (x : ServerDescription) → x ≡ get_or xs j x → same_address x.address d.address ≡ false

pub store_here : (d : ServerDescription) (xs : List ServerDescription) (i : ℕ) (x : ServerDescription) → i < length xs → x ≡ get_or xs i x → StoresFrom d xs i → same_address x.address d.address ≡ true → set xs i d ≡ store d xs
store_here d [] i x within is none same = absurd (omega arith)
store_here d (y ∷ ys) zero x within is none same =
    let e : same_address y.address d.address ≡ true = ap (λ (s : ServerDescription). same_address s.address d.address) (sym is) ∙ same in
    rw e refl
store_here d (y ∷ ys) (suc i) x within is none same =
    let e : same_address y.address d.address ≡ false = none 0 (omega arith) y refl in
    rw e (ap (λ (zs : List ServerDescription). y ∷ zs) (store_here d ys i x (omega arith) is (λ j lt z at. none (suc j) (omega arith) z at) same))

pub store_none : (d : ServerDescription) (xs : List ServerDescription) → StoresFrom d xs (length xs) → xs ≡ store d xs
store_none d [] none = refl
store_none d (y ∷ ys) none =
    let e : same_address y.address d.address ≡ false = none 0 (omega arith) y refl in
    rw e (ap (λ (zs : List ServerDescription). y ∷ zs) (store_none d ys (λ j lt z at. none (suc j) (omega arith) z at)))

same_element : (xs : List ServerDescription) (i : ℕ) (x y : ServerDescription) → i < length xs → x ≡ get_or xs i x → y ≡ get_or xs i y → x ≡ y
same_element [] i x y within a b = absurd (omega arith)
same_element (z ∷ zs) zero x y within a b = a ∙ sym b
same_element (z ∷ zs) (suc i) x y within a b = same_element zs i x y (omega arith) a b

pub stores_on : (d : ServerDescription) (xs : List ServerDescription) (i : ℕ) (y : ServerDescription) → StoresFrom d xs i → i < length xs → y ≡ get_or xs i y → same_address y.address d.address ≡ false → StoresFrom d xs (i + 1)
stores_on d xs i y before within is differs = below_more (λ (j : ℕ). (x : ServerDescription) → x ≡ get_or xs j x → same_address x.address d.address ≡ false) i before (λ x at. ap (λ (s : ServerDescription). same_address s.address d.address) (same_element xs i x y within at is) ∙ differs)

pub store_end : (d : ServerDescription) (xs : List ServerDescription) (i : ℕ) → StoresFrom d xs i → i ≡ length xs → xs ≡ store d xs
store_end d xs i none all = store_none d xs (subst (λ (j : ℕ). StoresFrom d xs j) all none)

-- the server's place is not before i
abbrev pub PutsFrom : ServerAddress → List ServerDescription → ℕ → Type 0
PutsFrom a xs i = (j : ℕ) → j < i → (x : ServerDescription) → x ≡ get_or xs j x → is_before a x.address ≡ false

pub put_here : (d : ServerDescription) (xs : List ServerDescription) (i : ℕ) (x : ServerDescription) → i < length xs → x ≡ get_or xs i x → PutsFrom d.address xs i → is_before d.address x.address ≡ true → put d xs ≡ insert xs i d
put_here d [] i x within is none before = absurd (omega arith)
put_here d (y ∷ ys) zero x within is none before =
    let e : is_before d.address y.address ≡ true = ap (λ (s : ServerDescription). is_before d.address s.address) (sym is) ∙ before in
    rw e refl
put_here d (y ∷ ys) (suc i) x within is none before =
    let e : is_before d.address y.address ≡ false = none 0 (omega arith) y refl in
    rw e (ap (λ (zs : List ServerDescription). y ∷ zs) (put_here d ys i x (omega arith) is (λ j lt z at. none (suc j) (omega arith) z at) before))

pub put_last : (d : ServerDescription) (xs : List ServerDescription) → PutsFrom d.address xs (length xs) → put d xs ≡ insert xs (length xs) d
put_last d [] none = refl
put_last d (y ∷ ys) none =
    let e : is_before d.address y.address ≡ false = none 0 (omega arith) y refl in
    rw e (ap (λ (zs : List ServerDescription). y ∷ zs) (put_last d ys (λ j lt z at. none (suc j) (omega arith) z at)))

pub put_here_at : (d : ServerDescription) (a : ServerAddress) → d.address ≡ a → (xs : List ServerDescription) (i : ℕ) (x : ServerDescription) → i < length xs → x ≡ get_or xs i x → PutsFrom a xs i → is_before a x.address ≡ true → put d xs ≡ insert xs i d
put_here_at d a e xs i x within is none before = put_here d xs i x within is (subst (λ (b : ServerAddress). PutsFrom b xs i) (sym e) none) (ap (λ (b : ServerAddress). is_before b x.address) e ∙ before)

pub put_last_at : (d : ServerDescription) (a : ServerAddress) → d.address ≡ a → (xs : List ServerDescription) → PutsFrom a xs (length xs) → put d xs ≡ insert xs (length xs) d
put_last_at d a e xs none = put_last d xs (subst (λ (b : ServerAddress). PutsFrom b xs (length xs)) (sym e) none)

pub puts_on : (a : ServerAddress) (xs : List ServerDescription) (i : ℕ) (y : ServerDescription) → PutsFrom a xs i → i < length xs → y ≡ get_or xs i y → is_before a y.address ≡ false → PutsFrom a xs (i + 1)
puts_on a xs i y before within is after = below_more (λ (j : ℕ). (x : ServerDescription) → x ≡ get_or xs j x → is_before a x.address ≡ false) i before (λ x at. ap (λ (s : ServerDescription). is_before a s.address) (same_element xs i x y within at is) ∙ after)

pub put_end : (d : ServerDescription) (a : ServerAddress) → d.address ≡ a → (xs : List ServerDescription) (i n : ℕ) → PutsFrom a xs i → i ≡ n → n ≡ length xs → put d xs ≡ insert xs n d
put_end d a e xs i n none all long =
    let at_end : i ≡ length xs = all ∙ long in
    put_last_at d a e xs (subst (λ (j : ℕ). PutsFrom a xs j) at_end none) ∙ ap (λ (m : ℕ). insert xs m d) (sym long)

-- one more element is mapped in place
pub mapped_on : (f : ServerDescription → ServerDescription) (xs ys : List ServerDescription) (i : ℕ) (x y : ServerDescription) → i < length xs → ys ≡ map f (take i xs) ++ drop i xs → x ≡ get_or ys i x → y ≡ f x → set ys i y ≡ map f (take (i + 1) xs) ++ drop (i + 1) xs
mapped_on f xs ys i x y within e is new =
    let next : i + 1 ≡ suc i = omega arith in
    ap (λ (zs : List ServerDescription). set zs i y) e
    ∙ ap (λ (z : ServerDescription). set (map f (take i xs) ++ drop i xs) i z) new
    ∙ by xs i within (is ∙ ap (λ (zs : List ServerDescription). get_or zs i x) e)
    ∙ ap (λ (n : ℕ). map f (take n xs) ++ drop n xs) (sym next)
  where
    by : (xs : List ServerDescription) (i : ℕ) → i < length xs → x ≡ get_or (map f (take i xs) ++ drop i xs) i x → set (map f (take i xs) ++ drop i xs) i (f x) ≡ map f (take (suc i) xs) ++ drop (suc i) xs
    by [] i within is = absurd (omega arith)
    by (z ∷ zs) zero within is = ap (λ (w : ServerDescription). f w ∷ zs) is
    by (z ∷ zs) (suc i) within is = ap (λ (ws : List ServerDescription). f z ∷ ws) (by zs i (omega arith) is)

pub mapped_all : (f : ServerDescription → ServerDescription) (xs : List ServerDescription) (n : ℕ) → length xs ≤ n → map f (take n xs) ++ drop n xs ≡ map f xs
mapped_all f [] zero h = refl
mapped_all f [] (suc n) h = refl
mapped_all f (x ∷ xs) zero h = absurd (omega arith)
mapped_all f (x ∷ xs) (suc n) h = ap (λ (ys : List ServerDescription). f x ∷ ys) (mapped_all f xs n (omega arith))
