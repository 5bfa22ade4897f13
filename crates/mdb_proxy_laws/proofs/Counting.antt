-- Numbers without repetition, and how many there can be: no more than asks that are charged, and no more of those than the shares are in all.
use Rattle.std.proofs.Common.{◌≡◌, ℕ, zero, suc, ◌+◌, ◌≤◌, ◌<◌, Bool, true, false, not, ◌&&◌, ◌||◌, if◌then◌else◌, ◌==◌, nat_lt, List, [], ◌∷◌, length, refl, sym, ap, ◌∙◌, subst, arith}
use Rattle.std.specs.Prelude.{⊤, sum}
use Rattle.std.specs.List.{list_any, fold}
use Rattle.std.proofs.lemmas.Bool.Decides.{Decides-eqb, Decides-ltb}
use Rattle.mdb_base.specs.Equality.{same_address}
use Rattle.mdb_base.specs.declared.address.ServerAddress.{ServerAddress}
use Rattle.mdb_log.specs.declared.log.Entry.{Entry}
use Rattle.mdb_log.specs.History.{without}
use Rattle.mdb_log.specs.Connections.{has}
use Rattle.mdb_log.proofs.Numbers.{has-without-is}
use Rattle.mdb_proxies.specs.declared.asked.Asked.{Asked}
use Rattle.mdb_proxies.specs.Charge.{is_at, counts, charge}
use Rattle.mdb_proxies.specs.Shares.{share_of}

-- ---- numbers without repetition

abbrev pub AreDistinct : List ℕ → Type 0
AreDistinct [] = ⊤
AreDistinct (r ∷ rs) = (has r rs ≡ false) × AreDistinct rs

has-less : (k j : ℕ) (ks : List ℕ) → has k ks ≡ false → has k (without j ks) ≡ false
has-less k j ks h = has-without-is k j ks ∙ ap (λ b. b && not (j == k)) h

pub distinct-without : (j : ℕ) (ks : List ℕ) → AreDistinct ks → AreDistinct (without j ks)
distinct-without j [] d = tt
distinct-without j (k ∷ ks) d = go (not (k == j)) (distinct-without j ks d.1)
  where
    go : (b : Bool) → AreDistinct (without j ks) → AreDistinct (if b then k ∷ without j ks else without j ks)
    go true deeper = (has-less k j ks d.0, deeper)
    go false deeper = deeper

-- a number that is not there is not taken out
without-none : (j : ℕ) (ks : List ℕ) → has j ks ≡ false → length ks ≤ length (without j ks)
without-none j [] h = omega arith
without-none j (k ∷ ks) h = go (k == j) h (without-none j ks)
  where
    go : (b : Bool) → (b || has j ks) ≡ false → (has j ks ≡ false → length ks ≤ length (without j ks)) → length (k ∷ ks) ≤ length (if not b then k ∷ without j ks else without j ks)
    go true h deeper = absurd (let e : true ≡ false = h in cc)
    go false h deeper = let l : length ks ≤ length (without j ks) = deeper h in omega arith

-- at most one is taken out
pub without-one : (j : ℕ) (ks : List ℕ) → AreDistinct ks → length ks ≤ length (without j ks) + 1
without-one j [] d = omega arith
without-one j (k ∷ ks) d = go (k == j) refl (without-one j ks d.1)
  where
    go : (b : Bool) → (k == j) ≡ b → length ks ≤ length (without j ks) + 1 → length (k ∷ ks) ≤ length (if not b then k ∷ without j ks else without j ks) + 1
    go true i deeper =
        let same : k ≡ j = (Decides-eqb k j).0 i in
        let none : has j ks ≡ false = subst (λ n. has n ks ≡ false) same d.0 in
        let l : length ks ≤ length (without j ks) = without-none j ks none in
        omega arith
    go false i deeper = omega (arith, deeper)

-- ---- asks that are charged

-- the ask is charged at the address, whoever's it is
abbrev pub is_charged_at : List Entry → ServerAddress → Asked → Bool
is_charged_at log a x = same_address x.address a && counts log x

abbrev pub charged_in_all : List Asked → List Entry → ServerAddress → ℕ
charged_in_all [] log a = 0
charged_in_all (x ∷ xs) log a = if is_charged_at log a x then charged_in_all xs log a + 1 else charged_in_all xs log a

-- a charged ask at the address has the number
abbrev pub is_charged_number : List Entry → ServerAddress → ℕ → Asked → Bool
is_charged_number log a r x = (r == x.request) && is_charged_at log a x

-- Of charged asks there are as many as numbers without repetition that they have.
pub distinct-charged : (log : List Entry) (a : ServerAddress) (xs : List Asked) (rs : List ℕ) → AreDistinct rs → ((r : ℕ) → has r rs ≡ true → list_any (is_charged_number log a r) xs ≡ true) → length rs ≤ charged_in_all xs log a
distinct-charged log a [] [] d each = omega arith
distinct-charged log a [] (r ∷ rs) d each = absurd (let e : false ≡ true = each r (first-there r rs) in cc)
  where
    first-there : (r : ℕ) (rs : List ℕ) → has r (r ∷ rs) ≡ true
    first-there r rs = rw ((Decides-eqb r r).1 refl) refl
distinct-charged log a (x ∷ xs) rs d each = go (is_charged_at log a x) refl (distinct-charged log a xs)
  where
    later : (b : Bool) → is_charged_at log a x ≡ b → (r : ℕ) → has r rs ≡ true → ((r == x.request) && b) ≡ false → list_any (is_charged_number log a r) xs ≡ true
    later b i r h n = on ((r == x.request) && is_charged_at log a x) (ap (λ c. (r == x.request) && c) i ∙ n) (each r h)
      where
        on : (c : Bool) → c ≡ false → (c || list_any (is_charged_number log a r) xs) ≡ true → list_any (is_charged_number log a r) xs ≡ true
        on true e h = absurd (let z : true ≡ false = e in cc)
        on false e h = h

    not-both : (b : Bool) → (b && false) ≡ false
    not-both true = refl
    not-both false = refl

    go : (b : Bool) → is_charged_at log a x ≡ b → ((ks : List ℕ) → AreDistinct ks → ((r : ℕ) → has r ks ≡ true → list_any (is_charged_number log a r) xs ≡ true) → length ks ≤ charged_in_all xs log a)
        → length rs ≤ (if b then charged_in_all xs log a + 1 else charged_in_all xs log a)
    go false i deeper = deeper rs d (λ r h. later false i r h (not-both (r == x.request)))
    go true i deeper =
        let less : length (without x.request rs) ≤ charged_in_all xs log a = deeper (without x.request rs) (distinct-without x.request rs d) (λ r h. here r h) in
        let one : length rs ≤ length (without x.request rs) + 1 = without-one x.request rs d in
        omega arith
      where
        here : (r : ℕ) → has r (without x.request rs) ≡ true → list_any (is_charged_number log a r) xs ≡ true
        here r h =
            let k : (has r rs && not (x.request == r)) ≡ true = sym (has-without-is r x.request rs) ∙ h in
            let there : has r rs ≡ true = grind arith in
            let other : (x.request == r) ≡ false = grind arith in
            let after_entry : (r == x.request) ≡ false = grind arith in
            later true i r there (rw after_entry refl)

-- ---- tenants

-- the numbers of the tenants below n, added up
abbrev pub sum_below : (ℕ → ℕ) → ℕ → ℕ
sum_below f zero = 0
sum_below f (suc n) = sum_below f n + f n

sum-more : (f g : ℕ → ℕ) (n : ℕ) → ((t : ℕ) → f t ≤ g t) → sum_below f n ≤ sum_below g n
sum-more f g zero le = omega arith
sum-more f g (suc n) le = let d : sum_below f n ≤ sum_below g n = sum-more f g n le in omega (arith, d, le n)

sum-one : (f g : ℕ → ℕ) (n k : ℕ) → k < n → ((t : ℕ) → f t ≤ g t) → f k + 1 ≤ g k → sum_below f n + 1 ≤ sum_below g n
sum-one f g zero k l le one = absurd (omega (arith, l))
sum-one f g (suc n) k l le one = go (k == n) refl (λ below. sum-one f g n k below le one)
  where
    go : (b : Bool) → (k == n) ≡ b → (k < n → sum_below f n + 1 ≤ sum_below g n) → sum_below f n + f n + 1 ≤ sum_below g n + g n
    go true i deeper =
        let same : k ≡ n = (Decides-eqb k n).0 i in
        let here : f n + 1 ≤ g n = subst (λ m. f m + 1 ≤ g m) same one in
        omega (arith, here, sum-more f g n le)
    go false i deeper =
        let other : k ≡ n → ⊥ = λ e. (let z : true ≡ false = sym ((Decides-eqb k n).1 e) ∙ i in cc) in
        let below : k < n = omega (arith, l, other) in
        omega (arith, deeper below, le n)

charge-more : (x : Asked) (xs : List Asked) (log : List Entry) (a : ServerAddress) (t : ℕ) → charge xs log t a ≤ charge (x ∷ xs) log t a
charge-more x xs log a t = go (is_at t a x && counts log x)
  where
    go : (b : Bool) → charge xs log t a ≤ (if b then charge xs log t a + 1 else charge xs log t a)
    go true = omega arith
    go false = omega arith

-- All charged asks at an address are those of the tenants, where no other tenant has one.
pub charged-sum : (log : List Entry) (a : ServerAddress) (n : ℕ) (xs : List Asked) → ((t : ℕ) → n ≤ t → charge xs log t a ≡ 0) → charged_in_all xs log a ≤ sum_below (λ t. charge xs log t a) n
charged-sum log a n [] none = omega arith
charged-sum log a n (x ∷ xs) none = go (is_charged_at log a x) refl (charged-sum log a n xs before)
  where
    before : (t : ℕ) → n ≤ t → charge xs log t a ≡ 0
    before t l = let k : charge (x ∷ xs) log t a ≡ 0 = none t l in omega (arith, k, charge-more x xs log a t)

    own : is_charged_at log a x ≡ true → charge (x ∷ xs) log x.tenant a ≡ charge xs log x.tenant a + 1
    own i =
        let here : (is_at x.tenant a x && counts log x) ≡ true = at (x.tenant == x.tenant) ((Decides-eqb x.tenant x.tenant).1 refl) i in
        rw here refl
      where
        at : (b : Bool) → b ≡ true → (same_address x.address a && counts log x) ≡ true → ((b && same_address x.address a) && counts log x) ≡ true
        at true e h = h
        at false e h = absurd (let z : false ≡ true = e in cc)

    go : (b : Bool) → is_charged_at log a x ≡ b → charged_in_all xs log a ≤ sum_below (λ t. charge xs log t a) n → (if b then charged_in_all xs log a + 1 else charged_in_all xs log a) ≤ sum_below (λ t. charge (x ∷ xs) log t a) n
    go false i deeper = omega (arith, deeper, sum-more (λ t. charge xs log t a) (λ t. charge (x ∷ xs) log t a) n (λ t. charge-more x xs log a t))
    go true i deeper = on (nat_lt x.tenant n) refl
      where
        on : (c : Bool) → nat_lt x.tenant n ≡ c → charged_in_all xs log a + 1 ≤ sum_below (λ t. charge (x ∷ xs) log t a) n
        on true j =
            let below : x.tenant < n = (Decides-ltb x.tenant n).0 j in
            let one : charge xs log x.tenant a + 1 ≤ charge (x ∷ xs) log x.tenant a = omega (arith, own i) in
            omega (arith, deeper, sum-one (λ t. charge xs log t a) (λ t. charge (x ∷ xs) log t a) n x.tenant below (λ t. charge-more x xs log a t) one)
        on false j =
            let past : n ≤ x.tenant = not-below x.tenant n j in
            absurd (omega (arith, none x.tenant past, own i))
          where
            not-below : (k m : ℕ) → nat_lt k m ≡ false → m ≤ k
            not-below k m e = let none : k < m → ⊥ = λ l. (let z : false ≡ true = sym e ∙ (Decides-ltb k m).1 l in cc) in omega (arith, none)

-- no tenant is there past the shares
share-past : (shares : List ℕ) (t : ℕ) → length shares ≤ t → share_of shares t ≡ 0
share-past [] t l = refl
share-past (s ∷ ss) zero l = absurd (omega (arith, l))
share-past (s ∷ ss) (suc t) l = share-past ss t (omega (arith, l))

sum-shift : (f : ℕ → ℕ) (n : ℕ) → sum_below f (suc n) ≡ f 0 + sum_below (λ t. f (suc t)) n
sum-shift f zero = omega arith
sum-shift f (suc n) = let d : sum_below f (suc n) ≡ f 0 + sum_below (λ t. f (suc t)) n = sum-shift f n in omega (arith, d)

sum-from : (n : ℕ) (xs : List ℕ) → fold ◌+◌ n xs ≡ n + sum xs
sum-from n [] = omega arith
sum-from n (x ∷ xs) = omega (arith, sum-from (n + x) xs, sum-from (0 + x) xs)

shares-sum : (shares : List ℕ) → sum_below (λ t. share_of shares t) (length shares) ≡ sum shares
shares-sum [] = refl
shares-sum (s ∷ ss) = ap (λ (k : ℕ). sum_below (λ t. share_of (s ∷ ss) t) k) longer ∙ sum-shift (λ t. share_of (s ∷ ss) t) (length ss) ∙ ap (λ k. s + k) (shares-sum ss) ∙ first
  where
    longer : length (s ∷ ss) ≡ suc (length ss)
    longer = omega arith

    first : s + sum ss ≡ sum (s ∷ ss)
    first = omega (arith, sum-from (0 + s) ss)

-- Where no tenant has more than its share, no more asks are charged at an address than the shares are in all.
pub charged-within : (shares : List ℕ) (log : List Entry) (a : ServerAddress) (xs : List Asked) → ((t : ℕ) → charge xs log t a ≤ share_of shares t) → charged_in_all xs log a ≤ sum shares
charged-within shares log a xs within =
    let none : (t : ℕ) → length shares ≤ t → charge xs log t a ≡ 0 = λ t l. omega (arith, within t, share-past shares t l) in
    omega (arith, charged-sum log a (length shares) xs none, sum-more (λ t. charge xs log t a) (λ t. share_of shares t) (length shares) within, shares-sum shares)
