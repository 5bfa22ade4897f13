-- How many servers there are after hosts are named, and how many of them are new.
use Rattle.std.proofs.Common.{ℕ, suc, ◌≡◌, ◌+◌, Bool, true, false, not, ◌&&◌, ◌||◌, List, [], ◌∷◌, filter, length, if◌then◌else◌, refl, sym, ◌∙◌, ap, subst, arith, inl, inr}
use Rattle.std.proofs.lemmas.Bool.{cases_Bool, and_parts, and_from, or_right}
use Rattle.std.proofs.lemmas.List.{length-map}
use Rattle.mdb_base.specs.declared.address.ServerAddress.{ServerAddress}
use Rattle.mdb_base.specs.AddressOrder.{is_before}
use Rattle.mdb_base.specs.Equality.{same_address}
use Rattle.mdb_base.proofs.AddressOrder.{before_on, same_back, same_not_before, tied_left}
use Rattle.mdb_describe.specs.declared.description.ServerDescription.{ServerDescription}
use Rattle.mdb_describe.specs.Descriptions.{unknown}
use Rattle.mdb_describe.specs.Differences.{missing}
use Rattle.mdb_describe.specs.Servers.{in_order, is_known, is_listed, put, add, add_all, keep_listed}
use Rattle.mdb_describe.proofs.InOrder.{added_in_order}
use Rattle.mdb_log.specs.Connections.{one_if}
use Rattle.mdb_describe.proofs.Addresses.{same-address, own-address}
use Rattle.mdb_driver_rules.specs.Naming.{new_hosts}

abbrev Test : Type 0
Test = ServerDescription → Bool

or-known : (b c : Bool) → c ≡ true → (b || c) ≡ c
or-known true c e = sym e
or-known false c e = refl

neither : (b c : Bool) → b || c ≡ false → (b ≡ false) × (c ≡ false)
neither true c e = cc
neither false c e = (refl, e)

and-true : (b : Bool) → b && true ≡ b
and-true true = refl
and-true false = refl

and-false : (b c : Bool) → c ≡ false → b && c ≡ false
and-false true c e = e
and-false false c e = refl

one-plus : (n : ℕ) → suc n ≡ 1 + n
one-plus n = omega arith

zero-plus : (n : ℕ) → n ≡ 0 + n
zero-plus n = omega arith

-- Tests that agree keep the same.
filter-same : (p q : Test) (xs : List ServerDescription) → ((s : ServerDescription) → p s ≡ q s) → filter p xs ≡ filter q xs
filter-same p q [] e = refl
filter-same p q (s ∷ xs) e = elim (cases_Bool (q s)) [
  | inl f ↦ rw (e s ∙ f, f) (ap (λ ys. s ∷ ys) (filter-same p q xs e))
  | inr f ↦ rw (e s ∙ f, f) (filter-same p q xs e)
]

filter-twice : (p q : Test) (xs : List ServerDescription) → filter q (filter p xs) ≡ filter (λ s. p s && q s) xs
filter-twice p q [] = refl
filter-twice p q (s ∷ xs) = elim (cases_Bool (p s)) [
  | inl e ↦ elim (cases_Bool (q s)) [
    | inl f ↦ rw (e, f) (ap (λ ys. s ∷ ys) (filter-twice p q xs))
    | inr f ↦ rw (e, f) (filter-twice p q xs)
  ]
  | inr e ↦ rw e (filter-twice p q xs)
]

-- so do tests that agree but for an address that no server has
filter-apart : (p q : Test) (a : ServerAddress) (xs : List ServerDescription) → is_known a xs ≡ false → ((s : ServerDescription) → same_address s.address a ≡ false → p s ≡ q s) → filter p xs ≡ filter q xs
filter-apart p q a [] none e = refl
filter-apart p q a (s ∷ xs) none e =
    let other = neither (same_address s.address a) (is_known a xs) none in
    let rest : filter p xs ≡ filter q xs = filter-apart p q a xs other.1 e in
    elim (cases_Bool (q s)) [
      | inl f ↦ rw (e s other.0 ∙ f, f) (ap (λ ys. s ∷ ys) rest)
      | inr f ↦ rw (e s other.0 ∙ f, f) rest
    ]

before-not-same : (a b : ServerAddress) → is_before a b ≡ true → same_address b a ≡ false
before-not-same a b e = on (same_address a b) refl
  where
    on : (c : Bool) → same_address a b ≡ c → same_address b a ≡ false
    on true f = let no : true ≡ false = sym e ∙ same_not_before a b f in cc
    on false f = same_back b a ∙ f

-- a server of the address stands before servers of others
none-behind : (x : ServerDescription) (xs : List ServerDescription) (a : ServerAddress) → in_order (x ∷ xs) ≡ true → same_address x.address a ≡ true → is_known a xs ≡ false
none-behind x [] a o e = refl
none-behind x (y ∷ ys) a o e =
    let both = and_parts (is_before x.address y.address) (in_order (y ∷ ys)) o in
    let here : same_address y.address a ≡ false = before-not-same a y.address (sym (tied_left x.address a y.address e) ∙ both.0) in
    rw here (none-behind x ys a (passed x y ys both.0 both.1) e)
  where
    passed : (x y : ServerDescription) (ys : List ServerDescription) → is_before x.address y.address ≡ true → in_order (y ∷ ys) ≡ true → in_order (x ∷ ys) ≡ true
    passed x y [] f o = refl
    passed x y (z ∷ zs) f o =
        let both = and_parts (is_before y.address z.address) (in_order (z ∷ zs)) o in
        and_from (is_before x.address z.address) (in_order (z ∷ zs)) (before_on x.address y.address z.address f both.0) both.1

rest-in-order : (x : ServerDescription) (xs : List ServerDescription) → in_order (x ∷ xs) ≡ true → in_order xs ≡ true
rest-in-order x [] o = refl
rest-in-order x (y ∷ ys) o = (and_parts (is_before x.address y.address) (in_order (y ∷ ys)) o).1

-- a test that passes one address more passes one server more, where there is one
one-more : (p q : Test) (a : ServerAddress) (xs : List ServerDescription) → in_order xs ≡ true → is_known a xs ≡ true → ((s : ServerDescription) → same_address s.address a ≡ false → p s ≡ q s)
    → ((s : ServerDescription) → same_address s.address a ≡ true → p s ≡ false) → ((s : ServerDescription) → same_address s.address a ≡ true → q s ≡ true) → length (filter q xs) ≡ suc (length (filter p xs))
one-more p q a [] o k e f g = cc
one-more p q a (s ∷ xs) o k e f g = elim (cases_Bool (same_address s.address a)) [
  | inl h ↦ rw (g s h, f s h) (ap (λ ys. suc (length ys)) (sym (filter-apart p q a xs (none-behind s xs a o h) e)))
  | inr h ↦
      let there : is_known a xs ≡ true = rw h at k in
      let rest : length (filter q xs) ≡ suc (length (filter p xs)) = one-more p q a xs (rest-in-order s xs o) there e f g in
      elim (cases_Bool (q s)) [
        | inl i ↦ rw (i, e s h ∙ i) (ap suc rest)
        | inr i ↦ rw (i, e s h ∙ i) rest
      ]
]

-- Which servers there are.
known-put : (a : ServerAddress) (d : ServerDescription) (xs : List ServerDescription) → is_known a xs ≡ true → is_known a (put d xs) ≡ true
known-put a d [] k = cc
known-put a d (s ∷ xs) k = elim (cases_Bool (is_before d.address s.address)) [
  | inl e ↦ rw e (or_right (same_address d.address a) (is_known a (s ∷ xs)) k)
  | inr e ↦ elim (cases_Bool (same_address s.address a)) [
    | inl f ↦ rw (e, f) refl
    | inr f ↦ let there : is_known a xs ≡ true = rw f at k in rw (e, f) (known-put a d xs there)
  ]
]

own-put : (d : ServerDescription) (xs : List ServerDescription) → is_known d.address (put d xs) ≡ true
own-put d [] = rw (own-address d.address) refl
own-put d (s ∷ xs) = elim (cases_Bool (is_before d.address s.address)) [
  | inl e ↦ rw (e, own-address d.address) refl
  | inr e ↦ rw e (or_right (same_address s.address d.address) (is_known d.address (put d xs)) (own-put d xs))
]

known-add : (a b : ServerAddress) (xs : List ServerDescription) → is_known a xs ≡ true → is_known a (add b xs) ≡ true
known-add a b xs k = on (is_known b xs) refl
  where
    on : (c : Bool) → is_known b xs ≡ c → is_known a (add b xs) ≡ true
    on true e = ap (λ c. is_known a (if c then xs else put (unknown b) xs)) e ∙ k
    on false e = ap (λ c. is_known a (if c then xs else put (unknown b) xs)) e ∙ known-put a (unknown b) xs k

own-add : (b : ServerAddress) (xs : List ServerDescription) → is_known b (add b xs) ≡ true
own-add b xs = on (is_known b xs) refl
  where
    on : (c : Bool) → is_known b xs ≡ c → is_known b (add b xs) ≡ true
    on true e = ap (λ c. is_known b (if c then xs else put (unknown b) xs)) e ∙ e
    on false e = ap (λ c. is_known b (if c then xs else put (unknown b) xs)) e ∙ own-put (unknown b) xs

known-all : (hosts : List ServerAddress) (a : ServerAddress) (xs : List ServerDescription) → is_known a xs ≡ true → is_known a (add_all hosts xs) ≡ true
known-all [] a xs k = k
known-all (b ∷ more) a xs k = known-all more a (add b xs) (known-add a b xs k)

listed-known : (hosts : List ServerAddress) (xs : List ServerDescription) (a : ServerAddress) → is_listed hosts a ≡ true → is_known a (add_all hosts xs) ≡ true
listed-known [] xs a e = cc
listed-known (b ∷ more) xs a e = elim (cases_Bool (same_address b a)) [
  | inl f ↦ known-all more a (add b xs) (subst (λ c. is_known c (add b xs) ≡ true) (same-address b a f) (own-add b xs))
  | inr f ↦ let there : is_listed more a ≡ true = rw f at e in listed-known more (add b xs) a there
]

-- Of servers that have all the hosts, those of hosts that the others do not have are as many as these hosts.
module _ (others : List ServerDescription) where
  abbrev counted : List ServerAddress → Test
  counted hosts s = is_listed hosts s.address && not (is_known s.address others)

  none-counted : (xs : List ServerDescription) → length (filter (counted []) xs) ≡ 0
  none-counted [] = refl
  none-counted (s ∷ xs) = none-counted xs

  -- one host more, where those behind it are counted
  count-on : (a : ServerAddress) (more : List ServerAddress) (xs : List ServerDescription) → in_order xs ≡ true → is_known a xs ≡ true → length (filter (counted more) xs) ≡ new_hosts others more
      → length (filter (counted (a ∷ more)) xs) ≡ new_hosts others (a ∷ more)
  count-on a more xs o own fewer = on (is_known a others) refl (is_listed more a) refl
    where
      away : (s : ServerDescription) → same_address s.address a ≡ false → counted more s ≡ counted (a ∷ more) s
      away s f = let g : same_address a s.address ≡ false = same_back a s.address ∙ f in rw g refl

      same-where : ((s : ServerDescription) → same_address s.address a ≡ true → counted (a ∷ more) s ≡ counted more s) → length (filter (counted (a ∷ more)) xs) ≡ new_hosts others more
      same-where e = ap length (filter-same (counted (a ∷ more)) (counted more) xs (λ s. by s (same_address s.address a) refl)) ∙ fewer
        where
          by : (s : ServerDescription) (b : Bool) → same_address s.address a ≡ b → counted (a ∷ more) s ≡ counted more s
          by s true f = e s f
          by s false f = sym (away s f)

      on : (b : Bool) → is_known a others ≡ b → (c : Bool) → is_listed more a ≡ c → length (filter (counted (a ∷ more)) xs) ≡ one_if (not (is_known a others) && not (is_listed more a)) + new_hosts others more
      on true e c f =
          same-where (λ s g.
          let known : not (is_known s.address others) ≡ false = ap not (subst (λ b. is_known b others ≡ true) (sym (same-address s.address a g)) e) in
          and-false (is_listed (a ∷ more) s.address) (not (is_known s.address others)) known ∙ sym (and-false (is_listed more s.address) (not (is_known s.address others)) known))
          ∙ (zero-plus (new_hosts others more)
          ∙ ap (λ b. one_if (not b && not (is_listed more a)) + new_hosts others more) (sym e))
      on false e true f =
          same-where (λ s g. ap (λ b. b && not (is_known s.address others)) (or-known (same_address a s.address) (is_listed more s.address) (subst (λ b. is_listed more b ≡ true) (sym (same-address s.address a g)) f)))
          ∙ (zero-plus (new_hosts others more)
          ∙ (ap (λ b. one_if (not false && not b) + new_hosts others more) (sym f)
          ∙ ap (λ b. one_if (not b && not (is_listed more a)) + new_hosts others more) (sym e)))
      on false e false f =
          one-more (counted more) (counted (a ∷ more)) a xs o own away
          (λ s g. ap (λ b. b && not (is_known s.address others)) (subst (λ b. is_listed more b ≡ false) (sym (same-address s.address a g)) f))
          (λ s g.
          let listed : same_address a s.address ≡ true = same_back a s.address ∙ g in
          let apart : is_known s.address others ≡ false = subst (λ b. is_known b others ≡ false) (sym (same-address s.address a g)) e in
          rw (listed, apart) refl)
          ∙ (ap suc fewer
          ∙ (one-plus (new_hosts others more)
          ∙ (ap (λ b. one_if (not false && not b) + new_hosts others more) (sym f)
          ∙ ap (λ b. one_if (not b && not (is_listed more a)) + new_hosts others more) (sym e))))

  count : (hosts : List ServerAddress) (xs : List ServerDescription) → in_order xs ≡ true → ((a : ServerAddress) → is_listed hosts a ≡ true → is_known a xs ≡ true) → length (filter (counted hosts) xs) ≡ new_hosts others hosts
  count [] xs o all = none-counted xs
  count (a ∷ more) xs o all = count-on a more xs o (all a (rw (own-address a) refl)) (count more xs o (λ b e. all b (or_right (same_address a b) (is_listed more b) e)))

module _ (hosts : List ServerAddress) (xs : List ServerDescription) (o : in_order xs ≡ true) where
  abbrev ys : List ServerDescription
  ys = add_all hosts xs

  pub all-named : length (keep_listed hosts ys) ≡ new_hosts [] hosts
  all-named =
      ap length (filter-same (λ s. is_listed hosts s.address) (counted [] hosts) ys (λ s. sym (and-true (is_listed hosts s.address))))
      ∙ count [] hosts ys (added_in_order hosts xs o) (listed-known hosts xs)

  pub new-named : length (missing (keep_listed hosts ys) xs) ≡ new_hosts xs hosts
  new-named =
      length-map (filter (λ s. not (is_known s.address xs)) (keep_listed hosts ys)) (λ s. s.address)
      ∙ (ap length (filter-twice (λ s. is_listed hosts s.address) (λ s. not (is_known s.address xs)) ys)
      ∙ count xs hosts ys (added_in_order hosts xs o) (listed-known hosts xs))
