-- No tenant gets past its share.
use Rattle.std.proofs.Common.{◌≡◌, ℕ, ◌+◌, ◌≤◌, ◌<◌, Bool, true, false, not, ◌&&◌, ◌||◌, if◌then◌else◌, ◌==◌, nat_lt, nat_eq, ◌⊎◌, inl, inr, List, [], ◌∷◌, ◌++◌, refl, ap, ◌∙◌, subst, arith}
use Rattle.std.specs.Cmp.Lexicographic.{pointwise, bytes_decides}
use Rattle.std.proofs.lemmas.Bool.Decides.{Decides-eqb, Decides-ltb}
use Rattle.mdb_base.specs.Equality.{same_address}
use Rattle.mdb_base.specs.declared.address.ServerAddress.{ServerAddress}
use Rattle.mdb_log.specs.declared.log.Entry.{Entry}
use Rattle.mdb_log.specs.Driver.{is_refusal}
use Rattle.mdb_proxies.specs.declared.asked.Standing.{Standing}
use Rattle.mdb_proxies.specs.declared.books.Fate.{Fate}
use Rattle.mdb_proxies.specs.declared.books.Fate.TheVariants.{Stays, Charged, Gone}
use Rattle.mdb_proxies.specs.Shares.{share_of}
use Rattle.mdb_proxies.specs.Charge.{requests, ends, settles}
use Rattle.mdb_proxies.proofs.Bools.{left, right}
use Rattle.mdb_proxies.specs.Standings.{standing_at, charged_at, charge_in}
use Rattle.mdb_proxies.specs.Tables.{held_in, may_go, fate_of, fated, after_entry, AreWithin}

-- ---- entries that are none of the requests of the standing asks

abbrev pub NoneRequested : Entry → List Standing → Type 0
NoneRequested e [] = Unit {0}
NoneRequested e (o ∷ os) = (requests o.request e.step.act ≡ false) × NoneRequested e os

more : (b : Bool) (m n : ℕ) → m ≤ n → (if b then 1 + m else m) ≤ (if b then 1 + n else n)
more true m n h = omega (arith, h)
more false m n h = h

less : (b : Bool) (m n : ℕ) → m ≤ n → m ≤ (if b then 1 + n else n)
less true m n h = omega (arith, h)
less false m n h = h

quiet-fate : (e : Entry) (o : Standing) → requests o.request e.step.act ≡ false → (fate_of e o ≡ Stays) ⊎ (fate_of e o ≡ Gone)
quiet-fate e o h = rw h (go o.held (settles o.request e))
  where
    go : (b s : Bool) → ((if b then Stays else (if s then Gone else Stays)) ≡ Stays) ⊎ ((if b then Stays else (if s then Gone else Stays)) ≡ Gone)
    go true s = inl refl
    go false true = inr refl
    go false false = inl refl

-- an entry that requests none of them adds nothing to the charge
pub quiet-charge : (e : Entry) (os : List Standing) (t : ℕ) (a : ServerAddress) → NoneRequested e os → charge_in (after_entry e os) t a ≤ charge_in os t a
quiet-charge e [] t a n = omega arith
quiet-charge e (o ∷ os) t a n =
    let ih : charge_in (after_entry e os) t a ≤ charge_in os t a = quiet-charge e os t a n.1 in
    elim (quiet-fate e o n.0) [
      | inl i ↦ rw i (more (charged_at t a o) (charge_in (after_entry e os) t a) (charge_in os t a) ih)
      | inr i ↦ rw i (less (charged_at t a o) (charge_in (after_entry e os) t a) (charge_in os t a) ih)
    ]

pub quiet-within : (shares : List ℕ) (e : Entry) (os : List Standing) → NoneRequested e os → AreWithin shares os → AreWithin shares (after_entry e os)
quiet-within shares e os n w = λ t a. omega (arith, quiet-charge e os t a n, w t a)

-- ---- the entry of an ask that is handed on

pub handed-fate : (e : Entry) (o : Standing) → o.held ≡ true → requests o.request e.step.act ≡ true → (fate_of e o ≡ Charged) ⊎ (fate_of e o ≡ Gone)
handed-fate e o h q = rw (h, q) (go (is_refusal e.reply || ends o.request e.facts))
  where
    go : (b : Bool) → ((if b then Gone else Charged) ≡ Charged) ⊎ ((if b then Gone else Charged) ≡ Gone)
    go true = inr refl
    go false = inl refl

fated-append : (f : Fate) (o : Standing) (xs ys : List Standing) → fated f o (xs ++ ys) ≡ fated f o xs ++ ys
fated-append Stays o xs ys = refl
fated-append Charged o xs ys = refl
fated-append Gone o xs ys = refl

pub after_entry-append : (e : Entry) (xs ys : List Standing) → after_entry e (xs ++ ys) ≡ after_entry e xs ++ after_entry e ys
after_entry-append e [] ys = refl
after_entry-append e (o ∷ xs) ys = ap (fated (fate_of e o) o) (after_entry-append e xs ys) ∙ fated-append (fate_of e o) o (after_entry e xs) (after_entry e ys)

plus-if : (b : Bool) (k m n : ℕ) → k ≡ m + n → (if b then 1 + k else k) ≡ (if b then 1 + m else m) + n
plus-if true k m n h = omega (arith, h)
plus-if false k m n h = h

pub charge-append : (xs ys : List Standing) (t : ℕ) (a : ServerAddress) → charge_in (xs ++ ys) t a ≡ charge_in xs t a + charge_in ys t a
charge-append [] ys t a = omega arith
charge-append (o ∷ xs) ys t a = plus-if (charged_at t a o) (charge_in (xs ++ ys) t a) (charge_in xs t a) (charge_in ys t a) (charge-append xs ys t a)

pub held-append : (xs ys : List Standing) → held_in (xs ++ ys) ≡ held_in xs + held_in ys
held-append [] ys = omega arith
held-append (o ∷ xs) ys = plus-if o.held (held_in (xs ++ ys)) (held_in xs) (held_in ys) (held-append xs ys)

-- what is held back is not charged
pub held-uncharged : (o : Standing) (os : List Standing) (t : ℕ) (a : ServerAddress) → o.held ≡ true → charge_in (o ∷ os) t a ≡ charge_in os t a
held-uncharged o os t a h = rw h (go (standing_at t a o))
  where
    go : (b : Bool) → (if b && false then 1 + charge_in os t a else charge_in os t a) ≡ charge_in os t a
    go true = refl
    go false = refl

handed-charge : (e : Entry) (o : Standing) (os : List Standing) (t : ℕ) (a : ServerAddress) (b : Bool) → o.held ≡ true → requests o.request e.step.act ≡ true → standing_at t a o ≡ b
    → charge_in (fated (fate_of e o) o os) t a ≤ charge_in os t a + (if b then 1 else 0)
handed-charge e o os t a b h q i = elim (handed-fate e o h q) [ inl f ↦ rw f (rw i (one b)) | inr f ↦ rw f (none b) ]
  where
    one : (b : Bool) → (if b && true then 1 + charge_in os t a else charge_in os t a) ≤ charge_in os t a + (if b then 1 else 0)
    one true = omega arith
    one false = omega arith

    none : (b : Bool) → charge_in os t a ≤ charge_in os t a + (if b then 1 else 0)
    none b = omega arith

pub same-address : (b a : ServerAddress) → same_address b a ≡ true → b ≡ a
same-address b a h =
    let host : b.host ≡ a.host = (bytes_decides b.host a.host).0 (left (pointwise nat_eq b.host a.host) (b.port == a.port) h) in
    let port : b.port ≡ a.port = (Decides-eqb b.port a.port).0 (right (pointwise nat_eq b.host a.host) (b.port == a.port) h) in
    ap (λ (x : List ℕ). let y : ServerAddress = record { host = x; port = b.port } in y) host ∙ ap (λ (x : ℕ). let y : ServerAddress = record { host = a.host; port = x } in y) port

-- an ask at the address of a tenant is that tenant's, and there
pub standing-is : (t : ℕ) (a : ServerAddress) (o : Standing) → standing_at t a o ≡ true → (o.tenant ≡ t) × (o.address ≡ a)
standing-is t a o h = ((Decides-eqb o.tenant t).0 (left (o.tenant == t) (same_address o.address a) h), same-address o.address a (right (o.tenant == t) (same_address o.address a) h))

may-below : (b : Bool) (m n : ℕ) → (b && nat_lt m n) ≡ true → m < n
may-below true m n h = (Decides-ltb m n).0 h
may-below false m n h = absurd (let k : false ≡ true = h in cc)

handed-share : (shares : List ℕ) (e : Entry) (front back : List Standing) (o : Standing) (t : ℕ) (a : ServerAddress) → o.held ≡ true → requests o.request e.step.act ≡ true → NoneRequested e front → NoneRequested e back
    → may_go shares (front ++ o ∷ back) o ≡ true → charge_in (front ++ o ∷ back) t a ≤ share_of shares t → charge_in (after_entry e (front ++ o ∷ back)) t a ≤ share_of shares t
handed-share shares e front back o t a h q nf nb m w = go (standing_at t a o) refl
  where
    before : charge_in (front ++ o ∷ back) t a ≡ charge_in front t a + charge_in back t a
    before = charge-append front (o ∷ back) t a ∙ ap (λ n. charge_in front t a + n) (held-uncharged o back t a h)

    after : charge_in (after_entry e (front ++ o ∷ back)) t a ≡ charge_in (after_entry e front) t a + charge_in (fated (fate_of e o) o (after_entry e back)) t a
    after = ap (λ os. charge_in os t a) (after_entry-append e front (o ∷ back)) ∙ charge-append (after_entry e front) (after_entry e (o ∷ back)) t a

    go : (b : Bool) → standing_at t a o ≡ b → charge_in (after_entry e (front ++ o ∷ back)) t a ≤ share_of shares t
    go false i = omega (arith, before, after, w, quiet-charge e front t a nf, quiet-charge e back t a nb, handed-charge e o (after_entry e back) t a false h q i)
    go true i =
        let is : (o.tenant ≡ t) × (o.address ≡ a) = standing-is t a o i in
        let own : charge_in (front ++ o ∷ back) o.tenant o.address < share_of shares o.tenant = may-below o.held (charge_in (front ++ o ∷ back) o.tenant o.address) (share_of shares o.tenant) m in
        let there : charge_in (front ++ o ∷ back) t o.address < share_of shares t = subst (λ (k : ℕ). charge_in (front ++ o ∷ back) k o.address < share_of shares k) is.0 own in
        let here : charge_in (front ++ o ∷ back) t a < share_of shares t = subst (λ (x : ServerAddress). charge_in (front ++ o ∷ back) t x < share_of shares t) is.1 there in
        omega (arith, before, after, here, quiet-charge e front t a nf, quiet-charge e back t a nb, handed-charge e o (after_entry e back) t a true h q i)

-- An ask that may go keeps its tenant within its share.
pub handed-within : (shares : List ℕ) (e : Entry) (front back : List Standing) (o : Standing) → o.held ≡ true → requests o.request e.step.act ≡ true → NoneRequested e front → NoneRequested e back
    → may_go shares (front ++ o ∷ back) o ≡ true → AreWithin shares (front ++ o ∷ back) → AreWithin shares (after_entry e (front ++ o ∷ back))
handed-within shares e front back o h q nf nb m w = λ t a. handed-share shares e front back o t a h q nf nb m (w t a)

-- ---- fewer are held back

any-held : (f : Fate) (o : Standing) (m : ℕ) (os ps : List Standing) → held_in ps ≤ held_in os → held_in (fated f o ps) ≤ held_in (o ∷ os)
any-held Stays o m os ps h = more o.held (held_in ps) (held_in os) h
any-held Charged o m os ps h = less o.held (held_in ps) (held_in os) h
any-held Gone o m os ps h = less o.held (held_in ps) (held_in os) h

pub after_entry-held : (e : Entry) (os : List Standing) → held_in (after_entry e os) ≤ held_in os
after_entry-held e [] = omega arith
after_entry-held e (o ∷ os) = any-held (fate_of e o) o 0 os (after_entry e os) (after_entry-held e os)

handed-held : (e : Entry) (o : Standing) (os : List Standing) → o.held ≡ true → requests o.request e.step.act ≡ true → held_in (fated (fate_of e o) o os) ≡ held_in os
handed-held e o os h q = elim (handed-fate e o h q) [ inl f ↦ rw f refl | inr f ↦ rw f refl ]

pub handed-fewer : (e : Entry) (front back : List Standing) (o : Standing) → o.held ≡ true → requests o.request e.step.act ≡ true → held_in (after_entry e (front ++ o ∷ back)) < held_in (front ++ o ∷ back)
handed-fewer e front back o h q =
    let one : held_in (o ∷ back) ≡ 1 + held_in back = rw h refl in
    let after : held_in (after_entry e (front ++ o ∷ back)) ≡ held_in (after_entry e front) + held_in (fated (fate_of e o) o (after_entry e back)) = ap held_in (after_entry-append e front (o ∷ back)) ∙ held-append (after_entry e front) (after_entry e (o ∷ back)) in
    omega (arith, one, after, held-append front (o ∷ back), handed-held e o (after_entry e back) h q, after_entry-held e front, after_entry-held e back)

-- ---- numbers

abbrev pub is_free : ℕ → List Standing → Bool
is_free r [] = true
is_free r (o ∷ os) = not (r == o.request) && is_free r os

abbrev pub SingleStandings : List Standing → Type 0
SingleStandings [] = Unit {0}
SingleStandings (o ∷ os) = (is_free o.request os ≡ true) × SingleStandings os
