-- Counts of clears, one for each service and each gap between the connections that live, tell what all clears tell.
use Rattle.std.proofs.Common.{◌≡◌, ℕ, zero, suc, ◌+◌, ◌≤◌, ◌<◌, Bool, true, false, not, ◌==◌, ◌&&◌, if◌then◌else◌, is_some, Option, Some, None, List, [], ◌∷◌, ◌++◌, drop, length, filter, find, inl, inr, refl, sym, ◌∙◌, ap, subst, arith, add-one, drop-cons}
use Rattle.std.specs.Prelude.{nat_lt, count_by, slice_get, slice_set, slice_index_or}
use Rattle.std.specs.List.{AllByRecursion}
use Rattle.std.proofs.lemmas.Bool.Decides.{nat_tests}
use Rattle.std.proofs.lemmas.Grind.{common_steps}
use Rattle.std.proofs.lemmas.List.{at_drop_all}
use Rattle.mdb_base.specs.declared.object_id.ObjectId.{ObjectId}
use Rattle.mdb_log.specs.History.{same_service}
use Rattle.mdb_slots.specs.Keyed.{put, others, swap}
use Rattle.mdb_slots.proofs.Numbers.{same-number}
use Rattle.mdb_pool.specs.declared.kept.connection.Connection.{Connection}
use Rattle.mdb_pool.specs.declared.kept.marks.Mark.{Mark}
use Rattle.mdb_pool.specs.declared.kept.marks.Marks.{Marks}
use Rattle.mdb_pool.specs.declared.kept.status.Clear.{Clear}
use Rattle.mdb_pool.specs.Kept.Clearing.{counts_at, weigh, parts_at, IsAsked, JoinsAt, Grown, ClearsFit}
use Rattle.mdb_pool.specs.Kept.Inner.{Cleared}
use Rattle.mdb_pool.specs.Kept.Values.{connection_in, clears_before}
use Rattle.mdb_pool_rules.proofs.OrderOfIds.{same-id}
use Rattle.mdb_pool.proofs.Follows.WholePool.{clears_for-append, clears_before-append, timeouts-append}
use Rattle.mdb_pool_rules.proofs.Listed.Values.{entry_at-others, entry_at-put, entry_at-swap_any}

-- what a mark adds
abbrev part : (Mark → Bool) → Mark → ℕ
part p m = if p m then m.count else 0

abbrev pub nothing : Mark
nothing = record { service = None; after = 0; count = 0 }

module _ (p : Mark → Bool) where
  pub weigh-append : (ms : List Mark) (m : Mark) → weigh p (ms ++ m ∷ []) ≡ weigh p ms + part p m
  weigh-append [] m = omega arith
  weigh-append (x ∷ ms) m = let h : weigh p (ms ++ m ∷ []) ≡ weigh p ms + part p m = weigh-append ms m in omega (arith, h)

  -- one mark takes the place of another
  pub weigh-set : (ms : List Mark) (i : ℕ) (o n : Mark) → slice_get ms i ≡ Some o → weigh p (slice_set ms i n) + part p o ≡ weigh p ms + part p n
  weigh-set [] i o n e = cc
  weigh-set (x ∷ ms) zero o n e = let w : x ≡ o = cc in subst (λ y. (part p n + weigh p ms) + part p y ≡ (part p x + weigh p ms) + part p n) w (omega arith)
  weigh-set (x ∷ ms) (suc i) o n e = let h = weigh-set ms i o n e in omega (arith, h)

  pub weigh_within : (ms : List Mark) → weigh p ms ≤ weigh (λ m. true) ms
  weigh_within [] = omega arith
  weigh_within (x ∷ ms) = on (p x) (weigh_within ms)
    where
      on : (b : Bool) → weigh p ms ≤ weigh (λ m. true) ms → (if b then x.count else 0) + weigh p ms ≤ x.count + weigh (λ m. true) ms
      on true h = omega (arith, h)
      on false h = omega (arith, h)

  pub weigh_rest : (ms : List Mark) (i : ℕ) (d : Mark) → i < length ms → weigh p (drop i ms) ≡ part p (slice_index_or ms i d) + weigh p (drop (i + 1) ms)
  weigh_rest ms i d l = ap (weigh p) (drop-cons ms i d l) ∙ ap (λ k. part p (slice_index_or ms i d) + weigh p (drop k ms)) (sym (add-one i))

  -- where all counts are positive, some are there where there are any marks
  pub weigh-some : (ms : List Mark) → AllByRecursion (λ m. 0 < m.count) ms → nat_lt 0 (count_by p ms) ≡ nat_lt 0 (weigh p ms)
  weigh-some [] a = refl
  weigh-some (x ∷ ms) a = on (p x) refl (weigh-some ms a.1)
    where
      on : (b : Bool) → p x ≡ b → nat_lt 0 (count_by p ms) ≡ nat_lt 0 (weigh p ms) → nat_lt 0 (count_by p (x ∷ ms)) ≡ nat_lt 0 (weigh p (x ∷ ms))
      on true e h = grind (arith, common_steps, nat_tests, e, a.0)
      on false e h = grind (arith, common_steps, nat_tests, e, h)

-- the same service
pub service-is : (a b : Option ObjectId) → same_service a b ≡ true → a ≡ b
service-is None None e = refl
service-is (Some a) (Some b) e = ap Some (same-id a b e)
service-is None (Some b) e = cc
service-is (Some a) None e = cc

-- two moments that no connection tells apart
parts-false : (a b c : ℕ) → parts_at a b c ≡ false → nat_lt a c ≡ nat_lt b c
parts-false a b c e = on (nat_lt a c) (nat_lt b c) e
  where
    on : (x y : Bool) → (if x then not y else y) ≡ false → x ≡ y
    on true true e = refl
    on true false e = cc
    on false true e = cc
    on false false e = refl

none-at : (q : ℕ → Bool) (cs : List Connection) (c : ℕ) → find (λ x. q x.id) cs ≡ None → is_some (connection_in cs c) ≡ true → q c ≡ false
none-at q [] c e h = cc
none-at q (y ∷ ys) c e h = on (q y.id) (y.id == c) refl refl (none-at q ys c)
  where
    on : (b d : Bool) → q y.id ≡ b → (y.id == c) ≡ d → (find (λ x. q x.id) ys ≡ None → is_some (connection_in ys c) ≡ true → q c ≡ false) → q c ≡ false
    on true d f g more = let k : find (λ x. q x.id) (y ∷ ys) ≡ Some y = rw f refl in cc
    on false true f g more = subst (λ k. q k ≡ false) (same-number y.id c g) f
    on false false f g more =
        let rest : find (λ x. q x.id) ys ≡ None = grind (arith, common_steps, e, f) in
        let there : is_some (connection_in ys c) ≡ true = grind (arith, common_steps, h, g) in
        more rest there

one-gap : (cs : List Connection) (made a b : ℕ) → a ≤ made → b ≤ made → find (λ x. parts_at a b x.id) cs ≡ None → (c : ℕ) → IsAsked cs made c → nat_lt a c ≡ nat_lt b c
one-gap cs made a b la lb e c (inl h) = parts-false a b c (none-at (parts_at a b) cs c e h)
one-gap cs made a b la lb e c (inr l) =
    let x : nat_lt a c ≡ true = grind (arith, nat_tests, la, l) in
    let y : nat_lt b c ≡ true = grind (arith, nat_tests, lb, l) in
    x ∙ sym y

all-push : (ms : List Mark) (m : Mark) → AllByRecursion (λ o. 0 < o.count) ms → 0 < m.count → AllByRecursion (λ o. 0 < o.count) (ms ++ m ∷ [])
all-push [] m a l = (l, tt)
all-push (x ∷ ms) m a l = (a.0, all-push ms m a.1 l)

all-set : (ms : List Mark) (i : ℕ) (m : Mark) → AllByRecursion (λ o. 0 < o.count) ms → 0 < m.count → AllByRecursion (λ o. 0 < o.count) (slice_set ms i m)
all-set [] i m a l = a
all-set (x ∷ ms) zero m a l = (l, a.1)
all-set (x ∷ ms) (suc i) m a l = (a.0, all-set ms i m a.1 l)

module _ (cs : List Connection) (made : ℕ) where
  -- a mark comes last
  pub grown-last : (ms : List Mark) (m : Mark) → Grown cs made ms m (ms ++ m ∷ [])
  grown-last ms m = record {
    all = weigh-append (λ o. true) ms m;
    total = λ t. weigh-append (counts_at t None) ms m;
    positive = λ a l. all-push ms m a l;
    earlier = λ t c asked. weigh-append (counts_at t (Some c)) ms m;
  }

  -- or is counted with another
  pub grown-joined : (ms : List Mark) (m : Mark) (at : ℕ) (count : ℕ) → (j : JoinsAt cs made ms m at) → count ≡ j.0.count + m.count → Grown cs made ms m (slice_set ms at (record j.0 { count = count }))
  grown-joined ms m at count j is =
      let o : Mark = j.0 in
      let n : Mark = record o { count = count } in
      let named : o.service ≡ m.service = service-is o.service m.service j.2 in
      record {
        all = joined (λ x. true) (λ o n. refl) true refl refl;
        total = λ t. joined (counts_at t None) (λ o n. refl) (same_service o.service t) refl (ap (λ s. same_service s t) (sym named));
        positive = λ a l. all-set ms at n a (omega (arith, is, l));
        earlier = λ t c asked. joined (counts_at t (Some c)) (λ o n. refl) (same_service o.service t && nat_lt o.after c) refl (ap (λ s. same_service s t && nat_lt m.after c) (sym named) ∙ ap (λ b. same_service o.service t && b) (sym (one-gap cs made o.after m.after j.3 j.4 j.5 c asked)));
      }
    where
      joined : (p : Mark → Bool) → ((o : Mark) (n : ℕ) → p (record o { count = n }) ≡ p o) → (b : Bool) → p j.0 ≡ b → p m ≡ b → weigh p (slice_set ms at (record j.0 { count = count })) ≡ weigh p ms + part p m
      joined p blind true e f =
          let h = weigh-set p ms at j.0 (record j.0 { count = count }) j.1 in
          let one : part p j.0 ≡ j.0.count = rw e refl in
          let two : part p m ≡ m.count = rw f refl in
          let three : part p (record j.0 { count = count }) ≡ count = rw (blind j.0 count, e) refl in
          omega (arith, h, one, two, three, is)
      joined p blind false e f =
          let h = weigh-set p ms at j.0 (record j.0 { count = count }) j.1 in
          let one : part p j.0 ≡ 0 = rw e refl in
          let two : part p m ≡ 0 = rw f refl in
          let three : part p (record j.0 { count = count }) ≡ 0 = rw (blind j.0 count, e) refl in
          omega (arith, h, one, two, three)

all-at : (ms : List Mark) (i : ℕ) (d : Mark) → AllByRecursion (λ o. 0 < o.count) ms → i < length ms → 0 < (slice_index_or ms i d).count
all-at [] i d a l = absurd (omega (arith, l))
all-at (x ∷ ms) zero d a l = a.0
all-at (x ∷ ms) (suc i) d a l = all-at ms i d a.1 (omega (arith, l))

-- the marks that were made and those that are left count all
pub record CountsAll (cs : List Connection) (made : ℕ) (ms new rest : List Mark) : Type 0 where
  pub all : weigh (λ m. true) new + weigh (λ m. true) rest ≡ weigh (λ m. true) ms
  pub total : (t : Option ObjectId) → weigh (counts_at t None) new + weigh (counts_at t None) rest ≡ weigh (counts_at t None) ms
  pub positive : AllByRecursion (λ m. 0 < m.count) ms → AllByRecursion (λ m. 0 < m.count) new
  pub earlier : (t : Option ObjectId) (c : ℕ) → IsAsked cs made c → weigh (counts_at t (Some c)) new + weigh (counts_at t (Some c)) rest ≡ weigh (counts_at t (Some c)) ms

module _ (cs : List Connection) (made : ℕ) (ms : List Mark) where
  pub counts-start : CountsAll cs made ms [] ms
  counts-start = record { all = omega arith; total = λ t. omega arith; positive = λ a. tt; earlier = λ t c asked. omega arith }

  pub counts-more : (new after : List Mark) (i : ℕ) → CountsAll cs made ms new (drop i ms) → i < length ms → Grown cs made new (slice_index_or ms i nothing) after → CountsAll cs made ms after (drop (i + 1) ms)
  counts-more new after i z l g = record {
    all = omega (arith, z.all, g.all, weigh_rest (λ m. true) ms i nothing l);
    total = λ t. omega (arith, z.total t, g.total t, weigh_rest (counts_at t None) ms i nothing l);
    positive = λ a. g.positive (z.positive a) (all-at ms i nothing a l);
    earlier = λ t c asked. omega (arith, z.earlier t c asked, g.earlier t c asked, weigh_rest (counts_at t (Some c)) ms i nothing l);
  }

  pub counts-last : (new after : List Mark) (m : Mark) (i : ℕ) → CountsAll cs made ms new (drop i ms) → length ms ≤ i → Grown cs made new m after → Grown cs made ms m after
  counts-last new after m i z l g = record {
    all = omega (arith, z.all, g.all, at_drop_all (weigh (λ m. true)) ms i l);
    total = λ t. omega (arith, z.total t, g.total t, at_drop_all (weigh (counts_at t None)) ms i l);
    positive = λ a n. g.positive (z.positive a) n;
    earlier = λ t c asked. omega (arith, z.earlier t c asked, g.earlier t c asked, at_drop_all (weigh (counts_at t (Some c))) ms i l);
  }

module _ (made : ℕ) (k : Cleared) (cs : List Connection) (z : ClearsFit made k cs) where
  -- fewer live
  pub fewer-counts : (ds : List Connection) → ((c : ℕ) → is_some (connection_in ds c) ≡ true → is_some (connection_in cs c) ≡ true) → ClearsFit made k ds
  fewer-counts ds was = record { all = z.all; positive = z.positive; total = z.total; earlier = λ t c asked. z.earlier t c (still c asked); timeouts = z.timeouts }
    where
      still : (c : ℕ) → IsAsked ds made c → IsAsked cs made c
      still c (inl h) = inl (was c h)
      still c (inr l) = inr l

  pub others-counts : (c : ℕ) → ClearsFit made k (others (λ x. x.id) c cs)
  others-counts c = fewer-counts (others (λ x. x.id) c cs) (λ d h. grind (arith, common_steps, entry_at-others (λ (x : Connection). x.id) d c cs, h))

  pub put-counts : (x : Connection) → is_some (connection_in cs x.id) ≡ true → ClearsFit made k (put (λ y. y.id) x cs)
  put-counts x lives = fewer-counts (put (λ y. y.id) x cs) (λ d h. grind (arith, common_steps, entry_at-put (λ (y : Connection). y.id) d x cs, lives, h))

  pub swap-counts : (x : Connection) → ClearsFit made k (swap (λ y. y.id) x cs)
  swap-counts x = fewer-counts (swap (λ y. y.id) x cs) (λ d h. grind (arith, common_steps, entry_at-swap_any (λ (y : Connection). y.id) d x cs, h))

  pub filter-counts : (q : Connection → Bool) → ClearsFit made k (filter q cs)
  filter-counts q = fewer-counts (filter q cs) (λ d h. among d cs h)
    where
      among : (d : ℕ) (xs : List Connection) → is_some (connection_in (filter q xs) d) ≡ true → is_some (connection_in xs d) ≡ true
      among d [] h = h
      among d (x ∷ xs) h = grind (arith, common_steps, among d xs, h)

  -- the next one is created
  pub more-counts : (x : Connection) → x.id ≡ made + 1 → ClearsFit x.id k (put (λ y. y.id) x cs)
  more-counts x next = record { all = z.all; positive = z.positive; total = z.total; earlier = λ t c asked. z.earlier t c (was c asked); timeouts = z.timeouts }
    where
      live : (c : ℕ) (b : Bool) → (x.id == c) ≡ b → is_some (connection_in (put (λ y. y.id) x cs) c) ≡ true → IsAsked cs made c
      live c true e h = inr (omega (arith, next, same-number x.id c e))
      live c false e h = inl (grind (arith, common_steps, entry_at-put (λ (y : Connection). y.id) c x cs, e, h))

      was : (c : ℕ) → IsAsked (put (λ y. y.id) x cs) x.id c → IsAsked cs made c
      was c (inl h) = live c (x.id == c) refl h
      was c (inr l) = inr (omega (arith, l, next))

  -- the pool is cleared
  pub cleared-counts : (service : Option ObjectId) (timeout : Bool) (marks : Marks)
      → Grown cs made k.marks.list.items (record { service = service; after = made; count = 1 }) marks.list.items
      → marks.total ≡ weigh (λ m. true) marks.list.items → marks.timeouts ≡ k.marks.timeouts + (if timeout then 1 else 0)
      → ClearsFit made (record { all = k.all ++ record { service = service; after = made; timeout = timeout } ∷ []; marks = marks }) cs
  cleared-counts service timeout marks g sum late =
      let clear : Clear = record { service = service; after = made; timeout = timeout } in
      record {
        all = sum;
        positive = g.positive z.positive (omega arith);
        total = λ t. g.total t ∙ (ap (λ n. n + (if same_service service t then 1 else 0)) (z.total t) ∙ sym (clears_for-append t k.all clear));
        earlier = λ t c asked. g.earlier t c asked ∙ (ap (λ n. n + (if same_service service t && nat_lt made c then 1 else 0)) (z.earlier t c asked) ∙ sym (clears_before-append c t k.all clear));
        timeouts = late ∙ (ap (λ n. n + (if timeout then 1 else 0)) z.timeouts ∙ sym (timeouts-append k.all clear));
      }

  -- what was cleared before a connection that lives
  pub lives-before : (t : Option ObjectId) (c : ℕ) → is_some (connection_in cs c) ≡ true → weigh (counts_at t (Some c)) k.marks.list.items ≡ clears_before c t k.all
  lives-before t c h = z.earlier t c (inl h)

  pub some-before : (t : Option ObjectId) (c : ℕ) → is_some (connection_in cs c) ≡ true → nat_lt 0 (count_by (counts_at t (Some c)) k.marks.list.items) ≡ nat_lt 0 (clears_before c t k.all)
  some-before t c h = weigh-some (counts_at t (Some c)) k.marks.list.items z.positive ∙ ap (nat_lt 0) (lives-before t c h)

-- nothing was cleared
pub none-counts : (k : Cleared) → k.all ≡ [] → k.marks.list.items ≡ [] → k.marks.total ≡ 0 → k.marks.timeouts ≡ 0 → ClearsFit 0 k []
none-counts k a m t l = record {
  all = rw (m, t) refl;
  positive = rw m tt;
  total = λ t. rw (m, a) refl;
  earlier = λ t c asked. rw (m, a) refl;
  timeouts = rw (l, a) refl;
}
