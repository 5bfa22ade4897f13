-- The pending connections up to the last claimed number are claimed, and no later one is: so it stays.
use Rattle.std.proofs.Common.{◌≡◌, ℕ, ◌+◌, ◌≤◌, ◌<◌, Bool, true, false, not, ◌==◌, ◌&&◌, ◌||◌, Some, List, [], ◌∷◌, ◌++◌, filter, find, map, refl, sym, ◌∙◌, ap, subst, arith}
use Rattle.std.specs.Prelude.{nat_lt, nat_le}
use Rattle.std.proofs.lemmas.Bool.Decides.{nat_tests}
use Rattle.std.proofs.lemmas.Grind.{common_steps}
use Rattle.mdb_log.specs.Connections.{has}
use Rattle.mdb_log.proofs.Numbers.{has-append}
use Rattle.mdb_slots.specs.Keyed.{entry_at, put, others, swap}
use Rattle.mdb_slots.specs.Sided.{stays, amended, relisted}
use Rattle.mdb_slots.specs.Lists.{apart}
use Rattle.mdb_slots.proofs.Noted.{noted-others, noted-put, noted-swap, swap-number}
use Rattle.mdb_slots.proofs.Numbers.{same-number}
use Rattle.mdb_pool.specs.declared.kept.connection.Connection.{Connection}
use Rattle.mdb_pool.specs.Kept.Claiming.{no_claims, Ascends, ClaimsFit}
use Rattle.mdb_pool.specs.Core.{PoolCore}
use Rattle.mdb_pool.specs.Kept.Inner.{Claimed}
use Rattle.mdb_pool.specs.Kept.Values.{ids_where, first_unclaimed}
use Rattle.mdb_pool.specs.Kept.Places.{is_available, is_pending}
use Rattle.mdb_pool.proofs.Listed.Beside.{find_among}
use Rattle.mdb_pool_rules.proofs.Listed.Values.{In, here, there, find-member}

-- numbers that ascend
weaker : (m n : ℕ) (cs : List ℕ) → m ≤ n → Ascends n cs → Ascends m cs
weaker m n [] l a = tt
weaker m n (c ∷ cs) l a = (omega (arith, l, a.0), a.1)

part-ascends : (q : ℕ → Bool) (n : ℕ) (cs : List ℕ) → Ascends n cs → Ascends n (filter q cs)
part-ascends q n [] a = tt
part-ascends q n (c ∷ cs) a = on (q c) refl (part-ascends q c cs a.1) (part-ascends q n cs (weaker n c cs (omega (arith, a.0)) a.1))
  where
    on : (b : Bool) → q c ≡ b → Ascends c (filter q cs) → Ascends n (filter q cs) → Ascends n (filter q (c ∷ cs))
    on true e r s = rw e (a.0, r)
    on false e r s = rw e s

part-has : (c : ℕ) (q : ℕ → Bool) (cs : List ℕ) → has c (filter q cs) ≡ true → has c cs ≡ true
part-has c q [] h = h
part-has c q (x ∷ xs) h = grind (arith, common_steps, part-has c q xs, h)

own : (c : ℕ) (cs : List ℕ) → has c (c ∷ cs) ≡ true
own c cs = grind (arith, common_steps)

behind : (c x : ℕ) (cs : List ℕ) → has c cs ≡ true → has c (x ∷ cs) ≡ true
behind c x cs h = grind (arith, common_steps, h)

ascends-more : (n d : ℕ) (cs : List ℕ) → Ascends n cs → ((c : ℕ) → has c cs ≡ true → c < d) → n < d → Ascends n (cs ++ d ∷ [])
ascends-more n d [] a b l = (l, tt)
ascends-more n d (c ∷ cs) a b l = (a.0, ascends-more c d cs a.1 (λ e h. b e (behind e c cs h)) (b c (own c cs)))

above : (n c : ℕ) (cs : List ℕ) → Ascends n cs → has c cs ≡ true → n < c
above n c [] a h = cc
above n c (x ∷ xs) a h = on (x == c) refl (above x c xs a.1)
  where
    on : (b : Bool) → (x == c) ≡ b → (has c xs ≡ true → x < c) → n < c
    on true e more = subst (λ k. n < k) (same-number x c e) a.0
    on false e more = let g : has c xs ≡ true = grind (arith, common_steps, e, h) in let l : x < c = more g in omega (arith, l, a.0)

or-true : (b : Bool) → (b || true) ≡ true
or-true true = refl
or-true false = refl

-- a connection in a list has its number there
in-ids : (x : Connection) (xs : List Connection) → In x xs → has x.id (map (λ y. y.id) xs) ≡ true
in-ids x [] i = elim i [ ]
in-ids x (y ∷ xs) here = own y.id (map (λ z. z.id) xs)
in-ids x (y ∷ xs) (there i) = behind x.id y.id (map (λ z. z.id) xs) (in-ids x xs i)

-- those with smaller numbers than the first that is not claimed are claimed
passed : (ks : List ℕ) (n : ℕ) (xs : List Connection) (x : Connection) → Ascends n (map (λ y. y.id) xs) → find (λ y. not (has y.id ks)) xs ≡ Some x
    → (c : ℕ) → has c (map (λ y. y.id) xs) ≡ true → c < x.id → has c ks ≡ true
passed ks n [] x a f c h l = cc
passed ks n (y ∷ ys) x a f c h l = on (has y.id ks) (y.id == c) refl refl (passed ks y.id ys x a.1)
  where
    on : (b d : Bool) → has y.id ks ≡ b → (y.id == c) ≡ d → (find (λ z. not (has z.id ks)) ys ≡ Some x → (j : ℕ) → has j (map (λ z. z.id) ys) ≡ true → j < x.id → has j ks ≡ true) → has c ks ≡ true
    on true true e g more = subst (λ k. has k ks ≡ true) (same-number y.id c g) e
    on true false e g more =
        let rest : find (λ z. not (has z.id ks)) ys ≡ Some x = grind (arith, common_steps, e, f) in
        let m : has c (map (λ z. z.id) ys) ≡ true = grind (arith, common_steps, g, h) in
        more rest c m l
    on false true e g more =
        let is : Some y ≡ Some x = grind (arith, common_steps, e, f) in
        let w : y ≡ x = cc in
        let s : y.id ≡ c = same-number y.id c g in
        absurd (omega (arith, l, s, ap (λ (z : Connection). z.id) w))
    on false false e g more =
        let is : Some y ≡ Some x = grind (arith, common_steps, e, f) in
        let w : y ≡ x = cc in
        let m : has c (map (λ z. z.id) ys) ≡ true = grind (arith, common_steps, g, h) in
        absurd (omega (arith, l, above y.id c (map (λ z. z.id) ys) a.1 m, ap (λ (z : Connection). z.id) w))

-- two tests that agree on all find the same
find-same : (p q : Connection → Bool) (xs : List Connection) → ((x : Connection) → has x.id (map (λ y. y.id) xs) ≡ true → p x ≡ q x) → find p xs ≡ find q xs
find-same p q [] e = refl
find-same p q (x ∷ xs) e =
    let rest : find p xs ≡ find q xs = find-same p q xs (λ y h. e y (behind y.id x.id (map (λ z. z.id) xs) h)) in
    on (q x) refl (e x (own x.id (map (λ z. z.id) xs))) rest
  where
    on : (b : Bool) → q x ≡ b → p x ≡ q x → find p xs ≡ find q xs → find p (x ∷ xs) ≡ find q (x ∷ xs)
    on true f g r = rw (g, f) refl
    on false f g r = rw (g, f) r

abbrev pending-ids : List Connection → List ℕ
pending-ids cs = ids_where is_pending cs

-- nothing was created
pub none-fit : ClaimsFit 0 no_claims []
none-fit = record {
  within = omega arith;
  ascending = tt;
  made_all = λ c h. cc;
  earlier = λ c h l. cc;
  later = λ c l. refl;
}

module _ (made : ℕ) (k : Claimed) (cs : List Connection) (z : ClaimsFit made k cs) where
  -- fewer are pending
  pub fewer-fit : (q : ℕ → Bool) (ds : List Connection) → pending-ids ds ≡ filter q (pending-ids cs) → ClaimsFit made k ds
  fewer-fit q ds is =
      let was : (c : ℕ) → has c (pending-ids ds) ≡ true → has c (pending-ids cs) ≡ true = λ c h. part-has c q (pending-ids cs) (ap (has c) (sym is) ∙ h) in
      record {
        within = z.within;
        ascending = subst (Ascends 0) (sym is) (part-ascends q 0 (pending-ids cs) z.ascending);
        made_all = λ c h. z.made_all c (was c h);
        earlier = λ c h l. z.earlier c (was c h) l;
        later = z.later;
      }

  pub same-fit : (ds : List Connection) → pending-ids ds ≡ pending-ids cs → ClaimsFit made k ds
  same-fit ds is = record {
    within = z.within;
    ascending = subst (Ascends 0) (sym is) z.ascending;
    made_all = λ c h. z.made_all c (ap (has c) (sym is) ∙ h);
    earlier = λ c h l. z.earlier c (ap (has c) (sym is) ∙ h) l;
    later = z.later;
  }

  pub others-fit : (c : ℕ) → ClaimsFit made k (others (λ x. x.id) c cs)
  others-fit c = fewer-fit (λ j. not (j == c)) (others (λ x. x.id) c cs) (noted-others (λ x. x.id) (λ x. x.id) (λ j. j) (λ y. refl) (λ x. is_pending x.place) c cs)

  -- one that is not pending comes
  pub put-fit : (x : Connection) → is_pending x.place ≡ false → ClaimsFit made k (put (λ y. y.id) x cs)
  put-fit x off = fewer-fit (λ j. not (j == x.id)) (put (λ y. y.id) x cs) (noted-put (λ y. y.id) (λ y. y.id) (λ j. j) (λ y. refl) (λ y. is_pending y.place) x cs ∙ ap (λ b. relisted (λ j. j) b x.id (pending-ids cs)) off)

  -- one takes the place of another
  pub swap-fit : (x : Connection) → apart (map (λ y. y.id) cs) ≡ true → stays (λ y. is_pending y.place) x (entry_at (λ y. y.id) x.id cs) ≡ true → ClaimsFit made k (swap (λ y. y.id) x cs)
  swap-fit x single stood = on (is_pending x.place) refl (noted-swap (λ y. y.id) (λ y. y.id) (λ j. j) (λ y. refl) (λ y. is_pending y.place) x cs single stood)
    where
      on : (b : Bool) → is_pending x.place ≡ b → pending-ids (swap (λ y. y.id) x cs) ≡ amended (λ j. j) (is_pending x.place) x.id (pending-ids cs) → ClaimsFit made k (swap (λ y. y.id) x cs)
      on true e is = same-fit (swap (λ y. y.id) x cs) (is ∙ (ap (λ b. amended (λ j. j) b x.id (pending-ids cs)) e ∙ swap-number x.id (pending-ids cs)))
      on false e is = fewer-fit (λ j. not (j == x.id)) (swap (λ y. y.id) x cs) (is ∙ ap (λ b. amended (λ j. j) b x.id (pending-ids cs)) e)

  -- those that are not pending, or not available, stay alone
  pub rest-fit : ClaimsFit made k (filter (λ x. not (is_pending x.place)) (filter (λ x. not (is_available x.place)) cs))
  rest-fit = fewer-fit (λ j. false) (filter (λ x. not (is_pending x.place)) (filter (λ x. not (is_available x.place)) cs)) (none-pending (filter (λ x. not (is_available x.place)) cs) ∙ sym (none-left (pending-ids cs)))
    where
      none-pending : (xs : List Connection) → pending-ids (filter (λ x. not (is_pending x.place)) xs) ≡ []
      none-pending [] = refl
      none-pending (x ∷ xs) = on (is_pending x.place) refl (none-pending xs)
        where
          on : (b : Bool) → is_pending x.place ≡ b → pending-ids (filter (λ y. not (is_pending y.place)) xs) ≡ [] → pending-ids (filter (λ y. not (is_pending y.place)) (x ∷ xs)) ≡ []
          on true e r = rw e r
          on false e r = rw (e, e) r

      none-left : (ns : List ℕ) → filter (λ j. false) ns ≡ []
      none-left [] = refl
      none-left (n ∷ ns) = none-left ns

  -- the next one is created
  pub more-fit : (x : Connection) → x.id ≡ made + 1 → is_pending x.place ≡ true → ClaimsFit x.id k (put (λ y. y.id) x cs)
  more-fit x next on =
      let ds : List Connection = others (λ y. y.id) x.id cs in
      let before = others-fit x.id in
      let is : pending-ids (put (λ y. y.id) x cs) ≡ pending-ids ds ++ x.id ∷ [] =
      noted-put (λ y. y.id) (λ y. y.id) (λ j. j) (λ y. refl) (λ y. is_pending y.place) x cs
      ∙ (ap (λ b. relisted (λ j. j) b x.id (pending-ids cs)) on ∙ ap (λ ns. ns ++ x.id ∷ []) (sym (noted-others (λ y. y.id) (λ y. y.id) (λ j. j) (λ y. refl) (λ y. is_pending y.place) x.id cs))) in
      let either : (c : ℕ) → has c (pending-ids (put (λ y. y.id) x cs)) ≡ true → has c (pending-ids ds) || (x.id == c) ≡ true = λ c h. sym (has-append c x.id (pending-ids ds)) ∙ (ap (has c) (sym is) ∙ h) in
      record {
        within = omega (arith, z.within, next);
        ascending = subst (Ascends 0) (sym is) (ascends-more 0 x.id (pending-ids ds) before.ascending (λ c h. omega (arith, before.made_all c h, next)) (omega (arith, next)));
        made_all = λ c h. split c (λ d. d ≤ x.id) (λ g. omega (arith, before.made_all c g, next)) (λ g. omega (arith, g)) (either c h);
        earlier = λ c h l. split c (λ d. has d k.numbers ≡ true) (λ g. before.earlier c g l) (λ g. absurd (omega (arith, l, g, z.within, next))) (either c h);
        later = z.later;
      }
    where
      split : (c : ℕ) (P : ℕ → Type 0) → (has c (pending-ids (others (λ y. y.id) x.id cs)) ≡ true → P c) → (x.id ≡ c → P c) → has c (pending-ids (others (λ y. y.id) x.id cs)) || (x.id == c) ≡ true → P c
      split c P old new h = on-b (has c (pending-ids (others (λ y. y.id) x.id cs))) (x.id == c) refl refl h
        where
          on-b : (b d : Bool) → has c (pending-ids (others (λ y. y.id) x.id cs)) ≡ b → (x.id == c) ≡ d → (b || d) ≡ true → P c
          on-b true d e f g = old e
          on-b false true e f g = new (same-number x.id c f)
          on-b false false e f g = cc

  -- the first that is not claimed is claimed
  pub claim-fit : (x : Connection) → find (λ y. is_pending y.place && not (has y.id k.numbers)) cs ≡ Some x → ClaimsFit made (record { numbers = k.numbers ++ x.id ∷ []; last = x.id }) cs
  claim-fit x f =
      let g : find (λ y. not (has y.id k.numbers)) (filter (λ y. is_pending y.place) cs) ≡ Some x = sym (find_among (λ y. is_pending y.place) (λ y. not (has y.id k.numbers)) cs) ∙ f in
      let m = find-member (λ y. not (has y.id k.numbers)) x (filter (λ y. is_pending y.place) cs) g in
      let own-id : has x.id (pending-ids cs) ≡ true = in-ids x (filter (λ y. is_pending y.place) cs) m.0 in
      let past : k.last < x.id = beyond x own-id m.1 in
      record {
        within = z.made_all x.id own-id;
        ascending = z.ascending;
        made_all = z.made_all;
        earlier = λ c h l. up-to c h l (passed k.numbers 0 (filter (λ y. is_pending y.place) cs) x z.ascending g c h);
        later = λ c l. has-append c x.id k.numbers ∙ grind (arith, common_steps, nat_tests, z.later c (omega (arith, l, past)), l);
      }
    where
      beyond : (y : Connection) → has y.id (pending-ids cs) ≡ true → not (has y.id k.numbers) ≡ true → k.last < y.id
      beyond y h n = on (nat_le y.id k.last) refl
        where
          on : (b : Bool) → nat_le y.id k.last ≡ b → k.last < y.id
          on true e = let w : has y.id k.numbers ≡ true = z.earlier y.id h (grind (arith, nat_tests, e)) in absurd (grind (arith, common_steps, w, n))
          on false e = grind (arith, nat_tests, e)

      up-to : (c : ℕ) → has c (pending-ids cs) ≡ true → c ≤ x.id → (c < x.id → has c k.numbers ≡ true) → has c (k.numbers ++ x.id ∷ []) ≡ true
      up-to c h l less = has-append c x.id k.numbers ∙ on (x.id == c) refl
        where
          on : (b : Bool) → (x.id == c) ≡ b → has c k.numbers || (x.id == c) ≡ true
          on true e = rw e (or-true (has c k.numbers))
          on false e = let w : has c k.numbers ≡ true = less (grind (arith, nat_tests, e, l)) in rw w refl

  -- the first whose number is greater is the first that is not claimed
  pub unclaimed-found : find (λ x. nat_lt k.last x.id) (filter (λ x. is_pending x.place) cs) ≡ find (λ x. is_pending x.place && not (has x.id k.numbers)) cs
  unclaimed-found = find-same (λ x. nat_lt k.last x.id) (λ x. not (has x.id k.numbers)) (filter (λ x. is_pending x.place) cs) agree ∙ sym (find_among (λ x. is_pending x.place) (λ x. not (has x.id k.numbers)) cs)
    where
      agree : (x : Connection) → has x.id (pending-ids cs) ≡ true → nat_lt k.last x.id ≡ not (has x.id k.numbers)
      agree x h = on (nat_lt k.last x.id) refl
        where
          on : (b : Bool) → nat_lt k.last x.id ≡ b → nat_lt k.last x.id ≡ not (has x.id k.numbers)
          on true e = let w : has x.id k.numbers ≡ false = z.later x.id (grind (arith, nat_tests, e)) in rw (e, w) refl
          on false e = let w : has x.id k.numbers ≡ true = z.earlier x.id h (grind (arith, nat_tests, e)) in rw (e, w) refl

-- the first that is not claimed is not claimed
pub first-free : (s : PoolCore) (x : Connection) → first_unclaimed s ≡ Some x → has x.id s.kept.claimed ≡ false
first-free s x f = off (has x.id s.kept.claimed) (find-member (λ y. not (has y.id s.kept.claimed)) x (filter (λ y. is_pending y.place) s.kept.connections) (sym (find_among (λ y. is_pending y.place) (λ y. not (has y.id s.kept.claimed)) s.kept.connections) ∙ f)).1
  where
    off : (b : Bool) → not b ≡ true → b ≡ false
    off true e = cc
    off false e = refl
