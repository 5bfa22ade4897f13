-- Memory has the requests that have not left, whatever is done to them.
use Rattle.std.proofs.Common.{◌≡◌, ℕ, Bool, true, false, not, ◌==◌, ◌&&◌, ◌||◌, if◌then◌else◌, is_some, Option, Some, None, List, [], ◌∷◌, ◌++◌, map, filter, find, refl, sym, ◌∙◌, ap, subst, arith}
use Rattle.std.proofs.lemmas.Grind.{common_steps}
use Rattle.mdb_log.specs.Connections.{has}
use Rattle.mdb_log.proofs.Numbers.{same-number as own-number}
use Rattle.mdb_slots.specs.Keyed.{entry_at, put, others, swap}
use Rattle.mdb_slots.specs.Lists.{apart, has as among}
use Rattle.mdb_slots.proofs.Apart.{apart-put, apart-swap}
use Rattle.mdb_slots.proofs.Lists.{has-append as among-append, apart-first, apart-rest}
use Rattle.mdb_slots.proofs.Numbers.{same-number}
use Rattle.mdb_pool.specs.declared.kept.request.Phase.{Phase}
use Rattle.mdb_pool.specs.declared.kept.request.Phase.TheVariants.{Queued, Given, Over, Ended as EndedPhase}
use Rattle.mdb_pool.specs.declared.kept.request.Request.{Request}
use Rattle.mdb_pool.specs.Kept.Asking.{RequestsFit}
use Rattle.mdb_pool.specs.Kept.Keyed.{marked}
use Rattle.mdb_pool.specs.Kept.Values.{if_lingers, is_asked_at, is_gone, lingers, request_in}
use Rattle.mdb_pool.specs.Kept.Places.{is_done, is_queued}
use Rattle.mdb_pool.proofs.Listed.Noted.{has-marked, marked-again}
use Rattle.mdb_pool_rules.proofs.Listed.Values.{entry_at-key, entry_at-others, entry_at-put, entry_at-swap_any}

abbrev pub number-of : Request → ℕ
number-of q = q.number

abbrev pub own-key : ℕ → ℕ
own-key k = k

-- what is asked of a list of values whose numbers are apart
pub find-absent : (k : ℕ) (qs : List Request) → request_in qs k ≡ None → among k (map number-of qs) ≡ false
find-absent k [] e = refl
find-absent k (q ∷ qs) e = grind (arith, common_steps, find-absent k qs, e)

-- at most one has the number: what it meets, all that have the number meet
pub all-of : (p : Request → Bool) (k : ℕ) (qs : List Request) (x : Request) → apart (map number-of qs) ≡ true → request_in qs k ≡ Some x → filter (λ q. q.number == k) qs ≡ x ∷ []
all-of p k [] x a e = cc
all-of p k (q ∷ qs) x a e = on (q.number == k) refl (all-of p k qs x (apart-rest q.number (map number-of qs) a))
  where
    none : (ys : List Request) → among k (map number-of ys) ≡ false → filter (λ y. y.number == k) ys ≡ []
    none [] h = refl
    none (y ∷ ys) h = grind (arith, common_steps, none ys, h)

    on : (b : Bool) → (q.number == k) ≡ b → (request_in qs k ≡ Some x → filter (λ y. y.number == k) qs ≡ x ∷ []) → filter (λ y. y.number == k) (q ∷ qs) ≡ x ∷ []
    on true f more =
        let w : q ≡ x = grind (arith, common_steps, e, f) in
        let absent : among q.number (map number-of qs) ≡ false = apart-first q.number (map number-of qs) a in
        rw (f, none qs (subst (λ j. among j (map number-of qs) ≡ false) (same-number q.number k f) absent), w) refl
    on false f more = rw f (more (grind (arith, common_steps, e, f)))

-- values that meet a test, without one number
filter-others : (p : Request → Bool) (k : ℕ) (qs : List Request) → filter p (others number-of k qs) ≡ others number-of k (filter p qs)
filter-others p k [] = refl
filter-others p k (q ∷ qs) = on (p q) (q.number == k) refl refl (filter-others p k qs)
  where
    on : (b d : Bool) → p q ≡ b → (q.number == k) ≡ d → filter p (others number-of k qs) ≡ others number-of k (filter p qs) → filter p (others number-of k (q ∷ qs)) ≡ others number-of k (filter p (q ∷ qs))
    on true true e f r = rw (f, e, f) r
    on true false e f r = rw (f, e, f) (ap (λ zs. q ∷ zs) r)
    on false true e f r = rw (f, e) r
    on false false e f r = rw (f, e) r

filter-last : (p : Request → Bool) (qs : List Request) (q : Request) → p q ≡ true → filter p (qs ++ q ∷ []) ≡ filter p qs ++ q ∷ []
filter-last p [] q e = rw e refl
filter-last p (x ∷ qs) q e = on (p x) refl (filter-last p qs q e)
  where
    on : (b : Bool) → p x ≡ b → filter p (qs ++ q ∷ []) ≡ filter p qs ++ q ∷ [] → filter p ((x ∷ qs) ++ q ∷ []) ≡ filter p (x ∷ qs) ++ q ∷ []
    on true f r = rw f (ap (λ zs. x ∷ zs) r)
    on false f r = rw f r

-- a value that meets the test comes
filter-put : (p : Request → Bool) (q : Request) (qs : List Request) → p q ≡ true → filter p (put number-of q qs) ≡ put number-of q (filter p qs)
filter-put p q qs e = filter-last p (others number-of q.number qs) q e ∙ ap (λ zs. zs ++ q ∷ []) (filter-others p q.number qs)

-- a value takes the place of the one that had its number: where it meets the test
filter-swap : (p : Request → Bool) (q : Request) (qs : List Request) → p q ≡ true → filter (λ x. (x.number == q.number) && not (p x)) qs ≡ [] → filter p (swap number-of q qs) ≡ swap number-of q (filter p qs)
filter-swap p q [] e none = refl
filter-swap p q (x ∷ qs) e none = on (p x) (x.number == q.number) refl refl (filter-swap p q qs e)
  where
    on : (b d : Bool) → p x ≡ b → (x.number == q.number) ≡ d → (filter (λ y. (y.number == q.number) && not (p y)) qs ≡ [] → filter p (swap number-of q qs) ≡ swap number-of q (filter p qs))
        → filter p (swap number-of q (x ∷ qs)) ≡ swap number-of q (filter p (x ∷ qs))
    on true true f g r = let was : filter (λ y. (y.number == q.number) && not (p y)) (x ∷ qs) ≡ filter (λ y. (y.number == q.number) && not (p y)) qs = rw (g, f) refl in rw (g, e, f, g) (ap (λ zs. q ∷ zs) (r (sym was ∙ none)))
    on true false f g r = let was : filter (λ y. (y.number == q.number) && not (p y)) (x ∷ qs) ≡ filter (λ y. (y.number == q.number) && not (p y)) qs = rw g refl in rw (g, f, g) (ap (λ zs. x ∷ zs) (r (sym was ∙ none)))
    on false true f g r = let k : x ∷ filter (λ y. (y.number == q.number) && not (p y)) qs ≡ [] = rw (g, f) at none in cc
    on false false f g r = let was : filter (λ y. (y.number == q.number) && not (p y)) (x ∷ qs) ≡ filter (λ y. (y.number == q.number) && not (p y)) qs = rw g refl in rw (g, f) (r (sym was ∙ none))

-- and where it does not
filter-out : (p : Request → Bool) (q : Request) (qs : List Request) → p q ≡ false → filter p (swap number-of q qs) ≡ others number-of q.number (filter p qs)
filter-out p q [] e = refl
filter-out p q (x ∷ qs) e = on (p x) (x.number == q.number) refl refl (filter-out p q qs e)
  where
    on : (b d : Bool) → p x ≡ b → (x.number == q.number) ≡ d → filter p (swap number-of q qs) ≡ others number-of q.number (filter p qs) → filter p (swap number-of q (x ∷ qs)) ≡ others number-of q.number (filter p (x ∷ qs))
    on true true f g r = rw (g, e, f, g) r
    on true false f g r = rw (g, f, g) (ap (λ zs. x ∷ zs) r)
    on false true f g r = rw (g, e, f) r
    on false false f g r = rw (g, f) r

-- the one that has the number, where it meets the test
abbrev only : (Request → Bool) → Option Request → Option Request
only p None = None
only p (Some q) = if p q then Some q else None

absent-filter : (p : Request → Bool) (k : ℕ) (ys : List Request) → among k (map number-of ys) ≡ false → request_in (filter p ys) k ≡ None
absent-filter p k [] h = refl
absent-filter p k (y ∷ ys) h = grind (arith, common_steps, absent-filter p k ys, h)

entry-filter : (p : Request → Bool) (k : ℕ) (qs : List Request) → apart (map number-of qs) ≡ true → request_in (filter p qs) k ≡ only p (request_in qs k)
entry-filter p k [] a = refl
entry-filter p k (q ∷ qs) a = on (p q) (q.number == k) refl refl (entry-filter p k qs (apart-rest q.number (map number-of qs) a))
  where
    absent : (q.number == k) ≡ true → request_in (filter p qs) k ≡ None
    absent f = absent-filter p k qs (subst (λ j. among j (map number-of qs) ≡ false) (same-number q.number k f) (apart-first q.number (map number-of qs) a))

    on : (b d : Bool) → p q ≡ b → (q.number == k) ≡ d → request_in (filter p qs) k ≡ only p (request_in qs k) → request_in (filter p (q ∷ qs)) k ≡ only p (request_in (q ∷ qs) k)
    on true true e f r = rw (e, f, e) refl
    on true false e f r = rw (e, f) r
    on false true e f r = rw (e, f, e) (absent f)
    on false false e f r = rw (e, f) r

module _ (all : List Request) (ks : List ℕ) (kept : List Request) (told : List ℕ) (alone : Bool) (known : List ℕ) (z : RequestsFit all ks kept told alone known) where
  -- what is read
  pub kept-at : (k : ℕ) → request_in kept k ≡ if_lingers ks (request_in all k)
  kept-at k = ap (λ qs. request_in qs k) z.kept_is ∙ (entry-filter (lingers ks) k all z.single ∙ same (request_in all k))
    where
      same : (o : Option Request) → only (lingers ks) o ≡ if_lingers ks o
      same None = refl
      same (Some q) = refl

  -- whether it is settled, where it has not left
  pub told-at : (k : ℕ) → is_gone ks (request_in all k) ≡ false → is_some (entry_at own-key k told) ≡ has k ks
  told-at k there = z.told_is k ∙ (ap (λ o. is_some o && has k ks) (kept-at k) ∙ on (request_in all k) refl there)
    where
      on : (o : Option Request) → request_in all k ≡ o → is_gone ks o ≡ false → (is_some (if_lingers ks o) && has k ks) ≡ has k ks
      on None e g = off (has k ks) refl
        where
          off : (b : Bool) → has k ks ≡ b → false ≡ has k ks
          off true h = let n : is_some (request_in all k) ≡ true = z.noted k h in let m : is_some (request_in all k) ≡ false = ap is_some e in cc
          off false h = sym h
      on (Some q) e g = let l : lingers ks q ≡ true = not-not (lingers ks q) g in rw l refl
        where
          not-not : (b : Bool) → not b ≡ false → b ≡ true
          not-not true h = refl
          not-not false h = cc

  -- a new one comes
  module _ (q : Request) (fresh : request_in all q.number ≡ None) (undone : is_done q.phase ≡ false) where
    pub put-unsettled : has q.number ks ≡ false
    put-unsettled = on (has q.number ks) refl
      where
        on : (b : Bool) → has q.number ks ≡ b → b ≡ false
        on true e = let n : is_some (request_in all q.number) ≡ true = z.noted q.number e in let m : is_some (request_in all q.number) ≡ false = ap is_some fresh in cc
        on false e = refl

    put-lingers : lingers ks q ≡ true
    put-lingers = rw put-unsettled refl

    absent-kept : request_in kept q.number ≡ None
    absent-kept = kept-at q.number ∙ ap (if_lingers ks) fresh

    -- where the pool stands alone its number comes too
    pub put-fits : (after : List ℕ) → (alone ≡ true → after ≡ known ++ q.number ∷ []) → RequestsFit (put number-of q all) ks (put number-of q kept) told alone after
    put-fits after grown = record {
      single = apart-put number-of q all z.single;
      kept_is = ap (put number-of q) z.kept_is ∙ sym (filter-put (lingers ks) q all put-lingers);
      told_is = λ r. z.told_is r ∙ (on-told r (q.number == r) refl ∙ ap (λ o. is_some o && has r ks) (sym (entry_at-put number-of r q kept)));
      known_is = λ a r. rw (grown a) (among-append r known (q.number ∷ []) ∙ (ap (λ b. b || among r (q.number ∷ [])) (z.known_is a r) ∙ (on-known r (q.number == r) refl ∙ ap is_some (sym (entry_at-put number-of r q all)))));
      noted = λ r h. ap is_some (entry_at-put number-of r q all) ∙ on-noted r (q.number == r) refl (z.noted r h);
    }
      where
        on-told : (r : ℕ) (b : Bool) → (q.number == r) ≡ b → (is_some (request_in kept r) && has r ks) ≡ (is_some (if q.number == r then Some q else request_in kept r) && has r ks)
        on-told r true e = rw (← same-number q.number r e, absent-kept, put-unsettled, own-number q.number) refl
        on-told r false e = rw e refl

        on-known : (r : ℕ) (b : Bool) → (q.number == r) ≡ b → (is_some (request_in all r) || ((q.number == r) || false)) ≡ is_some (if q.number == r then Some q else request_in all r)
        on-known r true e = rw e (or-true (is_some (request_in all r)))
          where
            or-true : (b : Bool) → (b || true) ≡ true
            or-true true = refl
            or-true false = refl
        on-known r false e = rw e (or-false (is_some (request_in all r)))
          where
            or-false : (b : Bool) → (b || false) ≡ b
            or-false true = refl
            or-false false = refl

        on-noted : (r : ℕ) (b : Bool) → (q.number == r) ≡ b → is_some (request_in all r) ≡ true → is_some (if q.number == r then Some q else request_in all r) ≡ true
        on-noted r true e h = rw e refl
        on-noted r false e h = rw e h

  -- one takes the place of another
  module _ (q : Request) (there : is_gone ks (request_in all q.number) ≡ false) where
    numbered-swap : (r : ℕ) (xs : List Request) → is_some (request_in (swap number-of q xs) r) ≡ is_some (request_in xs r)
    numbered-swap r xs = ap is_some (entry_at-swap_any number-of r q xs) ∙ on (q.number == r) (request_in xs r)
      where
        on : (b : Bool) (o : Option Request) → is_some (if b then (if is_some o then Some q else None) else o) ≡ is_some o
        on true None = refl
        on true (Some x) = refl
        on false o = refl

    none-left : filter (λ x. (x.number == q.number) && not (lingers ks x)) all ≡ []
    none-left = on (request_in all q.number) refl there
      where
        on : (o : Option Request) → request_in all q.number ≡ o → is_gone ks o ≡ false → filter (λ x. (x.number == q.number) && not (lingers ks x)) all ≡ []
        on None e g = missing all (find-absent q.number all e)
          where
            missing : (ys : List Request) → among q.number (map number-of ys) ≡ false → filter (λ x. (x.number == q.number) && not (lingers ks x)) ys ≡ []
            missing [] h = refl
            missing (y ∷ ys) h = grind (arith, common_steps, missing ys, h)
        on (Some x) e g = inner all ∙ (ap (filter (λ y. not (lingers ks y))) (all-of (λ y. true) q.number all x z.single e) ∙ rw g refl)
          where
            inner : (ys : List Request) → filter (λ y. (y.number == q.number) && not (lingers ks y)) ys ≡ filter (λ y. not (lingers ks y)) (filter (λ y. y.number == q.number) ys)
            inner [] = refl
            inner (y ∷ ys) = sort (y.number == q.number) (lingers ks y) refl refl (inner ys)
              where
                sort : (b d : Bool) → (y.number == q.number) ≡ b → lingers ks y ≡ d
                    → filter (λ z. (z.number == q.number) && not (lingers ks z)) ys ≡ filter (λ z. not (lingers ks z)) (filter (λ z. z.number == q.number) ys)
                    → filter (λ z. (z.number == q.number) && not (lingers ks z)) (y ∷ ys) ≡ filter (λ z. not (lingers ks z)) (filter (λ z. z.number == q.number) (y ∷ ys))
                sort true true f h r = rw (f, h) r
                sort true false f h r = rw (f, h) (ap (λ zs. y ∷ zs) r)
                sort false d f h r = rw f r

    pub swap-fits : lingers ks q ≡ true → RequestsFit (swap number-of q all) ks (swap number-of q kept) told alone known
    swap-fits stays = record {
      single = apart-swap number-of q all z.single;
      kept_is = ap (swap number-of q) z.kept_is ∙ sym (filter-swap (lingers ks) q all stays none-left);
      told_is = λ r. z.told_is r ∙ ap (λ b. b && has r ks) (sym (numbered-swap r kept));
      known_is = λ a r. z.known_is a r ∙ sym (numbered-swap r all);
      noted = λ r h. numbered-swap r all ∙ z.noted r h;
    }

    pub leave-fits : lingers ks q ≡ false → RequestsFit (swap number-of q all) ks (others number-of q.number kept) (others own-key q.number told) alone known
    leave-fits leaves = record {
      single = apart-swap number-of q all z.single;
      kept_is = ap (others number-of q.number) z.kept_is ∙ sym (filter-out (lingers ks) q all leaves);
      told_is = λ r. ap is_some (entry_at-others own-key r q.number told) ∙ (on r (q.number == r) (z.told_is r) ∙ ap (λ o. is_some o && has r ks) (sym (entry_at-others number-of r q.number kept)));
      known_is = λ a r. z.known_is a r ∙ sym (numbered-swap r all);
      noted = λ r h. numbered-swap r all ∙ z.noted r h;
    }
      where
        on : (r : ℕ) (b : Bool) → is_some (entry_at own-key r told) ≡ (is_some (request_in kept r) && has r ks) → is_some (if b then None else entry_at own-key r told) ≡ (is_some (if b then None else request_in kept r) && has r ks)
        on r true e = refl
        on r false e = e

  -- one is settled
  module _ (n : ℕ) (x : Request) (here : request_in all n ≡ Some x) where
    abbrev now : List ℕ
    now = marked n ks

    numbered : x.number ≡ n
    numbered = entry_at-key number-of n x all here

    lingers-other : (y : Request) → (y.number == n) ≡ false → lingers now y ≡ lingers ks y
    lingers-other y e = ap (λ b. not (b && is_done y.phase)) (has-marked y.number n ks ∙ off (has y.number ks) (n == y.number) (grind (arith, common_steps, e)))
      where
        off : (b d : Bool) → d ≡ false → (b || d) ≡ b
        off true d f = refl
        off false d f = f

    has-now : (r : ℕ) → has r now ≡ (has r ks || (n == r))
    has-now r = has-marked r n ks

    still-noted : (r : ℕ) → has r now ≡ true → is_some (request_in all r) ≡ true
    still-noted r h = on (has r ks) (n == r) refl refl (sym (has-now r) ∙ h)
      where
        on : (b d : Bool) → has r ks ≡ b → (n == r) ≡ d → (b || d) ≡ true → is_some (request_in all r) ≡ true
        on true d e f g = z.noted r e
        on false true e f g = subst (λ k. is_some (request_in all k) ≡ true) (same-number n r f) (ap is_some here)
        on false false e f g = cc

    -- those of other numbers stay as they were
    none-filter : (ys : List Request) → among n (map number-of ys) ≡ false → filter (lingers now) ys ≡ others number-of n (filter (lingers ks) ys)
    none-filter [] h = refl
    none-filter (y ∷ ys) h = on (y.number == n) (lingers ks y) refl refl (none-filter ys)
      where
        on : (b d : Bool) → (y.number == n) ≡ b → lingers ks y ≡ d → (among n (map number-of ys) ≡ false → filter (lingers now) ys ≡ others number-of n (filter (lingers ks) ys)) → filter (lingers now) (y ∷ ys) ≡ others number-of n (filter (lingers ks) (y ∷ ys))
        on true d e f more = let k : among n (map number-of (y ∷ ys)) ≡ true = rw e refl in cc
        on false true e f more = rw (lingers-other y e, f, e) (ap (λ zs. y ∷ zs) (more (grind (arith, common_steps, h))))
        on false false e f more = rw (lingers-other y e, f) (more (grind (arith, common_steps, h)))

    none-same : (ys : List Request) → among n (map number-of ys) ≡ false → filter (lingers now) ys ≡ filter (lingers ks) ys
    none-same [] h = refl
    none-same (y ∷ ys) h = on (y.number == n) (lingers ks y) refl refl (none-same ys)
      where
        on : (b d : Bool) → (y.number == n) ≡ b → lingers ks y ≡ d → (among n (map number-of ys) ≡ false → filter (lingers now) ys ≡ filter (lingers ks) ys) → filter (lingers now) (y ∷ ys) ≡ filter (lingers ks) (y ∷ ys)
        on true d e f more = let k : among n (map number-of (y ∷ ys)) ≡ true = rw e refl in cc
        on false true e f more = rw (lingers-other y e, f) (ap (λ zs. y ∷ zs) (more (grind (arith, common_steps, h))))
        on false false e f more = rw (lingers-other y e, f) (more (grind (arith, common_steps, h)))

    behind : (y : Request) (ys : List Request) → apart (map number-of (y ∷ ys)) ≡ true → (y.number == n) ≡ true → among n (map number-of ys) ≡ false
    behind y ys a e = subst (λ k. among k (map number-of ys) ≡ false) (same-number y.number n e) (apart-first y.number (map number-of ys) a)

    -- it is over or has ended, and was open: it leaves
    module _ (done : is_done x.phase ≡ true) (stood : lingers ks x ≡ true) where
      unsettled : has n ks ≡ false
      unsettled = on (has n ks) refl
        where
          on : (b : Bool) → has n ks ≡ b → b ≡ false
          on true e = let k : lingers ks x ≡ false = rw (numbered, e, done) refl in cc
          on false e = refl

      gone : lingers now x ≡ false
      gone = rw (numbered, has-now n, own-number n, done) (off (has n ks))
        where
          off : (b : Bool) → not ((b || true) && true) ≡ false
          off true = refl
          off false = refl

      done-filter : (ys : List Request) → apart (map number-of ys) ≡ true → request_in ys n ≡ Some x → filter (lingers now) ys ≡ others number-of n (filter (lingers ks) ys)
      done-filter [] a e = cc
      done-filter (y ∷ ys) a e = on (y.number == n) (lingers ks y) refl refl (done-filter ys (apart-rest y.number (map number-of ys) a))
        where
          on : (b d : Bool) → (y.number == n) ≡ b → lingers ks y ≡ d → (request_in ys n ≡ Some x → filter (lingers now) ys ≡ others number-of n (filter (lingers ks) ys)) → filter (lingers now) (y ∷ ys) ≡ others number-of n (filter (lingers ks) (y ∷ ys))
          on true d f g more =
              let w : y ≡ x = grind (arith, common_steps, e, f) in
              let off : lingers now y ≡ false = ap (lingers now) w ∙ gone in
              let was : lingers ks y ≡ true = ap (lingers ks) w ∙ stood in
              rw (off, was, f) (none-filter ys (behind y ys a f))
          on false true f g more = rw (lingers-other y f, g, f) (ap (λ zs. y ∷ zs) (more (grind (arith, common_steps, e, f))))
          on false false f g more = rw (lingers-other y f, g) (more (grind (arith, common_steps, e, f)))

      pub done-fits : RequestsFit all now (others number-of n kept) told alone known
      done-fits = record {
        single = z.single;
        kept_is = ap (others number-of n) z.kept_is ∙ sym (done-filter all z.single here);
        told_is = λ r. z.told_is r ∙ (on r (n == r) refl ∙ ap (λ o. is_some o && has r now) (sym (entry_at-others number-of r n kept)));
        known_is = z.known_is;
        noted = still-noted;
      }
        where
          and-false : (b : Bool) → (b && false) ≡ false
          and-false true = refl
          and-false false = refl

          or-false : (b : Bool) → (b || false) ≡ b
          or-false true = refl
          or-false false = refl

          on : (r : ℕ) (b : Bool) → (n == r) ≡ b → (is_some (request_in kept r) && has r ks) ≡ (is_some (if n == r then None else request_in kept r) && has r now)
          on r true e = rw (← same-number n r e, unsettled, own-number n) (and-false (is_some (request_in kept n)))
          on r false e = rw (e, has-now r, e) (ap (λ b. is_some (request_in kept r) && b) (sym (or-false (has r ks))))

    -- it is queued or given: it is told
    module _ (undone : is_done x.phase ≡ false) where
      stays-then : (js : List ℕ) → lingers js x ≡ true
      stays-then js = rw undone (off (has x.number js))
        where
          off : (b : Bool) → not (b && false) ≡ true
          off true = refl
          off false = refl

      open-filter : (ys : List Request) → apart (map number-of ys) ≡ true → request_in ys n ≡ Some x → filter (lingers now) ys ≡ filter (lingers ks) ys
      open-filter [] a e = cc
      open-filter (y ∷ ys) a e = on (y.number == n) (lingers ks y) refl refl (open-filter ys (apart-rest y.number (map number-of ys) a))
        where
          on : (b d : Bool) → (y.number == n) ≡ b → lingers ks y ≡ d → (request_in ys n ≡ Some x → filter (lingers now) ys ≡ filter (lingers ks) ys) → filter (lingers now) (y ∷ ys) ≡ filter (lingers ks) (y ∷ ys)
          on true d f g more =
              let w : y ≡ x = grind (arith, common_steps, e, f) in
              let is : lingers now y ≡ true = ap (lingers now) w ∙ stays-then now in
              let was : lingers ks y ≡ true = ap (lingers ks) w ∙ stays-then ks in
              rw (is, was) (ap (λ zs. y ∷ zs) (none-same ys (behind y ys a f)))
          on false true f g more = rw (lingers-other y f, g) (ap (λ zs. y ∷ zs) (more (grind (arith, common_steps, e, f))))
          on false false f g more = rw (lingers-other y f, g) (more (grind (arith, common_steps, e, f)))

      there-kept : is_some (request_in kept n) ≡ true
      there-kept = ap is_some (kept-at n ∙ ap (if_lingers ks) here) ∙ rw (stays-then ks) refl

      pub told-fits : RequestsFit all now kept (put own-key n told) alone known
      told-fits = record {
        single = z.single;
        kept_is = z.kept_is ∙ sym (open-filter all z.single here);
        told_is = λ r. ap is_some (entry_at-put own-key r n told) ∙ on r (n == r) refl;
        known_is = z.known_is;
        noted = still-noted;
      }
        where
          or-false : (b : Bool) → (b || false) ≡ b
          or-false true = refl
          or-false false = refl

          or-true : (b : Bool) → (b || true) ≡ true
          or-true true = refl
          or-true false = refl

          on : (r : ℕ) (b : Bool) → (n == r) ≡ b → is_some (if n == r then Some n else entry_at own-key r told) ≡ (is_some (request_in kept r) && has r now)
          on r true e = rw (e, has-now r, e, ← same-number n r e, there-kept) (sym (or-true (has n ks)))
          on r false e = rw (e, has-now r, e) (z.told_is r ∙ ap (λ b. is_some (request_in kept r) && b) (sym (or-false (has r ks))))

    -- it has left: it was settled
    pub gone-settled : lingers ks x ≡ false → ks ≡ now
    gone-settled left = marked-again n ks (on (has n ks) refl)
      where
        on : (b : Bool) → has n ks ≡ b → has n ks ≡ true
        on true e = e
        on false e = let k : lingers ks x ≡ true = rw (numbered, e) refl in cc

  -- whether one came where no numbers are kept, and it can be told
  pub knows-not : (n : ℕ) → alone ≡ false → (alone || not (is_some (request_in all n))) ≡ true → is_some (request_in all n) ≡ false
  knows-not n none can = off (is_some (request_in all n)) (sym (ap (λ b. b || not (is_some (request_in all n))) none) ∙ can)
    where
      off : (b : Bool) → (false || not b) ≡ true → b ≡ false
      off true e = cc
      off false e = refl

  -- one that memory has not is settled
  pub left-settled : (n : ℕ) → is_some (request_in all n) ≡ true → request_in kept n ≡ None → ks ≡ marked n ks
  left-settled n came none = on (request_in all n) refl came
    where
      on : (o : Option Request) → request_in all n ≡ o → is_some o ≡ true → ks ≡ marked n ks
      on None e g = cc
      on (Some x) e g = in-two (lingers ks x) refl
        where
          in-two : (b : Bool) → lingers ks x ≡ b → ks ≡ marked n ks
          in-two true f = let k : request_in kept n ≡ Some x = kept-at n ∙ (ap (if_lingers ks) e ∙ rw f refl) in cc
          in-two false f = gone-settled n x e f

  -- one that memory has is there, and has not left
  pub found-kept : (n : ℕ) (x : Request) → request_in kept n ≡ Some x → (request_in all n ≡ Some x) × (lingers ks x ≡ true)
  found-kept n x found = on (request_in all n) refl (sym (kept-at n) ∙ found)
    where
      on : (o : Option Request) → request_in all n ≡ o → if_lingers ks (request_in all n) ≡ Some x → (request_in all n ≡ Some x) × (lingers ks x ≡ true)
      on None e g = let k : if_lingers ks (request_in all n) ≡ None = ap (if_lingers ks) e in cc
      on (Some y) e g = in-two (lingers ks y) refl
        where
          in-two : (b : Bool) → lingers ks y ≡ b → (request_in all n ≡ Some x) × (lingers ks x ≡ true)
          in-two true f =
              let k : if_lingers ks (request_in all n) ≡ Some y = ap (if_lingers ks) e ∙ rw f refl in
              let w : y ≡ x = cc in
              (e ∙ ap Some w, ap (lingers ks) (sym w) ∙ f)
          in-two false f = let k : if_lingers ks (request_in all n) ≡ None = ap (if_lingers ks) e ∙ rw f refl in cc

  -- a request is open where it has not left, asked, and is not settled
  pub open-now : (n : ℕ) → request_in kept n ≡ None → (is_asked_at (request_in all n) && not (has n ks)) ≡ false
  open-now n none = on (request_in all n) refl
    where
      on : (o : Option Request) → request_in all n ≡ o → (is_asked_at o && not (has n ks)) ≡ false
      on None e = refl
      on (Some q) e = in-two (lingers ks q) refl
        where
          in-two : (b : Bool) → lingers ks q ≡ b → (not q.took && not (has n ks)) ≡ false
          in-two true f = let k : request_in kept n ≡ Some q = kept-at n ∙ (ap (if_lingers ks) e ∙ rw f refl) in cc
          in-two false f = rw (settled (has n ks) refl) (and-false (not q.took))
            where
              settled : (b : Bool) → has n ks ≡ b → has n ks ≡ true
              settled true g = g
              settled false g = let k : lingers ks q ≡ true = rw (entry_at-key number-of n q all e, g) refl in cc

              and-false : (b : Bool) → (b && false) ≡ false
              and-false true = refl
              and-false false = refl

-- nothing came
pub nothing-asked : (alone : Bool) → RequestsFit [] [] [] [] alone []
nothing-asked alone = record { single = refl; kept_is = refl; told_is = λ r. refl; known_is = λ a r. refl; noted = λ r h. cc }

-- the queued ones are those of all
pub queued-kept : (p : Request → Bool) (ks : List ℕ) (qs : List Request) → ((q : Request) → p q ≡ true → is_done q.phase ≡ false) → filter p (filter (lingers ks) qs) ≡ filter p qs
queued-kept p ks [] f = refl
queued-kept p ks (q ∷ qs) f = on (p q) (lingers ks q) refl refl (queued-kept p ks qs f)
  where
    on : (b d : Bool) → p q ≡ b → lingers ks q ≡ d → filter p (filter (lingers ks) qs) ≡ filter p qs → filter p (filter (lingers ks) (q ∷ qs)) ≡ filter p (q ∷ qs)
    on true true e g r = rw (g, e) (ap (λ zs. q ∷ zs) r)
    on true false e g r = let k : lingers ks q ≡ true = rw (f q e) (off (has q.number ks)) in cc
      where
        off : (b : Bool) → not (b && false) ≡ true
        off true = refl
        off false = refl
    on false true e g r = rw (g, e) r
    on false false e g r = rw (g, e) r

-- so is the first of them
pub first-kept : (p : Request → Bool) (ks : List ℕ) (qs : List Request) → ((q : Request) → p q ≡ true → is_done q.phase ≡ false) → find p (filter (lingers ks) qs) ≡ find p qs
first-kept p ks [] f = refl
first-kept p ks (q ∷ qs) f = on (p q) (lingers ks q) refl refl (first-kept p ks qs f)
  where
    on : (b d : Bool) → p q ≡ b → lingers ks q ≡ d → find p (filter (lingers ks) qs) ≡ find p qs → find p (filter (lingers ks) (q ∷ qs)) ≡ find p (q ∷ qs)
    on true true e g r = rw (g, e) refl
    on true false e g r = let k : lingers ks q ≡ true = rw (f q e) (off (has q.number ks)) in cc
      where
        off : (b : Bool) → not (b && false) ≡ true
        off true = refl
        off false = refl
    on false true e g r = rw (g, e) r
    on false false e g r = rw (g, e) r

-- a queued request is neither over nor ended
pub queued-open : (q : Request) → is_queued q.phase ≡ true → is_done q.phase ≡ false
queued-open q e = on q.phase refl e
  where
    on : (p : Phase) → q.phase ≡ p → is_queued p ≡ true → is_done q.phase ≡ false
    on Queued f h = rw f refl
    on (Given c) f h = cc
    on Over f h = cc
    on (EndedPhase end) f h = cc

pub warm-open : (q : Request) → (is_queued q.phase && q.warm) ≡ true → is_done q.phase ≡ false
warm-open q e = queued-open q (left-of (is_queued q.phase) q.warm e)
  where
    left-of : (a b : Bool) → (a && b) ≡ true → a ≡ true
    left-of true b h = refl
    left-of false b h = cc
