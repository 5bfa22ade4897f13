-- Records in the slots of a list.
use Rattle.std.proofs.Common.{◌≡◌, ℕ, suc, ◌<◌, ◌≤◌, Bool, true, false, ◌==◌, ◌||◌, ◌&&◌, if◌then◌else◌, Option, Some, None, IfSome, List, [], ◌∷◌, ◌++◌, length, refl, sym, ◌∙◌, ap, subst, arith, set, get_or-set_same, get_or-set_other}
use Rattle.std.proofs.lemmas.Grind.{common_steps}
use Rattle.mdb_slots.specs.declared.records.Record.{Record}
use Rattle.mdb_slots.specs.declared.records.SlotRef.{SlotRef}
use Rattle.mdb_slots.specs.Lists.{has, head_or, last_or, next, previous, without}
use Rattle.mdb_slots.specs.Items.{Item, record_at, item_at, items_at, Below, ref_of, is_at, lists, dropped, oldest_of, newest_after, newer, older_after, slots_of, name_at}
use Rattle.mdb_slots.specs.Cells.{cell_at}
use Rattle.mdb_slots.proofs.Lists.{has-without}
use Rattle.mdb_slots.proofs.Chains.{ne-of, rest-of, last-has}
use Rattle.mdb_slots.proofs.Layouts.{has-first}

pub items-length : (rs : List (Option Record)) (ks : List ℕ) → length (items_at rs ks) ≡ length ks
items-length rs [] = refl
items-length rs (x ∷ xs) = ap (λ n. suc n) (items-length rs xs)

pub items-slots : (rs : List (Option Record)) (ks : List ℕ) → slots_of (items_at rs ks) ≡ ks
items-slots rs [] = refl
items-slots rs (x ∷ xs) = ap (λ zs. x ∷ zs) (items-slots rs xs)

pub items-append : (rs : List (Option Record)) (ks : List ℕ) (k : ℕ) → items_at rs (ks ++ k ∷ []) ≡ items_at rs ks ++ item_at rs k ∷ []
items-append rs [] k = refl
items-append rs (x ∷ xs) k = ap (λ zs. item_at rs x ∷ zs) (items-append rs xs k)

-- other cells are read as before
pub items-same : (rs ss : List (Option Record)) (ks : List ℕ) → ((k : ℕ) → cell_at ss k ≡ cell_at rs k) → items_at ss ks ≡ items_at rs ks
items-same rs ss [] h = refl
items-same rs ss (x ∷ xs) h = rw (h x, items-same rs ss xs h) refl

-- a write to a slot that is not of the list
pub items-set : (rs : List (Option Record)) (k : ℕ) (r : Option Record) (ks : List ℕ) → has k ks ≡ false → items_at (set rs k r) ks ≡ items_at rs ks
items-set rs k r [] e = refl
items-set rs k r (x ∷ xs) e = rw (get_or-set_other rs k x r None (ne-of x k xs e), items-set rs k r xs (rest-of x k xs e)) refl

pub below-more : (n m : ℕ) (ks : List ℕ) → n ≤ m → Below n ks → Below m ks
below-more n m [] h b = tt
below-more n m (x ∷ xs) h b = (omega (arith, h, b.0), below-more n m xs h b.1)

pub below-append : (n : ℕ) (ks : List ℕ) (k : ℕ) → Below n ks → k < n → Below n (ks ++ k ∷ [])
below-append n [] k b h = (h, tt)
below-append n (x ∷ xs) k b h = (b.0, below-append n xs k b.1 h)

pub below-without : (n : ℕ) (k : ℕ) (ks : List ℕ) → Below n ks → Below n (without k ks)
below-without n k [] b = tt
below-without n k (x ∷ xs) b = on (x == k) (below-without n k xs b.1)
  where
    on : (v : Bool) → Below n (without k xs) → Below n (if v then without k xs else (x ∷ without k xs))
    on true r = r
    on false r = (b.0, r)

pub below-member : (n k : ℕ) (ks : List ℕ) → Below n ks → has k ks ≡ true → k < n
below-member n k [] b e = cc
below-member n k (x ∷ xs) b e = on (x == k) refl (below-member n k xs b.1)
  where
    on : (v : Bool) → (x == k) ≡ v → (has k xs ≡ true → k < n) → k < n
    on true w more = let h : x ≡ k = grind (arith, common_steps, w) in omega (arith, h, b.0)
    on false w more = more (grind (arith, common_steps, w, e))

has-more : (x j : ℕ) (xs : List ℕ) → has j xs ≡ true → has j (x ∷ xs) ≡ true
has-more x j xs e = grind (arith, common_steps, e)

more : (x : ℕ) (xs : List ℕ) (o : Option ℕ) → IfSome o (λ j. has j xs ≡ true) → IfSome o (λ j. has j (x ∷ xs) ≡ true)
more x xs None h = tt
more x xs (Some j) h = has-more x j xs h

-- the ends of a list and the neighbours of its members are members
pub member-head : (ks : List ℕ) → IfSome (head_or None ks) (λ j. has j ks ≡ true)
member-head [] = tt
member-head (x ∷ xs) = has-first x xs

pub member-last : (ks : List ℕ) → IfSome (last_or None ks) (λ j. has j ks ≡ true)
member-last [] = tt
member-last (x ∷ xs) = on (last_or (Some x) xs) refl
  where
    on : (o : Option ℕ) → last_or (Some x) xs ≡ o → IfSome o (λ j. has j (x ∷ xs) ≡ true)
    on None e = tt
    on (Some j) e = last-has x xs j e

pub member-next : (k : ℕ) (ks : List ℕ) → IfSome (next k ks) (λ j. has j ks ≡ true)
member-next k [] = tt
member-next k (x ∷ xs) = on (x == k) (member-next k xs)
  where
    on : (v : Bool) → IfSome (next k xs) (λ j. has j xs ≡ true) → IfSome (if v then head_or None xs else next k xs) (λ j. has j (x ∷ xs) ≡ true)
    on true r = more x xs (head_or None xs) (member-head xs)
    on false r = more x xs (next k xs) r

previous-in : (k : ℕ) (p : Option ℕ) (xs us : List ℕ) → IfSome p (λ j. has j us ≡ true) → ((j : ℕ) → has j xs ≡ true → has j us ≡ true) → IfSome (previous p k xs) (λ j. has j us ≡ true)
previous-in k p [] us h g = tt
previous-in k p (x ∷ xs) us h g = on (x == k) (previous-in k (Some x) xs us (g x (has-first x xs)) (λ j e. g j (has-more x j xs e)))
  where
    on : (v : Bool) → IfSome (previous (Some x) k xs) (λ j. has j us ≡ true) → IfSome (if v then p else previous (Some x) k xs) (λ j. has j us ≡ true)
    on true r = h
    on false r = r

pub member-previous : (k : ℕ) (ks : List ℕ) → IfSome (previous None k ks) (λ j. has j ks ≡ true)
member-previous k ks = previous-in k None ks ks tt (λ j e. e)

pub oldest-items : (rs : List (Option Record)) (ks : List ℕ) → oldest_of (items_at rs ks) ≡ name_at rs (head_or None ks)
oldest-items rs [] = refl
oldest-items rs (x ∷ xs) = refl

pub newest-items : (rs : List (Option Record)) (p : Option ℕ) (ks : List ℕ) → newest_after (name_at rs p) (items_at rs ks) ≡ name_at rs (last_or p ks)
newest-items rs p [] = refl
newest-items rs p (x ∷ xs) = newest-items rs (Some x) xs

pub lists-items : (rs : List (Option Record)) (r : SlotRef) (ks : List ℕ) → lists r (items_at rs ks) ≡ (has r.slot ks && (record_at rs r.slot).id == r.id)
lists-items rs r [] = refl
lists-items rs r (x ∷ xs) = on (x == r.slot) refl (lists-items rs r xs)
  where
    on : (v : Bool) → (x == r.slot) ≡ v → lists r (items_at rs xs) ≡ (has r.slot xs && (record_at rs r.slot).id == r.id) → lists r (items_at rs (x ∷ xs)) ≡ (has r.slot (x ∷ xs) && (record_at rs r.slot).id == r.id)
    on true w e = let h : x ≡ r.slot = grind (arith, common_steps, w) in rw (h, e) (grind (arith, common_steps))
    on false w e = rw (w, e) refl

pub newer-items : (rs : List (Option Record)) (r : SlotRef) (ks : List ℕ) → ((record_at rs r.slot).id == r.id) ≡ true → newer r (items_at rs ks) ≡ name_at rs (next r.slot ks)
newer-items rs r [] i = refl
newer-items rs r (x ∷ xs) i = on (x == r.slot) refl (newer-items rs r xs i)
  where
    on : (v : Bool) → (x == r.slot) ≡ v → newer r (items_at rs xs) ≡ name_at rs (next r.slot xs) → newer r (items_at rs (x ∷ xs)) ≡ name_at rs (next r.slot (x ∷ xs))
    on true w e =
        let h : x ≡ r.slot = grind (arith, common_steps, w) in
        let g : ((record_at rs x).id == r.id) ≡ true = subst (λ (k : ℕ). ((record_at rs k).id == r.id) ≡ true) (sym h) i in
        rw (w, g) (oldest-items rs xs)
    on false w e = rw w e

pub older-items : (rs : List (Option Record)) (r : SlotRef) (p : Option ℕ) (ks : List ℕ) → ((record_at rs r.slot).id == r.id) ≡ true → older_after (name_at rs p) r (items_at rs ks) ≡ name_at rs (previous p r.slot ks)
older-items rs r p [] i = refl
older-items rs r p (x ∷ xs) i = on (x == r.slot) refl (older-items rs r (Some x) xs i)
  where
    on : (v : Bool) → (x == r.slot) ≡ v → older_after (name_at rs (Some x)) r (items_at rs xs) ≡ name_at rs (previous (Some x) r.slot xs) → older_after (name_at rs p) r (items_at rs (x ∷ xs)) ≡ name_at rs (previous p r.slot (x ∷ xs))
    on true w e =
        let h : x ≡ r.slot = grind (arith, common_steps, w) in
        let g : ((record_at rs x).id == r.id) ≡ true = subst (λ (k : ℕ). ((record_at rs k).id == r.id) ≡ true) (sym h) i in
        rw (w, g) refl
    on false w e = rw w e

pub dropped-items : (rs : List (Option Record)) (r : SlotRef) (ks : List ℕ) → ((record_at rs r.slot).id == r.id) ≡ true → dropped r (items_at rs ks) ≡ items_at rs (without r.slot ks)
dropped-items rs r [] i = refl
dropped-items rs r (x ∷ xs) i = on (x == r.slot) refl (dropped-items rs r xs i)
  where
    on : (v : Bool) → (x == r.slot) ≡ v → dropped r (items_at rs xs) ≡ items_at rs (without r.slot xs) → dropped r (items_at rs (x ∷ xs)) ≡ items_at rs (without r.slot (x ∷ xs))
    on true w e =
        let h : x ≡ r.slot = grind (arith, common_steps, w) in
        let g : ((record_at rs x).id == r.id) ≡ true = subst (λ (k : ℕ). ((record_at rs k).id == r.id) ≡ true) (sym h) i in
        rw (w, g) e
    on false w e = rw w (ap (λ zs. item_at rs x ∷ zs) e)

pub absent-is : (r : SlotRef) (i : Item) (is : List Item) → lists r (i ∷ is) ≡ false → (is_at r i ≡ false) × (lists r is ≡ false)
absent-is r i is e = on (is_at r i) (lists r is) e
  where
    on : (a b : Bool) → (a || b) ≡ false → (a ≡ false) × (b ≡ false)
    on true b e = cc
    on false b e = (refl, e)

pub dropped-absent : (r : SlotRef) (is : List Item) → lists r is ≡ false → dropped r is ≡ is
dropped-absent r [] e = refl
dropped-absent r (i ∷ is) e = let a = absent-is r i is e in rw (a.0, dropped-absent r is a.1) refl

pub newer-absent : (r : SlotRef) (is : List Item) → lists r is ≡ false → newer r is ≡ None
newer-absent r [] e = refl
newer-absent r (i ∷ is) e = let a = absent-is r i is e in rw a.0 (newer-absent r is a.1)

pub older-absent : (p : Option SlotRef) (r : SlotRef) (is : List Item) → lists r is ≡ false → older_after p r is ≡ None
older-absent p r [] e = refl
older-absent p r (i ∷ is) e = let a = absent-is r i is e in rw a.0 (older-absent (Some (ref_of i)) r is a.1)

both : (a b : Bool) → (a && b) ≡ true → (a ≡ true) × (b ≡ true)
both true b e = (refl, e)
both false b e = cc

pub listed : (rs : List (Option Record)) (r : SlotRef) (ks : List ℕ) → lists r (items_at rs ks) ≡ true → (has r.slot ks ≡ true) × (((record_at rs r.slot).id == r.id) ≡ true)
listed rs r ks e = both (has r.slot ks) ((record_at rs r.slot).id == r.id) (sym (lists-items rs r ks) ∙ e)

pub lists-some : (rs : List (Option Record)) (r : SlotRef) (ks : List ℕ) (x : Record) → Some x ≡ cell_at rs r.slot → true ≡ has r.slot ks → (x.id == r.id) ≡ lists r (items_at rs ks)
lists-some rs r ks x e h = rw (lists-items rs r ks, ← h, ← e) refl

pub lists-none : (rs : List (Option Record)) (r : SlotRef) (ks : List ℕ) → false ≡ has r.slot ks → false ≡ lists r (items_at rs ks)
lists-none rs r ks h = rw (lists-items rs r ks, ← h) refl

-- a record comes
pub items-brought : (rs : List (Option Record)) (k : ℕ) (r : Record) (ks : List ℕ) → has k ks ≡ false → k < length rs → items_at (set rs k (Some r)) (ks ++ k ∷ []) ≡ items_at rs ks ++ record { slot = k; held = r } ∷ []
items-brought rs k r ks e h = rw (items-append (set rs k (Some r)) ks k, items-set rs k (Some r) ks e, get_or-set_same rs k (Some r) None h) refl

-- a record goes
pub items-taken : (rs : List (Option Record)) (r : SlotRef) (ks : List ℕ) → ((record_at rs r.slot).id == r.id) ≡ true → items_at (set rs r.slot None) (without r.slot ks) ≡ dropped r (items_at rs ks)
items-taken rs r ks i = items-set rs r.slot None (without r.slot ks) (has-without r.slot ks) ∙ sym (dropped-items rs r ks i)
