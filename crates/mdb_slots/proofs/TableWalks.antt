-- Walks along the values of a table.
use Rattle.std.proofs.Common.{◌≡◌, ℕ, ◌==◌, if◌then◌else◌, Bool, true, false, Option, Some, None, List, [], ◌∷◌, refl, sym, ◌∙◌, ap, subst}
use Rattle.mdb_slots.specs.Lists.{head_or, last_or, next, previous}
use Rattle.mdb_slots.specs.Links.{Order}
use Rattle.mdb_slots.specs.SlotIndex.{slot_of}
use Rattle.mdb_slots.specs.Keyed.{entry_at, entry_after, entry_before, preceding, first_of, last_of, last_after}
use Rattle.mdb_slots.specs.Cells.{cell_at, at_place, after_cell, values, keyed, Pointed, Points}
use Rattle.mdb_slots.specs.Table.{Holds}
use Rattle.mdb_slots.proofs.Numbers.{same-number}
use Rattle.mdb_slots.proofs.Pointing.{not-keyed}
use Rattle.mdb_slots.proofs.TableChanges.{get-none}

module _ {T : Type 0} (key : T → ℕ) where
  front : (cs : List (Option T)) (m : ℕ → Option ℕ) (us : List ℕ) → Points key cs m us → first_of (values cs us) ≡ at_place cs (head_or None us)
  front cs m [] p = refl
  front cs m (x ∷ xs) p = on (cell_at cs x) p.0
    where
      on : (c : Option T) → Pointed key m c x → first_of (after_cell c (values cs xs)) ≡ c
      on None q = absurd q
      on (Some y) q = refl

  follow : (cs : List (Option T)) (m : ℕ → Option ℕ) (us : List ℕ) (k s : ℕ) → Points key cs m us → m k ≡ Some s → keyed key k (cell_at cs s) ≡ true → entry_after key k (values cs us) ≡ at_place cs (next s us)
  follow cs m [] k s p e f = refl
  follow cs m (x ∷ xs) k s p e f = on (x == s) refl (follow cs m xs k s p.1 e f)
    where
      hit : (c : Option T) → keyed key k c ≡ true → entry_after key k (after_cell c (values cs xs)) ≡ first_of (values cs xs)
      hit None h = cc
      hit (Some y) h = rw h refl

      miss : (c : Option T) → keyed key k c ≡ false → entry_after key k (after_cell c (values cs xs)) ≡ entry_after key k (values cs xs)
      miss None h = refl
      miss (Some y) h = rw h refl

      on : (d : Bool) → (x == s) ≡ d → entry_after key k (values cs xs) ≡ at_place cs (next s xs) → entry_after key k (values cs (x ∷ xs)) ≡ at_place cs (next s (x ∷ xs))
      on true w r =
          let h : keyed key k (cell_at cs x) ≡ true = subst (λ (j : ℕ). keyed key k (cell_at cs j) ≡ true) (sym (same-number x s w)) f in
          rw w (hit (cell_at cs x) h ∙ front cs m xs p.1)
      on false w r = rw w (miss (cell_at cs x) (not-keyed key m (cell_at cs x) x s k p.0 e w) ∙ r)

  nothing-follows : (k : ℕ) (xs : List T) → entry_at key k xs ≡ None → entry_after key k xs ≡ None
  nothing-follows k [] e = refl
  nothing-follows k (x ∷ xs) e = on (key x == k) refl (nothing-follows k xs) e
    where
      on : (d : Bool) → (key x == k) ≡ d → (entry_at key k xs ≡ None → entry_after key k xs ≡ None) → entry_at key k (x ∷ xs) ≡ None → entry_after key k (x ∷ xs) ≡ None
      on true w more f = let g : entry_at key k (x ∷ xs) ≡ Some x = rw w refl in let z : None ≡ Some x = sym f ∙ g in cc
      on false w more f = let g : entry_at key k (x ∷ xs) ≡ entry_at key k xs = rw w refl in rw w (more (sym g ∙ f))

  -- the first value, and the one that follows another
  pub first-there : {cs : List (Option T)} {ns : List (Option ℕ)} {o : Order} → Holds key cs ns o → first_of (values cs o.used) ≡ at_place cs (head_or None o.used)
  first-there {cs = cs} {ns = ns} {o = o} h = front cs (λ q. slot_of q ns) o.used h.indexed.points

  pub after-there : {cs : List (Option T)} {ns : List (Option ℕ)} {o : Order} → Holds key cs ns o → (k s : ℕ) → slot_of k ns ≡ Some s → entry_after key k (values cs o.used) ≡ at_place cs (next s o.used)
  after-there {cs = cs} {ns = ns} {o = o} h k s e = follow cs (λ q. slot_of q ns) o.used k s h.indexed.points e (h.indexed.back k s e)

  pub after-absent : {cs : List (Option T)} {ns : List (Option ℕ)} {o : Order} → Holds key cs ns o → (k : ℕ) → slot_of k ns ≡ None → entry_after key k (values cs o.used) ≡ None
  after-absent {cs = cs} {o = o} h k e = nothing-follows k (values cs o.used) (get-none key h.indexed k e)

  back : (cs : List (Option T)) (m : ℕ → Option ℕ) (p : Option ℕ) (us : List ℕ) → Points key cs m us → last_after (at_place cs p) (values cs us) ≡ at_place cs (last_or p us)
  back cs m p [] q = refl
  back cs m p (x ∷ xs) q = on (cell_at cs x) refl q.0 (back cs m (Some x) xs q.1)
    where
      on : (c : Option T) → cell_at cs x ≡ c → Pointed key m c x → last_after (cell_at cs x) (values cs xs) ≡ at_place cs (last_or (Some x) xs) → last_after (at_place cs p) (after_cell c (values cs xs)) ≡ at_place cs (last_or (Some x) xs)
      on None e r h = absurd r
      on (Some y) e r h = ap (λ c. last_after c (values cs xs)) (sym e) ∙ h

  precede : (cs : List (Option T)) (m : ℕ → Option ℕ) (p : Option ℕ) (us : List ℕ) (k s : ℕ) → Points key cs m us → m k ≡ Some s → keyed key k (cell_at cs s) ≡ true → preceding key (at_place cs p) k (values cs us) ≡ at_place cs (previous p s us)
  precede cs m p [] k s q e f = refl
  precede cs m p (x ∷ xs) k s q e f = on (x == s) refl (cell_at cs x) refl q.0 (precede cs m (Some x) xs k s q.1 e f)
    where
      on : (d : Bool) → (x == s) ≡ d → (c : Option T) → cell_at cs x ≡ c → Pointed key m c x → preceding key (cell_at cs x) k (values cs xs) ≡ at_place cs (previous (Some x) s xs) → preceding key (at_place cs p) k (after_cell c (values cs xs)) ≡ at_place cs (if x == s then p else previous (Some x) s xs)
      on d w None g r h = absurd r
      on true w (Some y) g r h =
          let z : keyed key k (cell_at cs x) ≡ true = subst (λ (j : ℕ). keyed key k (cell_at cs j) ≡ true) (sym (same-number x s w)) f in
          let v : (key y == k) ≡ true = subst (λ (c : Option T). keyed key k c ≡ true) g z in
          rw (w, v) refl
      on false w (Some y) g r h =
          let v : (key y == k) ≡ false = not-keyed key m (Some y) x s k r e w in
          rw (w, v) (ap (λ c. preceding key c k (values cs xs)) (sym g) ∙ h)

  nothing-precedes : (p : Option T) (k : ℕ) (xs : List T) → entry_at key k xs ≡ None → preceding key p k xs ≡ None
  nothing-precedes p k [] e = refl
  nothing-precedes p k (x ∷ xs) e = on (key x == k) refl (nothing-precedes (Some x) k xs) e
    where
      on : (d : Bool) → (key x == k) ≡ d → (entry_at key k xs ≡ None → preceding key (Some x) k xs ≡ None) → entry_at key k (x ∷ xs) ≡ None → preceding key p k (x ∷ xs) ≡ None
      on true w more f = let g : entry_at key k (x ∷ xs) ≡ Some x = rw w refl in let z : None ≡ Some x = sym f ∙ g in cc
      on false w more f = let g : entry_at key k (x ∷ xs) ≡ entry_at key k xs = rw w refl in rw w (more (sym g ∙ f))

  -- the last value, and the one that precedes another
  pub last-there : {cs : List (Option T)} {ns : List (Option ℕ)} {o : Order} → Holds key cs ns o → last_of (values cs o.used) ≡ at_place cs (last_or None o.used)
  last-there {cs = cs} {ns = ns} {o = o} h = back cs (λ q. slot_of q ns) None o.used h.indexed.points

  pub before-there : {cs : List (Option T)} {ns : List (Option ℕ)} {o : Order} → Holds key cs ns o → (k s : ℕ) → slot_of k ns ≡ Some s → entry_before key k (values cs o.used) ≡ at_place cs (previous None s o.used)
  before-there {cs = cs} {ns = ns} {o = o} h k s e = precede cs (λ q. slot_of q ns) None o.used k s h.indexed.points e (h.indexed.back k s e)

  pub before-absent : {cs : List (Option T)} {ns : List (Option ℕ)} {o : Order} → Holds key cs ns o → (k : ℕ) → slot_of k ns ≡ None → entry_before key k (values cs o.used) ≡ None
  before-absent {cs = cs} {o = o} h k e = nothing-precedes None k (values cs o.used) (get-none key h.indexed k e)
