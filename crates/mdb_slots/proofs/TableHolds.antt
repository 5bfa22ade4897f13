-- What a table holds after a value came or went.
use Rattle.std.proofs.Common.{◌≡◌, ◌≢◌, ℕ, Bool, subst, ◌+◌, ◌<◌, ◌≤◌, ◌==◌, if◌then◌else◌, true, false, Option, Some, None, List, [], ◌∷◌, ◌++◌, length, refl, sym, arith, set, length-set, length-append}
use Rattle.std.proofs.lemmas.List.{set-set}
use Rattle.mdb_slots.specs.Lists.{has, without}
use Rattle.mdb_slots.specs.Links.{Order}
use Rattle.mdb_slots.specs.SlotIndex.{slot_of}
use Rattle.mdb_slots.specs.Keyed.{entry_at, others, swap}
use Rattle.mdb_slots.specs.Cells.{cell_at, at_place, values}
use Rattle.mdb_slots.specs.Table.{Holds}
use Rattle.mdb_slots.proofs.Lists.{length-without, has-without}
use Rattle.mdb_slots.proofs.Numbers.{same-number, is-same}
use Rattle.mdb_slots.proofs.TableChanges.{get-some, get-none, slot-within, removed, removed-values, indexed-same, values-same}
use Rattle.mdb_slots.proofs.TablePuts.{pushed, pushed-values, replaced, replaced-values, same-values, leads-nowhere}

module _ {T : Type 0} (key : T → ℕ) where
  -- the value in the slot that the index leads to
  pub entry-there : {cs : List (Option T)} {ns : List (Option ℕ)} {o : Order} → Holds key cs ns o → (k : ℕ) → entry_at key k (values cs o.used) ≡ at_place cs (slot_of k ns)
  entry-there {cs = cs} {ns = ns} {o = o} h k = on (slot_of k ns) refl
    where
      on : (s : Option ℕ) → slot_of k ns ≡ s → entry_at key k (values cs o.used) ≡ at_place cs s
      on None e = get-none key h.indexed k e
      on (Some s) e = get-some key h.indexed k s e

  pub there-member : {cs : List (Option T)} {ns : List (Option ℕ)} {o : Order} → Holds key cs ns o → (k s : ℕ) → slot_of k ns ≡ Some s → has s o.used ≡ true
  there-member h k s e = h.indexed.member k s e

  -- a value goes
  pub taken : {cs : List (Option T)} {ns : List (Option ℕ)} {o : Order} → Holds key cs ns o → (ms : List (Option ℕ)) (p : Order) (k s : ℕ) → slot_of k ns ≡ Some s → ((q : ℕ) → slot_of q ms ≡ if k == q then None else slot_of q ns) → length ms ≡ length ns → p.used ≡ without s o.used → p.spare ≡ o.spare + 1 → Holds key (set cs s None) ms p
  taken {cs = cs} {ns = ns} {o = o} h ms p k s e g l u v =
      let m : has s o.used ≡ true = h.indexed.member k s e in
      let w : length p.used + 1 ≤ length o.used = rw u (length-without s o.used m) in
      record {
        cells_long = rw (length-set cs s None) (omega (arith, w, v, h.cells_long));
        numbers_long = omega (arith, w, v, l, h.numbers_long);
        indexed = rw u (removed key h.indexed (λ q. slot_of q ms) k s e g);
      }

  pub taken-values : {cs : List (Option T)} {ns : List (Option ℕ)} {o : Order} → Holds key cs ns o → (p : Order) (k s : ℕ) → slot_of k ns ≡ Some s → p.used ≡ without s o.used → values (set cs s None) p.used ≡ others key k (values cs o.used)
  taken-values h p k s e u = rw u (removed-values key h.indexed k s e)

  -- a value comes
  pub brought : {cs : List (Option T)} {ns : List (Option ℕ)} {o : Order} → Holds key cs ns o → (ms : List (Option ℕ)) (p : Order) (x : T) (s : ℕ) → s < length o.used + o.spare → has s o.used ≡ false → slot_of (key x) ns ≡ None → ((q : ℕ) → slot_of q ms ≡ if key x == q then Some s else slot_of q ns) → length ms ≡ length ns → p.used ≡ o.used ++ s ∷ [] → p.spare + 1 ≡ o.spare → Holds key (set cs s (Some x)) ms p
  brought {cs = cs} {ns = ns} {o = o} h ms p x s b n e g l u v =
      let w : length p.used ≡ length o.used + 1 = rw u (length-append o.used (s ∷ [])) in
      let c : s < length cs = omega (arith, b, h.cells_long) in
      record {
        cells_long = rw (length-set cs s (Some x)) (omega (arith, w, v, h.cells_long));
        numbers_long = omega (arith, w, v, l, h.numbers_long);
        indexed = rw u (pushed key h.indexed (λ q. slot_of q ms) x s c n e g);
      }

  pub brought-values : {cs : List (Option T)} {ns : List (Option ℕ)} {o : Order} → Holds key cs ns o → (p : Order) (x : T) (s : ℕ) → s < length o.used + o.spare → has s o.used ≡ false → p.used ≡ o.used ++ s ∷ [] → values (set cs s (Some x)) p.used ≡ values cs o.used ++ x ∷ []
  brought-values {cs = cs} {o = o} h p x s b n u = rw u (pushed-values key cs o.used x s (omega (arith, b, h.cells_long)) n)

  -- a value takes the place of the one that had its number, and comes last
  pub renewed : {cs : List (Option T)} {ns : List (Option ℕ)} {o : Order} → Holds key cs ns o → (p : Order) (x : T) (s : ℕ) → slot_of (key x) ns ≡ Some s → p.used ≡ without s o.used ++ s ∷ [] → p.spare ≡ o.spare → Holds key (set cs s (Some x)) ns p
  renewed {cs = cs} {ns = ns} {o = o} h p x s e u v =
      let m : has s o.used ≡ true = h.indexed.member (key x) s e in
      let a : length (without s o.used) + 1 ≤ length o.used = length-without s o.used m in
      let b : length p.used ≡ length (without s o.used) + 1 = rw u (length-append (without s o.used) (s ∷ [])) in
      let c : s < length (set cs s None) = rw (length-set cs s None) (slot-within key h.indexed (key x) s e) in
      let n : (if key x == key x then None else slot_of (key x) ns) ≡ None = rw (is-same (key x)) refl in
      record {
        cells_long = rw (length-set cs s (Some x)) (omega (arith, a, b, v, h.cells_long));
        numbers_long = omega (arith, a, b, v, h.numbers_long);
        indexed = rw (u, ← set-set cs s None (Some x)) (pushed key (removed key h.indexed (λ q. if key x == q then None else slot_of q ns) (key x) s e (λ q. refl)) (λ q. slot_of q ns) x s c (has-without s o.used) n again);
      }
    where
      on : (q : ℕ) (b : Bool) → (key x == q) ≡ b → slot_of q ns ≡ if b then Some s else (if b then None else slot_of q ns)
      on q true w = subst (λ (j : ℕ). slot_of j ns ≡ Some s) (same-number (key x) q w) e
      on q false w = refl

      again : (q : ℕ) → slot_of q ns ≡ if key x == q then Some s else (if key x == q then None else slot_of q ns)
      again q = on q (key x == q) refl

  pub renewed-values : {cs : List (Option T)} {ns : List (Option ℕ)} {o : Order} → Holds key cs ns o → (p : Order) (x : T) (s : ℕ) → slot_of (key x) ns ≡ Some s → p.used ≡ without s o.used ++ s ∷ [] → values (set cs s (Some x)) p.used ≡ others key (key x) (values cs o.used) ++ x ∷ []
  renewed-values {cs = cs} {o = o} h p x s e u =
      let c : s < length (set cs s None) = rw (length-set cs s None) (slot-within key h.indexed (key x) s e) in
      rw (u, ← set-set cs s None (Some x), ← removed-values key h.indexed (key x) s e) (pushed-values key (set cs s None) (without s o.used) x s c (has-without s o.used))

  -- no number leads to a slot that is not in use
  pub nothing-leads : {cs : List (Option T)} {ns : List (Option ℕ)} {o : Order} → Holds key cs ns o → (s : ℕ) → has s o.used ≡ false → (q : ℕ) → slot_of q ns ≢ Some s
  nothing-leads h s n q e = let m = h.indexed.member q s e in cc

  -- a number of no value leads nowhere
  pub absent-slot : {cs : List (Option T)} {ns : List (Option ℕ)} {o : Order} → Holds key cs ns o → (k : ℕ) → entry_at key k (values cs o.used) ≡ None → slot_of k ns ≡ None
  absent-slot h k e = leads-nowhere key h.indexed k (λ s f. get-some key h.indexed k s f) e

  -- a value takes the place of another
  pub swapped : {cs : List (Option T)} {ns : List (Option ℕ)} {o : Order} → Holds key cs ns o → (x : T) (s : ℕ) → slot_of (key x) ns ≡ Some s → Holds key (set cs s (Some x)) ns o
  swapped {cs = cs} h x s e =
      record {
        cells_long = rw (length-set cs s (Some x)) h.cells_long;
        numbers_long = h.numbers_long;
        indexed = replaced key h.indexed x s (slot-within key h.indexed (key x) s e) e;
      }

  pub swapped-values : {cs : List (Option T)} {ns : List (Option ℕ)} {o : Order} → Holds key cs ns o → (x : T) (s : ℕ) → slot_of (key x) ns ≡ Some s → values (set cs s (Some x)) o.used ≡ swap key x (values cs o.used)
  swapped-values h x s e = replaced-values key h.indexed x s (slot-within key h.indexed (key x) s e) e

  pub unswapped-values : {cs : List (Option T)} {ns : List (Option ℕ)} {o : Order} → Holds key cs ns o → (x : T) → slot_of (key x) ns ≡ None → values cs o.used ≡ swap key x (values cs o.used)
  unswapped-values h x e = sym (same-values key h.indexed x e)

  -- more cells and entries, and perhaps more free slots
  pub widened : {cs : List (Option T)} {ns : List (Option ℕ)} {o : Order} → Holds key cs ns o → (ds : List (Option T)) (ms : List (Option ℕ)) (p : Order) → ((k : ℕ) → cell_at ds k ≡ cell_at cs k) → ((q : ℕ) → slot_of q ms ≡ slot_of q ns) → p.used ≡ o.used → length p.used + p.spare ≤ length ds → length p.used + p.spare ≤ length ms → length cs ≤ length ds → Holds key ds ms p
  widened h ds ms p f g u c l w =
      record {
        cells_long = c;
        numbers_long = l;
        indexed = rw u (indexed-same key h.indexed ds (λ q. slot_of q ms) f g w);
      }

  pub widened-values : (cs ds : List (Option T)) (us : List ℕ) → ((k : ℕ) → cell_at ds k ≡ cell_at cs k) → values ds us ≡ values cs us
  widened-values cs ds us f = values-same key cs ds us f

  -- a table without values
  pub nothing-held : (o : Order) → o.used ≡ [] → o.spare ≡ 0 → Holds key [] [] o
  nothing-held o u v =
      record {
        cells_long = rw (u, v) (omega arith);
        numbers_long = rw (u, v) (omega arith);
        indexed = rw u (record { points = tt; member = λ k s e. cc; back = λ k s e. cc; below = tt });
      }
