-- Slots in use hold values.
use Rattle.std.proofs.Common.{◌≡◌, ◌≢◌, ℕ, zero, suc, ◌+◌, ◌<◌, ◌≤◌, Bool, true, false, ◌==◌, if◌then◌else◌, Option, Some, None, is_some, List, [], ◌∷◌, ◌++◌, length, refl, ◌∙◌, ap, arith, set, get_or-set_same, get_or-set_other, length-set, length-append}
use Rattle.std.proofs.lemmas.Grind.{common_steps}
use Rattle.std.proofs.lemmas.List.{set-set}
use Rattle.mdb_slots.specs.Lists.{has, without}
use Rattle.mdb_slots.specs.Links.{Order}
use Rattle.mdb_slots.specs.Cells.{cell_at}
use Rattle.mdb_slots.specs.Slots.{IsFilled}
use Rattle.mdb_slots.proofs.Lists.{has-append, length-without}

cover-push : (us : List ℕ) (s : ℕ) (u : Bool) (k : ℕ) → u ≡ has k us → (if s == k then true else u) ≡ has k (us ++ s ∷ [])
cover-push us s u k e = grind (arith, common_steps, e, has-append k us (s ∷ []))

cover-remove : (us : List ℕ) (s : ℕ) (u : Bool) (k : ℕ) → u ≡ has k us → (if s == k then false else u) ≡ has k (without s us)
cover-remove [] s u k e = grind (arith, common_steps, e)
cover-remove (x ∷ xs) s u k e = grind (arith, common_steps, e, cover-remove xs s (has k xs) k refl)

module _ {T : Type 0} where
  pub some-within : (cs : List (Option T)) (k : ℕ) → is_some (cell_at cs k) ≡ true → k < length cs
  some-within [] k e = cc
  some-within (c ∷ cs) zero e = omega arith
  some-within (c ∷ cs) (suc k) e = let h = some-within cs k e in omega (arith, h)

  some-set : (cs : List (Option T)) (s : ℕ) (c : Option T) (k : ℕ) → s < length cs → is_some (cell_at (set cs s c) k) ≡ if s == k then is_some c else is_some (cell_at cs k)
  some-set cs s c k h = on (s == k) refl
    where
      on : (v : Bool) → (s == k) ≡ v → is_some (cell_at (set cs s c) k) ≡ if s == k then is_some c else is_some (cell_at cs k)
      on true w =
          let e : k ≡ s = grind (arith, common_steps, w) in
          rw (w, e) (ap (λ (d : Option T). is_some d) (get_or-set_same cs s c None h))
      on false w =
          let e : k ≢ s = λ v. grind (arith, common_steps, w, v) in
          rw w (ap (λ (d : Option T). is_some d) (get_or-set_other cs s k c None e))

  -- a value takes a free slot
  pub filled-brought : {o : Order} {cs : List (Option T)} → IsFilled o cs → (p : Order) (v : T) (s : ℕ) → s < length o.used + o.spare → p.used ≡ o.used ++ s ∷ [] → p.spare + 1 ≡ o.spare → IsFilled p (set cs s (Some v))
  filled-brought {o = o} {cs = cs} h p v s b u e =
      let w : length p.used ≡ length o.used + 1 = rw u (length-append o.used (s ∷ [])) in
      record {
        long = rw (length-set cs s (Some v)) (omega (arith, w, e, h.long));
        cover = λ k. rw u (some-set cs s (Some v) k (omega (arith, b, h.long)) ∙ cover-push o.used s (is_some (cell_at cs k)) k (h.cover k));
      }

  -- a slot in use has a cell
  pub filled-within : {o : Order} {cs : List (Option T)} → IsFilled o cs → (s : ℕ) → has s o.used ≡ true → s < length cs
  filled-within {cs = cs} h s m = some-within cs s (h.cover s ∙ m)

  -- a value goes
  pub filled-taken : {o : Order} {cs : List (Option T)} → IsFilled o cs → (p : Order) (s : ℕ) → has s o.used ≡ true → p.used ≡ without s o.used → p.spare ≡ o.spare + 1 → IsFilled p (set cs s None)
  filled-taken {o = o} {cs = cs} h p s m u e =
      let w : length p.used + 1 ≤ length o.used = rw u (length-without s o.used m) in
      record {
        long = rw (length-set cs s None) (omega (arith, w, e, h.long));
        cover = λ k. rw u (some-set cs s None k (filled-within h s m) ∙ cover-remove o.used s (is_some (cell_at cs k)) k (h.cover k));
      }

  -- a value takes the place of another, and is the newest
  pub filled-renewed : {o : Order} {cs : List (Option T)} → IsFilled o cs → (p : Order) (v : T) (s : ℕ) → has s o.used ≡ true → p.used ≡ without s o.used ++ s ∷ [] → p.spare ≡ o.spare → IsFilled p (set cs s (Some v))
  filled-renewed {o = o} {cs = cs} h p v s m u e =
      let t = filled-taken h (record { used = without s o.used; spare = o.spare + 1 }) s m refl refl in
      let w : length (without s o.used) + 1 ≤ length o.used = length-without s o.used m in
      let b : s < length (set cs s None) = rw (length-set cs s None) (filled-within h s m) in
      let i : IsFilled p (set (set cs s None) s (Some v)) = record {
        long = rw (length-set (set cs s None) s (Some v), u, length-append (without s o.used) (s ∷ [])) (omega (arith, e, t.long));
        cover = λ k. rw u (some-set (set cs s None) s (Some v) k b ∙ cover-push (without s o.used) s (is_some (cell_at (set cs s None) k)) k (t.cover k));
      } in
      rw (set-set cs s None (Some v)) at i

  -- and so do those that are led back to, whether the change stays or not
  pub lasting-filled : (s : Bool) {n b o : Order} {ns bs os : List (Option T)} → (s ≡ false → b ≡ o) → (s ≡ false → bs ≡ os) → (s ≡ true → b ≡ n) → (s ≡ true → bs ≡ ns) → IsFilled o os → IsFilled n ns → IsFilled n ns × IsFilled b bs
  lasting-filled true f g t u h k = (k, rw (t refl, u refl) k)
  lasting-filled false f g t u h k = (k, rw (f refl, g refl) h)
