-- The connections that a pool finds live.
use Rattle.std.proofs.Common.{ℕ, ◌≡◌, Bool, true, false, ◌==◌, ◌&&◌, is_some, List, [], ◌∷◌, filter, Option, Some, None, ◌⊎◌, inl, inr, refl, sym, ◌∙◌, ap, subst, arith}
use Rattle.std.proofs.lemmas.Grind.{common_steps}
use Rattle.mdb_slots.specs.Keyed.{after_key, rest_of}
use Rattle.mdb_pool.specs.declared.kept.connection.Connection.{Connection}
use Rattle.mdb_pool.specs.Core.{PoolCore}
use Rattle.mdb_pool.specs.Kept.Values.{connection_in, connection_at, first_perished, held_connection, held_given, given_of, if_held, is_pending_at, last_available, perished_now, request_at}
use Rattle.mdb_pool.specs.Kept.Places.{is_available, is_held}
use Rattle.mdb_pool.proofs.Listed.FirstOrLast.{last-member}
use Rattle.mdb_pool_rules.proofs.Listed.Values.{In, here, there, entry_at-key, find-member}

abbrev id-of : Connection → ℕ
id-of x = x.id

-- a member lives
pub member_lives : (x : Connection) (xs : List Connection) → In x xs → is_some (connection_in xs x.id) ≡ true
member_lives x [] i = elim i [ ]
member_lives x (y ∷ ys) here = grind (arith, common_steps)
member_lives x (y ∷ ys) (there i) = grind (arith, common_steps, member_lives x ys i)

-- one that stands first, or later
split : (x y : Connection) (zs ys : List Connection) → In x (y ∷ zs) → (In x zs → In x ys) → In x (y ∷ ys)
split x y zs ys here f = here
split x y zs ys (there i) f = there (f i)

filtered : (q : Connection → Bool) (x : Connection) (xs : List Connection) → In x (filter q xs) → In x xs
filtered q x [] i = elim i [ ]
filtered q x (y ∷ ys) i = on (q y) refl i (filtered q x ys)
  where
    on : (b : Bool) → q y ≡ b → In x (filter q (y ∷ ys)) → (In x (filter q ys) → In x ys) → In x (y ∷ ys)
    on true e j more = let was : filter q (y ∷ ys) ≡ y ∷ filter q ys = rw e refl in split x y (filter q ys) ys (subst (λ zs. In x zs) was j) more
    on false e j more = let was : filter q (y ∷ ys) ≡ filter q ys = rw e refl in there (more (subst (λ zs. In x zs) was j))

-- what is first of what follows is a member
behind : (x : Connection) (k : ℕ) (ys zs : List Connection) → after_key id-of k ys ≡ x ∷ zs → In x ys
behind x k [] zs f = let none : ◌≡◌ {A = List Connection} [] (x ∷ zs) = f in cc
behind x k (y ∷ ys) zs f = on (y.id == k) refl (behind x k ys zs)
  where
    first : ys ≡ x ∷ zs → In x ys
    first e = subst (λ ws. In x ws) (sym e) here

    on : (b : Bool) → (y.id == k) ≡ b → (after_key id-of k ys ≡ x ∷ zs → In x ys) → In x (y ∷ ys)
    on true g more = let was : after_key id-of k (y ∷ ys) ≡ ys = rw g refl in there (first (sym was ∙ f))
    on false g more = let was : after_key id-of k (y ∷ ys) ≡ after_key id-of k ys = rw g refl in there (more (sym was ∙ f))

-- what a walk is at is a member
pub walked : (q : Connection → Bool) (k : ℕ) (x : Connection) (xs : List Connection) → rest_of id-of (Some x) (filter q xs) ≡ after_key id-of k (filter q xs) → In x xs
walked q k x xs e = filtered q x xs (behind x k (filter q xs) (after_key id-of x.id (filter q xs)) (sym e))

module _ (s : PoolCore) where
  -- it is the one that has the number
  pub at_lives : (c : ℕ) (x : Connection) → connection_at s c ≡ Some x → is_some (connection_at s x.id) ≡ true
  at_lives c x e = ap (λ k. is_some (connection_at s k)) (entry_at-key id-of c x s.kept.connections e) ∙ ap is_some e

  -- a party holds it
  pub held_lives : (g : Option ℕ) (x : Connection) → held_given s g ≡ Some x → is_some (connection_at s x.id) ≡ true
  held_lives None x e = cc
  held_lives (Some c) x e = on (connection_at s c) refl e
    where
      inner : (y : Connection) (b : Bool) → is_held y.place ≡ b → if_held (Some y) ≡ Some x → y ≡ x
      inner y true h f = grind (arith, common_steps, h, f)
      inner y false h f = absurd (grind (arith, common_steps, h, f))

      on : (o : Option Connection) → connection_at s c ≡ o → if_held o ≡ Some x → is_some (connection_at s x.id) ≡ true
      on None f g = cc
      on (Some y) f g = at_lives c x (f ∙ ap Some (inner y (is_held y.place) refl g))

  pub party_lives : (r : ℕ) (x : Connection) → held_connection s r ≡ Some x → is_some (connection_at s x.id) ≡ true
  party_lives r x e = held_lives (given_of (request_at s r)) x e

  -- it is the last available one
  pub last_lives : (x : Connection) → last_available s ≡ Some x → is_some (connection_at s x.id) ≡ true
  last_lives x e = on (last-member None x s.kept.connections e)
    where
      on : (None ≡ Some x) ⊎ (In x s.kept.connections × (is_available x.place ≡ true)) → is_some (connection_at s x.id) ≡ true
      on (inl f) = cc
      on (inr i) = member_lives x s.kept.connections i.0

  -- it is the first that has perished
  pub perished_lives : (m : ℕ) (x : Connection) → first_perished s m ≡ Some x → is_some (connection_at s x.id) ≡ true
  perished_lives m x e = member_lives x s.kept.connections (find-member (λ (y : Connection). is_available y.place && is_some (perished_now s m y)) x s.kept.connections e).0

  -- it is pending
  pub pending_lives : (c : ℕ) → is_pending_at (connection_at s c) ≡ true → is_some (connection_at s c) ≡ true
  pending_lives c e = on (connection_at s c) refl e
    where
      on : (o : Option Connection) → connection_at s c ≡ o → is_pending_at o ≡ true → is_some (connection_at s c) ≡ true
      on None f g = cc
      on (Some y) f g = ap is_some f
