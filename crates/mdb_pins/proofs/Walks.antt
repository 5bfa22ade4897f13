-- What a party did is done to the pins of one connection after the other.
use Rattle.std.proofs.Common.{ℕ, ◌+◌, ◌≡◌, ◌<◌, ◌==◌, Bool, true, false, ◌&&◌, ◌||◌, if◌then◌else◌, refl, ap, ◌∙◌, add-one}
use Rattle.mdb_tallies.specs.declared.connection.Place.{Place}
use Rattle.mdb_tallies.specs.declared.lists.Lists.{Lists}
use Rattle.mdb_tallies.specs.declared.default_map.DefaultMap.{DefaultMap}
use Rattle.mdb_tallies.specs.declared.tables.Tables.{Tables}
use Rattle.mdb_tallies.specs.Tables.{at, same_key}
use Rattle.mdb_tallies.specs.Lists.{nth, len, listed}
use Rattle.mdb_tallies.proofs.Placed.{same}
use Rattle.mdb_pins.specs.declared.doings.Doings.{Doings}
use Rattle.mdb_pins.specs.declared.pins.Pins.{Pins}
use Rattle.mdb_pins.specs.declared.walk.How.{How}
use Rattle.mdb_pins.specs.Following.{by_how, EachOnce, WalkedFar}

pub far-none : (how : How) (t : Tables) (doings : ℕ → Doings) (l : Lists Place) (r : ℕ) (old : DefaultMap Pins) → WalkedFar how t doings l r 0 old old
far-none how t doings l r old = λ p c. refl

-- one place more
pub far-next : (how : How) (t : Tables) (doings : ℕ → Doings) (l : Lists Place) (r i : ℕ) (old now new : DefaultMap Pins) (place : Place) (x : Pins) → EachOnce l r → WalkedFar how t doings l r i old now → i < len l r → place ≡ nth l r i → x ≡ by_how how t doings r place.pool place.id (at now place.pool place.id 0) → ((a b c : ℕ) → at new a b c ≡ (if same_key place.pool place.id 0 a b c then x else at now a b c)) → WalkedFar how t doings l r (i + 1) old new
far-next how t doings l r i old now new place x once far below e here there = λ p c. rw (add-one i) (rw (← e) (there p c 0 ∙ go p c (place.pool == p) (place.id == c) refl refl))
  where
    unseen : listed i (nth l r) place.pool place.id ≡ false
    unseen = rw e (once i below)

    stood : x ≡ by_how how t doings r place.pool place.id (at old place.pool place.id 0)
    stood = here ∙ ap (by_how how t doings r place.pool place.id) (far place.pool place.id ∙ ap (λ b. if b then by_how how t doings r place.pool place.id (at old place.pool place.id 0) else at old place.pool place.id 0) unseen)

    go : (p c : ℕ) (b s : Bool) → (place.pool == p) ≡ b → (place.id == c) ≡ s → (if (b && s) && true then x else at now p c 0) ≡ (if (b && s) || listed i (nth l r) p c then by_how how t doings r p c (at old p c 0) else at old p c 0)
    go p c true true u v = stood ∙ ap (λ n. by_how how t doings r n place.id (at old n place.id 0)) (same place.pool p u) ∙ ap (λ n. by_how how t doings r p n (at old p n 0)) (same place.id c v)
    go p c true false u v = far p c
    go p c false s u v = far p c
