-- What a party did is done to one connection after the other that it was given.
use Rattle.std.proofs.Common.{ℕ, ◌+◌, ◌-◌, ◌≡◌, ◌<◌, ◌==◌, Bool, true, false, not, ◌&&◌, ◌||◌, if◌then◌else◌, refl, sym, ap, ◌∙◌, arith, add-one}
use Rattle.mdb_tallies.specs.declared.connection.Connection.{Connection}
use Rattle.mdb_tallies.specs.declared.connection.Place.{Place}
use Rattle.mdb_tallies.specs.declared.party.Gift.{Gift}
use Rattle.mdb_tallies.specs.declared.party.Party.{Party}
use Rattle.mdb_tallies.specs.declared.default_map.DefaultMap.{DefaultMap}
use Rattle.mdb_tallies.specs.declared.tables.Tables.{Tables}
use Rattle.mdb_tallies.specs.declared.occurrence.How.{How}
use Rattle.mdb_tallies.specs.declared.occurrence.How.TheVariants.{GaveBack, Over}
use Rattle.mdb_tallies.specs.Tables.{at, same_key}
use Rattle.mdb_tallies.specs.Lists.{nth, len, listed}
use Rattle.mdb_tallies.specs.Kept.{Covers, SoFar, PartyDid}
use Rattle.mdb_tallies.specs.Changes.{by_party, done_now}
use Rattle.mdb_tallies.specs.Standing.{is_lent}
use Rattle.mdb_tallies.proofs.Placed.{same}

none_less : (n : ℕ) → n - 0 ≡ n
none_less n = omega arith

-- who returned keeps nothing, and nothing is lent to it
back-kept : (t : Bool) → t && not true ≡ false
back-kept true = refl
back-kept false = refl

back-lent : (g t over : Bool) → is_lent g t true over ≡ false
back-lent true true over = refl
back-lent true false over = refl
back-lent false t over = refl

over-lent : (g t back over : Bool) → back || over ≡ true → is_lent g t back over ≡ false
over-lent true true back over e = refl
over-lent true false true over e = refl
over-lent true false false true e = refl
over-lent true false false false e = cc
over-lent false t back over e = refl

pub left-false : (a b : Bool) → a || b ≡ false → a ≡ false
left-false true b e = cc
left-false false b e = refl

pub right-false : (a b : Bool) → a || b ≡ false → b ≡ false
right-false true b e = cc
right-false false b e = e

-- who was given nothing changes nothing
pub nothing-given : (how : How) (g : Gift) (x : Party) (y : Connection) → g.is_granted || g.is_taken ≡ false → by_party how g x y ≡ y
nothing-given how g x y e = by how (left-false g.is_granted g.is_taken e) (right-false g.is_granted g.is_taken e)
  where
    by : (how : How) → g.is_granted ≡ false → g.is_taken ≡ false → by_party how g x y ≡ y
    by GaveBack u v = rw (u, v, none_less y.kept, none_less y.lent) refl
    by Over u v = rw (u, none_less y.lent) refl

-- who does so no more changes nothing
pub nothing-left : (how : How) (g : Gift) (x : Party) (y : Connection) → done_now how x ≡ true → by_party how g x y ≡ y
nothing-left GaveBack g x y e = rw (e, back-kept g.is_taken, back-lent g.is_granted g.is_taken x.is_ended, none_less y.kept, none_less y.lent) refl
nothing-left Over g x y e = rw (over-lent g.is_granted g.is_taken x.is_returned x.is_ended e, none_less y.lent) refl

pub did-nothing : (how : How) (r : ℕ) (t : Tables) → done_now how (at t.parties r 0 0) ≡ true → PartyDid how r t t
did-nothing how r t e = record { connections = λ p c. sym (nothing-left how (at t.gifts r p c) (at t.parties r 0 0) (at t.connections p c 0) e); gifts = refl; parties = refl; pools = refl; places = refl }

pub did-none : (how : How) (r : ℕ) (t : Tables) → SoFar how r 0 t t
did-none how r t = record { connections = λ p c. refl; gifts = refl; parties = refl; pools = refl; places = refl }

-- one place more
pub did-next : (how : How) (r i : ℕ) (old now : Tables) (t : DefaultMap Connection) (place : Place) (x : Connection) → Covers old → SoFar how r i old now → i < len old.places r → place ≡ nth old.places r i → x ≡ by_party how (at now.gifts r place.pool place.id) (at old.parties r 0 0) (at now.connections place.pool place.id 0) → ((a b c : ℕ) → at t a b c ≡ (if same_key place.pool place.id 0 a b c then x else at now.connections a b c)) → SoFar how r (i + 1) old (record now { connections = t })
did-next how r i old now t place x covers far below e here there = record { connections = λ p c. rw (add-one i) (rw (← e) (there p c 0 ∙ go p c (place.pool == p) (place.id == c) refl refl)); gifts = far.gifts; parties = far.parties; pools = far.pools; places = far.places }
  where
    unseen : listed i (nth old.places r) place.pool place.id ≡ false
    unseen = rw e (covers.once r i below)

    stood : x ≡ by_party how (at old.gifts r place.pool place.id) (at old.parties r 0 0) (at old.connections place.pool place.id 0)
    stood = here ∙ ap (λ g. by_party how (at g r place.pool place.id) (at old.parties r 0 0) (at now.connections place.pool place.id 0)) far.gifts ∙ ap (λ y. by_party how (at old.gifts r place.pool place.id) (at old.parties r 0 0) y) (far.connections place.pool place.id ∙ ap (λ b. if b then by_party how (at old.gifts r place.pool place.id) (at old.parties r 0 0) (at old.connections place.pool place.id 0) else at old.connections place.pool place.id 0) unseen)

    go : (p c : ℕ) (b s : Bool) → (place.pool == p) ≡ b → (place.id == c) ≡ s → (if (b && s) && true then x else at now.connections p c 0) ≡ (if (b && s) || listed i (nth old.places r) p c then by_party how (at old.gifts r p c) (at old.parties r 0 0) (at old.connections p c 0) else at old.connections p c 0)
    go p c true true u v = stood ∙ ap (λ n. by_party how (at old.gifts r n place.id) (at old.parties r 0 0) (at old.connections n place.id 0)) (same place.pool p u) ∙ ap (λ n. by_party how (at old.gifts r p n) (at old.parties r 0 0) (at old.connections p n 0)) (same place.id c v)
    go p c true false u v = far.connections p c
    go p c false s u v = far.connections p c

-- all of them
pub did-all : (how : How) (r : ℕ) (old new : Tables) → Covers old → SoFar how r (len old.places r) old new → PartyDid how r old new
did-all how r old new covers far = record { connections = λ p c. far.connections p c ∙ given p c (listed (len old.places r) (nth old.places r) p c) refl; gifts = far.gifts; parties = far.parties; pools = far.pools; places = far.places }
  where
    given : (p c : ℕ) (b : Bool) → listed (len old.places r) (nth old.places r) p c ≡ b → (if b then by_party how (at old.gifts r p c) (at old.parties r 0 0) (at old.connections p c 0) else at old.connections p c 0) ≡ by_party how (at old.gifts r p c) (at old.parties r 0 0) (at old.connections p c 0)
    given p c true e = refl
    given p c false e = sym (nothing-given how (at old.gifts r p c) (at old.parties r 0 0) (at old.connections p c 0) (sym (covers.all r p c) ∙ e))
