-- What the calls do to the pins is what the change says.
use Rattle.std.proofs.Common.{ℕ, ◌+◌, ◌≡◌, ◌==◌, Bool, true, false, not, ◌&&◌, if◌then◌else◌, refl, sym, ap, ◌∙◌}
use Rattle.mdb_tallies.specs.declared.occurrence.Occurrence.TheVariants as change
use Rattle.mdb_tallies.specs.declared.connection.Place.{Place}
use Rattle.mdb_tallies.specs.declared.lists.Lists.{Lists}
use Rattle.mdb_tallies.specs.declared.default_map.DefaultMap.{DefaultMap}
use Rattle.mdb_tallies.specs.declared.tables.Tables.{Tables}
use Rattle.mdb_tallies.specs.Tables.{at, same_key}
use Rattle.mdb_tallies.specs.Lists.{nth, len, listed, PushesIf}
use Rattle.mdb_tallies.specs.Standing.{is_lent}
use Rattle.mdb_tallies.specs.Changes.{pending_now}
use Rattle.mdb_tallies.specs.Kept.{Covers}
use Rattle.mdb_tallies.proofs.Placed.{same}
use Rattle.mdb_tallies.proofs.PartyDoings.{left-false, right-false}
use Rattle.mdb_pins.specs.declared.doings.Doings.{Doings}
use Rattle.mdb_pins.specs.declared.pins.Pins.{Pins}
use Rattle.mdb_pins.specs.declared.numbered.Numbered.{Numbered}
use Rattle.mdb_pins.specs.declared.walk.How.TheVariants as how
use Rattle.mdb_pins.specs.declared.story.PinStory.{PinStory}
use Rattle.mdb_pins.specs.Numbered.{of_number}
use Rattle.mdb_pins.specs.Counts.{keeper, once_pinned, once_unpinned}
use Rattle.mdb_pins.specs.Following.{lends, keeps, by_how, only_at, taken_by, Walked, Grants, PinsFollow}

pub unlent : (t : Tables) (r p c : ℕ) → (at t.gifts r p c).is_granted ≡ false → lends t r p c ≡ false
unlent t r p c e = ap (λ g. is_lent g (at t.gifts r p c).is_taken (at t.parties r 0 0).is_returned (at t.parties r 0 0).is_ended && not (pending_now (at t.connections p c 0))) e

pub unkept : (t : Tables) (r p c : ℕ) → (at t.gifts r p c).is_taken ≡ false → keeps t r p c ≡ false
unkept t r p c e = ap (λ g. g && not (at t.parties r 0 0).is_returned) e

pub back-lent : (g t over rest : Bool) → is_lent g t true over && rest ≡ false
back-lent true true over rest = refl
back-lent true false over rest = refl
back-lent false t over rest = refl

pub back-kept : (t : Bool) → t && not true ≡ false
back-kept true = refl
back-kept false = refl

-- who is not of the list does nothing to it

gave_up-else : (t : Tables) (doings : ℕ → Doings) (r p c : ℕ) (x : Pins) → lends t r p c ≡ false → x ≡ by_how how.GaveUp t doings r p c x
gave_up-else t doings r p c x e = rw e refl

pinned-else : (t : Tables) (doings : ℕ → Doings) (r p c : ℕ) (x : Pins) → lends t r p c ≡ false → x ≡ by_how how.Pinned t doings r p c x
pinned-else t doings r p c x e = rw e refl

gave_back-else : (t : Tables) (doings : ℕ → Doings) (r p c : ℕ) (x : Pins) → keeps t r p c ≡ false → lends t r p c ≡ false → x ≡ by_how how.GaveBack t doings r p c x
gave_back-else t doings r p c x e f = rw (e, f) refl

whole : (b : Bool) (y x : Pins) → (b ≡ false → x ≡ y) → (if b then y else x) ≡ y
whole true y x e = refl
whole false y x e = e refl

-- what one party did more
doing : (f : Doings → Doings) (r : ℕ) (v : Doings) (old new : Numbered Doings) → ((n : ℕ) → of_number new n ≡ (if r == n then v else of_number old n)) → v ≡ f (of_number old r) → (n : ℕ) → of_number new n ≡ (if r == n then f (of_number old n) else of_number old n)
doing f r v old new e is n = e n ∙ go (r == n) refl
  where
    go : (b : Bool) → (r == n) ≡ b → (if b then v else of_number old n) ≡ (if b then f (of_number old n) else of_number old n)
    go true u = is ∙ ap (λ m. f (of_number old m)) (same r n u)
    go false u = refl

pub given_up-follows : (t : Tables) (old : PinStory) (r : ℕ) (pins : DefaultMap Pins) (doings : Numbered Doings) (v : Doings) → Grants t old.grants → Walked how.GaveUp t (of_number old.doings) old.grants r old.pins pins → ((n : ℕ) → of_number doings n ≡ (if r == n then v else of_number old.doings n)) → v ≡ record (of_number old.doings r) { give_ups = (of_number old.doings r).give_ups + 1; pins_then = (of_number old.doings r).pins } → PinsFollow (change.GivenUp r) t old (record { pins = pins; doings = doings; grants = old.grants })
given_up-follows t old r pins doings v g w d is = record {
  pins = λ p c. w p c ∙ whole (listed (len old.grants r) (nth old.grants r) p c) _ (at old.pins p c 0) (λ e. gave_up-else t (of_number old.doings) r p c (at old.pins p c 0) (unlent t r p c (sym (g.all r p c) ∙ e)));
  doings = doing (λ x. record x { give_ups = x.give_ups + 1; pins_then = x.pins }) r v old.doings doings d is;
  grants = refl;
}

pub pinned-follows : (t : Tables) (old : PinStory) (r : ℕ) (pins : DefaultMap Pins) (doings : Numbered Doings) (v : Doings) → Grants t old.grants → Walked how.Pinned t (of_number old.doings) old.grants r old.pins pins → ((n : ℕ) → of_number doings n ≡ (if r == n then v else of_number old.doings n)) → v ≡ record (of_number old.doings r) { pins = (of_number old.doings r).pins + 1 } → PinsFollow (change.Pinned r) t old (record { pins = pins; doings = doings; grants = old.grants })
pinned-follows t old r pins doings v g w d is = record {
  pins = λ p c. w p c ∙ whole (listed (len old.grants r) (nth old.grants r) p c) _ (at old.pins p c 0) (λ e. pinned-else t (of_number old.doings) r p c (at old.pins p c 0) (unlent t r p c (sym (g.all r p c) ∙ e)));
  doings = doing (λ x. record x { pins = x.pins + 1 }) r v old.doings doings d is;
  grants = refl;
}

pub returned-follows : (t : Tables) (old : PinStory) (r : ℕ) (pins : DefaultMap Pins) → Covers t → Walked how.GaveBack t (of_number old.doings) t.places r old.pins pins → PinsFollow (change.Returned r) t old (record { pins = pins; doings = old.doings; grants = old.grants })
returned-follows t old r pins k w = record {
  pins = λ p c. w p c ∙ whole (listed (len t.places r) (nth t.places r) p c) _ (at old.pins p c 0) (λ e. let none = sym (k.all r p c) ∙ e in gave_back-else t (of_number old.doings) r p c (at old.pins p c 0) (unkept t r p c (right-false (at t.gifts r p c).is_granted (at t.gifts r p c).is_taken none)) (unlent t r p c (left-false (at t.gifts r p c).is_granted (at t.gifts r p c).is_taken none)));
  doings = λ n. refl;
  grants = refl;
}

-- who returned before
pub returned-again : (t : Tables) (s : PinStory) (r : ℕ) → (at t.parties r 0 0).is_returned ≡ true → PinsFollow (change.Returned r) t s s
returned-again t s r e = record {
  pins = λ p c. gave_back-else t (of_number s.doings) r p c (at s.pins p c 0) (ap (λ b. (at t.gifts r p c).is_taken && not b) e ∙ back-kept (at t.gifts r p c).is_taken) (ap (λ b. is_lent (at t.gifts r p c).is_granted (at t.gifts r p c).is_taken b (at t.parties r 0 0).is_ended && not (pending_now (at t.connections p c 0))) e ∙ back-lent (at t.gifts r p c).is_granted (at t.gifts r p c).is_taken (at t.parties r 0 0).is_ended (not (pending_now (at t.connections p c 0))));
  doings = λ n. refl;
  grants = refl;
}

-- one connection's pins are others
pub put-at : (f : ℕ → ℕ → Pins → Pins) (q d : ℕ) (x : Pins) (old new : DefaultMap Pins) → x ≡ f q d (at old q d 0) → ((a b c : ℕ) → at new a b c ≡ (if same_key q d 0 a b c then x else at old a b c)) → (p c : ℕ) → at new p c 0 ≡ only_at ((q == p) && (d == c)) (f p c (at old p c 0)) (at old p c 0)
put-at f q d x old new is e p c = e p c 0 ∙ go (q == p) (d == c) refl refl
  where
    go : (b s : Bool) → (q == p) ≡ b → (d == c) ≡ s → (if (b && s) && true then x else at old p c 0) ≡ only_at (b && s) (f p c (at old p c 0)) (at old p c 0)
    go true true u v = is ∙ ap (λ n. f n d (at old n d 0)) (same q p u) ∙ ap (λ n. f p n (at old p n 0)) (same d c v)
    go true false u v = refl
    go false s u v = refl

pub replicated-follows : (t : Tables) (old : PinStory) (q d : ℕ) (x : Pins) (pins : DefaultMap Pins) → x ≡ once_pinned (keeper (at t.connections q d 0).kept (of_number old.doings) (at old.pins q d 0)) (at old.pins q d 0) → ((a b c : ℕ) → at pins a b c ≡ (if same_key q d 0 a b c then x else at old.pins a b c)) → PinsFollow (change.Replicated q d) t old (record { pins = pins; doings = old.doings; grants = old.grants })
replicated-follows t old q d x pins is e = record { pins = put-at (λ p c y. once_pinned (keeper (at t.connections p c 0).kept (of_number old.doings) y) y) q d x old.pins pins is e; doings = λ n. refl; grants = refl }

pub unpinned-follows : (t : Tables) (old : PinStory) (q d : ℕ) (x : Pins) (pins : DefaultMap Pins) → x ≡ once_unpinned (keeper (at t.connections q d 0).kept (of_number old.doings) (at old.pins q d 0)) (at old.pins q d 0) → ((a b c : ℕ) → at pins a b c ≡ (if same_key q d 0 a b c then x else at old.pins a b c)) → PinsFollow (change.Unpinned q d) t old (record { pins = pins; doings = old.doings; grants = old.grants })
unpinned-follows t old q d x pins is e = record { pins = put-at (λ p c y. once_unpinned (keeper (at t.connections p c 0).kept (of_number old.doings) y) y) q d x old.pins pins is e; doings = λ n. refl; grants = refl }

pub taken-follows : (t : Tables) (old : PinStory) (r q d : ℕ) (x : Pins) (pins : DefaultMap Pins) → x ≡ taken_by (not (at t.parties r 0 0).is_returned && not (keeps t r q d)) (at t.connections q d 0).kept (of_number old.doings) r (at old.pins q d 0) → ((a b c : ℕ) → at pins a b c ≡ (if same_key q d 0 a b c then x else at old.pins a b c)) → PinsFollow (change.Taken r q d) t old (record { pins = pins; doings = old.doings; grants = old.grants })
taken-follows t old r q d x pins is e = record { pins = put-at (λ p c y. taken_by (not (at t.parties r 0 0).is_returned && not (keeps t r p c)) (at t.connections p c 0).kept (of_number old.doings) r y) q d x old.pins pins is e; doings = λ n. refl; grants = refl }

pub granted-follows : (t : Tables) (old : PinStory) (r q d : ℕ) (lists : Lists Place) → PushesIf (not (at t.gifts r q d).is_granted) r (record { pool = q; id = d }) old.grants lists → PinsFollow (change.Granted r q d) t old (record { pins = old.pins; doings = old.doings; grants = lists })
granted-follows t old r q d lists e = record { pins = λ p c. refl; doings = λ n. refl; grants = e }
