-- What was written in the lists of keepings stays there.
use Rattle.std.proofs.Common.{ℕ, ◌≡◌, ◌==◌, Bool, true, false, ◌&&◌, ◌||◌, if◌then◌else◌, Option, Some, None, unwrap_or, refl, sym, ap, subst, ◌∙◌}
use Rattle.mdb_log.specs.History.{is_number}
use Rattle.mdb_log.proofs.Numbers.{same-number}
use Rattle.mdb_log.proofs.Bools.{both-left, both-right}
use Rattle.mdb_tallies.specs.declared.occurrence.Occurrence.{Occurrence}
use Rattle.mdb_tallies.specs.declared.connection.Place.{Place}
use Rattle.mdb_tallies.specs.declared.lists.Lists.{Lists}
use Rattle.mdb_tallies.specs.declared.default_map.DefaultMap.{DefaultMap}
use Rattle.mdb_tallies.specs.declared.tables.Tables.{Tables}
use Rattle.mdb_tallies.specs.Tables.{at, same_key}
use Rattle.mdb_tallies.specs.Lists.{nth, len, listed, in_list, is_place, Pushes, Clears}
use Rattle.mdb_tallies.proofs.Placed.{same}
use Rattle.mdb_tallies.proofs.Pushed.{apart-len, apart-nth}
use Rattle.mdb_tallies.proofs.Covered.{listed-same, listed-pushed}
use Rattle.mdb_pins.specs.declared.keepings.Keepings.{Keepings}
use Rattle.mdb_pins.specs.declared.story.PinStory.{PinStory}
use Rattle.mdb_pins.specs.Keeping.{is_alone, WrittenStand, WritesOnce, Writes, Forgets, Notes}

or-true : (b : Bool) → b || true ≡ true
or-true true = refl
or-true false = refl

-- what was in a list is in it behind a push
pub still-listed : (r : ℕ) (v : Place) (old new : Lists Place) → Pushes r v old new → (n p c : ℕ) → in_list old n p c ≡ true → in_list new n p c ≡ true
still-listed r v old new e n p c u = by (r == n) refl
  where
    own : in_list old r p c ≡ true → in_list new r p c ≡ true
    own w = listed-pushed r v old new e p c ∙ ap (λ b. is_place v p c || b) w ∙ or-true (is_place v p c)

    by : (b : Bool) → (r == n) ≡ b → in_list new n p c ≡ true
    by true w = subst (λ q. in_list old q p c ≡ true → in_list new q p c ≡ true) (same r n w) own u
    by false w = let as-long : len new n ≡ len old n = apart-len r n v old new e w in (λ i. listed (as-long i) (nth new n) p c) ∙ listed-same (len old n) (nth new n) (nth old n) p c (λ j m. apart-nth r n v old new e w j) ∙ u

-- what was pushed is there
pub now-listed : (r p c : ℕ) (old new : Lists Place) → Pushes r (record { pool = p; id = c }) old new → in_list new r p c ≡ true
now-listed r p c old new e = listed-pushed r (record { pool = p; id = c }) old new e p c ∙ (λ i. (same-number p i && same-number c i) || listed (len old r) (nth old r) p c)

number-is : (o : Option ℕ) (r : ℕ) → is_number o r ≡ true → o ≡ Some r
number-is None r e = cc
number-is (Some m) r e = ap Some (same m r e)

some-is : (m n : ℕ) → Some m ≡ Some n → m ≡ n
some-is m n e = ap (λ o. unwrap_or o m) e

pub written-before : (r q d : ℕ) (k : Keepings) → is_number (at k.written q d 0) r ≡ true → WritesOnce r q d k k
written-before r q d k e = record { all = λ n p c u. u; fresh = refl; written = λ w. w; here = λ w. w q d r (number-is (at k.written q d 0) r e) }

pub written-now : (r q d : ℕ) (old : Keepings) (lists : Lists Place) (table : DefaultMap (Option ℕ)) → Pushes r (record { pool = q; id = d }) old.all lists → ((a b c : ℕ) → at table a b c ≡ (if same_key q d 0 a b c then (Some r) else at old.written a b c)) → WritesOnce r q d old (record { all = lists; fresh = old.fresh; written = table })
written-now r q d old lists table e there = record {
  all = still-listed r (record { pool = q; id = d }) old.all lists e;
  fresh = refl;
  written = λ w p c n u. by w p c n (q == p) (d == c) refl refl (sym (there p c 0) ∙ u);
  here = λ w. now-listed r q d old.all lists e;
}
  where
    older : WrittenStand old → (p c n : ℕ) → at old.written p c 0 ≡ Some n → in_list lists n p c ≡ true
    older w p c n u = still-listed r (record { pool = q; id = d }) old.all lists e n p c (w p c n u)

    by : WrittenStand old → (p c n : ℕ) (a b : Bool) → (q == p) ≡ a → (d == c) ≡ b → (if same_key q d 0 p c 0 then (Some r) else at old.written p c 0) ≡ Some n → in_list lists n p c ≡ true
    by w p c n true true u v x =
        let is : r ≡ n = some-is r n (rw (u, v) at x) in
        rw (← is, ← same q p u, ← same d c v) (now-listed r q d old.all lists e)
    by w p c n true false u v x = older w p c n (rw (u, v) at x)
    by w p c n false b u v x = older w p c n (rw u at x)

pub written-both : (r q d : ℕ) (old mid : Keepings) (fresh : Lists Place) → WritesOnce r q d old mid → Pushes r (record { pool = q; id = d }) mid.fresh fresh → Writes r q d old (record { all = mid.all; fresh = fresh; written = mid.written })
written-both r q d old mid fresh w e = record {
  all = w.all;
  fresh = λ n p c u. still-listed r (record { pool = q; id = d }) mid.fresh fresh e n p c (ap (λ l. in_list l n p c) w.fresh ∙ u);
  written = w.written;
  here = λ x. (w.here x, now-listed r q d mid.fresh fresh e);
}

-- nobody keeps it alone
pub notes-none : (q d : ℕ) (t : Tables) (s : PinStory) (k : Keepings) → is_alone (at t.connections q d 0) ≡ false → Notes (λ p c. (q == p) && (d == c)) (λ r. false) t s k k
notes-none q d t s k none = record {
  all = λ n p c u. u;
  fresh = λ n p c o u. u;
  written = λ w. w;
  here = λ w p c e alone.
      let a : q ≡ p = same q p (both-left (q == p) (d == c) e) in
      let b : d ≡ c = same d c (both-right (q == p) (d == c) e) in
      let no : is_alone (at t.connections p c 0) ≡ false = rw (← a, ← b) none in
      cc;
}

-- its keeper's lists have it
pub notes-one : (r q d : ℕ) (t : Tables) (s : PinStory) (old new : Keepings) → r ≡ (at s.pins q d 0).keepers → Writes r q d old new → Notes (λ p c. (q == p) && (d == c)) (λ r. false) t s old new
notes-one r q d t s old new is w = record {
  all = w.all;
  fresh = λ n p c o u. w.fresh n p c u;
  written = w.written;
  here = λ x p c e alone.
      let a : q ≡ p = same q p (both-left (q == p) (d == c) e) in
      let b : d ≡ c = same d c (both-right (q == p) (d == c) e) in
      rw (← a, ← b, ← is) (w.here x);
}

pub notes-gone : (r : ℕ) (t : Tables) (s : PinStory) (old new : Keepings) → Forgets r old new → Notes (λ p c. false) (λ n. r == n) t s old new
notes-gone r t s old new f = record {
  all = λ n p c u. ap (λ l. in_list l n p c) f.all ∙ u;
  fresh = λ n p c o u. by n p c o u;
  written = λ w p c n u. ap (λ l. in_list l n p c) f.all ∙ w p c n (ap (λ z. at z p c 0) (sym f.written) ∙ u);
  here = λ w p c e alone. cc;
}
  where
    by : (n p c : ℕ) → (r == n) ≡ false → in_list old.fresh n p c ≡ true → in_list new.fresh n p c ≡ true
    by n p c o u =
        let as-long : len new.fresh n ≡ len old.fresh n = f.fresh.lengths n 0 0 ∙ rw o refl in
        (λ i. listed (as-long i) (nth new.fresh n) p c) ∙ ap (λ z. listed (len old.fresh n) (λ j. at z n j 0) p c) f.fresh.items ∙ u

pub notes-nothing : (t : Tables) (s : PinStory) (k : Keepings) → Notes (λ p c. false) (λ r. false) t s k k
notes-nothing t s k = record { all = λ n p c u. u; fresh = λ n p c o u. u; written = λ w. w; here = λ w p c e alone. cc }

pub ruleset notes = (notes-gone, notes-nothing)
