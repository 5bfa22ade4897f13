-- The keepings that stand for tables and pins stand for those after one more change.
use Rattle.std.proofs.Common.{ℕ, ◌+◌, ◌-◌, ◌≡◌, ◌≤◌, ◌==◌, Bool, true, false, not, ◌&&◌, ◌||◌, if◌then◌else◌, nat_lt, refl, sym, ap, subst, ◌∙◌, arith}
use Rattle.std.specs.Prelude.{⊤}
use Rattle.std.proofs.lemmas.Grind.{common_steps}
use Rattle.mdb_tallies.specs.declared.occurrence.Occurrence.{Occurrence}
use Rattle.mdb_tallies.specs.declared.occurrence.Occurrence.TheVariants as change
use Rattle.mdb_tallies.specs.declared.connection.Connection.{Connection}
use Rattle.mdb_tallies.specs.declared.tables.Tables.{Tables}
use Rattle.mdb_tallies.specs.Tables.{at}
use Rattle.mdb_tallies.specs.Lists.{in_list}
use Rattle.mdb_tallies.specs.Changes.{connection_after, changed_if, once_created, once_closed, once_checked_in, once_established, once_failed, once_granted, once_taken, once_returned, kept_now, lent_now}
use Rattle.mdb_tallies.specs.Standing.{is_lent}
use Rattle.mdb_tallies.specs.Kept.{Follows}
use Rattle.mdb_log.proofs.Bools.{both-left, both-right}
use Rattle.mdb_pins.specs.declared.doings.Doings.{Doings}
use Rattle.mdb_pins.specs.declared.keepings.Keepings.{Keepings}
use Rattle.mdb_pins.specs.declared.pins.Pins.{Pins}
use Rattle.mdb_pins.specs.declared.story.PinStory.{PinStory}
use Rattle.mdb_pins.specs.Numbered.{of_number}
use Rattle.mdb_pins.specs.Counts.{nobody, keeper, is_above, is_at_pin, backed, once_unpinned}
use Rattle.mdb_pins.specs.Following.{lends, keeps, only_at, pins_after, doings_after, PinsFollow}
use Rattle.mdb_pins.specs.Keeping.{is_alone, is_settled, has_pinned, concerns, gives_up, KeepingsStand, KeepingsFollow, WrittenStand}
use Rattle.mdb_pins.proofs.Fitting.{is-one}

-- Of a created connection that one party keeps, a party that pins was lent nothing; and where parties return, one at most keeps a created one.
abbrev pub Allows : Occurrence → Tables → Type 0
Allows (change.Pinned r) t = (p c : ℕ) → is_alone (at t.connections p c 0) ≡ true → lends t r p c ≡ false
Allows (change.Returned r) t = (p c : ℕ) → nat_lt 0 (at t.connections p c 0).creations ≡ true → (at t.connections p c 0).kept ≤ 1
Allows _ t = ⊤

none_less : (n : ℕ) → n - 0 ≡ n
none_less n = omega arith

-- truth values

or-true : (b : Bool) → b || true ≡ true
or-true true = refl
or-true false = refl

more : (a l m h : Bool) → (l ≡ true → m ≡ true) → a || (l || h) ≡ true → a || (m || h) ≡ true
more true l m h f e = refl
more false true m h f e = ap (λ b. b || h) (f refl)
more false false m true f e = or-true m
more false false m false f e = cc

either-way : (a z w : Bool) → ((a || z) || not a) || w ≡ true
either-way true z w = refl
either-way false true w = refl
either-way false false w = refl

heard-way : (p a w : Bool) → ((p || (true && a)) || not a) || w ≡ true
heard-way true a w = refl
heard-way false true w = refl
heard-way false false w = refl

last-true : (a m : Bool) → a || (m || true) ≡ true
last-true true m = refl
last-true false m = or-true m

fewer-way : (p a b z w v : Bool) → (b ≡ true → a ≡ true) → (w ≡ true → v ≡ true) → (p || not a) || w ≡ true → (((p && b) || z) || not b) || v ≡ true
fewer-way p a false z w v f g e = ap (λ x. x || v) (or-true ((p && false) || z))
fewer-way true a true z w v f g e = refl
fewer-way false true true true w v f g e = refl
fewer-way false true true false w v f g e = g e
fewer-way false false true z w v f g e = let no : false ≡ true = f refl in cc

-- numbers

lt-next : (m n : ℕ) → m ≤ n → nat_lt m (n + 1) ≡ true
lt-next m n e = grind (arith, common_steps)

lt-fewer : (a b n : ℕ) → nat_lt (a + 1 + b) n ≡ true → nat_lt (a + b) n ≡ true
lt-fewer a b n e = grind (arith, common_steps)

more-than : (m n : ℕ) → m ≤ n → (n + 1 == m) ≡ false
more-than m n e = grind (arith, common_steps)

-- who keeps it alone is its keeper
pub alone-keeper : (x : Connection) (doings : ℕ → Doings) (y : Pins) → is_alone x ≡ true → keeper x.kept doings y ≡ doings y.keepers
alone-keeper x doings y e = ap (λ b. if b then doings y.keepers else nobody) (both-right (nat_lt 0 x.creations) (x.kept == 1) e)

-- a connection that a change does not concern: one party kept it alone, it is its keeper still, and what it wanted it wants
pub record Stays (ch : Occurrence) (l m : Bool) (doings : ℕ → Doings) (x : Connection) (y y-now : Pins) : Type 0 where
  pub alone : is_alone x ≡ true
  pub keepers : y-now.keepers ≡ y.keepers
  pub wants : (gives_up ch y.keepers ≡ false → l ≡ true → m ≡ true) → is_settled (doings y.keepers) y || (l || has_pinned (doings y.keepers)) ≡ true → is_settled (doings_after ch y.keepers (doings y.keepers)) y-now || (m || has_pinned (doings_after ch y.keepers (doings y.keepers))) ≡ true

-- give-ups

abbrev gave : Doings → Doings
gave d = record d { give_ups = d.give_ups + 1; pins_then = d.pins }

gave-wants : (b g : Bool) (l m : Bool) (d : Doings) (y : Pins) → y.heard ≤ d.give_ups → (b ≡ false → l ≡ true → m ≡ true) → is_settled d y || (l || has_pinned d) ≡ true → is_settled (if b then gave d else d) (if g then backed d y else y) || (m || has_pinned (if b then gave d else d)) ≡ true
gave-wants true true l m d y h f e = either-way (is_above y d.pins) (nat_lt d.give_ups (d.give_ups + 1) && is_above y d.pins) (m || has_pinned (gave d))
gave-wants false true l m d y h f e = either-way (is_above y d.pins) (nat_lt d.give_ups d.give_ups && is_above y d.pins_then) (m || has_pinned d)
gave-wants true false l m d y h f e = ap (λ b. ((y.is_pinned || (b && is_above y d.pins)) || not (is_above y d.pins)) || (m || has_pinned (gave d))) (lt-next y.heard d.give_ups h) ∙ heard-way y.is_pinned (is_above y d.pins) (m || has_pinned (gave d))
gave-wants false false l m d y h f e = more (is_settled d y) l m (has_pinned d) (f refl) e

back-keepers : (g : Bool) (d : Doings) (y : Pins) → (if g then backed d y else y).keepers ≡ y.keepers
back-keepers true d y = refl
back-keepers false d y = refl

gave-stays : (r : ℕ) (l m g : Bool) (doings : ℕ → Doings) (x : Connection) (y : Pins) → y.heard ≤ (doings y.keepers).give_ups → is_alone x ≡ true → Stays (change.GivenUp r) l m doings x y (if g then backed (keeper x.kept doings y) y else y)
gave-stays r l m g doings x y h e = subst (λ d. Stays (change.GivenUp r) l m doings x y (if g then backed d y else y)) (sym (alone-keeper x doings y e)) (record {
  alone = e;
  keepers = back-keepers g (doings y.keepers) y;
  wants = gave-wants (r == y.keepers) g l m (doings y.keepers) y h;
})

-- pins

abbrev pinned : Doings → Doings
pinned d = record d { pins = d.pins + 1 }

pinned-wants : (b : Bool) (l m : Bool) (d : Doings) (y : Pins) → d.pins_then ≤ d.pins → (l ≡ true → m ≡ true) → is_settled d y || (l || has_pinned d) ≡ true → is_settled (if b then pinned d else d) y || (m || has_pinned (if b then pinned d else d)) ≡ true
pinned-wants true l m d y o f e = ap (λ b. is_settled (pinned d) y || (m || not b)) (more-than d.pins_then d.pins o) ∙ last-true (is_settled (pinned d) y) m
pinned-wants false l m d y o f e = more (is_settled d y) l m (has_pinned d) f e

pinned-stays : (r : ℕ) (g l m : Bool) (lent : Pins) (doings : ℕ → Doings) (x : Connection) (y : Pins) → g ≡ false → (doings y.keepers).pins_then ≤ (doings y.keepers).pins → is_alone x ≡ true → Stays (change.Pinned r) l m doings x y (if g then lent else y)
pinned-stays r g l m lent doings x y none o e = subst (λ b. Stays (change.Pinned r) l m doings x y (if b then lent else y)) (sym none) (record {
  alone = e;
  keepers = refl;
  wants = λ f. pinned-wants (r == y.keepers) l m (doings y.keepers) y o (f refl);
})

-- unpins

unpinned-wants : (b : Bool) (l m : Bool) (d : Doings) (y : Pins) → (l ≡ true → m ≡ true) → is_settled d y || (l || has_pinned d) ≡ true → is_settled d (only_at b (once_unpinned d y) y) || (m || has_pinned d) ≡ true
unpinned-wants true l m d y f e = fewer-way (is_at_pin d y) (is_above y d.pins) (is_above (once_unpinned d y) d.pins) (nat_lt d.give_ups d.give_ups && is_above (once_unpinned d y) d.pins_then) (l || has_pinned d) (m || has_pinned d) (lt-fewer y.dropped y.before (y.made + d.pins)) (wider l m (has_pinned d) f) e
  where
    wider : (l m h : Bool) → (l ≡ true → m ≡ true) → l || h ≡ true → m || h ≡ true
    wider true m h f e = ap (λ b. b || h) (f refl)
    wider false m true f e = or-true m
    wider false m false f e = cc
unpinned-wants false l m d y f e = more (is_settled d y) l m (has_pinned d) f e

un-keepers : (b : Bool) (d : Doings) (y : Pins) → (only_at b (once_unpinned d y) y).keepers ≡ y.keepers
un-keepers true d y = refl
un-keepers false d y = refl

unpinned-stays : (q d : ℕ) (b l m : Bool) (doings : ℕ → Doings) (x : Connection) (y : Pins) → is_alone x ≡ true → Stays (change.Unpinned q d) l m doings x y (only_at b (once_unpinned (keeper x.kept doings y) y) y)
unpinned-stays q d b l m doings x y e = subst (λ k. Stays (change.Unpinned q d) l m doings x y (only_at b (once_unpinned k y) y)) (sym (alone-keeper x doings y e)) (record {
  alone = e;
  keepers = un-keepers b (doings y.keepers) y;
  wants = λ f. unpinned-wants b l m (doings y.keepers) y (f refl);
})

-- returns

kept-alone : (k : Bool) (x : Connection) (l : Bool) → (nat_lt 0 x.creations ≡ true → x.kept ≤ 1) → is_alone (once_returned k l x) ≡ true → (k ≡ false) × (is_alone x ≡ true)
kept-alone false x l few e = (refl, ap (λ n. nat_lt 0 x.creations && (n == 1)) (sym (none_less x.kept)) ∙ e)
kept-alone true x l few e =
    let at-most : x.kept ≤ 1 = few (both-left (nat_lt 0 x.creations) (x.kept - 1 == 1) e) in
    let one : x.kept - 1 ≡ 1 = is-one (x.kept - 1) (both-right (nat_lt 0 x.creations) (x.kept - 1 == 1) e) in
    absurd (omega (arith, at-most, one))

back-wants : (g l m : Bool) (d : Doings) (y : Pins) → (l ≡ true → m ≡ true) → is_settled d y || (l || has_pinned d) ≡ true → is_settled d (if g then backed d y else y) || (m || has_pinned d) ≡ true
back-wants true l m d y f e = either-way (is_above y d.pins) (nat_lt d.give_ups d.give_ups && is_above y d.pins_then) (m || has_pinned d)
back-wants false l m d y f e = more (is_settled d y) l m (has_pinned d) f e

returned-stays : (r : ℕ) (k g l m : Bool) (left : Pins) (doings : ℕ → Doings) (x : Connection) (y : Pins) → k ≡ false → is_alone x ≡ true → Stays (change.Returned r) l m doings x y (if k then left else (if g then backed (keeper x.kept doings y) y else y))
returned-stays r k g l m left doings x y none e = subst (λ b. Stays (change.Returned r) l m doings x y (if b then left else (if g then backed (keeper x.kept doings y) y else y))) (sym none) (subst (λ d. Stays (change.Returned r) l m doings x y (if g then backed d y else y)) (sym (alone-keeper x doings y e)) (record {
  alone = e;
  keepers = back-keepers g (doings y.keepers) y;
  wants = λ f. back-wants g l m (doings y.keepers) y (f refl);
}))

-- the others

alone-if : (b : Bool) (f : Connection → Connection) (x : Connection) → b ≡ false → is_alone (changed_if b f x) ≡ true → is_alone x ≡ true
alone-if true f x u e = cc
alone-if false f x u e = e

alone-either : (b : Bool) (f : Connection → Connection) (x : Connection) → is_alone (f x) ≡ is_alone x → is_alone (changed_if b f x) ≡ true → is_alone x ≡ true
alone-either true f x u e = sym u ∙ e
alone-either false f x u e = e

quiet : (ch : Occurrence) (l m : Bool) (doings : ℕ → Doings) (x : Connection) (y y-now : Pins) → y-now ≡ y → ((n : ℕ) (d : Doings) → doings_after ch n d ≡ d) → ((n : ℕ) → gives_up ch n ≡ false) → is_alone x ≡ true → Stays ch l m doings x y y-now
quiet ch l m doings x y y-now is same none e = subst (Stays ch l m doings x y) (sym is) (record {
  alone = e;
  keepers = refl;
  wants = λ f w. rw (same y.keepers (doings y.keepers)) (more (is_settled (doings y.keepers) y) l m (has_pinned (doings y.keepers)) (f (none y.keepers)) w);
})

elsewhere : (b : Bool) (y-there y : Pins) → b ≡ false → only_at b y-there y ≡ y
elsewhere true y-there y e = cc
elsewhere false y-there y e = refl

stays : (ch : Occurrence) (t : Tables) (l m : Bool) (doings : ℕ → Doings) (p c : ℕ) (y : Pins) → Allows ch t → ((n : ℕ) → (doings n).pins_then ≤ (doings n).pins) → (is_alone (at t.connections p c 0) ≡ true → y.heard ≤ (doings y.keepers).give_ups) → concerns ch p c ≡ false → is_alone (connection_after ch (λ r. at t.gifts r p c) (λ r. at t.parties r 0 0) p c (at t.connections p c 0)) ≡ true → Stays ch l m doings (at t.connections p c 0) y (pins_after ch t doings p c y)
stays (change.GivenUp r) t l m doings p c y allows ordered heard apart e = gave-stays r l m (lends t r p c) doings (at t.connections p c 0) y (heard e) e
stays (change.Pinned r) t l m doings p c y allows ordered heard apart e = pinned-stays r (lends t r p c) l m _ doings (at t.connections p c 0) y (allows p c e) (ordered y.keepers) e
stays (change.Returned r) t l m doings p c y allows ordered heard apart e =
    let both = kept-alone (kept_now (at t.gifts r p c) (at t.parties r 0 0)) (at t.connections p c 0) (lent_now (at t.gifts r p c) (at t.parties r 0 0)) (allows p c) e in
    returned-stays r (keeps t r p c) (lends t r p c) l m _ doings (at t.connections p c 0) y both.0 both.1
stays (change.Unpinned q d) t l m doings p c y allows ordered heard apart e = unpinned-stays q d ((q == p) && (d == c)) l m doings (at t.connections p c 0) y e
stays (change.Replicated q d) t l m doings p c y allows ordered heard apart e = quiet (change.Replicated q d) l m doings (at t.connections p c 0) y _ (elsewhere ((q == p) && (d == c)) _ y apart) (λ n d. refl) (λ n. refl) e
stays (change.Taken r q d) t l m doings p c y allows ordered heard apart e = quiet (change.Taken r q d) l m doings (at t.connections p c 0) y _ (elsewhere ((q == p) && (d == c)) _ y apart) (λ n d. refl) (λ n. refl) (alone-if ((q == p) && (d == c)) (once_taken (kept_now (at t.gifts r p c) (at t.parties r 0 0)) (not (at t.parties r 0 0).is_returned) (lent_now (at t.gifts r p c) (at t.parties r 0 0))) (at t.connections p c 0) apart e)
stays (change.Created q d) t l m doings p c y allows ordered heard apart e = quiet (change.Created q d) l m doings (at t.connections p c 0) y y refl (λ n d. refl) (λ n. refl) (alone-if ((q == p) && (d == c)) once_created (at t.connections p c 0) apart e)
stays (change.Established q d) t l m doings p c y allows ordered heard apart e = quiet (change.Established q d) l m doings (at t.connections p c 0) y y refl (λ n d. refl) (λ n. refl) (alone-either ((q == p) && (d == c)) once_established (at t.connections p c 0) refl e)
stays (change.Failed q d) t l m doings p c y allows ordered heard apart e = quiet (change.Failed q d) l m doings (at t.connections p c 0) y y refl (λ n d. refl) (λ n. refl) (alone-either ((q == p) && (d == c)) once_failed (at t.connections p c 0) refl e)
stays (change.Closed q d) t l m doings p c y allows ordered heard apart e = quiet (change.Closed q d) l m doings (at t.connections p c 0) y y refl (λ n d. refl) (λ n. refl) (alone-either ((q == p) && (d == c)) once_closed (at t.connections p c 0) refl e)
stays (change.CheckedIn q d) t l m doings p c y allows ordered heard apart e = quiet (change.CheckedIn q d) l m doings (at t.connections p c 0) y y refl (λ n d. refl) (λ n. refl) (alone-either ((q == p) && (d == c)) once_checked_in (at t.connections p c 0) refl e)
stays (change.Granted r q d) t l m doings p c y allows ordered heard apart e = quiet (change.Granted r q d) l m doings (at t.connections p c 0) y y refl (λ n d. refl) (λ n. refl) (alone-either ((q == p) && (d == c)) (once_granted (lent_now (at t.gifts r p c) (at t.parties r 0 0)) (is_lent true (at t.gifts r p c).is_taken (at t.parties r 0 0).is_returned (at t.parties r 0 0).is_ended)) (at t.connections p c 0) refl e)
stays ch t l m doings p c y allows ordered heard apart e = quiet ch l m doings (at t.connections p c 0) y y refl (λ n d. refl) (λ n. refl) e

ordered-after : (ch : Occurrence) (n : ℕ) (d : Doings) → d.pins_then ≤ d.pins → (doings_after ch n d).pins_then ≤ (doings_after ch n d).pins
ordered-after (change.GivenUp r) n d e = by (r == n)
  where
    by : (b : Bool) → (if b then gave d else d).pins_then ≤ (if b then gave d else d).pins
    by true = omega arith
    by false = e
ordered-after (change.Pinned r) n d e = by (r == n)
  where
    by : (b : Bool) → (if b then pinned d else d).pins_then ≤ (if b then pinned d else d).pins
    by true = omega (arith, e)
    by false = e
ordered-after ch n d e = e

-- One more change.
pub keepings-next : (balanced : Bool) (ch : Occurrence) (t u : Tables) (s z : PinStory) (k m : Keepings) → Allows ch t → ((p c : ℕ) → is_alone (at t.connections p c 0) ≡ true → (at s.pins p c 0).heard ≤ (of_number s.doings (at s.pins p c 0).keepers).give_ups) → KeepingsStand t s k → Follows balanced ch t u → PinsFollow ch t s z → KeepingsFollow ch u z k m → KeepingsStand u z m
keepings-next balanced ch t u s z k m allows heard stand f g n = record {
  all = λ p c e. all-now p c e (concerns ch p c) refl;
  fresh = λ p c e. fresh-now p c e (concerns ch p c) refl;
  written = n.written stand.written;
  ordered = λ r. subst (λ d. d.pins_then ≤ d.pins) (sym (g.doings r)) (ordered-after ch r (of_number s.doings r) (stand.ordered r));
}
  where
    stayed : (p c : ℕ) → is_alone (at u.connections p c 0) ≡ true → concerns ch p c ≡ false → Stays ch (in_list k.fresh (at s.pins p c 0).keepers p c) (in_list m.fresh (at s.pins p c 0).keepers p c) (of_number s.doings) (at t.connections p c 0) (at s.pins p c 0) (pins_after ch t (of_number s.doings) p c (at s.pins p c 0))
    stayed p c e apart = stays ch t _ _ (of_number s.doings) p c (at s.pins p c 0) allows stand.ordered (heard p c) apart (ap is_alone (sym (f.connections p c)) ∙ e)

    keepers-are : (p c : ℕ) → is_alone (at u.connections p c 0) ≡ true → concerns ch p c ≡ false → (at z.pins p c 0).keepers ≡ (at s.pins p c 0).keepers
    keepers-are p c e apart = ap (λ y. y.keepers) (g.pins p c) ∙ (stayed p c e apart).keepers

    all-now : (p c : ℕ) → is_alone (at u.connections p c 0) ≡ true → (b : Bool) → concerns ch p c ≡ b → in_list m.all (at z.pins p c 0).keepers p c ≡ true
    all-now p c e true w = (n.here stand.written p c w e).0
    all-now p c e false w = subst (λ r. in_list m.all r p c ≡ true) (sym (keepers-are p c e w)) (n.all (at s.pins p c 0).keepers p c (stand.all p c (stayed p c e w).alone))

    fresh-now : (p c : ℕ) → is_alone (at u.connections p c 0) ≡ true → (b : Bool) → concerns ch p c ≡ b → is_settled (of_number z.doings (at z.pins p c 0).keepers) (at z.pins p c 0) || (in_list m.fresh (at z.pins p c 0).keepers p c || has_pinned (of_number z.doings (at z.pins p c 0).keepers)) ≡ true
    fresh-now p c e true w =
        let listed-now = (n.here stand.written p c w e).1 in
        ap (λ b. is_settled (of_number z.doings (at z.pins p c 0).keepers) (at z.pins p c 0) || (b || has_pinned (of_number z.doings (at z.pins p c 0).keepers))) listed-now ∙ or-true (is_settled (of_number z.doings (at z.pins p c 0).keepers) (at z.pins p c 0))
    fresh-now p c e false w =
        let now = (stayed p c e w).wants (λ o l. n.fresh (at s.pins p c 0).keepers p c o l) (stand.fresh p c (stayed p c e w).alone) in
        subst (λ r. is_settled (of_number z.doings r) (at z.pins p c 0) || (in_list m.fresh r p c || has_pinned (of_number z.doings r)) ≡ true) (sym (keepers-are p c e w))
        (ap (λ v. is_settled (of_number z.doings (at s.pins p c 0).keepers) v || (in_list m.fresh (at s.pins p c 0).keepers p c || has_pinned (of_number z.doings (at s.pins p c 0).keepers))) (g.pins p c)
        ∙ ap (λ d. is_settled d (pins_after ch t (of_number s.doings) p c (at s.pins p c 0)) || (in_list m.fresh (at s.pins p c 0).keepers p c || has_pinned d)) (g.doings (at s.pins p c 0).keepers)
        ∙ now)
