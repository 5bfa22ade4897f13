-- The pins of a connection fit what is counted of it, after each change.
use Rattle.std.proofs.Common.{ℕ, ◌+◌, ◌-◌, ◌≡◌, ◌≤◌, ◌==◌, Bool, true, false, ◌&&◌, ◌||◌, if◌then◌else◌, nat_lt, refl, sym, ap, subst, ◌∙◌, arith}
use Rattle.std.proofs.lemmas.Grind.{common_steps}
use Rattle.mdb_log.specs.Connections.{one_if}
use Rattle.mdb_tallies.proofs.Placed.{same}
use Rattle.mdb_pins.specs.declared.doings.Doings.{Doings}
use Rattle.mdb_pins.specs.declared.pins.Pins.{Pins}
use Rattle.mdb_pins.specs.Counts.{nobody, keeper, is_above, is_at_pin, backed, once_pinned, once_unpinned, once_left, once_taken}
use Rattle.mdb_pins.specs.Following.{left_by, taken_by}
use Rattle.mdb_pins.specs.Standing.{Fits}

-- said of other names of these values
pub fits-re : (doings doings-now : ℕ → Doings) (made made-now dropped dropped-now : ℕ) (pinned pinned-now : Bool) (kept kept-now names names-now sum sum-now : ℕ) (x x-now : Pins) → ((n : ℕ) → doings-now n ≡ doings n) → made-now ≡ made → dropped-now ≡ dropped → pinned-now ≡ pinned → kept-now ≡ kept → names-now ≡ names → sum-now ≡ sum → x-now ≡ x → Fits doings made dropped pinned kept names sum x → Fits doings-now made-now dropped-now pinned-now kept-now names-now sum-now x-now
fits-re doings doings-now made made-now dropped dropped-now pinned pinned-now kept kept-now names names-now sum sum-now x x-now e a b c d f g h fits = let funs : doings-now ≡ doings = (λ i n. e n i) in rw (funs, a, b, c, d, f, g, h) fits

lt-shift : (d m b n : ℕ) → m + b ≡ n → nat_lt (d + b) n ≡ nat_lt d m
lt-shift d m b n e = grind (arith, common_steps)

lt-none : (n : ℕ) → nat_lt n n ≡ false
lt-none n = grind (arith, common_steps)

lt-next : (m n : ℕ) → m ≤ n → nat_lt m (n + 1) ≡ true
lt-next m n e = grind (arith, common_steps)

pub is-one : (n : ℕ) → (n == 1) ≡ true → n ≡ 1
is-one n e = same n 1 e

pub is-none : (n : ℕ) → n ≤ 1 → (n == 1) ≡ false → n ≡ 0
is-none n l e = grind (arith, common_steps)

one-is : (n : ℕ) → n ≡ 1 → (n == 1) ≡ true
one-is n e = rw e refl

-- what the one keeper pinned is what the keepers did together
abbrev pub Sole : (ℕ → Doings) → ℕ → ℕ → ℕ → Type 0
Sole doings kept names sum = kept ≤ 1 → sum ≡ (if kept == 1 then (doings names).pins else 0)

own : (doings : ℕ → Doings) (made dropped : ℕ) (pinned : Bool) (kept names sum : ℕ) (x : Pins) → Sole doings kept names sum → x.keepers ≡ names → kept ≤ 1 → (keeper kept doings x).pins ≡ sum
own doings made dropped pinned kept names sum x sole e l = ap (λ n. (if kept == 1 then doings n else nobody).pins) e ∙ go (kept == 1) ∙ sym (sole l)
  where
    go : (b : Bool) → (if b then doings names else nobody).pins ≡ (if b then (doings names).pins else 0)
    go true = refl
    go false = refl

-- more pins were made than dropped
pub above : (made dropped sum given : ℕ) (x : Pins) → made + x.before ≡ x.made + sum → x.dropped ≡ dropped → given ≡ sum → is_above x given ≡ nat_lt dropped made
above made dropped sum given x m d e = rw (d, e) (lt-shift dropped made x.before (x.made + sum) m)

as-much : (n : ℕ) → n ≤ n
as-much n = omega arith

-- all is heard
heard-all : (d : Doings) (x : Pins) → x.heard ≡ d.give_ups → is_at_pin d x ≡ x.is_pinned
heard-all d x e = rw (e, lt-none d.give_ups) (by x.is_pinned)
  where
    by : (b : Bool) → b || false ≡ b
    by true = refl
    by false = refl

-- who keeps the connection alone did more
abbrev turned : (Doings → Doings) → ℕ → (ℕ → Doings) → ℕ → Doings
turned f r doings n = if r == n then f (doings n) else doings n

pub keeper-turned : (f : Doings → Doings) (r : ℕ) (b : Bool) (doings : ℕ → Doings) (kept names : ℕ) (x : Pins) → x.keepers ≡ names → kept ≤ 1 → (kept ≡ 1 → (r == names) ≡ b) → (kept ≡ 0 → b ≡ false) → keeper kept (λ n. if r == n then f (doings n) else doings n) x ≡ (if b then f (keeper kept doings x) else keeper kept doings x)
keeper-turned f r b doings kept names x e l alone none = go (kept == 1) refl
  where
    go : (t : Bool) → (kept == 1) ≡ t → (if t then (if r == x.keepers then f (doings x.keepers) else doings x.keepers) else nobody) ≡ (if b then f (if t then doings x.keepers else nobody) else (if t then doings x.keepers else nobody))
    go true u = ap (λ s. if s then f (doings x.keepers) else doings x.keepers) (ap (λ n. r == n) e ∙ alone (is-one kept u))
    go false u = rw (none (is-none kept l u)) refl

-- give-ups

abbrev pub gives_up : Doings → Doings
gives_up d = record d { give_ups = d.give_ups + 1; pins_then = d.pins }

back-true : (w p a m : Bool) → w || m ≡ p → p && a ≡ p → w || a ≡ a
back-true true true true m e f = refl
back-true true true false m e f = cc
back-true true false a m e f = cc
back-true false p a m e f = refl

given_up : (d : Doings) (x : Pins) (pinned a b l : Bool) → is_at_pin d x ≡ pinned → is_above x d.pins ≡ a → pinned && a ≡ pinned → (b ≡ true → x.heard ≤ d.give_ups) → b && l ≡ false → is_at_pin (if b then gives_up d else d) (if l then backed d x else x) ≡ (if b || l then true else pinned) && a
given_up d x pinned a true true e f g h n = cc
given_up d x pinned a true false e f g h n = rw (lt-next x.heard d.give_ups (h refl), f) (back-true x.is_pinned pinned a (nat_lt x.heard d.give_ups && is_above x d.pins_then) e g)
given_up d x pinned a false true e f g h n = heard-all d (backed d x) refl ∙ f
given_up d x pinned a false false e f g h n = e ∙ sym g

back-counts : (l : Bool) (d : Doings) (x : Pins) (n m : ℕ) → (x.made ≡ n) → (x.before ≡ m) → ((if l then backed d x else x).made ≡ n) × ((if l then backed d x else x).before ≡ m) × ((if l then backed d x else x).dropped ≡ x.dropped) × ((if l then backed d x else x).keepers ≡ x.keepers)
back-counts true d x n m e f = (e, f, refl, refl)
back-counts false d x n m e f = (e, f, refl, refl)

keeper-of : (kept : ℕ) (doings : ℕ → Doings) (x y : Pins) → y.keepers ≡ x.keepers → keeper kept doings y ≡ keeper kept doings x
keeper-of kept doings x y e = ap (λ n. if kept == 1 then doings n else nobody) e

-- where one keeps the connection, it is the keeper
keeper-one : (kept : ℕ) (doings : ℕ → Doings) (x : Pins) → kept ≡ 1 → keeper kept doings x ≡ doings x.keepers
keeper-one kept doings x e = ap (λ b. if b then doings x.keepers else nobody) (one-is kept e)

back-heard : (b l : Bool) (d : Doings) (x : Pins) → x.heard ≤ d.give_ups → (if l then backed d x else x).heard ≤ (if b then gives_up d else d).give_ups
back-heard true true d x e = omega arith
back-heard true false d x e = omega arith
back-heard false true d x e = omega arith
back-heard false false d x e = e

-- A party gave up.
pub fits-give_up : (r : ℕ) (b l : Bool) (doings : ℕ → Doings) (made dropped : ℕ) (pinned : Bool) (kept names sum : ℕ) (x : Pins) → Sole doings kept names sum → pinned && nat_lt dropped made ≡ pinned → (kept ≡ 1 → (r == names) ≡ b) → (kept ≡ 0 → b ≡ false) → b && l ≡ false → Fits doings made dropped pinned kept names sum x
    → Fits (λ n. if r == n then gives_up (doings n) else doings n) made dropped ((if b || l then true else pinned) && nat_lt dropped made) kept names sum (if l then backed (keeper kept doings x) x else x)
fits-give_up r b l doings made dropped pinned kept names sum x sole again alone none apart fits = record {
  made_is = rw (is.0, is.1) fits.made_is;
  dropped_is = is.2 ∙ fits.dropped_is;
  keepers_are = is.3 ∙ fits.keepers_are;
  pinned_is = λ q.
      ap (λ d. is_at_pin d y) (keeper-of kept (λ n. if r == n then gives_up (doings n) else doings n) x y is.3 ∙ keeper-turned gives_up r b doings kept names x fits.keepers_are q alone none)
      ∙ given_up (keeper kept doings x) x pinned (nat_lt dropped made) b l (fits.pinned_is q) (above made dropped sum (keeper kept doings x).pins x fits.made_is fits.dropped_is (own doings made dropped pinned kept names sum x sole fits.keepers_are q)) again (heard q) apart;
  heard_is = λ q. subst (λ n. y.heard ≤ (if r == n then gives_up (doings n) else doings n).give_ups) (sym (is.3 ∙ fits.keepers_are)) (subst (λ t. y.heard ≤ (if t then gives_up (doings names) else doings names).give_ups) (sym (alone q)) (by q));
}
  where
    y : Pins
    y = if l then backed (keeper kept doings x) x else x

    is : (y.made ≡ x.made) × (y.before ≡ x.before) × (y.dropped ≡ x.dropped) × (y.keepers ≡ x.keepers)
    is = back-counts l (keeper kept doings x) x x.made x.before refl refl

    heard : kept ≤ 1 → b ≡ true → x.heard ≤ (keeper kept doings x).give_ups
    heard q u = go (kept == 1) refl
      where
        go : (t : Bool) → (kept == 1) ≡ t → x.heard ≤ (if t then doings x.keepers else nobody).give_ups
        go true v = fits.heard_is (is-one kept v)
        go false v = let no : b ≡ false = none (is-none kept q v) in cc

    by : kept ≡ 1 → y.heard ≤ (if b then gives_up (doings names) else doings names).give_ups
    by q = let k : keeper kept doings x ≡ doings names = keeper-one kept doings x q ∙ ap doings fits.keepers_are in
        rw (← k) (back-heard b l (keeper kept doings x) x (rw (keeper-one kept doings x q) (fits.heard_is q)))

-- pins

abbrev pub pins_once : Doings → Doings
pins_once d = record d { pins = d.pins + 1 }

pub pin_stays : (pinned : Bool) (less more k : ℕ) → pinned && nat_lt less more ≡ pinned → pinned && nat_lt less (more + k) ≡ pinned
pin_stays true less more k e = still less more k e
  where
    still : (less more k : ℕ) → nat_lt less more ≡ true → nat_lt less (more + k) ≡ true
    still less more k e = grind (arith, common_steps)
pin_stays false less more k e = refl

pinned-counts : (l : Bool) (d : Doings) (x : Pins) → ((if l then once_pinned d x else x).made ≡ x.made + one_if l) × ((if l then once_pinned d x else x).before ≡ x.before) × ((if l then once_pinned d x else x).dropped ≡ x.dropped) × ((if l then once_pinned d x else x).keepers ≡ x.keepers)
pinned-counts true d x = (refl, refl, refl, refl)
pinned-counts false d x = (omega arith, refl, refl, refl)

pinned : (d : Doings) (x : Pins) (b l : Bool) → is_at_pin (if b then pins_once d else d) (if l then once_pinned d x else x) ≡ is_at_pin d x
pinned d x true true = heard-all (pins_once d) (once_pinned d x) refl
pinned d x true false = refl
pinned d x false true = heard-all d (once_pinned d x) refl
pinned d x false false = refl

pinned-heard : (b l : Bool) (d : Doings) (x : Pins) → x.heard ≤ d.give_ups → (if l then once_pinned d x else x).heard ≤ (if b then pins_once d else d).give_ups
pinned-heard true true d x e = omega arith
pinned-heard true false d x e = e
pinned-heard false true d x e = omega arith
pinned-heard false false d x e = e

one-more : (b l : Bool) (made before more sum : ℕ) → b && l ≡ false → made + before ≡ more + sum → (made + one_if (b || l)) + before ≡ (more + one_if l) + (sum + one_if b)
one-more true true made before more sum n e = cc
one-more true false made before more sum n e = omega arith
one-more false l made before more sum n e = omega arith

-- A party pinned what it holds, or one pin more was made.
pub fits-pin : (r : ℕ) (b l : Bool) (doings : ℕ → Doings) (made dropped : ℕ) (pin : Bool) (kept names sum : ℕ) (x : Pins) → Sole doings kept names sum → pin && nat_lt dropped made ≡ pin → (kept ≡ 1 → (r == names) ≡ b) → (kept ≡ 0 → b ≡ false) → b && l ≡ false → Fits doings made dropped pin kept names sum x
    → Fits (λ n. if r == n then pins_once (doings n) else doings n) (made + one_if (b || l)) dropped (pin && nat_lt dropped (made + one_if (b || l))) kept names (sum + one_if b) (if l then once_pinned (keeper kept doings x) x else x)
fits-pin r b l doings made dropped pin kept names sum x sole again alone none apart fits = record {
  made_is = rw (is.0, is.1) (one-more b l made x.before x.made sum apart fits.made_is);
  dropped_is = is.2 ∙ fits.dropped_is;
  keepers_are = is.3 ∙ fits.keepers_are;
  pinned_is = λ q.
      ap (λ d. is_at_pin d y) (keeper-of kept (λ n. if r == n then pins_once (doings n) else doings n) x y is.3 ∙ keeper-turned pins_once r b doings kept names x fits.keepers_are q alone none)
      ∙ pinned (keeper kept doings x) x b l ∙ fits.pinned_is q ∙ sym (pin_stays pin dropped made (one_if (b || l)) again);
  heard_is = λ q. subst (λ n. y.heard ≤ (if r == n then pins_once (doings n) else doings n).give_ups) (sym (is.3 ∙ fits.keepers_are)) (subst (λ t. y.heard ≤ (if t then pins_once (doings names) else doings names).give_ups) (sym (alone q)) (by q));
}
  where
    y : Pins
    y = if l then once_pinned (keeper kept doings x) x else x

    is : (y.made ≡ x.made + one_if l) × (y.before ≡ x.before) × (y.dropped ≡ x.dropped) × (y.keepers ≡ x.keepers)
    is = pinned-counts l (keeper kept doings x) x

    by : kept ≡ 1 → y.heard ≤ (if b then pins_once (doings names) else doings names).give_ups
    by q = let k : keeper kept doings x ≡ doings names = keeper-one kept doings x q ∙ ap doings fits.keepers_are in
        rw (← k) (pinned-heard b l (keeper kept doings x) x (rw (keeper-one kept doings x q) (fits.heard_is q)))

-- One pin more, of no keeper.
pub fits-replicate : (doings : ℕ → Doings) (made dropped : ℕ) (pin : Bool) (kept names sum : ℕ) (x : Pins) → pin && nat_lt dropped made ≡ pin → Fits doings made dropped pin kept names sum x
    → Fits doings (made + 1) dropped (pin && nat_lt dropped (made + 1)) kept names sum (once_pinned (keeper kept doings x) x)
fits-replicate doings made dropped pin kept names sum x again fits = record {
  made_is = let e = fits.made_is in omega arith;
  dropped_is = fits.dropped_is;
  keepers_are = fits.keepers_are;
  pinned_is = λ q. heard-all (keeper kept doings x) (once_pinned (keeper kept doings x) x) refl ∙ fits.pinned_is q ∙ sym (pin_stays pin dropped made 1 again);
  heard_is = λ q. rw (keeper-one kept doings x q) (omega arith);
}

-- One pin less.
pub fits-unpin : (doings : ℕ → Doings) (made dropped : ℕ) (pin : Bool) (kept names sum : ℕ) (x : Pins) → Sole doings kept names sum → Fits doings made dropped pin kept names sum x
    → Fits doings made (dropped + 1) (pin && nat_lt (dropped + 1) made) kept names sum (once_unpinned (keeper kept doings x) x)
fits-unpin doings made dropped pin kept names sum x sole fits = record {
  made_is = fits.made_is;
  dropped_is = ap (λ n. n + 1) fits.dropped_is;
  keepers_are = fits.keepers_are;
  pinned_is = λ q. heard-all (keeper kept doings x) (once_unpinned (keeper kept doings x) x) refl ∙ (λ i. fits.pinned_is q i && above made (dropped + 1) sum (keeper kept doings x).pins (record x { dropped = x.dropped + 1 }) fits.made_is (ap (λ n. n + 1) fits.dropped_is) (own doings made dropped pin kept names sum x sole fits.keepers_are q) i);
  heard_is = λ q. rw (keeper-one kept doings x q) (omega arith);
}

-- A party that does not keep it brings it back, or nothing is done.
fits-back : (l : Bool) (doings : ℕ → Doings) (made dropped : ℕ) (pin : Bool) (kept names sum : ℕ) (x : Pins) → Sole doings kept names sum → pin && nat_lt dropped made ≡ pin → Fits doings made dropped pin kept names sum x
    → Fits doings made dropped ((if l then true else pin) && nat_lt dropped made) kept names sum (if l then backed (keeper kept doings x) x else x)
fits-back true doings made dropped pin kept names sum x sole again fits = record {
  made_is = fits.made_is;
  dropped_is = fits.dropped_is;
  keepers_are = fits.keepers_are;
  pinned_is = λ q. heard-all (keeper kept doings x) (backed (keeper kept doings x) x) refl ∙ above made dropped sum (keeper kept doings x).pins x fits.made_is fits.dropped_is (own doings made dropped pin kept names sum x sole fits.keepers_are q);
  heard_is = λ q. rw (keeper-one kept doings x q) (omega arith);
}
fits-back false doings made dropped pin kept names sum x sole again fits = record { made_is = fits.made_is; dropped_is = fits.dropped_is; keepers_are = fits.keepers_are; pinned_is = λ q. fits.pinned_is q ∙ sym again; heard_is = fits.heard_is }

-- The one who kept it leaves.
fits-leave : (r : ℕ) (doings : ℕ → Doings) (made dropped : ℕ) (pin : Bool) (kept names sum kept-now names-now sum-now : ℕ) (x : Pins) → Sole doings kept-now names-now sum-now → kept-now + 1 ≡ kept → names-now + r ≡ names → sum-now + (doings r).pins ≡ sum → Fits doings made dropped pin kept names sum x
    → Fits doings made dropped (nat_lt dropped made) kept-now names-now sum-now (left_by kept doings r x)
fits-leave r doings made dropped pin kept names sum kept-now names-now sum-now x sole k n s fits = record {
  made_is = made_is;
  dropped_is = fits.dropped_is;
  keepers_are = keepers_are;
  pinned_is = λ q. ap (λ d. is_at_pin d y) (ap (λ m. keeper m doings y) (sym less)) ∙ heard-all (keeper (kept - 1) doings left) y refl ∙ above made dropped sum-now (keeper (kept - 1) doings left).pins left made_is fits.dropped_is (ap (λ m. (keeper m doings left).pins) less ∙ own doings made dropped pin kept-now names-now sum-now left sole keepers_are q);
  heard_is = λ q. subst (λ d. (keeper (kept - 1) doings left).give_ups ≤ d.give_ups) (ap (λ m. keeper m doings left) less ∙ keeper-one kept-now doings left q) (as-much (keeper (kept - 1) doings left).give_ups);
}
  where
    left : Pins
    left = once_left r (doings r).pins x

    y : Pins
    y = left_by kept doings r x

    less : kept - 1 ≡ kept-now
    less = omega arith

    made_is : made + x.before ≡ (x.made + (doings r).pins) + sum-now
    made_is = let e = fits.made_is in omega arith

    keepers_are : x.keepers - r ≡ names-now
    keepers_are = let e = fits.keepers_are in omega arith

-- A party returned what it has, where the tests tell whether it kept this, and whether it held it else.
pub fits-return : (r : ℕ) (b l : Bool) (doings : ℕ → Doings) (made dropped : ℕ) (pin : Bool) (kept names sum kept-now names-now sum-now : ℕ) (x : Pins) → Sole doings kept names sum → Sole doings kept-now names-now sum-now → pin && nat_lt dropped made ≡ pin → kept-now + (if b then 1 else 0) ≡ kept → names-now + (if b then r else 0) ≡ names → sum-now + (if b then (doings r).pins else 0) ≡ sum → Fits doings made dropped pin kept names sum x
    → Fits doings made dropped ((if b || l then true else pin) && nat_lt dropped made) kept-now names-now sum-now (if b then left_by kept doings r x else (if l then backed (keeper kept doings x) x else x))
fits-return r true l doings made dropped pin kept names sum kept-now names-now sum-now x sole sole-now again k n s fits = fits-leave r doings made dropped pin kept names sum kept-now names-now sum-now x sole-now k n s fits
fits-return r false l doings made dropped pin kept names sum kept-now names-now sum-now x sole sole-now again k n s fits =
    let k-now : kept-now ≡ kept = omega arith in
    let n-now : names-now ≡ names = omega arith in
    let s-now : sum-now ≡ sum = omega arith in
    rw (k-now, n-now, s-now) (fits-back l doings made dropped pin kept names sum x sole again fits)

-- A party took it.
pub fits-take : (r : ℕ) (new : Bool) (doings : ℕ → Doings) (made dropped : ℕ) (pin : Bool) (kept names sum kept-now names-now sum-now : ℕ) (x : Pins) → kept-now ≡ kept + one_if new → names-now ≡ names + (if new then r else 0) → sum-now ≡ sum + (if new then (doings r).pins else 0) → Fits doings made dropped pin kept names sum x
    → Fits doings made dropped (false && nat_lt dropped made) kept-now names-now sum-now (taken_by new kept doings r x)
fits-take r new doings made dropped pin kept names sum kept-now names-now sum-now x k n s fits = record {
  made_is = let e = fits.made_is in rw s (omega arith);
  dropped_is = fits.dropped_is;
  keepers_are = ap (λ m. m + (if new then r else 0)) fits.keepers_are ∙ sym n;
  pinned_is = λ q. ap (λ m. is_at_pin (keeper m doings taken) y) k ∙ heard-all (keeper (kept + one_if new) doings taken) y refl;
  heard_is = λ q. subst (λ d. (keeper (kept + one_if new) doings taken).give_ups ≤ d.give_ups) (ap (λ m. keeper m doings taken) (sym k) ∙ keeper-one kept-now doings taken q) (as-much (keeper (kept + one_if new) doings taken).give_ups);
}
  where
    taken : Pins
    taken = once_taken new r (doings r).pins x

    y : Pins
    y = taken_by new kept doings r x
