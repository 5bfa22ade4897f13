-- Each connection has one place, and nobody waits who could be granted one: by the plain sentences too.
use Rattle.std.proofs.Common.{ℕ, ◌≡◌, ◌+◌, ◌≤◌, ◌⊎◌, inl, inr, Bool, true, false, ◌&&◌, List, [], refl, sym, ◌∙◌, ap, arith}
use Rattle.std.proofs.lemmas.Bool.Decides.{nat_tests}
use Rattle.std.specs.Bool.{MatchBool}
use Rattle.mdb_log.specs.declared.options.PoolOptions.{PoolOptions}
use Rattle.mdb_log.specs.History.{Item, PoolItem, of_pool}
use Rattle.mdb_log.specs.Connections.{one_if, has, live, pending, available, held, pinned}
use Rattle.mdb_log.specs.Legal.{OnePlace, NoneLeftWaiting}
use Rattle.mdb_log.specs.LegalLog.{IsOrderly}
use Rattle.mdb_log.specs.PlainConnections.{creations, closings, is_created, is_pending}
use Rattle.mdb_log.specs.PlainRequests.{waiting as waiting_at}
use Rattle.mdb_log.specs.PlainState.{pools, could_be_granted as could_grant}
use Rattle.mdb_log.specs.PlainLegal.{places, InPlace, OnePlace as OnePlaceEach, NoneLeftWaiting as NoneLeft}
use Rattle.mdb_sound.specs.Counts.{creations as times_made, closings as times_shut}
use Rattle.mdb_sound.proofs.Steady.{AsItIs, steady}
use Rattle.mdb_histories.specs.SoundHistory.{SoundHistory}
use Rattle.mdb_histories.proofs.OfPlain.Connections.{pending-alike}
use Rattle.mdb_histories.proofs.OfPlain.States.{could-alike}
use Rattle.mdb_histories.proofs.OfPlain.Parties.{sound-pool}
use Rattle.mdb_histories.proofs.OfPlain.Holders.{held-alike}
use Rattle.mdb_histories.proofs.OfPlain.PinFacts.{pinned-ones}
use Rattle.mdb_histories.proofs.OfPlain.Waiting.{waiting-alike}

-- as many places as by the items of the pool
pub places-alike : (h : List Item) → SoundHistory h → (p c : ℕ) → places p h c ≡ pending (of_pool p h) c + available (of_pool p h) c + held (of_pool p h) c + pinned (of_pool p h) c
places-alike h s p c =
    let e : one_if (is_pending (of_pool p h) c) ≡ pending (of_pool p h) c = ap one_if (sym (pending-alike (of_pool p h) (sound-pool h s p) c)) in
    rw (e, held-alike h s p c, pinned-ones h s p c) refl

by-test : (b : Bool) (P Q : Type 0) → (b ≡ true → P) → (b ≡ false → Q) → MatchBool b P Q
by-test true P Q f g = f refl
by-test false P Q f g = g refl

pub in-place : (h : List Item) → SoundHistory h → (p c : ℕ) → OnePlace (of_pool p h) → InPlace p h c
in-place h s p c one =
    by-test (is_created (of_pool p h) c) ((places p h c + closings (of_pool p h) c ≡ creations (of_pool p h) c) × (places p h c ≤ 1)) (closings (of_pool p h) c ≡ 0) (λ e. (balance, few)) (λ e. none e)
  where
    xs : List PoolItem
    xs = of_pool p h

    i : AsItIs xs c
    i = steady xs (sound-pool h s p) c

    lives : places p h c ≡ live xs c
    lives = places-alike h s p c ∙ (one c).0

    balanced : live xs c + times_shut xs c ≡ times_made xs c
    balanced = i.balanced

    balance : places p h c + closings xs c ≡ creations xs c
    balance = rw lives balanced

    few : places p h c ≤ 1
    few = rw lives (one c).1

    none : is_created xs c ≡ false → closings xs c ≡ 0
    none e =
        let z : times_made xs c ≡ 0 = grind (arith, nat_tests) in
        let k : times_shut xs c ≡ 0 = omega (arith, balanced) in
        k

-- Nobody is left waiting.
none-left : (o : PoolOptions) (h : List Item) → SoundHistory h → (p : ℕ) → NoneLeftWaiting o (of_pool p h) → (waiting_at p h ≡ []) ⊎ (could_grant o p h ≡ false)
none-left o h s p (inl e) = inl (waiting-alike h s p ∙ e)
none-left o h s p (inr e) = inr (could-alike o p h (sound-pool h s p) ∙ rw e (off (has p (pools h))))
  where
    off : (b : Bool) → b && false ≡ false
    off true = refl
    off false = refl

-- In order by the items of each pool, in order by the plain sentences.
pub orderly : (o : PoolOptions) (h : List Item) → SoundHistory h → IsOrderly o h → OnePlaceEach h × NoneLeft o h
orderly o h s all = (λ p c. in-place h s p c (all p).0, λ p. none-left o h s p (all p).1)
