-- Parts of a publication: each may come after a sound history, and leaves the pools at rest that are still open.
use Rattle.std.proofs.Common.{ℕ, ◌≡◌, ◌≢◌, ◌==◌, ◌&&◌, Bool, true, false, if◌then◌else◌, List, [], ◌∷◌, ◌++◌, map, Option, Some, None, refl, sym, ◌∙◌, subst, arith}
use Rattle.std.specs.Prelude.{⊤}
use Rattle.mdb_base.specs.declared.address.ServerAddress.{ServerAddress}
use Rattle.mdb_events.specs.declared.fact.Fact.{Fact}
use Rattle.mdb_events.specs.declared.fact.Fact.TheVariants.{Sdam, CheckNow, Cancel}
use Rattle.mdb_log.specs.History.{Item, made, is_number, of_pool, open_pool, with_facts, after_facts}
use Rattle.mdb_log.specs.Own.{AllOwn, shuts}
use Rattle.mdb_log.proofs.Frame.{open-facts}
use Rattle.mdb_log.proofs.Later.{of_pool-with_facts}
use Rattle.mdb_pool_rules.specs.Rested.{Rested}
use Rattle.mdb_sound.proofs.Served.{Fine}
use Rattle.mdb_driver_rules.specs.Turns.{in_turn}
use Rattle.mdb_topology.proofs.OfMonitors.FactsOfCheck.{AreCalm}
use Rattle.mdb_driver_rules.proofs.LeavesAsItIs.{with-append}
use Rattle.mdb_driver_rules.proofs.SameHistories.{IsCalm}
use Rattle.mdb_histories.specs.SoundHistory.{SoundHistory, was_opened}
use Rattle.mdb_histories.proofs.Comes.{AllMayCome, calm-come, come-sound, come-both, own-leave}
use Rattle.mdb_histories.proofs.PoolSteps.{ComeFine, own-fine}

-- the history is sound, each pool is fine, and each open one at rest
pub record Turn (k : List Item) : Type 0 where
  pub sound : SoundHistory k
  pub fine : (p : ℕ) → Fine (of_pool p k)
  pub rest : (a : ServerAddress) (p : ℕ) → open_pool k a ≡ Some p → Rested (of_pool p k)

-- facts that may come, and leave it so
pub record ComeTurn (m : ℕ) (k : List Item) (fs : List Fact) : Type 0 where
  pub come : AllMayCome m k fs
  pub turn : Turn (with_facts m fs k)

-- a part is good after each history that is so
abbrev pub IsGood : ℕ → (List Item → List Fact) → Type 0
IsGood m part = (k : List Item) → Turn k → ComeTurn m k (part k)

abbrev pub AllGood : ℕ → List (List Item → List Fact) → Type 0
AllGood m [] = ⊤
AllGood m (part ∷ parts) = IsGood m part × AllGood m parts

pub good-append : (m : ℕ) (parts more : List (List Item → List Fact)) → AllGood m parts → AllGood m more → AllGood m (parts ++ more)
good-append m [] more a b = b
good-append m (part ∷ parts) more a b = (a.0, good-append m parts more a.1 b)

pub good-map : {A : Type 0} (m : ℕ) (part : A → List Item → List Fact) (xs : List A) → ((x : A) → IsGood m (part x)) → AllGood m (map part xs)
good-map m part [] good = tt
good-map m part (x ∷ xs) good = (good x, good-map m part xs good)

pub turn-both : (m : ℕ) (fs gs : List Fact) (k : List Item) → ComeTurn m k fs → ComeTurn m (with_facts m fs k) gs → ComeTurn m k (fs ++ gs)
turn-both m fs gs k a b = record { come = come-both m fs gs k a.come b.come; turn = subst Turn (sym (with-append m fs gs k)) b.turn }

-- good parts one after another
pub turns : (m : ℕ) (parts : List (List Item → List Fact)) → AllGood m parts → (k : List Item) → Turn k → ComeTurn m k (in_turn m parts k)
turns m [] good k z = record { come = tt; turn = z }
turns m (part ∷ parts) good k z =
    let a : ComeTurn m k (part k) = good.0 k z in
    turn-both m (part k) (in_turn m parts (with_facts m (part k) k)) k a (turns m parts good.1 (with_facts m (part k) k) a.turn)

-- facts of no pool change nothing of the pools
calm-one : (m p : ℕ) (f : Fact) (k : List Item) → IsCalm f → of_pool p (made m f ∷ k) ≡ of_pool p k
calm-one m p (Sdam e) k c = refl
calm-one m p (CheckNow a) k c = refl
calm-one m p (Cancel a) k c = refl
calm-one m p _ k c = elim c [ ]

calm-open : (m : ℕ) (f : Fact) (k : List Item) (a : ServerAddress) → IsCalm f → open_pool (made m f ∷ k) a ≡ open_pool k a
calm-open m (Sdam e) k a c = refl
calm-open m (CheckNow b) k a c = refl
calm-open m (Cancel b) k a c = refl
calm-open m _ k a c = elim c [ ]

pub calm-items : (m p : ℕ) (fs : List Fact) (k : List Item) → AreCalm fs → of_pool p (with_facts m fs k) ≡ of_pool p k
calm-items m p [] k c = refl
calm-items m p (f ∷ fs) k c = calm-items m p fs (made m f ∷ k) c.1 ∙ calm-one m p f k c.0

calm-opens : (m : ℕ) (fs : List Fact) (k : List Item) (a : ServerAddress) → AreCalm fs → open_pool (with_facts m fs k) a ≡ open_pool k a
calm-opens m [] k a c = refl
calm-opens m (f ∷ fs) k a c = calm-opens m fs (made m f ∷ k) a c.1 ∙ calm-open m f k a c.0

pub calm-turn : (m : ℕ) (fs : List Fact) (k : List Item) → AreCalm fs → Turn k → ComeTurn m k fs
calm-turn m fs k c z =
    let come : AllMayCome m k fs = calm-come m fs k z.sound c in
    record {
      come = come;
      turn = record {
        sound = come-sound m fs k z.sound come;
        fine = λ p. subst Fine (sym (calm-items m p fs k c)) (z.fine p);
        rest = λ a p e. subst Rested (sym (calm-items m p fs k c)) (z.rest a p (sym (calm-opens m fs k a c) ∙ e));
      };
    }

none-some : (q : ℕ) → ◌≡◌ {A = Option ℕ} None (Some q) → ⊥
none-some q e = cc

-- a pool that is open after facts of the pool p was open before, and is p only where they don't close it
was-open : (b : Bool) (p q : ℕ) (x : Option ℕ) → (if b && is_number x p then None else x) ≡ Some q → (x ≡ Some q) × (q ≡ p → b ≡ false)
was-open b p q None e = absurd (none-some q (none b e))
  where
    none : (b : Bool) → (if b && false then None else None) ≡ Some q → ◌≡◌ {A = Option ℕ} None (Some q)
    none true e = e
    none false e = e
was-open false p q (Some n) e = (e, λ g. refl)
was-open true p q (Some n) e = on (n == p) refl e
  where
    on : (c : Bool) → (n == p) ≡ c → (if true && is_number (Some n) p then None else Some n) ≡ Some q → (Some n ≡ Some q) × (q ≡ p → true ≡ false)
    on true f e = let w : ◌≡◌ {A = Option ℕ} None (Some q) = sym (rw f refl) ∙ e in absurd (none-some q w)
    on false f e =
        let w : Some n ≡ Some q = sym (rw f refl) ∙ e in
        let same : n ≡ q = cc in
        (w, λ g. (let v : (n == p) ≡ true = grind arith in cc))

-- facts of one open pool that leave it fine, and at rest where it is still open
pub own-turn : (p m : ℕ) (fs : List Fact) (k : List Item) → Turn k → was_opened k p ≡ true → AllOwn p m (of_pool p k) fs → Fine (after_facts p m fs (of_pool p k)) → (shuts fs ≡ false → Rested (after_facts p m fs (of_pool p k))) → ComeTurn m k fs
own-turn p m fs k z w own here rests =
    let c : ComeFine m k fs = own-fine p m fs k z.sound w own here (λ q ne. z.fine q) in
    record { come = c.come; turn = record { sound = come-sound m fs k z.sound c.come; fine = c.fine; rest = λ a q e. at c.come a q e (p == q) refl } }
  where
    at : AllMayCome m k fs → (a : ServerAddress) (q : ℕ) → open_pool (with_facts m fs k) a ≡ Some q → (b : Bool) → (p == q) ≡ b → Rested (of_pool q (with_facts m fs k))
    at come a q e b f =
        let v : (open_pool k a ≡ Some q) × (q ≡ p → shuts fs ≡ false) = was-open (shuts fs) p q (open_pool k a) (sym (open-facts p m fs (of_pool p k) k a own) ∙ e) in
        on b f v
      where
        on : (b : Bool) → (p == q) ≡ b → (open_pool k a ≡ Some q) × (q ≡ p → shuts fs ≡ false) → Rested (of_pool q (with_facts m fs k))
        on true f v =
            let same : p ≡ q = grind arith in
            subst (λ n. Rested (of_pool n (with_facts m fs k))) same (subst Rested (sym (of_pool-with_facts p m fs k)) (rests (v.1 (sym same))))
        on false f v =
            let ne : p ≢ q = grind arith in
            subst Rested (sym (own-leave p m fs k z.sound come own q ne)) (z.rest a q v.0)
