-- The pools of a sound history are numbered from 0 on, in the order in which they were opened.
use Rattle.std.proofs.Common.{ℕ, ◌≡◌, ◌==◌, ◌+◌, ◌≤◌, Bool, true, false, List, [], ◌∷◌, ◌++◌, length, refl, sym, ◌∙◌, subst, arith}
use Rattle.std.specs.Prelude.{⊤}
use Rattle.std.specs.List.{list_any}
use Rattle.std.proofs.lemmas.List.{length_push}
use Rattle.mdb_events.specs.declared.fact.Fact.{Fact}
use Rattle.mdb_events.specs.declared.fact.Fact.TheVariants.{Opened}
use Rattle.mdb_log.specs.History.{Item, did, made}
use Rattle.mdb_log.specs.Homes.{Home, homes}
use Rattle.mdb_histories.specs.SoundHistory.{SoundHistory, MayCome, was_opened}
use Rattle.mdb_histories.proofs.Opened.{any-push}

-- no two of the pools have one number
abbrev pub AllApart : List Home → Type 0
AllApart [] = ⊤
AllApart (x ∷ hs) = (list_any (λ y. y.number == x.number) hs ≡ false) × AllApart hs

-- no number is past the last
abbrev Below : ℕ → List Home → Type 0
Below n hs = (p : ℕ) → n ≤ p → list_any (λ y. y.number == p) hs ≡ false

below-push : (hs : List Home) (x : Home) (n : ℕ) → Below n hs → x.number ≡ n → Below (n + 1) (hs ++ x ∷ [])
below-push hs x n below e p l =
    let other : (x.number == p) ≡ false = on (x.number == p) refl in
    any-push p hs x ∙ rw (below p (omega arith), other) refl
  where
    on : (b : Bool) → (x.number == p) ≡ b → (x.number == p) ≡ false
    on false f = f
    on true f = let w : x.number ≡ p = grind arith in absurd (omega arith)

apart-push : (hs : List Home) (x : Home) → AllApart hs → list_any (λ y. y.number == x.number) hs ≡ false → AllApart (hs ++ x ∷ [])
apart-push [] x a e = (refl, tt)
apart-push (y ∷ hs) x a e = (any-push y.number hs x ∙ rw (a.0, other (x.number == y.number) refl) refl, apart-push hs x a.1 (rest (y.number == x.number) refl))
  where
    first : (b : Bool) → (y.number == x.number) ≡ b → (y.number == x.number) ≡ false
    first false f = f
    first true f = let w : list_any (λ z. z.number == x.number) (y ∷ hs) ≡ true = rw f refl in cc

    other : (b : Bool) → (x.number == y.number) ≡ b → (x.number == y.number) ≡ false
    other false f = f
    other true f = let g : (y.number == x.number) ≡ false = first (y.number == x.number) refl in let same : x.number ≡ y.number = grind arith in let w : (y.number == x.number) ≡ true = grind arith in cc

    rest : (b : Bool) → (y.number == x.number) ≡ b → list_any (λ z. z.number == x.number) hs ≡ false
    rest true f = let w : list_any (λ z. z.number == x.number) (y ∷ hs) ≡ true = rw f refl in cc
    rest false f = sym (rw f refl) ∙ e

record Numbered (hs : List Home) : Type 0 where
  pub below : Below (length hs) hs
  pub apart : AllApart hs

numbered : (h : List Item) → SoundHistory h → Numbered (homes h)
numbered [] s = record { below = λ p l. refl; apart = tt }
numbered (did step reply ∷ h) s = numbered h s.1
numbered (made m f ∷ h) s = on f s.0 (numbered h s.1)
  where
    on : (f : Fact) → MayCome h (made m f) → Numbered (homes h) → Numbered (homes (made m f ∷ h))
    on (Opened p a) w n =
        let x : Home = record { number = p; address = a } in
        let more : length (homes h ++ x ∷ []) ≡ length (homes h) + 1 = length_push (homes h) x in
        let e : p ≡ length (homes h) = w.names in
        record {
          below = subst (λ k. Below k (homes h ++ x ∷ [])) (sym more) (below-push (homes h) x (length (homes h)) n.below e);
          apart = apart-push (homes h) x n.apart (n.below p (subst (λ k. length (homes h) ≤ k) (sym e) (omega arith)));
        }
    on _ w n = n

pub homes-apart : (h : List Item) → SoundHistory h → AllApart (homes h)
homes-apart h s = (numbered h s).apart

-- the next number is that of no pool yet
pub next-unopened : (h : List Item) → SoundHistory h → (p : ℕ) → p ≡ length (homes h) → was_opened h p ≡ false
next-unopened h s p e = (numbered h s).below p (subst (λ k. length (homes h) ≤ k) (sym e) (omega arith))
