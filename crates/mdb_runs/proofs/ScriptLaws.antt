-- Scripts and their lines: a script has its lines once, and the first bad line is at one place.
use Rattle.std.proofs.Common.{◌≡◌, ℕ, ◌+◌, ◌≤◌, ◌<◌, ◌⊎◌, inl, inr, true, List, [], ◌∷◌, ◌++◌, length, map, All, Option, Some, None, refl, sym, ap, ◌∙◌, arith, subst, length-append}
use Rattle.std.proofs.lemmas.List.{append-nil, length-map}
use Rattle.std.proofs.lemmas.List.Elements.{All-head, All-tail}
use Rattle.std.specs.Io.KnownBytes.{Consumes, IsAtEnd}
use Rattle.mdb_log.specs.declared.step.Step.{Step}
use Rattle.mdb_lines.specs.Spelling.{spelling}
use Rattle.mdb_lines.specs.Script.{Spells, line_of, AreAllowed}
use Rattle.mdb_lines.proofs.Lines.{line_same}
use Rattle.mdb_driver_rules.specs.Acts.{is_driver_act}
use Rattle.mdb_runs.specs.Runs.{IsWithin, IsBad}

some_same : {A : Type 0} (a b : A) → Some a ≡ Some b → a ≡ b
some_same a b h = cc

cons_head : {A : Type 0} (x y : A) (xs ys : List A) → x ∷ xs ≡ y ∷ ys → x ≡ y
cons_head x y xs ys h = cc

cons_tail : {A : Type 0} (x y : A) (xs ys : List A) → x ∷ xs ≡ y ∷ ys → xs ≡ ys
cons_tail x y xs ys h = cc

-- steps with the same lines are the same
pub all_same : (n : ℕ) (ss ts : List Step) → AreAllowed n ss → AreAllowed n ts → map line_of ss ≡ map line_of ts → ss ≡ ts
all_same n [] [] hs ht e = refl
all_same n [] (t ∷ ts) hs ht e = absurd (cc)
all_same n (s ∷ ss) [] hs ht e = absurd (cc)
all_same n (s ∷ ss) (t ∷ ts) hs ht e =
    let first = line_same n s t hs.0 ht.0 (cons_head (line_of s) (line_of t) (map line_of ss) (map line_of ts) e) in
    let others = all_same (n + 1) ss ts hs.1 ht.1 (cons_tail (line_of s) (line_of t) (map line_of ss) (map line_of ts) e) in
    cc

-- the line behind the first lines of a script is one that may come after its first step
next_spelled : (P : Step → Type 0) (n : ℕ) (done ss : List Step) (bad : List ℕ) (more rest : List (List ℕ)) → length done < length ss → map line_of done ++ bad ∷ more ≡ map line_of ss ++ rest
    → AreAllowed n ss → All P ss → (s : Step) × Spells (n + length done) (spelling s) s × P s × (bad ≡ line_of s)
next_spelled P n [] [] bad more rest fewer e allowed all = absurd (omega (arith, fewer))
next_spelled P n [] (s ∷ ss) bad more rest fewer e allowed all =
    (s, subst (λ (k : ℕ). Spells k (spelling s) s) (omega arith) allowed.0, All-head P s ss all, cons_head bad (line_of s) more (map line_of ss ++ rest) e)
next_spelled P n (t ∷ done) [] bad more rest fewer e allowed all = absurd (omega (arith, fewer))
next_spelled P n (t ∷ done) (s ∷ ss) bad more rest fewer e allowed all =
    let others = next_spelled P (n + 1) done ss bad more rest (omega (arith, fewer)) (cons_tail (line_of t) (line_of s) (map line_of done ++ bad ∷ more) (map line_of ss ++ rest) e) allowed.1 (All-tail P s ss all) in
    (others.0, subst (λ (k : ℕ). Spells k (spelling others.0) others.0) (omega arith) others.1, others.2, others.3)

-- no line is bad where a longer script has one
pub bad_not : (done ss : List Step) (bad : List ℕ) (more rest : List (List ℕ)) → length done < length ss → map line_of done ++ bad ∷ more ≡ map line_of ss ++ rest → AreAllowed 1 done → AreAllowed 1 ss
    → IsWithin ss → IsBad (1 + length done) done bad → ⊥
bad_not [] [] bad more rest fewer e before allowed within never = absurd (omega (arith, fewer))
bad_not [] (s ∷ ss) bad more rest fewer e before allowed within never = never s (allowed.0, within.0) (cons_head bad (line_of s) more (map line_of ss ++ rest) e)
bad_not (t ∷ done) [] bad more rest fewer e before allowed within never = absurd (omega (arith, fewer))
bad_not (t ∷ done) (s ∷ ss) bad more rest fewer e before allowed within never =
    let first : t ≡ s = line_same 1 t s before.0 allowed.0 (cons_head (line_of t) (line_of s) (map line_of done ++ bad ∷ more) (map line_of ss ++ rest) e) in
    let tail = cons_tail (line_of t) (line_of s) (map line_of done ++ bad ∷ more) (map line_of ss ++ rest) e in
    let next = next_spelled (λ (u : Step). is_driver_act u.act ≡ true) 2 done ss bad more rest (omega (arith, fewer)) tail allowed.1 within.1 in
    let spelled : Spells (1 + length (t ∷ done)) (spelling next.0) next.0 = subst (λ (k : ℕ). Spells k (spelling next.0) next.0) (omega arith) next.1 in
    never next.0 (spelled, next.2) next.3

-- a script is longer than its first lines that have a line behind them
pub fewer_lines : (done ss : List Step) (bad : List ℕ) (more : List (List ℕ)) → map line_of done ++ bad ∷ more ≡ map line_of ss → length done < length ss
fewer_lines done ss bad more e =
    let size : length (map line_of done ++ bad ∷ more) ≡ length (map line_of ss) = ap length e in
    omega (arith, size, length-append (map line_of done) (bad ∷ more), length-map done line_of, length-map ss line_of)

-- the first bad line is at one place
pub one_place : (done ss : List Step) (bad worse : List ℕ) (more rest : List (List ℕ)) → map line_of done ++ bad ∷ more ≡ map line_of ss ++ worse ∷ rest → AreAllowed 1 done → IsWithin done → AreAllowed 1 ss
    → IsWithin ss → IsBad (1 + length done) done bad → IsBad (1 + length ss) ss worse → (length done ≡ length ss) ⊎ ((length done < length ss) ⊎ (length ss < length done)) → length done ≡ length ss
one_place done ss bad worse more rest e before within allowed inside never neither (inl same) = same
one_place done ss bad worse more rest e before within allowed inside never neither (inr (inl fewer)) = absurd (bad_not done ss bad more (worse ∷ rest) fewer e before allowed inside never)
one_place done ss bad worse more rest e before within allowed inside never neither (inr (inr longer)) = absurd (bad_not ss done worse rest (bad ∷ more) longer (sym e) allowed before within neither)

-- a source that is read to its end gave what it told
pub told : (left new : Option (List ℕ)) (input found : List ℕ) → left ≡ Some input → Consumes left new found → IsAtEnd new → found ≡ input
told None new input found e h ends = absurd (cc)
told (Some xs) None input found e h ends = absurd h
told (Some xs) (Some ys) input found e h ends = let all : xs ≡ found = h ∙ rw ends (append-nil found) in let same = some_same xs input e in sym all ∙ same

-- what a source gave is no longer than what it told
pub no_longer : (left new : Option (List ℕ)) (input found : List ℕ) → left ≡ Some input → Consumes left new found → length found ≤ length input
no_longer None new input found e h = absurd (cc)
no_longer (Some xs) None input found e h = absurd h
no_longer (Some xs) (Some ys) input found e h = let same = some_same xs input e in let size : length input ≡ length (found ++ ys) = ap length (sym same ∙ h) in omega (arith, size, length-append found ys)
