-- What the lists beside the tables of a pool say.
use Rattle.std.proofs.Common.{◌≡◌, ◌≤◌, ◌+◌, ℕ, Bool, true, false, not, ◌&&◌, ◌||◌, Option, Some, None, List, [], ◌∷◌, filter, find, length, refl, ◌∙◌, ap, arith}
use Rattle.std.proofs.lemmas.Grind.{common_steps}
use Rattle.mdb_log.specs.Connections.{has}
use Rattle.mdb_slots.specs.Lists.{has as among}
use Rattle.mdb_slots.specs.Keyed.{last_after}
use Rattle.std.specs.List.{count_by}
use Rattle.std.proofs.lemmas.List.{length-map}
use Rattle.std.proofs.lemmas.List.Sums.{length-filter}
use Rattle.mdb_base.specs.declared.object_id.ObjectId.{ObjectId}
use Rattle.mdb_slots.specs.Sided.{stays, noted, numbered, record_of}
use Rattle.mdb_pool.specs.Kept.Places.{is_available, is_pending, is_queued, stays as stays_open}
use Rattle.mdb_pool.specs.declared.kept.connection.Place.{Place}
use Rattle.mdb_pool.specs.declared.kept.connection.Place.TheVariants.{Pending, Available, Held, Pinned}
use Rattle.mdb_pool.specs.Kept.Values.{last_from}
use Rattle.mdb_pool.specs.declared.kept.connection.Connection.{Connection}
use Rattle.mdb_pool.specs.declared.kept.request.Request.{Request}

-- a number is in a list of a set of numbers where it is in the list
pub found_number : (k : ℕ) (ks : List ℕ) → among k ks ≡ has k ks
found_number k [] = refl
found_number k (j ∷ js) = grind (arith, common_steps, found_number k js)

-- the last of those that are available
pub last_there : (before : Option Connection) (xs : List Connection) → last_from before xs ≡ last_after before (filter (λ x. is_available x.place) xs)
last_there before [] = refl
last_there before (x ∷ xs) = on (is_available x.place) refl (last_there before xs) (last_there (Some x) xs)
  where
    on : (b : Bool) → is_available x.place ≡ b → last_from before xs ≡ last_after before (filter (λ x. is_available x.place) xs) → last_from (Some x) xs ≡ last_after (Some x) (filter (λ x. is_available x.place) xs) → last_from before (x ∷ xs) ≡ last_after before (filter (λ x. is_available x.place) (x ∷ xs))
    on true e r t = rw e t
    on false e r t = rw e r

-- the first queued request that is no blocked warm one
pub candidate_blocked : (qs : List Request) → find (λ q. is_queued q.phase && not (q.warm && true)) qs ≡ find (λ q. is_queued q.phase && not q.warm) qs
candidate_blocked [] = refl
candidate_blocked (q ∷ qs) = grind (arith, common_steps, candidate_blocked qs)

pub candidate_free : (qs : List Request) → find (λ q. is_queued q.phase && not (q.warm && false)) qs ≡ find (λ q. is_queued q.phase) qs
candidate_free [] = refl
candidate_free (q ∷ qs) = grind (arith, common_steps, candidate_free qs)

-- a value that meets no test takes the place of any
pub stays_out : {T : Type 0} (test : T → Bool) (x : T) (o : Option T) → test x ≡ false → stays test x o ≡ true
stays_out test x None e = refl
stays_out test x (Some y) e = rw e refl

-- what meets two tests is found among what meets the first
pub find_among : {T : Type 0} (p q : T → Bool) (xs : List T) → find (λ x. p x && q x) xs ≡ find q (filter p xs)
find_among p q [] = refl
find_among p q (x ∷ xs) = grind (arith, common_steps, find_among p q xs)

-- a list has as many records as values meet its test
pub listed_length : {T : Type 0} (key : T → ℕ) (service : T → Option ObjectId) (since : T → ℕ) (test : T → Bool) (xs : List T) → length (noted key service since test xs) ≡ count_by test xs
listed_length key service since test xs = length-map (filter test xs) (record_of key service since) ∙ length-filter test xs

-- a list has as many numbers as values meet its test
pub numbered_length : {T : Type 0} (key : T → ℕ) (test : T → Bool) (xs : List T) → length (numbered key test xs) ≡ count_by test xs
numbered_length key test xs = length-map (filter test xs) key ∙ length-filter test xs

-- those that meet a test meet another as well, or do not
pub both_apart : {T : Type 0} (p w : T → Bool) (xs : List T) → count_by (λ x. p x && w x) xs + count_by (λ x. p x && not (w x)) xs ≡ count_by p xs
both_apart p w [] = refl
both_apart p w (x ∷ xs) = grind (arith, common_steps, both_apart p w xs)

-- no more meet two tests than one of them
fewer_both : {T : Type 0} (p w : T → Bool) (xs : List T) → count_by (λ x. p x && w x) xs ≤ count_by p xs
fewer_both p w [] = omega arith
fewer_both p w (x ∷ xs) = grind (arith, common_steps, fewer_both p w xs)

-- where as many do, none meets the one and not the other
pub none_else : {T : Type 0} (p w : T → Bool) (xs : List T) → count_by (λ x. p x && w x) xs ≡ count_by p xs → find (λ x. p x && not (w x)) xs ≡ None
none_else p w [] e = refl
none_else p w (x ∷ xs) e = grind (arith, common_steps, fewer_both p w xs, none_else p w xs, e)

-- one in the state of another takes its place
pub stays_same : {T : Type 0} (test : T → Bool) (x y : T) (o : Option T) → o ≡ Some y → test x ≡ test y → stays test x o ≡ true
stays_same test x y o e t = rw (e, t) (either (test y))
  where
    either : (b : Bool) → (not b || b) ≡ true
    either true = refl
    either false = refl

-- what is neither available nor pending stays
pub stay_ones : (xs : List Connection) → filter (λ x. not (is_pending x.place)) (filter (λ x. not (is_available x.place)) xs) ≡ filter (λ x. stays_open x.place) xs
stay_ones [] = refl
stay_ones (x ∷ xs) = on x.place refl (stay_ones xs)
  where
    on : (p : Place) → x.place ≡ p → filter (λ x. not (is_pending x.place)) (filter (λ x. not (is_available x.place)) xs) ≡ filter (λ x. stays_open x.place) xs
        → filter (λ x. not (is_pending x.place)) (filter (λ x. not (is_available x.place)) (x ∷ xs)) ≡ filter (λ x. stays_open x.place) (x ∷ xs)
    on Pending e r = rw e r
    on Available e r = rw e r
    on Held e r = rw e (ap (λ ys. record x { place = Held } ∷ ys) r)
    on Pinned e r = rw e (ap (λ ys. record x { place = Pinned } ∷ ys) r)
