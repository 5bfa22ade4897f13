-- Between two steps no more connections of a pool live than parties have one, where none is available and each pending one is owned.
use Rattle.std.proofs.Common.{ℕ, ◌≡◌, ◌+◌, ◌≤◌, ◌<◌, ◌==◌, Bool, true, false, ◌&&◌, ◌||◌, List, [], ◌∷◌, ◌++◌, length, Option, Some, None, refl, sym, ◌∙◌, ap, subst, arith, nat_lt, length-append}
use Rattle.std.proofs.lemmas.Bool.Decides.{Decides-eqb, nat_tests}
use Rattle.mdb_log.specs.History.{PoolItem, gave_up, pinned_by, replicated, taken, unpinned, created, given, has_taken, is_number}
use Rattle.mdb_log.specs.Connections.{one_if, has, live, live_total, created_total, pending_list, available_list, available, pending, held, pinned, parties, pins, is_pinned}
use Rattle.mdb_log.specs.Legal.{OnePlace}
use Rattle.mdb_log.specs.PlainConnections.{closings, connections, is_created}
use Rattle.mdb_log.proofs.Numbers.{has-without-is, same-number}
use Rattle.mdb_sound.specs.Sound.{Sound}
use Rattle.mdb_sound.specs.Counts.{creations as made, closings as shut}
use Rattle.mdb_sound.specs.Laws.{ConnectionLaws}
use Rattle.mdb_sound.proofs.Connections.{connection-laws}
use Rattle.mdb_sound.proofs.Parties.{one-connection, one-party}
use Rattle.mdb_histories.proofs.OfPlain.Connections.{connections-created}
use Rattle.mdb_histories.proofs.OfPlain.Totals.{length-connections, live-totals}
use Rattle.mdb_histories.proofs.OfPlain.Holding.{pinned-pins}
use Rattle.mdb_proxy_laws.proofs.Counting.{AreDistinct, distinct-without}
use Rattle.mdb_proxy_laws.proofs.Owned.{are_simple, IsOwned}

-- ---- the parties of connections

abbrev pub holders : List PoolItem → List ℕ → List ℕ
holders xs [] = []
holders xs (c ∷ cs) = parties xs c ++ holders xs cs

has-both : (r : ℕ) (ps qs : List ℕ) → has r (ps ++ qs) ≡ has r ps || has r qs
has-both r [] qs = refl
has-both r (p ∷ ps) qs = go (p == r) (has-both r ps qs)
  where
    go : (b : Bool) → has r (ps ++ qs) ≡ has r ps || has r qs → (b || has r (ps ++ qs)) ≡ ((b || has r ps) || has r qs)
    go true deeper = refl
    go false deeper = deeper

-- one of them has the connection of the party
pub holder-of : (xs : List PoolItem) → Sound xs → (cs : List ℕ) (r : ℕ) → has r (holders xs cs) ≡ true → (c : ℕ) × (has c cs ≡ true) × (is_number (given xs r) c ≡ true)
holder-of xs s [] r h = absurd (let k : false ≡ true = h in cc)
holder-of xs s (c ∷ cs) r h = go (has r (parties xs c)) refl (sym (has-both r (parties xs c) (holders xs cs)) ∙ h) (holder-of xs s cs r)
  where
    go : (b : Bool) → has r (parties xs c) ≡ b → (b || has r (holders xs cs)) ≡ true → (has r (holders xs cs) ≡ true → (d : ℕ) × (has d cs ≡ true) × (is_number (given xs r) d ≡ true)) → (d : ℕ) × (has d (c ∷ cs) ≡ true) × (is_number (given xs r) d ≡ true)
    go true i e deeper = (c, rw (same-number c) refl, sym (one-connection xs s r c) ∙ i)
    go false i e deeper = let w = deeper e in (w.0, later (c == w.0) w.1, w.2)
      where
        later : (b : Bool) {d : Bool} → d ≡ true → (b || d) ≡ true
        later true e = refl
        later false e = e

number-one : (o : Option ℕ) (c d : ℕ) → is_number o c ≡ true → is_number o d ≡ true → c ≡ d
number-one None c d e f = absurd (let k : false ≡ true = e in cc)
number-one (Some n) c d e f = sym ((Decides-eqb n c).0 e) ∙ (Decides-eqb n d).0 f

pub distinct-holders : (xs : List PoolItem) → Sound xs → (cs : List ℕ) → AreDistinct cs → AreDistinct (holders xs cs)
distinct-holders xs s [] d = tt
distinct-holders xs s (c ∷ cs) d = go (parties xs c) refl (one-party xs s c) (distinct-holders xs s cs d.1)
  where
    go : (ps : List ℕ) → parties xs c ≡ ps → length (parties xs c) ≤ 1 → AreDistinct (holders xs cs) → AreDistinct (ps ++ holders xs cs)
    go [] i l later = later
    go (r ∷ []) i l later = (none (has r (holders xs cs)) refl, later)
      where
        mine : is_number (given xs r) c ≡ true
        mine = sym (one-connection xs s r c) ∙ (ap (has r) i ∙ rw (same-number r) refl)

        none : (b : Bool) → has r (holders xs cs) ≡ b → b ≡ false
        none false e = refl
        none true e =
            let w = holder-of xs s cs r e in
            let same : w.0 ≡ c = number-one (given xs r) w.0 c w.2 mine in
            let k : true ≡ false = sym (subst (λ n. has n cs ≡ true) same w.1) ∙ d.0 in
            cc
    go (r ∷ (q ∷ ps)) i l later = absurd (let k : length (parties xs c) ≡ length (r ∷ (q ∷ ps)) = ap length i in omega (arith, k, l))

pub distinct-connections : (xs : List PoolItem) → AreDistinct (connections xs)
distinct-connections [] = tt
distinct-connections (created c m ∷ xs) = (has-without-is c c (connections xs) ∙ (rw (same-number c) (none (has c (connections xs)))), distinct-without c (connections xs) (distinct-connections xs))
  where
    none : (b : Bool) → (b && false) ≡ false
    none true = refl
    none false = refl
distinct-connections (_ ∷ xs) = distinct-connections xs

-- ---- how many live

pins-none : (xs : List PoolItem) (c : ℕ) → are_simple xs ≡ true → pins xs c ≡ 0
pins-none [] c s = refl
pins-none (pinned_by r ∷ xs) c s = absurd (let k : false ≡ true = s in cc)
pins-none (replicated d ∷ xs) c s = absurd (let k : false ≡ true = s in cc)
pins-none (gave_up r ∷ xs) c s = absurd (let k : false ≡ true = s in cc)
pins-none (taken r d ∷ xs) c s = absurd (let k : false ≡ true = s in cc)
pins-none (unpinned d ∷ xs) c s = let n : pins xs c ≡ 0 = pins-none xs c s in omega (arith, n)
pins-none (_ ∷ xs) c s = pins-none xs c s

pub taken-none : (xs : List PoolItem) (r : ℕ) → are_simple xs ≡ true → has_taken xs r ≡ false
taken-none [] r s = refl
taken-none (taken q d ∷ xs) r s = absurd (let k : false ≡ true = s in cc)
taken-none (gave_up q ∷ xs) r s = absurd (let k : false ≡ true = s in cc)
taken-none (pinned_by q ∷ xs) r s = absurd (let k : false ≡ true = s in cc)
taken-none (replicated d ∷ xs) r s = absurd (let k : false ≡ true = s in cc)
taken-none (_ ∷ xs) r s = taken-none xs r s

unpinned-none : (xs : List PoolItem) (c : ℕ) → are_simple xs ≡ true → pinned xs c ≡ 0
unpinned-none xs c s = go (is_pinned xs c) refl
  where
    go : (b : Bool) → is_pinned xs c ≡ b → one_if b ≡ 0
    go false i = refl
    go true i = absurd (let k : nat_lt 0 (pins xs c) ≡ true = pinned-pins xs c i in let n : nat_lt 0 (pins xs c) ≡ false = ap (nat_lt 0) (pins-none xs c s) in let z : true ≡ false = sym k ∙ n in cc)

some-length : (r : ℕ) (ps : List ℕ) → has r ps ≡ true → 1 ≤ length ps
some-length r [] h = absurd (let k : false ≡ true = h in cc)
some-length r (p ∷ ps) h = omega arith

-- a connection that was created has a party or was closed
held-or-closed : (xs : List PoolItem) → Sound xs → OnePlace xs → IsOwned xs → available_list xs ≡ [] → (c : ℕ) → is_created xs c ≡ true → 1 ≤ length (parties xs c) + closings xs c
held-or-closed xs s place w none c e =
    let laws : ConnectionLaws xs c = connection-laws xs s c in
    let sum : live xs c + shut xs c ≡ made xs c = laws.lives_till_closed in
    let one : pending xs c + available xs c + held xs c + pinned xs c ≡ live xs c = (place c).0 in
    let away : available xs c ≡ 0 = ap (λ cs. one_if (has c cs)) none in
    let loose : pinned xs c ≡ 0 = unpinned-none xs c w.simple in
    let there : 0 < made xs c = grind (arith, nat_tests) in
    on (has c (pending_list xs)) refl (omega (arith, one, away, loose)) sum there
  where
    on : (b : Bool) → has c (pending_list xs) ≡ b → live xs c ≡ pending xs c + held xs c → live xs c + shut xs c ≡ made xs c → 0 < made xs c → 1 ≤ length (parties xs c) + closings xs c
    on true i l sum there = let o = w.each c i in let k : 1 ≤ length (parties xs c) = some-length o.0 (parties xs c) o.1 in omega (arith, k)
    on false i l sum there =
        let p : pending xs c ≡ 0 = ap one_if i in
        let h : held xs c ≡ length (parties xs c) = rw i refl in
        omega (arith, l, sum, there, p, h)

-- the closings of connections, added up
abbrev closed_in : List PoolItem → List ℕ → ℕ
closed_in xs [] = 0
closed_in xs (c ∷ cs) = closed_in xs cs + closings xs c

length-holders : (xs : List PoolItem) (cs : List ℕ) → ((c : ℕ) → has c cs ≡ true → 1 ≤ length (parties xs c) + closings xs c) → length cs ≤ length (holders xs cs) + closed_in xs cs
length-holders xs [] each = omega arith
length-holders xs (c ∷ cs) each =
    let deeper : length cs ≤ length (holders xs cs) + closed_in xs cs = length-holders xs cs (λ d h. each d (later (c == d) h)) in
    let here : 1 ≤ length (parties xs c) + closings xs c = each c (rw (same-number c) refl) in
    omega (arith, deeper, here, length-append (parties xs c) (holders xs cs))
  where
    later : (b : Bool) {d : Bool} → d ≡ true → (b || d) ≡ true
    later true e = refl
    later false e = e

-- Of the connections that live there are no more than holders.
pub live-holders : (xs : List PoolItem) → Sound xs → OnePlace xs → IsOwned xs → available_list xs ≡ [] → live_total xs ≤ length (holders xs (connections xs))
live-holders xs s place w none =
    let all : live_total xs + closed_in xs (connections xs) ≡ created_total xs = live-totals xs s in
    let count : length (connections xs) ≡ created_total xs = length-connections xs s in
    let each : length (connections xs) ≤ length (holders xs (connections xs)) + closed_in xs (connections xs) = length-holders xs (connections xs) (λ c h. held-or-closed xs s place w none c (sym (connections-created xs c) ∙ h)) in
    omega (arith, all, count, each)
