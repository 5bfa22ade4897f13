-- One turn of the loop that goes over the standing asks with an entry.
use Rattle.std.proofs.Common.{◌≡◌, ℕ, ◌+◌, ◌≤◌, ◌<◌, false, List, [], ◌∷◌, ◌++◌, length, get_or, take, drop, sym, ap, ◌∙◌, arith, append_assoc, add-one, suc, append-nil}
use Rattle.std.specs.List.{remove}
use Rattle.std.proofs.Math.ListN.{set, length-set}
use Rattle.std.proofs.lemmas.List.Edits.{length-remove}
use Rattle.std.proofs.lemmas.List.{take_more, take_more_set, drop-set-lt, length-take-le}
use Rattle.std.proofs.Math.Seq.{take-append_seam, drop-append_seam, take-length, drop-length}
use Rattle.mdb_log.specs.declared.log.Entry.{Entry}
use Rattle.mdb_proxies.specs.declared.asked.Standing.{Standing}
use Rattle.mdb_proxies.specs.declared.books.Fate.{Fate}
use Rattle.mdb_proxies.specs.declared.books.Fate.TheVariants.{Stays, Charged, Gone}
use Rattle.mdb_proxies.specs.Tables.{fate_of, fated, after_entry}
use Rattle.mdb_proxies.proofs.Numbers.{dropped}

-- the loop has done the first i of what was before
abbrev pub Turns : Entry → List Standing → ℕ → List Standing → Type 0
Turns e os i before = take i os ++ after_entry e (drop i os) ≡ after_entry e before

next-one : (e : Entry) (os before : List Standing) (i : ℕ) (o : Standing) (f : Fate) → i < length os → o ≡ get_or os i o → f ≡ fate_of e o → Turns e os i before → take i os ++ fated f o (after_entry e (drop (i + 1) os)) ≡ after_entry e before
next-one e os before i o f h is j t =
    ap (λ (g : Fate). take i os ++ fated g o (after_entry e (drop (i + 1) os))) j ∙ ap (λ l. take i os ++ after_entry e l) (sym (dropped os i o h is)) ∙ t

pub turn-stays : (e : Entry) (os before : List Standing) (i : ℕ) (o : Standing) → i < length os → o ≡ get_or os i o → Stays ≡ fate_of e o → Turns e os i before → Turns e os (i + 1) before
turn-stays e os before i o h is j t =
    ap (λ l. l ++ after_entry e (drop (i + 1) os)) (take_more os i o h ∙ ap (λ (x : Standing). take i os ++ x ∷ []) (sym is))
    ∙ append_assoc (take i os) (o ∷ []) (after_entry e (drop (i + 1) os))
    ∙ next-one e os before i o Stays h is j t

pub turn-charged : (e : Entry) (os before : List Standing) (i : ℕ) (o : Standing) → i < length os → o ≡ get_or os i o → Charged ≡ fate_of e o → Turns e os i before → Turns e (set os i (record o { held = false })) (i + 1) before
turn-charged e os before i o h is j t =
    let p : Standing = record o { held = false } in
    ap (λ l. l ++ after_entry e (drop (i + 1) (set os i p))) (take_more_set os i p h)
    ∙ ap (λ l. (take i os ++ p ∷ []) ++ after_entry e l) (drop-set-lt (i + 1) os i p (omega arith))
    ∙ append_assoc (take i os) (p ∷ []) (after_entry e (drop (i + 1) os))
    ∙ next-one e os before i o Charged h is j t

pub turn-gone : (e : Entry) (os before : List Standing) (i : ℕ) (o : Standing) → i < length os → o ≡ get_or os i o → Gone ≡ fate_of e o → Turns e os i before → Turns e (remove os i) i before
turn-gone e os before i o h is j t =
    let long : length (take i os) ≡ i = length-take-le i os (omega arith) in
    let front : take i (remove os i) ≡ take i os = ap (λ (n : ℕ). take n (take i os ++ drop (suc i) os)) (sym long) ∙ take-append_seam (take i os) (drop (suc i) os) in
    let back : drop i (remove os i) ≡ drop (i + 1) os = ap (λ (n : ℕ). drop n (take i os ++ drop (suc i) os)) (sym long) ∙ drop-append_seam (take i os) (drop (suc i) os) ∙ ap (λ (n : ℕ). drop n os) (sym (add-one i)) in
    ap (λ l. l ++ after_entry e (drop i (remove os i))) front ∙ ap (λ l. take i os ++ after_entry e l) back ∙ next-one e os before i o Gone h is j t

-- after the last of them
pub turns-all : (e : Entry) (os before : List Standing) (i : ℕ) → i ≡ length os → Turns e os i before → os ≡ after_entry e before
turns-all e os before i h t =
    let front : take i os ≡ os = ap (λ (n : ℕ). take n os) h ∙ take-length os in
    let back : drop i os ≡ [] = ap (λ (n : ℕ). drop n os) h ∙ drop-length os in
    sym (ap (λ l. l ++ after_entry e (drop i os)) front ∙ ap (λ l. os ++ after_entry e l) back ∙ append-nil os) ∙ t

-- an element is the one at its place, whatever stands there past the end
pub same-at : (os : List Standing) (i : ℕ) (o p : Standing) → i < length os → o ≡ get_or os i o → p ≡ get_or os i p → o ≡ p
same-at os i o p h a b = let e : o ∷ drop (i + 1) os ≡ p ∷ drop (i + 1) os = sym (dropped os i o h a) ∙ dropped os i p h b in cc

pub set-within : (os : List Standing) (i : ℕ) (p : Standing) → i < length os → i + 1 ≤ length (set os i p)
set-within os i p h = simp length-set (omega (arith, h))

pub remove-within : (os ps : List Standing) (i : ℕ) → i < length os → ps ≡ remove os i → i ≤ length ps
remove-within os ps i h e = omega (arith, h, length-remove os i h, ap length e)
