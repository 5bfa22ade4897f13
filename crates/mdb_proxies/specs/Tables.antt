-- What the tables of a proxy hold.
use Rattle.std.specs.Prelude.{◌≡◌, ℕ, ◌+◌, ◌≤◌, ◌<◌, Bool, true, false, not, ◌&&◌, ◌||◌, if◌then◌else◌, ◌==◌, nat_eq, nat_lt, nat_le, List, [], ◌∷◌, length, Option, Some, None, is_some, option_map, ⊤, zero, suc}
use Rattle.std.specs.List.{list_any, HoldsAt}
use Rattle.std.specs.HashMap.{get}
use Rattle.mdb_base.specs.declared.address.ServerAddress.{ServerAddress}
use Rattle.mdb_log.specs.declared.step.Act.{Act}
use Rattle.mdb_log.specs.declared.step.Act.TheVariants.{Request, Return}
use Rattle.mdb_log.specs.declared.log.Entry.{Entry}
use Rattle.mdb_log.specs.Driver.{is_refusal}
use Rattle.mdb_proxies.specs.declared.asked.Asked.{Asked}
use Rattle.mdb_proxies.specs.declared.asked.Standing.{Standing}
use Rattle.mdb_proxies.specs.declared.asked.Note.{Note}
use Rattle.mdb_proxies.specs.declared.books.Books.{Books}
use Rattle.mdb_proxies.specs.declared.books.Fate.{Fate}
use Rattle.mdb_proxies.specs.declared.books.Fate.TheVariants.{Stays, Charged, Gone}
use Rattle.mdb_proxies.specs.declared.freed.Freed.{Freed}
use Rattle.mdb_proxies.specs.declared.freed.Freed.TheVariants.{Nowhere, At, Anywhere}
use Rattle.mdb_proxies.specs.Shares.{share_of}
use Rattle.mdb_proxies.specs.Standings.{standing_at, held_at, charge_in}
use Rattle.mdb_proxies.specs.Charge.{requests, ends, settles, since, is_held, counts}
use Rattle.mdb_proxies.specs.Telling.{is_finished}

-- ---- the standing asks

-- how many of the standing asks are held back
abbrev pub held_in : List Standing → ℕ
held_in [] = 0
held_in (o ∷ os) = if o.held then 1 + held_in os else held_in os

-- the ask may be handed on
abbrev pub may_go : List ℕ → List Standing → Standing → Bool
may_go shares os o = o.held && nat_lt (charge_in os o.tenant o.address) (share_of shares o.tenant)

-- some standing ask may be handed on
abbrev pub some_may_go : List ℕ → List Standing → Bool
some_may_go shares os = list_any (may_go shares os) os

-- what an entry makes of a standing ask
abbrev pub fate_of : Entry → Standing → Fate
fate_of e o =
    if o.held then (if requests o.request e.step.act then (if is_refusal e.reply || ends o.request e.facts then Gone else Charged) else Stays)
    else (if settles o.request e then Gone else Stays)

abbrev pub fated : Fate → Standing → List Standing → List Standing
fated Stays o os = o ∷ os
fated Charged o os = record o { held = false } ∷ os
fated Gone o os = os

-- the standing asks after one more entry
abbrev pub after_entry : Entry → List Standing → List Standing
after_entry e [] = []
after_entry e (o ∷ os) = fated (fate_of e o) o (after_entry e os)

abbrev pub standing_of : Asked → Bool → Standing
standing_of x h = record { tenant = x.tenant; request = x.request; address = x.address; held = h }

abbrev pub standing_if : Bool → Bool → Asked → List Standing → List Standing
standing_if true c x os = standing_of x true ∷ os
standing_if false true x os = standing_of x false ∷ os
standing_if false false x os = os

-- the standing ones of these asks, after the log
abbrev pub standings : List Entry → List Asked → List Standing
standings log [] = []
standings log (x ∷ xs) = standing_if (is_held log x) (counts log x) x (standings log xs)

-- of two standing asks the one that goes first
abbrev pub sooner_in : Standing → Option Standing → Standing
sooner_in o None = o
sooner_in o (Some p) = if nat_lt p.tenant o.tenant then p else o

-- the one of these standing asks that goes first, of those that may go
abbrev pub next_in : List ℕ → List Standing → List Standing → Option Standing
next_in shares os [] = None
next_in shares os (o ∷ ps) = if may_go shares os o then Some (sooner_in o (next_in shares os ps)) else next_in shares os ps

-- the best so far is at this place
abbrev pub IsBest : List ℕ → List Standing → List Standing → Option ℕ → Type 0
IsBest shares os ps None = next_in shares os ps ≡ None
IsBest shares os ps (Some i) = (i < length os) × HoldsAt (λ o. next_in shares os ps ≡ Some o) os i

-- ---- where charges fell

-- the charge of the tenant at the address may have fallen
abbrev pub is_freed : Freed → ℕ → ServerAddress → Bool
is_freed Nowhere t a = false
is_freed (At o) t a = standing_at t a o
is_freed Anywhere t a = true

-- elsewhere no charge fell
abbrev pub KeepsCharge : Freed → List Standing → List Standing → Type 0
KeepsCharge f os ps = (t : ℕ) (a : ServerAddress) → is_freed f t a ≡ false → charge_in os t a ≤ charge_in ps t a

-- the ask may go, and stands where no charge fell
abbrev pub goes_elsewhere : List ℕ → List Standing → Freed → Standing → Bool
goes_elsewhere shares os f o = may_go shares os o && not (is_freed f o.tenant o.address)

-- what may go stands where a charge fell
abbrev pub IsOnly : List ℕ → List Standing → Freed → Type 0
IsOnly shares os f = list_any (goes_elsewhere shares os f) os ≡ false

-- ---- the notes

abbrev pub blank : Note
blank = record { handed = None; returned = false }

-- the place in the log of the first of these entries that is the request, where they begin at place n
abbrev pub place_from : ℕ → ℕ → List Entry → Option ℕ
place_from r n [] = None
place_from r n (e ∷ es) = if requests r e.step.act then Some n else place_from r (n + 1) es

abbrev pub note_of : List Entry → Asked → Note
note_of log x = record { handed = place_from x.request x.entries (since log x); returned = is_finished log x }

abbrev pub notes_of : List Entry → List Asked → List Note
notes_of log [] = []
notes_of log (x ∷ xs) = note_of log x ∷ notes_of log xs

-- the ask was handed on by the entry at this place, unless an earlier one did
abbrev pub handed_at : ℕ → Note → Note
handed_at i n = if is_some n.handed then n else record n { handed = Some i }

-- the caller returned the connection
abbrev pub taken_back : Note → Note
taken_back n = record n { returned = true }

abbrev pub map_at : ℕ → (Note → Note) → List Note → List Note
map_at i f [] = []
map_at zero f (n ∷ ns) = f n ∷ ns
map_at (suc i) f (n ∷ ns) = n ∷ map_at i f ns

abbrev pub noted_at : Option ℕ → (Note → Note) → List Note → List Note
noted_at None f ns = ns
noted_at (Some i) f ns = map_at i f ns

-- what an entry at place i of the log makes of the notes, by its act and whether it was refused
abbrev pub noted_by : Act → Bool → ℕ → (ℕ → Option ℕ) → List Note → List Note
noted_by (Request r a) refused i known ns = noted_at (known r) (handed_at i) ns
noted_by (Return r used) refused i known ns = if refused then ns else noted_at (known r) taken_back ns
noted_by _ refused i known ns = ns

abbrev pub noted : Entry → ℕ → (ℕ → Option ℕ) → List Note → List Note
noted e i known ns = noted_by e.step.act (is_refusal e.reply) i known ns

-- ---- the numbers

-- no ask has the number
abbrev pub is_fresh : ℕ → List Asked → Bool
is_fresh r [] = true
is_fresh r (x ∷ xs) = not (r == x.request) && is_fresh r xs

-- no two asks have one number
abbrev pub AreSingle : List Asked → Type 0
AreSingle [] = ⊤
AreSingle (x ∷ xs) = (is_fresh x.request xs ≡ true) × AreSingle xs

-- the place of the ask of this number
abbrev pub place_of : ℕ → List Asked → Option ℕ
place_of r [] = None
place_of r (x ∷ xs) = if r == x.request then Some 0 else option_map (λ n. n + 1) (place_of r xs)

-- every ask was made at this length of the log or before
abbrev pub AreMade : ℕ → List Asked → Type 0
AreMade n [] = ⊤
AreMade n (x ∷ xs) = (x.entries ≤ n) × AreMade n xs

-- What stands, and the places of the numbers, are those of these asks after the log.
pub record Keeps (log : List Entry) (os : List Standing) (xs : List Asked) (known : ℕ → Option ℕ) : Type 0 where
  pub standing : os ≡ standings log xs
  pub made : AreMade (length log) xs
  pub single : AreSingle xs
  pub placed : (r : ℕ) → known r ≡ place_of r xs

-- the books are those of the log
abbrev pub KeptBy : List Entry → Books → Type 0
KeptBy log b = Keeps log b.standing.items b.asks.items (λ r. get nat_eq b.known r)

-- no tenant has more than its share
abbrev pub AreWithin : List ℕ → List Standing → Type 0
AreWithin shares os = (t : ℕ) (a : ServerAddress) → charge_in os t a ≤ share_of shares t

-- the notes are those of the log
abbrev pub NotedBy : List Entry → Books → Type 0
NotedBy log b = b.notes.items ≡ notes_of log b.asks.items

-- The books are those of the log, and no tenant is past its share.
pub record Sound (log : List Entry) (shares : List ℕ) (b : Books) : Type 0 where
  pub keeps : KeptBy log b
  pub noted : NotedBy log b
  pub within : AreWithin shares b.standing.items

-- a new ask of the tenant is held back: its charge is not below its share, or an earlier ask is held back there
abbrev pub is_off_in : List ℕ → List Standing → ℕ → ServerAddress → Bool
is_off_in shares os t a = nat_le (share_of shares t) (charge_in os t a) || list_any (held_at t a) os
