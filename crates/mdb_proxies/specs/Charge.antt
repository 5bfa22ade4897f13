-- What a log says of asks: which are held back, and which count against the share of their tenant.
use Rattle.std.specs.Prelude.{ℕ, ◌+◌, Bool, false, not, ◌&&◌, ◌||◌, if◌then◌else◌, ◌==◌, nat_lt, List, [], ◌∷◌, drop, Option, Some, None}
use Rattle.std.specs.List.{list_any}
use Rattle.mdb_base.specs.Equality.{same_address}
use Rattle.mdb_base.specs.declared.address.ServerAddress.{ServerAddress}
use Rattle.mdb_events.specs.declared.fact.Fact.{Fact}
use Rattle.mdb_events.specs.declared.fact.Fact.TheVariants.{Ended}
use Rattle.mdb_log.specs.declared.step.Act.{Act}
use Rattle.mdb_log.specs.declared.step.Act.TheVariants.{Request, Return}
use Rattle.mdb_log.specs.declared.log.Entry.{Entry}
use Rattle.mdb_log.specs.Driver.{is_refusal}
use Rattle.mdb_proxies.specs.declared.asked.Asked.{Asked}
use Rattle.mdb_proxies.specs.Shares.{share_of}

-- the act is the request of this number
abbrev pub requests : ℕ → Act → Bool
requests r (Request q a) = q == r
requests r _ = false

-- the act returns the connection of this party
abbrev pub returns : ℕ → Act → Bool
returns r (Return q used) = q == r
returns r _ = false

-- the fact says that the request ended
abbrev pub is_end : ℕ → Fact → Bool
is_end r (Ended q end) = q == r
is_end r _ = false

-- one of the facts says that the request ended
abbrev pub ends : ℕ → List Fact → Bool
ends r facts = list_any (is_end r) facts

-- the entry was accepted, and is the return of the request or says that it ended
abbrev pub settles : ℕ → Entry → Bool
settles r e = not (is_refusal e.reply) && (returns r e.step.act || ends r e.facts)

-- some entry was accepted, and returned or ended the request
abbrev pub is_settled : ℕ → List Entry → Bool
is_settled r [] = false
is_settled r (e ∷ es) = settles r e || is_settled r es

-- some entry is the request, whatever its reply
abbrev pub is_requested : ℕ → List Entry → Bool
is_requested r [] = false
is_requested r (e ∷ es) = requests r e.step.act || is_requested r es

-- Charged: the request was handed on and accepted, and was neither ended nor returned by that entry or a later one.
abbrev pub is_charged : ℕ → List Entry → Bool
is_charged r [] = false
is_charged r (e ∷ es) = if requests r e.step.act then not (is_refusal e.reply) && not (is_settled r (e ∷ es)) else is_charged r es

-- the entries of the log since the ask
abbrev pub since : List Entry → Asked → List Entry
since log x = drop x.entries log

-- the ask is of this tenant, at this address
abbrev pub is_at : ℕ → ServerAddress → Asked → Bool
is_at t a x = (x.tenant == t) && same_address x.address a

-- the ask was handed on, and counts against the share
abbrev pub counts : List Entry → Asked → Bool
counts log x = is_charged x.request (since log x)

-- no entry since the ask is its request
abbrev pub is_held : List Entry → Asked → Bool
is_held log x = not (is_requested x.request (since log x))

-- Charge: how many asks of the tenant at the address were handed on, and are neither ended nor returned.
abbrev pub charge : List Asked → List Entry → ℕ → ServerAddress → ℕ
charge [] log t a = 0
charge (x ∷ xs) log t a = if is_at t a x && counts log x then charge xs log t a + 1 else charge xs log t a

-- Held back: the asks of the tenant at the address that were not handed on, in their order.
abbrev pub held_back : List Asked → List Entry → ℕ → ServerAddress → List Asked
held_back [] log t a = []
held_back (x ∷ xs) log t a = if is_at t a x && is_held log x then x ∷ held_back xs log t a else held_back xs log t a

-- an ask of the tenant at the address is held back
abbrev pub is_held_at : List Asked → List Entry → ℕ → ServerAddress → Bool
is_held_at [] log t a = false
is_held_at (x ∷ xs) log t a = (is_at t a x && is_held log x) || is_held_at xs log t a

-- the ask is held back, though the charge of its tenant there is below the share
abbrev pub lags : List ℕ → List Asked → List Entry → Asked → Bool
lags shares asks log x = is_held log x && nat_lt (charge asks log x.tenant x.address) (share_of shares x.tenant)

-- one of these asks lags
abbrev pub any_lags : List ℕ → List Asked → List Entry → List Asked → Bool
any_lags shares asks log [] = false
any_lags shares asks log (x ∷ xs) = lags shares asks log x || any_lags shares asks log xs

-- Behind: some tenant has an ask held back at an address where its charge is below its share.
abbrev pub is_behind : List ℕ → List Asked → List Entry → Bool
is_behind shares asks log = any_lags shares asks log asks

-- of two asks the one that goes first: that of the tenant with the lesser number, and the older one of one tenant
abbrev pub sooner : Asked → Option Asked → Asked
sooner x None = x
sooner x (Some y) = if nat_lt y.tenant x.tenant then y else x

-- the one of these asks that goes first, of those that lag
abbrev pub first_of : List ℕ → List Asked → List Entry → List Asked → Option Asked
first_of shares asks log [] = None
first_of shares asks log (x ∷ xs) = if lags shares asks log x then Some (sooner x (first_of shares asks log xs)) else first_of shares asks log xs

-- Next: the ask that is handed on before all others. It lags, and is the oldest such ask of the least tenant that has one.
abbrev pub next_ask : List ℕ → List Asked → List Entry → Option Asked
next_ask shares asks log = first_of shares asks log asks
