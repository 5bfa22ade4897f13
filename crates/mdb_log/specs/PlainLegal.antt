-- When a list of entries, whoever wrote it, is a legal log.
use Rattle.std.specs.List.{list_any, list_all}
use Rattle.std.specs.Prelude.{ℕ, ◌+◌, Bool, ◌≡◌, ◌≤◌, ◌⊎◌, true, false, not, ◌&&◌, ◌||◌, ◌==◌, List, [], ◌∷◌, map, All, Some, ⊤}
use Rattle.std.specs.Bool.{MatchBool}
use Rattle.mdb_base.specs.declared.address.ServerAddress.{ServerAddress}
use Rattle.mdb_base.specs.declared.options.Options.{Options}
use Rattle.mdb_base.specs.Equality.{same_address}
use Rattle.mdb_base.specs.AddressOrder.{is_before}
use Rattle.mdb_events.specs.declared.fact.Fact.{Fact}
use Rattle.mdb_events.specs.declared.fact.Fact.TheVariants.{Granted}
use Rattle.mdb_log.specs.declared.options.PoolOptions.{PoolOptions}
use Rattle.mdb_log.specs.declared.step.Step.{Step}
use Rattle.mdb_log.specs.declared.step.Act.{Act}
use Rattle.mdb_log.specs.declared.step.Act.TheVariants.{Open}
use Rattle.mdb_log.specs.declared.log.Entry.{Entry}
use Rattle.mdb_log.specs.declared.reply.Reply.{Reply}
use Rattle.mdb_log.specs.declared.reply.Reply.TheVariants.{Refused}
use Rattle.mdb_log.specs.History.{Item, did, made, of_pool, with_answer}
use Rattle.mdb_log.specs.Connections.{has}
use Rattle.mdb_log.specs.Homes.{Home, homes}
use Rattle.mdb_log.specs.Opening.{is_opening, pool_options}
use Rattle.mdb_log.specs.Legal.{first}
use Rattle.mdb_log.specs.PlainConnections.{creations, closings, is_created, pending, available}
use Rattle.mdb_log.specs.PlainRequests.{pool_of, is_warm, queued, waiting}
use Rattle.mdb_log.specs.PlainHolders.{held, pinned}
use Rattle.mdb_log.specs.PlainState.{is_ready_pool, could_be_granted}

-- how many places a connection of pool p has
abbrev pub places : ℕ → List Item → ℕ → ℕ
places p h c = pending (of_pool p h) c + available (of_pool p h) c + held p h c + pinned p h c

-- One place: a connection that was created has at most one place, and as many as it has creations beyond its closings; one that was never created was never closed.
abbrev pub InPlace : ℕ → List Item → ℕ → Type 0
InPlace p h c = MatchBool (is_created (of_pool p h) c) ((places p h c + closings (of_pool p h) c ≡ creations (of_pool p h) c) × (places p h c ≤ 1)) (closings (of_pool p h) c ≡ 0)

abbrev pub OnePlace : List Item → Type 0
OnePlace h = (p c : ℕ) → InPlace p h c

-- Nobody waits who could be granted a connection.
abbrev pub NoneLeftWaiting : PoolOptions → List Item → Type 0
NoneLeftWaiting o h = (p : ℕ) → (waiting p h ≡ []) ⊎ (could_be_granted o p h ≡ false)

-- the request may be granted a connection next: a queued warm one, or the caller that waits longest
abbrev pub IsNext : ℕ → List Item → ℕ → Type 0
IsNext p h r = MatchBool (is_warm h r) (has r (queued p h) ≡ true) (first (waiting p h) ≡ Some r)

-- A grant is of a connection of the pool that the request asked, to the caller that waits longest there or to a warm request that is queued there.
abbrev pub FirstCome : List Item → Fact → Type 0
FirstCome h (Granted r p c) = (pool_of h r ≡ Some p) × (is_created (of_pool p h) c ≡ true) × IsNext p h r
FirstCome h _ = ⊤

-- each of the facts, where those before it have come
abbrev pub AllFirstCome : ℕ → List Item → List Fact → Type 0
AllFirstCome m h [] = ⊤
AllFirstCome m h (fact ∷ facts) = FirstCome h fact × AllFirstCome m (made m fact ∷ h) facts

-- the grants of an accepted entry are to those who come first; a refused one is not in the history
abbrev pub IsFairAnswer : List Item → Step → Reply → List Fact → Type 0
IsFairAnswer h step (Refused why) facts = ⊤
IsFairAnswer h step reply facts = AllFirstCome step.moment (did step reply ∷ h) facts

-- the history with one more entry
abbrev pub with_entry : List Item → Entry → List Item
with_entry h e = with_answer e.step e.reply e.facts h

-- The entries are a legal continuation of the history: each grants to those who come first, and after each of them every connection has one place and nobody waits who could be granted one.
abbrev pub IsLegal : PoolOptions → List Item → List Entry → Type 0
IsLegal o h [] = ⊤
IsLegal o h (e ∷ entries) = IsFairAnswer h e.step e.reply e.facts × OnePlace (with_entry h e) × NoneLeftWaiting o (with_entry h e) × IsLegal o (with_entry h e) entries

abbrev pub is_refused : Reply → Bool
is_refused (Refused why) = true
is_refused _ = false

-- the numbers count up from n
abbrev pub counts_from : ℕ → List Home → Bool
counts_from n [] = true
counts_from n (x ∷ xs) = (x.number == n) && counts_from (n + 1) xs

-- each address is before the next
abbrev pub is_ascending : List ServerAddress → Bool
is_ascending [] = true
is_ascending (a ∷ more) = is_before_first more && is_ascending more
  where
    is_before_first : List ServerAddress → Bool
    is_before_first [] = true
    is_before_first (b ∷ bs) = is_before a b

abbrev pub has_address : List ServerAddress → ServerAddress → Bool
has_address list a = list_any (same_address a) list

-- the history opens exactly the seeds, in the order of their addresses, with numbers from 0, and ready where load balanced
abbrev pub opens_seeds : Options → List Item → Bool
opens_seeds o h =
    let addresses : List ServerAddress = map (λ x. x.address) (homes h) in
    counts_from 0 (homes h) && (is_ascending addresses && (list_all (has_address addresses) o.seeds && (list_all (has_address o.seeds) addresses
    && (not o.load_balanced || list_all (λ x. is_ready_pool (pool_options o) x.number h) (homes h)))))

-- the options that the first entry's act opens with are its own, and the log is legal with them
abbrev pub IsOpened : Act → Entry → List Entry → Type 0
IsOpened (Open o) e log = (is_refused e.reply ≡ false) × (opens_seeds o (with_entry [] e) ≡ true) × All (λ x. is_opening x.step.act ≡ false) log × IsLegal (pool_options o) [] (e ∷ log)
IsOpened _ e log = ⊥

-- Legal: the log is empty, or its first entry is the only open entry, was accepted and opens exactly the seeds, and each entry is legal.
abbrev pub LegalLog : List Entry → Type 0
LegalLog [] = ⊤
LegalLog (e ∷ log) = IsOpened e.step.act e log
