-- The newest ask of the books of a proxy, and the asks whose callers were told what they came to.
use Rattle.std.specs.Prelude.{◌≡◌, ℕ, Bool, true, false, zero, suc, List, [], ◌∷◌, ◌++◌, Option, ⊤}
use Rattle.mdb_log.specs.declared.log.Entry.{Entry}
use Rattle.mdb_proxies.specs.declared.asked.Asked.{Asked}
use Rattle.mdb_proxies.specs.declared.books.Books.{Books}
use Rattle.mdb_proxies.specs.declared.step.ProxyReply.{ProxyReply}
use Rattle.mdb_proxies.specs.Telling.{told_if}
use Rattle.mdb_proxies.specs.Entries.{request_at}
use Rattle.mdb_proxies.specs.Replies.{Replies, with_ask}
use Rattle.mdb_proxies.specs.Tables.{standing_of, standings, some_may_go, is_off_in, Sound}

-- The newest ask was just recorded as held back; whether the rules hold it back, and whether an earlier one lags.
pub record Recorded (log : List Entry) (shares : List ℕ) (b : Books) (off behind : Bool) : Type 0 where
  pub before : List Asked
  pub newest : Asked
  pub asks : b.asks.items ≡ before ++ newest ∷ []
  pub standing : b.standing.items ≡ standings log before ++ standing_of newest true ∷ []
  pub sound : Sound log shares b
  pub is_off : is_off_in shares (standings log before) newest.tenant newest.address ≡ off
  pub is_behind : some_may_go shares (standings log before) ≡ behind

-- An ask was made: the asks after it, and what was answered, by the proxy itself or by the core.
pub record Begun (moment : ℕ) (shares : List ℕ) (xs : List Asked) (x : Asked) (log more : List Entry) (ys : List Asked) (reply : ProxyReply) (own : Option ProxyReply) : Type 0 where
  pub asks : ys ≡ with_ask xs x reply
  pub replied : Replies moment shares ys (request_at moment x) log more reply own

-- the same asks, whatever was told
abbrev pub SameAsks : List Asked → List Asked → Type 0
SameAsks [] [] = ⊤
SameAsks [] (y ∷ ys) = ⊥
SameAsks (x ∷ xs) [] = ⊥
SameAsks (x ∷ xs) (y ∷ ys) = (x.tenant ≡ y.tenant) × (x.request ≡ y.request) × (x.address ≡ y.address) × (x.entries ≡ y.entries) × SameAsks xs ys

-- the asks, after the caller of that at place i was told what it came to
abbrev pub told_at : ℕ → List Asked → List Asked
told_at i [] = []
told_at zero (x ∷ xs) = told_if true x ∷ xs
told_at (suc i) (x ∷ xs) = x ∷ told_at i xs

abbrev pub tell_at : Bool → ℕ → List Asked → List Asked
tell_at true i xs = told_at i xs
tell_at false i xs = xs
