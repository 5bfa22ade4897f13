-- Which connections of a pool are claimed, where memory keeps the last number alone.
use Rattle.std.specs.Prelude.{ℕ, ◌≡◌, ◌≤◌, ◌<◌, true, false, ⊤, List, [], ◌∷◌, Option}
use Rattle.mdb_log.specs.Connections.{has}
use Rattle.mdb_slots.specs.Open.{OpenOne, or_else}
use Rattle.mdb_pool.specs.declared.kept.connection.Connection.{Connection}
use Rattle.mdb_pool.specs.Kept.Inner.{Claimed}
use Rattle.mdb_pool.specs.Kept.Values.{ids_where}
use Rattle.mdb_pool.specs.Kept.Places.{is_pending}

abbrev pub no_claims : Claimed
no_claims = record { numbers = []; last = 0 }

-- each number is greater than the one before it, and the first than n
abbrev pub Ascends : ℕ → List ℕ → Type 0
Ascends n [] = ⊤
Ascends n (c ∷ cs) = (n < c) × Ascends c cs

-- Of the connections that are pending, which ascend, those up to the last claimed number are claimed, and no later one is.
pub record ClaimsFit (made : ℕ) (k : Claimed) (cs : List Connection) : Type 0 where
  pub within : k.last ≤ made
  pub ascending : Ascends 0 (ids_where is_pending cs)
  pub made_all : (c : ℕ) → has c (ids_where is_pending cs) ≡ true → c ≤ made
  pub earlier : (c : ℕ) → has c (ids_where is_pending cs) ≡ true → c ≤ k.last → has c k.numbers ≡ true
  pub later : (c : ℕ) → k.last < c → has c k.numbers ≡ false

-- changes of what is claimed: all numbers, and the last of them if it changes
pub record ClaimSteps : Type 0 where
  pub numbers : List ℕ
  pub last : Option ℕ

abbrev pub claimed_after : ClaimSteps → Claimed → Claimed
claimed_after p k = record { numbers = p.numbers; last = or_else p.last k.last }

-- how many connections were created and what is claimed, as it is and as it was when it was last committed
pub record OpenClaims : Type 0 where
  pub created : OpenOne ℕ
  pub now : Claimed
  pub base : Claimed

-- changes of both
pub record CountSteps : Type 0 where
  pub created : Option ℕ
  pub claimed : ClaimSteps
