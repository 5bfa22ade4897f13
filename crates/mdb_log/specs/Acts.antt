-- Which acts a driver takes from its callers, and which a pool takes.
use Rattle.std.specs.Prelude.{ℕ, ◌≡◌, ⊤}
use Rattle.mdb_log.specs.declared.step.Act.{Act}
use Rattle.mdb_log.specs.declared.step.Act.TheVariants.{Open, Request, Warm, Maintain, Expire, Collect, Claim, GiveUp, Established, Failed, Return, Pin, Replicate, Take, Unpin, Ready, Clear, Close}

-- A driver is opened once, and readies, clears and closes its pools by itself: all other acts are steps of its callers.
abbrev pub IsDriverAct : Act → Type 0
IsDriverAct (Open options) = ⊥
IsDriverAct (Ready pool) = ⊥
IsDriverAct (Clear pool service error) = ⊥
IsDriverAct (Close pool) = ⊥
IsDriverAct _ = ⊤

-- An act that the pool p takes: requests, warm ones too, what they came to, give-ups, claims, established and failed connections, returns, pins, maintenance and expiry; and marks as ready, clears and closes of its own number.
abbrev pub IsPoolAct : ℕ → Act → Type 0
IsPoolAct p (Request r a) = ⊤
IsPoolAct p (Warm r a) = ⊤
IsPoolAct p (Maintain a) = ⊤
IsPoolAct p (Expire a) = ⊤
IsPoolAct p (Established q c how) = ⊤
IsPoolAct p (Failed q c at error) = ⊤
IsPoolAct p (Ready q) = q ≡ p
IsPoolAct p (Clear q service error) = q ≡ p
IsPoolAct p (Close q) = q ≡ p
IsPoolAct p (Collect r) = ⊤
IsPoolAct p Claim = ⊤
IsPoolAct p (GiveUp r) = ⊤
IsPoolAct p (Return r used) = ⊤
IsPoolAct p (Pin r) = ⊤
IsPoolAct p (Replicate q c) = ⊤
IsPoolAct p (Take r q c) = ⊤
IsPoolAct p (Unpin q c) = ⊤
IsPoolAct p _ = ⊥
