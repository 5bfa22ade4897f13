-- Acts that do nothing at the monitors.
use Rattle.std.proofs.Common.{ℕ, ◌≡◌, Bool, false, List, refl}
use Rattle.std.specs.Prelude.{⊤}
use Rattle.mdb_base.specs.declared.address.ServerAddress.{ServerAddress}
use Rattle.mdb_log.specs.declared.step.Act.{Act}
use Rattle.mdb_log.specs.declared.step.Act.TheVariants as Do
use Rattle.mdb_log.specs.History.{Item}
use Rattle.mdb_driver_rules.specs.Monitors.{connects, asking, with_check}

-- an act that does nothing at the monitors and asks for no check
abbrev pub IsStill : Act → Type 0
IsStill (Do.Beat a p) = ⊥
IsStill (Do.Beaten a p d came) = ⊥
IsStill (Do.Rtt a p d) = ⊥
IsStill (Do.Want w) = ⊥
IsStill (Do.Unwant w) = ⊥
IsStill _ = ⊤

pub still-check : (act : Act) → IsStill act → (own : ServerAddress → ℕ → Bool) (n : ℕ) (xs : List _) → with_check own n act xs ≡ xs
still-check (Do.Beat a p) c own n xs = absurd c
still-check (Do.Beaten a p d came) c own n xs = absurd c
still-check (Do.Rtt a p d) c own n xs = absurd c
still-check _ c own n xs = refl

pub still-connects : (act : Act) → IsStill act → (h : List Item) → connects h act ≡ false
still-connects (Do.Beat a p) c h = absurd c
still-connects _ c h = refl

pub still-asking : (act : Act) → IsStill act → (ws : List ℕ) → asking act ws ≡ ws
still-asking (Do.Want w) c ws = absurd c
still-asking (Do.Unwant w) c ws = absurd c
still-asking _ c ws = refl
