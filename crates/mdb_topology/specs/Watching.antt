-- The monitors of a driver, of which memory keeps those of the pools in which something lives.
use Rattle.std.specs.Prelude.{ℕ, ◌≡◌, Bool, true, not, ◌&&◌, List, [], ◌∷◌, map, slice_get, Some, ⊤}
use Rattle.mdb_log.specs.Connections.{has}
use Rattle.mdb_monitor.specs.declared.monitor.MonitorCore.{MonitorCore}
use Rattle.mdb_topology.specs.declared.monitors.watched.Watched.{Watched}

-- the monitors of all pools that were opened, by number, the numbers of those that memory keeps, and how many there may be before memory is wanted
pub record MonitorList : Type 0 where
  pub items : List MonitorCore
  pub kept : List ℕ
  pub room : ℕ

abbrev pub places : List Watched → List ℕ
places xs = map (λ x. x.place) xs

-- no number comes twice
abbrev pub are_apart : List ℕ → Bool
are_apart [] = true
are_apart (p ∷ ps) = not (has p ps) && are_apart ps

-- each is one of all, at its place
abbrev pub AreOf : List MonitorCore → List Watched → Type 0
AreOf all [] = ⊤
AreOf all (x ∷ xs) = (slice_get all x.place ≡ Some x.monitor) × AreOf all xs

-- Memory keeps some of the monitors, each once and as it is.
pub record IsWatched (all : List MonitorCore) (kept : List Watched) : Type 0 where
  pub each : AreOf all kept
  pub apart : are_apart (places kept) ≡ true
