-- What a monitor knows after a check that succeeded is what the items say.
use Rattle.std.proofs.Common.{ℕ, ◌≡◌, Bool, true, false, not, Option, Some, is_none, if◌then◌else◌, List, ◌∷◌, refl, ap, ◌∙◌}
use Rattle.mdb_base.specs.declared.topology_version.TopologyVersion.{TopologyVersion}
use Rattle.mdb_monitor.specs.declared.knowledge.Connection.{Connection}
use Rattle.mdb_monitor.specs.declared.knowledge.Knowledge.{Knowledge}
use Rattle.mdb_monitor.specs.declared.knowledge.Knowledge.TheVariants.{Unconnected, Connected}
use Rattle.mdb_monitor.specs.Average.{average_of, next_average}
use Rattle.mdb_monitor.specs.Items.{awaits, sampled_if}
use Rattle.mdb_monitor.specs.Standing.{known_connection, known_version, known_average}
use Rattle.mdb_monitor.specs.Sessions.{average_after}
use Rattle.mdb_monitor.proofs.Average.{next-average}

-- the samples after a check that succeeded
abbrev pub samples_after : Bool → Option Connection → Option TopologyVersion → ℕ → List ℕ → List ℕ
samples_after streaming connection version d l = sampled_if (not (awaits streaming version)) d (sampled_if (is_none connection) d l)

over : (streaming : Bool) (version : Option TopologyVersion) (a d : ℕ) (l : List ℕ) → average_of l ≡ Some a → (b : Bool) → awaits streaming version ≡ b → average_of (sampled_if (not b) d l) ≡ Some (if b then a else next_average (Some a) d)
over streaming version a d l e true f = e
over streaming version a d l e false f = next-average l d ∙ ap (λ o. Some (next_average o d)) e

pub average-kept : (streaming : Bool) (known : Knowledge) (d : ℕ) (l : List ℕ) → average_of l ≡ known_average known → average_of (samples_after streaming (known_connection known) (known_version known) d l) ≡ Some (average_after streaming known d)
average-kept streaming (Unconnected r) d l e = next-average (d ∷ l) d ∙ ap (λ o. Some (next_average o d)) (next-average l d ∙ ap (λ o. Some (next_average o d)) e)
average-kept streaming (Connected s) d l e = over streaming s.version s.average d l e (awaits streaming s.version) refl
