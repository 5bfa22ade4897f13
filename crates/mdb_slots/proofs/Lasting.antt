-- A change that can be taken back, or that stays.
use Rattle.std.proofs.Common.{◌≡◌, Bool, true, false, if◌then◌else◌, List, refl}
use Rattle.mdb_slots.specs.declared.node.Node.{Node}
use Rattle.mdb_slots.specs.declared.ends.Ends.{Ends}
use Rattle.mdb_slots.specs.SlotOrder.{KeepsOrder}

-- the nodes hold an order, and so do those that are led back to
pub lasting-keeps : (s : Bool) (nb nn ob : List Node) (e w : Ends) → (s ≡ false → nb ≡ ob) → (s ≡ true → nb ≡ nn) → KeepsOrder (record { nodes = ob; ends = w }) → KeepsOrder (record { nodes = nn; ends = e }) → KeepsOrder (record { nodes = nn; ends = e }) × KeepsOrder (record { nodes = nb; ends = if s then e else w })
lasting-keeps true nb nn ob e w f t b k = (k, rw (t refl) k)
lasting-keeps false nb nn ob e w f t b k = (k, rw (f refl) b)
