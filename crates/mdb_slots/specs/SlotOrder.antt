-- The order of slots, with what it was when it was last committed.
use Rattle.std.specs.Prelude.{ℕ, None, List, []}
use Rattle.mdb_slots.specs.declared.node.Node.{Node}
use Rattle.mdb_slots.specs.declared.ends.Ends.{Ends}
use Rattle.mdb_slots.specs.Links.{Order, Keeps}
use Rattle.mdb_slots.specs.Chain.{walk}
use Rattle.mdb_slots.specs.Open.{ListSteps, list_after, room_after, ListFits}

-- what an order is read from
pub record Laid : Type 0 where
  pub nodes : List Node
  pub ends : Ends

-- the changes of an order
pub record OrderSteps : Type 0 where
  pub nodes : ListSteps Node
  pub ends : Ends

-- the order as it is and what it was read from when it was last committed, the capacity that it had then, and how many changes may come without memory
pub record OpenOrder : Type 0 where
  pub now : Order
  pub base : Laid
  pub capacity : ℕ
  pub room : ℕ

abbrev pub no_ends : Ends
no_ends = record { first = None; last = None; free = None; len = 0; spare = 0 }

abbrev pub nothing_laid : Laid
nothing_laid = record { nodes = []; ends = no_ends }

abbrev pub order_of : Laid → Order
order_of l = record { used = walk l.ends.len l.ends.first l.nodes; spare = l.ends.spare }

-- the nodes hold an order
abbrev pub KeepsOrder : Laid → Type 0
KeepsOrder l = Keeps l.nodes l.ends.first l.ends.last l.ends.free l.ends.len l.ends.spare

-- what the order is read from once the changes are made
abbrev pub laid_after : OrderSteps → Laid → Laid
laid_after p l = record { nodes = list_after p.nodes l.nodes; ends = p.ends }

-- the capacity of its nodes then
abbrev pub order_room_after : OrderSteps → ℕ → ℕ
order_room_after p capacity = room_after p.nodes capacity

-- the changes can be made without memory, and lead to an order
abbrev pub OrderFits : OrderSteps → Laid → ℕ → Type 0
OrderFits p l capacity = ListFits p.nodes l.nodes capacity × KeepsOrder (laid_after p l)
