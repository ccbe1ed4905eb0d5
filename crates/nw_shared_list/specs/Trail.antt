-- Lists of linked nodes. Definitions give their items with the last one first.
use Rattle.std.specs.Prelude.{List, [], ◌∷◌, Option}
use Rattle.std.specs.declared.sync.Arc.{Arc}
use Rattle.std.specs.declared.alloc.Global.{Global}
use Rattle.std.specs.Option.{option_map_or}
use Rattle.nw_shared_list.specs.declared.trail.Node.{Node, Node', Held-Node-before, None', Some'}

-- the item of a node
abbrev pub item_of : {T : Type 0} → Node T → T
item_of (Node' item before) = item

-- the item of a node, and the items before it
abbrev mutual
  pub items_of : {T : Type 0} → Node T → List T
  items_of (Node' item before) = item ∷ items_before before

  pub items_before : {T : Type 0} → Held-Node-before T → List T
  items_before None' = []
  items_before (Some' p n) = items_of n

-- the items up to the last node, or none if there is no node
abbrev pub items_to : {T : Type 0} → Option (Arc (Node T) Global) → List T
items_to last = option_map_or (λ a. items_of a.value) last []
