-- The depth of a tree, as the kit counts it, is at most the number of its entries. The recursion over trees ends by it.
use Rattle.std.specs.Prelude.{◌≤◌, length}
use Rattle.std.proofs.Common.{arith, length-append}
use Rattle.std.specs.declared.alloc.Allocator.{Ghosts}
use Rattle.nw_trie.specs.declared.tree.Link.{Link}
use Rattle.nw_trie.specs.declared.tree.Link.TheVariants.{Empty, Leaf, Fork}
use Rattle.nw_trie.specs.declared.tree.Tree.TheDeep.{deep-Tree}
use Rattle.nw_trie.specs.Tree.{entries_of, IsTree}

-- the depth that the kit counts for a tree is at most the number of its entries
pub deep_link : {V A : Type 0} (G : Ghosts A) (link : Link V A) → IsTree link → deep-Tree V A G (record { link = link }) ≤ length (entries_of link)
deep_link G Empty h = omega arith
deep_link G (Leaf leaf) h = omega arith
deep_link G (Fork bit sides) h = omega (arith, length-append sides.value.left sides.value.right, h.0.left_nonempty, h.0.right_nonempty)
