-- A map from digests may be sent to another thread if its values and its allocator may.
use denote.RattleType.{RattleType}
use denote.Param.Send.{Frees, IsSend, sendable, recorded_send, view_send}
use denote.Param.SendFields.{as_row_send, declared_send, variants_send}
use denote.Struct.Field.{row_field}
use denote.Hole.{as_row}
use denote.Model.Cut.{split_one}
use denote.Model.Local.{Frame, Parts, rows}
use denote.Model.Goals.{send, part_has, has_of}
use denote.Model.Marks as marks
use Rattle.std.proofs.CrossingOver.{crosses}
use Rattle.std.specs.declared.alloc.Allocator.{Ghosts}
use Rattle.std.specs.contracts.boxed.Box as boxes
use Rattle.std.specs.contracts.vec.Vec as vec
use Rattle.nw_digest.proofs.digest.Digest.TheSendSync as digest
use Rattle.nw_trie.specs.declared.tree.Link.{Link}
use Rattle.nw_trie.specs.declared.tree.Sides.{Sides}
use Rattle.nw_trie.specs.declared.tree.Tree.TheDeep.{the_members, member-Tree, split-Link, split-Sides, split-Tree, join-Link, join-Sides, join-Tree, joins-Link, joins-Sides, joins-Tree}
use Rattle.nw_trie.specs.declared.tree.Tree.TheInside.{Inside}
use Rattle.nw_trie.specs.contracts.tree.Entry as entry
use Rattle.nw_trie.specs.contracts.tree.Tree as tree
use Rattle.nw_trie.specs.contracts.tree.Tree.TheKnot as knot
use Rattle.nw_trie.specs.contracts.map.DigestMap as map
use Rattle.nw_trie.specs.contracts.map.DigestMap.TheInside as map_inside

module _ (V A : RattleType) (ghosts : Ghosts A.Denot) (value_send : IsSend V) (alloc_send : IsSend A) (frees : Frees ghosts ghosts.dealloc_token) where
  abbrev K : Frame the_members
  K = knot.frame V A ghosts

  abbrev sides_at : Parts K → RattleType
  sides_at p = knot.layer-Sides V A ghosts (rows K p member-Tree) (rows K p member-Tree)

  abbrev link_at : Parts K → RattleType
  link_at p = knot.layer-Link V A ghosts (knot.at-Sides V A ghosts p)

  abbrev inside_at : Parts K → RattleType
  inside_at p = knot.layer-Tree V A ghosts (knot.at-Link V A ghosts p)

  boxed_send : (T : RattleType) → IsSend T → IsSend (boxes.the_row T A ghosts)
  boxed_send T s = search (crosses, s, alloc_send, frees)

  entry_send : IsSend (entry.the_row V)
  entry_send = declared_send (entry.the_type V) (digest.the_send, (as_row_send (row_field V) value_send, tt))

  sides_send : (p : Parts K) → IsSend (rows K p member-Tree) → IsSend (knot.at-Sides V A ghosts p)
  sides_send p s =
      let h : RattleType = rows K p member-Tree in
      recorded_send (sides_at p) (Sides V.Denot A.Denot) _ (split_one (sides_at p) (Sides V.Denot A.Denot) (split-Sides V.Denot A.Denot ghosts) (join-Sides V.Denot A.Denot ghosts) (joins-Sides V.Denot A.Denot ghosts))
      (declared_send (knot.type-Sides V A ghosts h h) (as_row_send (row_field h) s, (as_row_send (row_field h) s, tt)))

  link_send : (p : Parts K) → IsSend (rows K p member-Tree) → IsSend (knot.at-Link V A ghosts p)
  link_send p s =
      recorded_send (link_at p) (Link V.Denot A.Denot) _ (split_one (link_at p) (Link V.Denot A.Denot) (split-Link V.Denot A.Denot ghosts) (join-Link V.Denot A.Denot ghosts) (joins-Link V.Denot A.Denot ghosts))
      (variants_send (knot.type-Link V A ghosts (knot.at-Sides V A ghosts p)) (
        tt,
        (
          (as_row_send (row_field (as_row (boxes.the_field (entry.the_row V) A ghosts))) (as_row_send (boxes.the_field (entry.the_row V) A ghosts) (boxed_send (entry.the_row V) entry_send)), tt),
          ((search (sendable, crosses) depth 30, (as_row_send (row_field (boxes.the_row (knot.at-Sides V A ghosts p) A ghosts)) (boxed_send (knot.at-Sides V A ghosts p) (sides_send p s)), tt)), tt),
        ),
      ))

  step_send : (p : Parts K) → ((j : the_members) → IsSend (rows K p j)) → (i : the_members) → IsSend (rows K (knot.step V A ghosts p) i)
  step_send p all member-Tree =
      let inside : IsSend (knot.at-Tree V A ghosts p) =
      recorded_send (inside_at p) (Inside V.Denot A.Denot) _ (split_one (inside_at p) (Inside V.Denot A.Denot) (split-Tree V.Denot A.Denot ghosts) (join-Tree V.Denot A.Denot ghosts) (joins-Tree V.Denot A.Denot ghosts))
      (declared_send (knot.type-Tree V A ghosts (knot.at-Link V A ghosts p)) (as_row_send (row_field (knot.at-Link V A ghosts p)) (link_send p (all member-Tree)), tt)) in
      has_of K send (knot.step V A ghosts p) member-Tree (part_has send (knot.view-Tree V A ghosts p) (view_send (knot.at-Tree V A ghosts p) _ _ _ _ inside))

  tree_send : IsSend (tree.the_row V A ghosts)
  tree_send = marks.tied_send K (knot.step V A ghosts) (knot.sizes V A ghosts) step_send member-Tree

  listed_send : (T : RattleType) → IsSend T → IsSend (vec.the_row T A ghosts)
  listed_send T s = search (crosses, s, alloc_send, frees)

  pub map_send : IsSend (map.the_row V A ghosts)
  map_send = view_send (map_inside.the_row V A ghosts) _ _ _ _ (declared_send (map_inside.the_type V A ghosts) (
    as_row_send (vec.the_field (tree.the_row V A ghosts) A ghosts) (listed_send (tree.the_row V A ghosts) tree_send),
    (search (sendable, crosses) depth 30, (search (sendable, crosses) depth 30, (as_row_send (row_field A) alloc_send, tt))),
  ))
