-- A list is Send and Sync if its head and its items are.
use denote.RattleType.{RattleType}
use denote.Param.Send.{IsSend, IsSync, sendable, view_send, view_sync}
use denote.Param.SendFields.{as_row_send, as_row_sync, declared_send, declared_sync}
use denote.Hole.{as_row}
use denote.Hole.FixSend.{Crosses, both_send, both_sync}
use denote.Struct.Field.{row_field}
use Rattle.std.proofs.Crossing.{crosses}
use Rattle.nw_digest.proofs.shared.Shared.TheSendSync as shared
use Rattle.nw_digest.specs.contracts.shared.Shared as owners
use Rattle.nw_shared_list.specs.contracts.chunk.Chunk as chunk
use Rattle.nw_shared_list.specs.contracts.chunk.Chunk.TheInside as chunk_inside
use Rattle.nw_shared_list.specs.contracts.chunks.SharedList.{the_row}
use Rattle.nw_shared_list.specs.contracts.chunks.SharedList.TheInside as inside
use Rattle.nw_shared_list.specs.contracts.chunks.Root as root
use Rattle.nw_shared_list.specs.contracts.trail.Link as link
use Rattle.nw_shared_list.specs.contracts.trail.Link.TheInside as link_inside
use Rattle.nw_shared_list.specs.contracts.trail.Node as node
use Rattle.nw_shared_list.specs.contracts.trail.Trail as trail
use Rattle.nw_shared_list.specs.contracts.trail.Trail.TheInside as trail_inside

module _ (T : RattleType) (s : IsSend T) (y : IsSync T) where
  field_send : IsSend (as_row (row_field T))
  field_send = as_row_send (row_field T) s

  field_sync : IsSync (as_row (row_field T))
  field_sync = as_row_sync (row_field T) y

  -- a node, if the nodes before it are
  layers : (i : node.TheKnot.the_members T) → Crosses (node.the_ring T) i
  layers = node.by_members T (Crosses (node.the_ring T)) (record {
    send = λ h hs hy. declared_send (node.the_layer T h) (as_row_send (row_field (as_row (row_field T))) field_send, (search (sendable, crosses, hs, hy) depth 30, tt));
    sync = λ h hs hy. declared_sync (node.the_layer T h) (as_row_sync (row_field (as_row (row_field T))) field_sync, (search (sendable, crosses, hs, hy) depth 30, tt));
  })

  hole_send : IsSend (node.the_hole T)
  hole_send = both_send (node.the_ring T) layers (node.the_member T)

  hole_sync : IsSync (node.the_hole T)
  hole_sync = both_sync (node.the_ring T) layers (node.the_member T)

  node_send : IsSend (node.the_row T)
  node_send = declared_send (node.the_type T) (field_send, (search (sendable, crosses, hole_send, hole_sync) depth 30, tt))

  node_sync : IsSync (node.the_row T)
  node_sync = declared_sync (node.the_type T) (field_sync, (search (sendable, crosses, hole_send, hole_sync) depth 30, tt))

  trail_send : IsSend (trail.the_row T)
  trail_send = view_send (trail_inside.the_row T) _ _ _ _ (declared_send (trail_inside.the_type T) (search (sendable, crosses, node_send, node_sync) depth 30, tt))

  trail_sync : IsSync (trail.the_row T)
  trail_sync = view_sync (trail_inside.the_row T) _ _ _ _ (declared_sync (trail_inside.the_type T) (search (sendable, crosses, node_send, node_sync) depth 30, tt))

  link_send : IsSend (link.the_row T)
  link_send = view_send (link_inside.the_row T) _ _ _ _ (declared_send (link_inside.the_type T) (search (sendable, crosses, node_send, node_sync) depth 30, tt))

  link_sync : IsSync (link.the_row T)
  link_sync = view_sync (link_inside.the_row T) _ _ _ _ (declared_sync (link_inside.the_type T) (search (sendable, crosses, node_send, node_sync) depth 30, tt))

  one_send : IsSend (chunk.the_row T)
  one_send = view_send (chunk_inside.the_row T) _ _ _ _ (declared_send (chunk_inside.the_type T) (search (sendable, crosses, link_send) depth 30, tt))

  one_sync : IsSync (chunk.the_row T)
  one_sync = view_sync (chunk_inside.the_row T) _ _ _ _ (declared_sync (chunk_inside.the_type T) (search (sendable, crosses, link_sync) depth 30, tt))

  chunk_send : IsSend (owners.the_row (chunk.the_row T))
  chunk_send = shared.the_send (chunk.the_row T) one_send one_sync

  chunk_sync : IsSync (owners.the_row (chunk.the_row T))
  chunk_sync = shared.the_sync (chunk.the_row T) one_send one_sync

module _ (H T : RattleType) (hs : IsSend H) (hy : IsSync H) (s : IsSend T) (y : IsSync T) where
  root_send : IsSend (root.the_row H T)
  root_send = declared_send (root.the_type H T) (shared.the_send H hs hy, (search (sendable, crosses, chunk_send T s y) depth 30, tt))

  root_sync : IsSync (root.the_row H T)
  root_sync = declared_sync (root.the_type H T) (shared.the_sync H hs hy, (search (sendable, crosses, chunk_sync T s y) depth 30, tt))

  pub chunks_send : IsSend (the_row H T)
  chunks_send = view_send (inside.the_row H T) _ _ _ _ (declared_send (inside.the_type H T) (
    shared.the_send (root.the_row H T) root_send root_sync,
    (trail_send T s y, (search (sendable, crosses), tt)),
  ))

  pub chunks_sync : IsSync (the_row H T)
  chunks_sync = view_sync (inside.the_row H T) _ _ _ _ (declared_sync (inside.the_type H T) (
    shared.the_sync (root.the_row H T) root_send root_sync,
    (trail_sync T s y, (search (sendable, crosses), tt)),
  ))
