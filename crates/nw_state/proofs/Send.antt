-- The tables of a state may be sent to another thread.
use denote.RattleType.{RattleType}
use denote.Param.Send.{IsSend, IsSync, sendable, view_send}
use denote.Param.SendFields.{declared_send}
use Rattle.std.proofs.Crossing.{crosses, frees, send}
use Rattle.std.specs.contracts.alloc.Global as global
use Rattle.std.specs.contracts.impls.GlobalAllocator.TheImpl.{ghosts}
use Rattle.nw_digest.specs.contracts.shared.Shared as owner
use Rattle.nw_digest.proofs.shared.Shared.TheSendSync as owner_crosses
use Rattle.nw_codec.specs.contracts.block.Block as block
use Rattle.nw_codec.proofs.block.Block.TheSendSync as block_crosses
use Rattle.nw_codec.specs.contracts.certificate.Certificate as certificate
use Rattle.nw_codec.proofs.certificate.Certificate.TheSendSync as certificate_crosses
use Rattle.nw_trie.specs.contracts.map.DigestMap as map
use Rattle.nw_trie.proofs.Send.{map_send}
use Rattle.nw_rounds.proofs.rounds.Rounds.TheSendSync as rounds
use Rattle.nw_state.specs.contracts.tables.StateTables as held
use Rattle.nw_state.specs.contracts.tables.StateTables.TheInside as held_inside

-- a map of shared values may be sent if the values may
shared_send : (V : RattleType) → IsSend V → IsSync V → IsSend (map.the_row (owner.the_row V) global.the_row ghosts)
shared_send V value_send value_sync =
    map_send (owner.the_row V) global.the_row ghosts (owner_crosses.the_send V value_send value_sync) send frees

pub held_send : IsSend held.the_row
held_send = view_send held_inside.the_row _ _ _ _ (declared_send held_inside.the_type (
  shared_send block.the_row block_crosses.the_send block_crosses.the_sync,
  (
    shared_send certificate.the_row certificate_crosses.the_send certificate_crosses.the_sync,
    (search (sendable, crosses, rounds.the_send) depth 30, (search (sendable, crosses) depth 30, (search (sendable, crosses) depth 30, (search (sendable, crosses) depth 30, (search (sendable, crosses) depth 30, tt))))),
  ),
))
