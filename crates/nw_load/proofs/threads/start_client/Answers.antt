use mir.Syntax.{w16}
use denote.Plain.{UInt}
use denote.Param.{param}
use denote.Param.Send.{IsSend, sendable, shr_send}
use Rattle.std.proofs.Crossing.{crosses, frees, send, sync}
use Rattle.std.specs.contracts.alloc.Global as heap
use Rattle.std.specs.contracts.impls.GlobalAllocator.TheImpl.{ghosts}
use Rattle.crossbeam_channel.specs.contracts.channel.Receiver as receivers
use Rattle.crossbeam_channel.proofs.channel.Receiver.TheSendSync as receiver
use Rattle.nw_digest.specs.contracts.digest.Digest as digests
use Rattle.nw_digest.proofs.digest.Digest.TheSendSync as digest
use Rattle.nw_sig.specs.contracts.demo.DemoScheme as demo
use Rattle.nw_sig.specs.contracts.demo.DemoSchemeScheme.TheImpl as demo_is
use Rattle.nw_store.proofs.Send.{session_send, store_sync}
use Rattle.nw_store.proofs.Crossing.{along_send}
use Rattle.nw_store.proofs.Crossing.Sends.{none, also}
use Rattle.nw_load.proofs.node.LoadContext.TheSendSync as context
use Rattle.nw_load.proofs.threads.start_client.Goals as goal

-- the values that the closure captures: the load's context, the node, the store, the session and the channel
pub spawn-requires-send-F : goal.spawn-requires-send-F
spawn-requires-send-F g c κs within =
    let store = store_sync demo.the_row (param 0 g.row.L) demo_is.ghosts g.L.Home g.L.LogName g.L.Ledger in
    let session = session_send demo.the_row (param 0 g.row.L) demo_is.ghosts g.L.Home g.L.LogName g.L.Ledger in
    let channel : IsSend (receivers.the_row digests.the_row heap.the_row ghosts) = search (receiver.the_send, digest.the_send, send, sync, frees) depth 20 in
    let node : IsSend (UInt w16) = search sendable in
    along_send _ _ _ _ (
    also _ _ (shr_send _ _ _ (context.the_sync (record { mir = _; lft = _ }) (param 1 g.row.R) (param 2 g.row.G) c.type_bounds.sync-R c.type_bounds.sync-G))
    (also _ _ node (also _ _ (shr_send _ _ _ store) (also _ _ session (also _ _ channel none))))
    )

pub spawn-requires-send-T : goal.spawn-requires-send-T
spawn-requires-send-T g c κs within = search (sendable, crosses, session_send) depth 40
