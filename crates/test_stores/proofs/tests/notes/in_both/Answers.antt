use denote.Param.{param}
use denote.Param.Send.{IsSend, sendable, shr_send, shr_slice_send}
use Rattle.std.proofs.Crossing.{frees, send, sync}
use Rattle.std.specs.contracts.alloc.Global as heap
use Rattle.std.specs.contracts.impls.GlobalAllocator.TheImpl.{ghosts}
use Rattle.crossbeam_channel.specs.contracts.channel.Sender as senders
use Rattle.crossbeam_channel.proofs.channel.Sender.TheSendSync as sender
use Rattle.nw_sig.specs.contracts.demo.DemoScheme as demo
use Rattle.nw_sig.specs.contracts.demo.DemoSchemeScheme.TheImpl as demo_is
use Rattle.nw_store.specs.contracts.notes.Note as notes
use Rattle.nw_store.proofs.Send.{note_send, session_send, store_sync}
use Rattle.nw_store.proofs.Crossing.{captures_send, along_send}
use Rattle.nw_store.proofs.Crossing.Sends.{none, also}
use Rattle.test_stores.proofs.tests.chains.Link.TheSendSync as link
use Rattle.test_stores.proofs.tests.notes.in_both.Goals as goal

-- what the writer's closure captures: the runtime, the allocator, the store, the session, the blocks and the sender of notes
pub join-requires-send-F : goal.join-requires-send-F
join-requires-send-F g c κs within =
    let store = store_sync demo.the_row (param 0 g.row.L) demo_is.ghosts g.L.Home g.L.LogName g.L.Ledger in
    let session = session_send demo.the_row (param 0 g.row.L) demo_is.ghosts g.L.Home g.L.LogName g.L.Ledger in
    let notes_out : IsSend (senders.the_row (notes.the_row demo.the_row (param 0 g.row.L) demo_is.ghosts g.L.Home g.L.LogName g.L.Ledger) heap.the_row ghosts) = search (sender.the_send, note_send, send, sync, frees) depth 20 in
    along_send _ _ _ _ (also _ _ (shr_send _ _ _ c.type_bounds.sync-R) (also _ _ send (also _ _ (shr_send _ _ _ store) (also _ _ session (also _ _ (shr_slice_send _ _ _ link.the_sync) (also _ _ notes_out none))))))

-- what the writer returns: the session and a count
pub join-requires-send-A : goal.join-requires-send-A
join-requires-send-A g c κs within = search (captures_send, sendable, session_send) depth 20
