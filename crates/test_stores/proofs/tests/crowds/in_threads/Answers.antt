use denote.Param.{param}
use denote.Param.Send.{sendable, shr_sync}
use Rattle.std.proofs.Crossing.{sync}
use Rattle.nw_sig.specs.contracts.demo.DemoScheme as demo
use Rattle.nw_sig.specs.contracts.demo.DemoSchemeScheme.TheImpl as demo_is
use Rattle.nw_store.proofs.Send.{session_send, store_sync}
use Rattle.nw_store.proofs.Crossing.{along_sync}
use Rattle.nw_store.proofs.Crossing.Syncs.{none, also}
use Rattle.test_stores.proofs.tests.tasks.Crew.TheSendSync as crew
use Rattle.test_stores.proofs.tests.crowds.in_threads.Goals as goal

pub for_each_mut-requires-send-T : goal.for_each_mut-requires-send-T
for_each_mut-requires-send-T g c κs within = search (sendable, session_send) depth 20

-- what the closure captures by reference: the runtime, the allocator, the store and the crew
pub for_each_mut-requires-sync-F : goal.for_each_mut-requires-sync-F
for_each_mut-requires-sync-F g c κs within =
    let store = store_sync demo.the_row (param 0 g.row.L) demo_is.ghosts g.L.Home g.L.LogName g.L.Ledger in
    along_sync _ _ _ _ (also _ _ (shr_sync _ _ _ c.type_bounds.sync-R) (also _ _ (shr_sync _ _ _ sync) (also _ _ (shr_sync _ _ _ store) (also _ _ (shr_sync _ _ _ crew.the_sync) none))))
