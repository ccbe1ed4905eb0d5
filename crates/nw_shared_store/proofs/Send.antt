-- Shared stores and their sessions may be sent to another thread.
use mir.Syntax.{Dict}
use denote.RattleType.{RattleType}
use denote.Param.Send.{IsSend, IsSync, sendable, view_send}
use denote.Param.SendFields.{declared_send, declared_sync}
use Rattle.std.proofs.Crossing.{crosses}
use Rattle.atomic_table.proofs.shared.Seat.TheSendSync as seat
use Rattle.atomic_table.proofs.shared.Shared.TheSendSync as shared
use Rattle.atomic_table.proofs.send_lease.SendLease.TheSendSync as lease
use Rattle.atomic_table.specs.contracts.owned.Table as table
use Rattle.std.specs.contracts.alloc.Global as heap
use Rattle.std.specs.contracts.impls.GlobalAllocator.TheImpl.{ghosts as heap_ghosts}
use Rattle.nw_sig.specs.declared.scheme.Scheme.{Ghosts}
use Rattle.nw_history.specs.contracts.front.Front as front
use Rattle.nw_book.proofs.Send.{book_send}
use Rattle.nw_shared_store.specs.contracts.rule.OneHistory as rule
use Rattle.nw_shared_store.specs.contracts.rule.OneHistoryTableRuleLockedSeatViewFront.TheImpl.{ghosts as rule_ghosts}
use Rattle.nw_shared_store.specs.contracts.locked.Locked as locked
use Rattle.nw_shared_store.specs.contracts.locked.Locked.TheInside as locked_inside
use Rattle.nw_shared_store.specs.contracts.knowledge.Knowledge as knowledge
use Rattle.nw_shared_store.specs.contracts.knowledge.Written as written
use Rattle.nw_shared_store.specs.contracts.store.SharedStore as store
use Rattle.nw_shared_store.specs.contracts.store.SharedStore.TheInside as store_inside
use Rattle.nw_shared_store.specs.contracts.session.SharedSession as session
use Rattle.nw_shared_store.specs.contracts.session.SharedSession.TheInside as session_inside

module _ (S : RattleType) (g : Ghosts S.Denot) (d : Dict) where
  locked_send : IsSend (locked.the_row S g)
  locked_send = view_send (locked_inside.the_row S g) _ _ _ _ (declared_send (locked_inside.the_type S g) (book_send S g, (search (sendable, crosses) depth 30, (search (sendable, crosses) depth 30, tt))))

  -- what a seat knows
  abbrev SeatView : RattleType
  SeatView = knowledge.the_row (locked.the_row S g) (front.the_row S g) (written.the_row S g)

  -- the lock
  abbrev Lock : RattleType
  Lock = table.the_row (locked.the_row S g) SeatView (front.the_row S g) rule.the_row heap.the_row (rule_ghosts S g d) heap_ghosts

  lock_send : IsSend Lock
  lock_send = declared_send (table.the_type (locked.the_row S g) SeatView (front.the_row S g) rule.the_row heap.the_row (rule_ghosts S g d) heap_ghosts) (
    search (sendable, crosses, locked_send, shared.the_send) depth 30,
    (
      search (sendable, crosses) depth 30,
      (
        search (sendable, crosses) depth 30,
        (search (sendable, crosses, lease.the_send) depth 30, (search (sendable, crosses, lease.the_send) depth 30, (search (sendable, crosses) depth 30, tt))),
      ),
    ),
  )

  lock_sync : IsSync Lock
  lock_sync = declared_sync (table.the_type (locked.the_row S g) SeatView (front.the_row S g) rule.the_row heap.the_row (rule_ghosts S g d) heap_ghosts) (
    search (sendable, crosses, locked_send, shared.the_sync) depth 30,
    (
      search (sendable, crosses) depth 30,
      (
        search (sendable, crosses) depth 30,
        (search (sendable, crosses, lease.the_sync) depth 30, (search (sendable, crosses, lease.the_sync) depth 30, (search (sendable, crosses) depth 30, tt))),
      ),
    ),
  )

  pub shared_store_send : IsSend (store.the_row S g)
  shared_store_send = view_send (store_inside.the_row S g) _ _ _ _ (declared_send (store_inside.the_type S g) (search (sendable, crosses, lock_send, lock_sync) depth 40, (seat.the_send (locked.the_row S g) SeatView locked_send, tt)))

  pub shared_session_send : IsSend (session.the_row S g)
  shared_session_send = view_send (session_inside.the_row S g) _ _ _ _ (declared_send (session_inside.the_type S g) (
    search (sendable, crosses, lock_send, lock_sync) depth 40,
    (seat.the_send (locked.the_row S g) SeatView locked_send, (search (sendable, crosses) depth 30, (search (sendable, crosses) depth 30, tt))),
  ))
