-- Books, answers, entries and tickets may be sent to another thread; answers, entries and tickets may be shared between threads.
use denote.RattleType.{RattleType}
use denote.Param.Send.{IsSend, IsSync, sendable, view_send, view_sync}
use denote.Param.SendFields.{declared_send, declared_sync}
use Rattle.std.proofs.Crossing.{crosses}
use Rattle.nw_digest.proofs.digest.Digest.TheSendSync as digest
use Rattle.nw_generation.proofs.view.View.TheSendSync as view
use Rattle.nw_dag.proofs.Send.{dag_send}
use Rattle.nw_history.proofs.Send.{front_send, front_sync}
use Rattle.nw_sig.specs.declared.scheme.Scheme.{Ghosts}
use Rattle.nw_book.specs.contracts.book.Book as book
use Rattle.nw_book.specs.contracts.book.Book.TheInside as book_inside
use Rattle.nw_book.specs.contracts.done.Done as done
use Rattle.nw_book.specs.contracts.done.Done.TheInside as done_inside
use Rattle.nw_book.specs.contracts.entry.Entry as entry
use Rattle.nw_book.specs.contracts.entry.Entry.TheInside as entry_inside
use Rattle.nw_book.specs.contracts.ticket.Ticket as ticket
use Rattle.nw_book.specs.contracts.ticket.Ticket.TheInside as ticket_inside

module _ (S : RattleType) (g : Ghosts S.Denot) where
  pub book_send : IsSend (book.the_row S g)
  book_send = view_send (book_inside.the_row S g) _ _ _ _ (declared_send (book_inside.the_type S g) (front_send S g, (dag_send, (search (sendable, crosses) depth 30, tt))))

  pub entry_send : IsSend (entry.the_row S g)
  entry_send = view_send (entry_inside.the_row S g) _ _ _ _ (declared_send (entry_inside.the_type S g) (front_send S g, (search (sendable, crosses) depth 30, tt)))

  pub entry_sync : IsSync (entry.the_row S g)
  entry_sync = view_sync (entry_inside.the_row S g) _ _ _ _ (declared_sync (entry_inside.the_type S g) (front_sync S g, (search (sendable, crosses) depth 30, tt)))

  pub done_send : IsSend (done.the_row S g)
  done_send = view_send (done_inside.the_row S g) _ _ _ _ (declared_send (done_inside.the_type S g) (entry_send, tt))

  pub done_sync : IsSync (done.the_row S g)
  done_sync = view_sync (done_inside.the_row S g) _ _ _ _ (declared_sync (done_inside.the_type S g) (entry_sync, tt))

  pub ticket_send : IsSend (ticket.the_row S g)
  ticket_send = view_send (ticket_inside.the_row S g) _ _ _ _ (declared_send (ticket_inside.the_type S g) (digest.the_send, (front_send S g, (view.the_send, tt))))

  pub ticket_sync : IsSync (ticket.the_row S g)
  ticket_sync = view_sync (ticket_inside.the_row S g) _ _ _ _ (declared_sync (ticket_inside.the_type S g) (digest.the_sync, (front_sync S g, (view.the_sync, tt))))
