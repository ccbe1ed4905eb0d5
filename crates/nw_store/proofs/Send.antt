-- Sessions and notes may be sent to another thread, and stores may be shared between threads.
use Rattle.nw_store.proofs.Words.{RattleType, IsSend, IsSync, declared_send, declared_sync}
use denote.Param.Send.{sendable, view_send}
use Rattle.std.proofs.Crossing.{crosses}
use Rattle.std.specs.declared.sync.ledger.Ledger.{Ghosts as LedgerGhosts}
use Rattle.std.proofs.sync.ledger.Book.TheSendSync as counted
use Rattle.std.proofs.sync.ledger.Share.TheSendSync as share
use Rattle.nw_log.specs.declared.log.LogName.{Ghosts as PlaceGhosts}
use Rattle.nw_log.proofs.log.KnownPrefix.TheSendSync as known
use Rattle.nw_log.proofs.log.LogOwner.TheSendSync as owner
use Rattle.nw_sig.specs.declared.scheme.Scheme.{Ghosts}
use Rattle.nw_history.specs.contracts.front.Front as front
use Rattle.nw_history.proofs.Send.{front_send}
use Rattle.nw_book.proofs.Send.{book_send, entry_send}
use Rattle.nw_store.specs.declared.home.Home.{Ghosts as HomeGhosts}
use Rattle.nw_store.specs.contracts.notes.Note as note
use Rattle.nw_store.specs.contracts.notes.Note.TheInside as note_inside
use Rattle.nw_store.specs.contracts.session.Session as session
use Rattle.nw_store.specs.contracts.session.Session.TheInside as session_inside
use Rattle.nw_store.specs.contracts.locked.Token as token
use Rattle.nw_store.specs.contracts.locked.CallCount as count
use Rattle.nw_store.specs.contracts.locked.Locked as locked
use Rattle.nw_store.specs.contracts.locked.Locked.TheInside as locked_inside
use Rattle.nw_store.specs.contracts.store.Store as store

module _ (S L : RattleType) (g : Ghosts S.Denot) (home : HomeGhosts L.Denot) (place : PlaceGhosts L.Denot) (ledger : LedgerGhosts L.Denot) where
  token_send : IsSend (token.the_row S L g place ledger)
  token_send = declared_send (token.the_type S L g place ledger) (share.the_send L ledger, (known.the_send (front.the_row S g) L place ledger (front_send S g), tt))

  count_send : IsSend (count.the_row S L g place ledger)
  count_send = declared_send (count.the_type S L g place ledger) (counted.the_send L ledger, (owner.the_send (front.the_row S g) L place ledger (front_send S g), tt))

  pub note_send : IsSend (note.the_row S L g home place ledger)
  note_send = view_send (note_inside.the_row S L g home place ledger) _ _ _ _ (declared_send (note_inside.the_type S L g home place ledger)
      (known.the_send (front.the_row S g) L place ledger (front_send S g), tt))

  pub session_send : IsSend (session.the_row S L g home place ledger)
  session_send = view_send (session_inside.the_row S L g home place ledger) _ _ _ _ (declared_send (session_inside.the_type S L g home place ledger)
      (search (sendable, crosses), (search (sendable, crosses, entry_send S g) depth 30, (token_send, tt))))

  pub locked_send : IsSend (locked.the_row S L g home place ledger)
  locked_send = view_send (locked_inside.the_row S L g home place ledger) _ _ _ _ (declared_send (locked_inside.the_type S L g home place ledger)
      (book_send S g, (search (sendable, crosses), (count_send, (share.the_send L ledger, tt)))))

  pub store_send : IsSend (store.the_row S L g home place ledger)
  store_send = declared_send (store.the_type S L g home place ledger) (search (sendable, crosses, locked_send) depth 30, tt)

  pub store_sync : IsSync (store.the_row S L g home place ledger)
  store_sync = declared_sync (store.the_type S L g home place ledger) (search (sendable, crosses, locked_send) depth 30, tt)
