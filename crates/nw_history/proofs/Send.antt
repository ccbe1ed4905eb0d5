-- Fronts can be sent to other threads and shared by threads.
use denote.RattleType.{RattleType}
use denote.Param.Send.{IsSend, IsSync, sendable, view_send, view_sync}
use denote.Param.SendFields.{declared_send, declared_sync}
use Rattle.std.proofs.Crossing.{crosses}
use Rattle.nw_shared_list.proofs.Send.{chunks_send, chunks_sync}
use Rattle.nw_model.specs.contracts.event.Event as event
use Rattle.nw_model.proofs.event.Event.TheSendSync as event_crosses
use Rattle.nw_sig.specs.declared.scheme.Scheme.{Ghosts}
use Rattle.nw_history.specs.contracts.front.Front as front
use Rattle.nw_history.specs.contracts.front.Front.TheInside as front_inside
use Rattle.nw_history.specs.contracts.start.Start as start
use Rattle.nw_history.proofs.start.Start.TheSendSync as start_crosses

module _ (S : RattleType) (g : Ghosts S.Denot) where
  pub front_send : IsSend (front.the_row S g)
  front_send = view_send (front_inside.the_row S g) _ _ _ _ (declared_send (front_inside.the_type S g) (
    chunks_send start.the_row event.the_row start_crosses.the_send start_crosses.the_sync event_crosses.the_send event_crosses.the_sync,
    (search (sendable, crosses) depth 30, tt),
  ))

  pub front_sync : IsSync (front.the_row S g)
  front_sync = view_sync (front_inside.the_row S g) _ _ _ _ (declared_sync (front_inside.the_type S g) (
    chunks_sync start.the_row event.the_row start_crosses.the_send start_crosses.the_sync event_crosses.the_send event_crosses.the_sync,
    (search (sendable, crosses) depth 30, tt),
  ))
