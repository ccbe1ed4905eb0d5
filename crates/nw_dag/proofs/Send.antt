-- The tables of a store may be sent to another thread.
use denote.Param.Send.{IsSend, sendable, view_send}
use denote.Param.SendFields.{declared_send}
use Rattle.std.proofs.Crossing.{crosses}
use Rattle.nw_waiting.proofs.parents.MissingParents.TheSendSync as missing
use Rattle.nw_generation.proofs.generations.Generations.TheSendSync as generations
use Rattle.nw_state.proofs.Send.{held_send}
use Rattle.nw_dag.specs.contracts.dag.Dag as dag
use Rattle.nw_dag.specs.contracts.dag.Dag.TheInside as dag_inside
use Rattle.nw_dag.specs.contracts.completions.Completions as completions
use Rattle.nw_dag.specs.contracts.waits.Waits as waits

completions_send : IsSend completions.the_row
completions_send = declared_send completions.the_type (search (sendable, crosses) depth 30, (search (sendable, crosses) depth 30, tt))

waits_send : IsSend waits.the_row
waits_send = declared_send waits.the_type (search (sendable, crosses, missing.the_send) depth 30, (completions_send, tt))

pub dag_send : IsSend dag.the_row
dag_send = view_send dag_inside.the_row _ _ _ _ (declared_send dag_inside.the_type (held_send, (waits_send, (generations.the_send, tt))))
