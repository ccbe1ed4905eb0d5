-- The content of a handle can be sent to another thread.
use mir.Syntax.{given as given_bound}
use denote.Enum.Enum.{Enum}
use denote.Enum.Declared.{shape, Declared}
use denote.Param.Send.{IsSend, enum_send, recorded_send, sendable, view_send}
use denote.Param.SendFields.{declared_send}
use Rattle.std.proofs.Crossing.{crosses}
use Rattle.nw_digest.proofs.digest.Digest.TheSendSync as digest
use Rattle.nw_ed25519.specs.contracts.scheme.Ed25519 as ed25519
use Rattle.nw_ed25519.specs.contracts.scheme.Ed25519Scheme.TheImpl.{ghosts}
use Rattle.nw_check.specs.contracts.message.Checked as checked
use Rattle.nw_history.proofs.Send.{front_send}
use Rattle.nw_book.proofs.Send.{done_send, ticket_send}
use Rattle.nw_shared_store.specs.contracts.session.SharedSession as session
use Rattle.nw_shared_store.specs.contracts.store.SharedStore as store
use Rattle.nw_shared_store.proofs.Send.{shared_session_send, shared_store_send}
use Rattle.nw_prepared.proofs.committee.PreparedCommittee.TheSendSync as prepared
use Rattle.nw_prepared.proofs.gather.PreparedGather.TheSendSync as gather
use Rattle.nw_c.specs.contracts.content.Content as content
use Rattle.nw_c.specs.contracts.given.Given as given
use Rattle.nw_c.specs.contracts.given.Given.TheInside as given_inside
use Rattle.nw_c.specs.contracts.hashed.HashedBlock as hashed
use Rattle.nw_c.specs.contracts.hashed.HashedBlock.TheInside as hashed_inside

abbrev Message : Declared
Message = checked.the_type ed25519.the_row ghosts

-- a checked text
checked_send : IsSend (Enum (shape Message))
checked_send = enum_send (shape Message) (
  (search (sendable, crosses) depth 30, tt),
  (
    (search (sendable, crosses) depth 30, tt),
    (
      (search (sendable, crosses) depth 30, tt),
      ((search (sendable, crosses) depth 30, tt), ((search (sendable, crosses) depth 30, tt), ((search (sendable, crosses) depth 30, tt), tt))),
    ),
  ),
)

-- a block with its digest
hashed_send : IsSend hashed.the_row
hashed_send = view_send hashed_inside.the_row _ _ _ _ (declared_send hashed_inside.the_type (digest.the_send, (search (sendable, crosses) depth 30, tt)))

-- a shared store, whose laws hold for every dictionary
store_send : IsSend (store.the_row ed25519.the_row ghosts)
store_send = shared_store_send ed25519.the_row ghosts (given_bound 0)

-- a session of a shared store
session_send : IsSend (session.the_row ed25519.the_row ghosts)
session_send = shared_session_send ed25519.the_row ghosts (given_bound 0)

-- the sessions given to a settlement
given_send : IsSend given.the_row
given_send = view_send given_inside.the_row _ _ _ _ (declared_send given_inside.the_type (search (sendable, crosses, session_send) depth 30, tt))

pub content_send : IsSend content.the_row
content_send = recorded_send (Enum (shape content.the_type)) (content.the_type).D (content.the_type).to (content.the_type).to_one (enum_send (shape content.the_type) (
  tt,
  (
    (search (sendable, crosses, prepared.the_send, prepared.the_sync) depth 30, tt),
    (
      (checked_send, tt),
      (
        (gather.the_send, tt),
        (
          (search (sendable, crosses, done_send) depth 30, tt),
          (
            (search (sendable, crosses, ticket_send) depth 30, tt),
            (
              (search (sendable, crosses, hashed_send) depth 30, tt),
              (
                (search (sendable, crosses, hashed_send) depth 30, tt),
                (
                  (search (sendable, crosses, store_send) depth 30, tt),
                  (
                    (search (sendable, crosses, session_send) depth 30, tt),
                    ((search (sendable, crosses, front_send) depth 30, tt), ((search (sendable, crosses, given_send) depth 30, tt), tt)),
                  ),
                ),
              ),
            ),
          ),
        ),
      ),
    ),
  ),
))
