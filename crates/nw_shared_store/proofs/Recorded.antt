-- A session's call is recorded with its reply.
use Rattle.nw_shared_store.proofs.Words.{ℕ, List, [], ◌∷◌, ◌++◌, All-push, Call, Event, Reply, call_of, event}
use Rattle.nw_model.specs.State.{State}
use Rattle.nw_model.specs.Step.{Bounds, IsReply, recorded_call}
use Rattle.nw_model.specs.declared.call.Call.TheVariants as call
use Rattle.nw_model.specs.declared.reply.Reply.TheVariants as reply
use Rattle.nw_model.specs.declared.reply.WriteReply.TheVariants as write
use Rattle.nw_model.specs.declared.reply.CertifyReply.TheVariants as certify
use Rattle.nw_book.specs.declared.command.Command.{Command}
use Rattle.nw_book.specs.declared.command.Command.TheVariants as command
use Rattle.nw_shared_store.specs.Recorded.{AreRecorded, IsNoQuestion, IsRecorded}

is_recorded : (bounds : Bounds) (s : State) (asked : Call) (r : Reply) → IsNoQuestion asked → IsReply bounds s asked r → IsRecorded (recorded_call asked r) r
is_recorded bounds s (call.Write d b) (reply.Write (write.Stored vote)) plain is = tt
is_recorded bounds s (call.Write d b) (reply.Write write.Clash) plain is = tt
is_recorded bounds s (call.Write d b) (reply.Write (write.Collected floor)) plain is = tt
is_recorded bounds s (call.Write d b) (reply.Write write.TooFar) plain is = tt
is_recorded bounds s (call.Write d b) (reply.Write write.Held) plain is = tt
is_recorded bounds s (call.Write d b) (reply.Write write.Misfit) plain is = tt
is_recorded bounds s (call.Write d b) (reply.Write (write.Equivocates first)) plain is = tt
is_recorded bounds s (call.Write d b) (reply.Write write.Full) plain is = tt
is_recorded bounds s (call.Write d b) other plain is = absurd is
is_recorded bounds s (call.Certify c) (reply.Certify certify.Certified) plain is = tt
is_recorded bounds s (call.Certify c) (reply.Certify (certify.Collected floor)) plain is = tt
is_recorded bounds s (call.Certify c) (reply.Certify certify.TooFar) plain is = tt
is_recorded bounds s (call.Certify c) (reply.Certify certify.Already) plain is = tt
is_recorded bounds s (call.Certify c) (reply.Certify certify.Misfit) plain is = tt
is_recorded bounds s (call.Certify c) (reply.Certify (certify.Conflict other)) plain is = tt
is_recorded bounds s (call.Certify c) (reply.Certify certify.Full) plain is = tt
is_recorded bounds s (call.Certify c) other plain is = absurd is
is_recorded bounds s (call.AskWrite q) r plain is = absurd plain
is_recorded bounds s (call.AskCertify q) r plain is = absurd plain
is_recorded bounds s asked r plain is = tt

-- the events with one more
pub recorded_next : (bounds : Bounds) (s : State) (events : List Event) (session number : ℕ) (asked : Call) (r : Reply) → IsNoQuestion asked → IsReply bounds s asked r → AreRecorded events
    → AreRecorded (events ++ event session number asked r ∷ [])
recorded_next bounds s events session number asked r plain is all = All-push (λ (e : Event). IsRecorded e.call e.reply) events (event session number asked r) all (is_recorded bounds s asked r plain is)

pub no_question : {S : Type 0} (c : Command S) → IsNoQuestion (call_of c)
no_question (command.Write b) = tt
no_question (command.Certify c) = tt
no_question (command.Certificate d) = tt
no_question (command.Read d) = tt
no_question (command.Collect round) = tt
no_question (command.Missing most) = tt
no_question (command.MissingOf d) = tt
no_question command.Status = tt
