-- Calls as a history of a store records them: questions are answered as questions.
use Rattle.std.specs.Prelude.{List, All}
use Rattle.nw_model.specs.declared.call.Call.{Call}
use Rattle.nw_model.specs.declared.call.Call.TheVariants as call
use Rattle.nw_model.specs.declared.event.Event.{Event}
use Rattle.nw_model.specs.declared.reply.Reply.{Reply}
use Rattle.nw_model.specs.declared.reply.Reply.TheVariants as reply
use Rattle.nw_model.specs.declared.reply.WriteReply.TheVariants as write
use Rattle.nw_model.specs.declared.reply.CertifyReply.TheVariants as certify

-- the call is recorded with this reply: a block that is stored or clashes, a certificate that is kept, no other block or certificate, and a
-- question only with a reply that changes nothing
abbrev pub IsRecorded : Call → Reply → Type 0
IsRecorded (call.Write d b) (reply.Write (write.Stored vote)) = Unit {0}
IsRecorded (call.Write d b) (reply.Write write.Clash) = Unit {0}
IsRecorded (call.Write d b) other = ⊥
IsRecorded (call.Certify c) (reply.Certify certify.Certified) = Unit {0}
IsRecorded (call.Certify c) other = ⊥
IsRecorded (call.AskWrite q) (reply.Write (write.Stored vote)) = ⊥
IsRecorded (call.AskCertify q) (reply.Certify certify.Certified) = ⊥
IsRecorded asked other = Unit {0}

-- so is the call of each event
abbrev pub AreRecorded : List Event → Type 0
AreRecorded events = All (λ e. IsRecorded e.call e.reply) events

-- the call is no question what a write or a certificate would get, which no session asks
abbrev pub IsNoQuestion : Call → Type 0
IsNoQuestion (call.AskWrite q) = ⊥
IsNoQuestion (call.AskCertify q) = ⊥
IsNoQuestion other = Unit {0}
