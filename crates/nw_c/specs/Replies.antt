-- Replies as C sees them.
use Rattle.std.specs.Prelude.{◌≡◌, true, false, Some, None, length}
use Rattle.nw_model.specs.declared.reply.Reply.{Reply}
use Rattle.nw_model.specs.declared.reply.Reply.TheVariants as reply
use Rattle.nw_model.specs.declared.reply.WriteReply.TheVariants as write
use Rattle.nw_model.specs.declared.reply.CertifyReply.TheVariants as certify
use Rattle.nw_model.specs.declared.reply.CausalReply.TheVariants as causal
use Rattle.nw_model.specs.declared.reply.CollectReply.TheVariants as collect
use Rattle.nw_c.specs.Plain.{digest_in}
use Rattle.nw_c.specs.declared.plain.CTagged.{CTagged}
use Rattle.nw_c.specs.declared.replies.TheConstants.{STORED_VOTE, STORED, HELD, CLASH, EQUIVOCATES, CERTIFIED, ALREADY, CONFLICT, COLLECTED, TOO_FAR, MISFIT, FULL, FOUND, UNKNOWN, UNCERTIFIED, INCOMPLETE, READY, RAISED, NOT_HIGHER, MISSING, STATUS}
use Rattle.nw_c.specs.declared.content.Content.{Content}
use Rattle.nw_c.specs.declared.content.Content.TheVariants as kind

-- t has the kind of the reply, and its number or digest if it has one
abbrev pub EncodesReplyTo : Reply → CTagged → Type 0
EncodesReplyTo (reply.Write (write.Collected g)) t = (t.kind ≡ COLLECTED) × (t.number ≡ g)
EncodesReplyTo (reply.Write write.TooFar) t = t.kind ≡ TOO_FAR
EncodesReplyTo (reply.Write write.Held) t = t.kind ≡ HELD
EncodesReplyTo (reply.Write write.Clash) t = t.kind ≡ CLASH
EncodesReplyTo (reply.Write write.Misfit) t = t.kind ≡ MISFIT
EncodesReplyTo (reply.Write (write.Equivocates first)) t = (t.kind ≡ EQUIVOCATES) × (digest_in t.digest ≡ first)
EncodesReplyTo (reply.Write write.Full) t = t.kind ≡ FULL
EncodesReplyTo (reply.Write (write.Stored true)) t = t.kind ≡ STORED_VOTE
EncodesReplyTo (reply.Write (write.Stored false)) t = t.kind ≡ STORED
EncodesReplyTo (reply.Certify (certify.Collected g)) t = (t.kind ≡ COLLECTED) × (t.number ≡ g)
EncodesReplyTo (reply.Certify certify.TooFar) t = t.kind ≡ TOO_FAR
EncodesReplyTo (reply.Certify certify.Already) t = t.kind ≡ ALREADY
EncodesReplyTo (reply.Certify certify.Misfit) t = t.kind ≡ MISFIT
EncodesReplyTo (reply.Certify (certify.Conflict other)) t = (t.kind ≡ CONFLICT) × (digest_in t.digest ≡ other)
EncodesReplyTo (reply.Certify certify.Full) t = t.kind ≡ FULL
EncodesReplyTo (reply.Certify certify.Certified) t = t.kind ≡ CERTIFIED
EncodesReplyTo (reply.Certificate None) t = t.kind ≡ UNKNOWN
EncodesReplyTo (reply.Certificate (Some c)) t = t.kind ≡ FOUND
EncodesReplyTo (reply.Read None) t = t.kind ≡ UNKNOWN
EncodesReplyTo (reply.Read (Some b)) t = t.kind ≡ FOUND
EncodesReplyTo (reply.Causal causal.Unknown) t = t.kind ≡ UNKNOWN
EncodesReplyTo (reply.Causal causal.Uncertified) t = t.kind ≡ UNCERTIFIED
EncodesReplyTo (reply.Causal causal.Incomplete) t = t.kind ≡ INCOMPLETE
EncodesReplyTo reply.Ready t = t.kind ≡ READY
EncodesReplyTo (reply.List blocks) t = t.kind ≡ READY
EncodesReplyTo (reply.Collect (collect.NotHigher g)) t = (t.kind ≡ NOT_HIGHER) × (t.number ≡ g)
EncodesReplyTo (reply.Collect (collect.Raised dropped)) t = (t.kind ≡ RAISED) × (t.number ≡ dropped)
EncodesReplyTo (reply.Missing wanted) t = (t.kind ≡ MISSING) × (t.number ≡ length wanted)
EncodesReplyTo (reply.MissingOf None) t = t.kind ≡ UNKNOWN
EncodesReplyTo (reply.MissingOf (Some missing)) t = (t.kind ≡ MISSING) × (t.number ≡ length missing)
EncodesReplyTo (reply.Status counts) t = t.kind ≡ STATUS

-- t is the reply of the answer; the reply of a ticket is Ready
abbrev pub EncodesReply : Content → CTagged → Type 0
EncodesReply (kind.Answer told) t = EncodesReplyTo told.event.reply t
EncodesReply (kind.Ticket given) t = EncodesReplyTo reply.Ready t
EncodesReply other t = ⊥
