-- The reply to a call that is not a causal read is never Ready.
use Rattle.nw_book.proofs.Words.{◌≢◌, subst, State, Bounds, IsReply, Call, Reply}
use Rattle.nw_model.specs.declared.call.Call.TheVariants as calls
use Rattle.nw_model.specs.declared.reply.Reply.TheVariants as replies
use Rattle.nw_book.specs.Command.{IsNoCausalRead}

-- only causal reads get the reply Ready
pub not_ready : (bounds : Bounds) (s : State) (asked : Call) (r : Reply) → IsNoCausalRead asked → IsReply bounds s asked r → r ≢ replies.Ready
not_ready bounds s (calls.Write d b) r no_read is e = subst (λ q. IsReply bounds s (calls.Write d b) q) e is
not_ready bounds s (calls.Certify c) r no_read is e = subst (λ q. IsReply bounds s (calls.Certify c) q) e is
not_ready bounds s (calls.Certificate d) r no_read is e = subst (λ q. IsReply bounds s (calls.Certificate d) q) e is
not_ready bounds s (calls.Read d) r no_read is e = subst (λ q. IsReply bounds s (calls.Read d) q) e is
not_ready bounds s (calls.Causal d) r no_read is e = absurd no_read
not_ready bounds s (calls.Collect round) r no_read is e = subst (λ q. IsReply bounds s (calls.Collect round) q) e is
not_ready bounds s (calls.Missing most) r no_read is e = subst (λ q. IsReply bounds s (calls.Missing most) q) e is
not_ready bounds s (calls.MissingOf d) r no_read is e = subst (λ q. IsReply bounds s (calls.MissingOf d) q) e is
not_ready bounds s calls.Status r no_read is e = subst (λ q. IsReply bounds s calls.Status q) e is
not_ready bounds s (calls.AskWrite q) r no_read is e = subst (λ q'. IsReply bounds s (calls.AskWrite q) q') e is
not_ready bounds s (calls.AskCertify q) r no_read is e = subst (λ q'. IsReply bounds s (calls.AskCertify q) q') e is
