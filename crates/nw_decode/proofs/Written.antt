-- The fields of a message within the limits pass their tests.
use Rattle.nw_decode.proofs.Words.{ℕ, List, [], ◌++◌, sym, subst, ◌∙◌, append-nil, Message, MessageFits, IsMessage, IsSpelled}
use Rattle.nw_codec.specs.declared.message.Message.TheVariants as messages
use Rattle.nw_codec.specs.Grammar.{message}
use Rattle.nw_decode.specs.Faults.{AtTag, AtEnd, Reaches}
use Rattle.nw_decode.proofs.WrittenBlock.{written_block}
use Rattle.nw_decode.proofs.WrittenVotes.{written_certificate, written_vote}

pub written : (m : Message) (x : List ℕ) → IsMessage m → MessageFits m → Reaches AtTag (message m ++ x) AtEnd x
written (messages.Block b s) x typed fits = written_block b s x typed.0 typed.1 fits
written (messages.Certificate c) x typed fits = written_certificate c x typed fits
written (messages.Vote v) x typed fits = written_vote v x typed

pub spelled_is_whole : (text : List ℕ) → IsSpelled text → Reaches AtTag text AtEnd []
spelled_is_whole text h =
    let front = written h.0 [] h.1.typed h.1.fits in
    subst (λ (t : List ℕ). Reaches AtTag t AtEnd []) (append-nil (message h.0) ∙ sym h.1.bytes) front
