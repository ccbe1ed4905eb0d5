-- What calls say of the contents of handles.
use Rattle.std.proofs.Common.{◌≡◌, ◌∙◌, ◌↔◌, ℤ, [], ◌∷◌, true, false, Option, Some, None, inl, inr, refl, subst, sym}
use Rattle.std.specs.Prelude.{IsTrue}
use Rattle.std.proofs.lemmas.Bool.{false≢true}
use Rattle.nw_ed25519.specs.Accepts.{accepts}
use Rattle.nw_history.specs.Prefix.{IsPrefixOf}
use Rattle.nw_history.specs.Story.{Story}
use Rattle.nw_codec.specs.declared.block.Block.{Block}
use Rattle.nw_codec.specs.declared.certificate.Certificate.{Certificate}
use Rattle.nw_model.specs.declared.reply.Reply.TheVariants as reply
use Rattle.nw_book.specs.Answer.{AnswerView}
use Rattle.nw_book.specs.Ticket.{TicketView}
use Rattle.nw_shared_store.specs.Session.{HasSeen, IsSameSession, SessionView}
use Rattle.nw_c.specs.Answers.{AnswersCertificate, AnswersRead, HasReply}
use Rattle.nw_c.specs.Codes.{IsFirstUnmet, call_codes}
use Rattle.nw_c.specs.Kinds.{CanBeHandedIn, HoldsRoom, HoldsSession}
use Rattle.nw_c.specs.Sessions.{BeginsWith, Sees}
use Rattle.nw_c.specs.Tickets.{AreComparable, HaveOneScope}
use Rattle.nw_c.specs.declared.codes.TheConstants.{CLOSED, DONE, NOT_COMPARABLE, NO_MEMORY, OTHER_KIND}
use Rattle.nw_c.specs.declared.content.Content.{Content}
use Rattle.nw_c.specs.declared.content.Content.TheVariants as kind
use Rattle.nw_c.specs.declared.handle.Handle.{Handle}

-- the session heard a note with which its history begins
pub heard : (content : Content) (old new : SessionView) (o : Option Story) (note : Story) → content ≡ kind.Session old → o ≡ Some note → IsSameSession old new
    → HasSeen accepts old new (λ h. IsTrue true ↔ IsPrefixOf note h) → Sees accepts content (kind.Session new) (BeginsWith o)
heard content old new o note is has same seen =
    subst (λ (x : Content × Option Story). Sees accepts x.0 (kind.Session new) (BeginsWith x.1)) (λ i. (sym is i, sym has i)) (
      same,
      (seen.0, seen.1, seen.2, seen.3, seen.4.0 refl),
    )

-- the session heard a note with which its history does not begin
pub not_heard : (content : Content) (old new : SessionView) (o : Option Story) (note : Story) → content ≡ kind.Session old → o ≡ Some note → IsSameSession old new
    → HasSeen accepts old new (λ h. IsTrue false ↔ IsPrefixOf note h) → Sees accepts content (kind.Session new) (λ h. BeginsWith o h → ⊥)
not_heard content old new o note is has same seen =
    subst (λ (x : Content × Option Story). Sees accepts x.0 (kind.Session new) (λ h. BeginsWith x.1 h → ⊥)) (λ i. (sym is i, sym has i)) (
      same,
      (seen.0, seen.1, seen.2, seen.3, λ begins. false≢true (seen.4.1 begins)),
    )

-- the code of a comparison of two tickets is that of the contents with these tickets
pub compared : (a b : Content) (one other : TicketView) (code : ℤ) → a ≡ kind.Ticket one → b ≡ kind.Ticket other
    → IsFirstUnmet ((NOT_COMPARABLE, HaveOneScope one other) ∷ []) (DONE ∷ NO_MEMORY ∷ []) code
    → IsFirstUnmet ((NOT_COMPARABLE, AreComparable a b) ∷ []) (DONE ∷ NO_MEMORY ∷ []) code
compared a b one other code is js first =
    subst (λ (x : Content × Content). IsFirstUnmet ((NOT_COMPARABLE, AreComparable x.0 x.1) ∷ []) (DONE ∷ NO_MEMORY ∷ []) code) (λ i. (sym is i, sym js i)) first

-- the answer to a read that found a block
pub reads : (c : Content) (told : AnswerView) (b : Block) → c ≡ kind.Answer told → told.event.reply ≡ reply.Read (Some b) → AnswersRead c
reads c told b is found = (Some b, subst (λ (x : Content). HasReply x (reply.Read (Some b))) (sym is) found)

-- the answer to a call for a certificate that found one
pub certifies : (c : Content) (told : AnswerView) (one : Certificate) → c ≡ kind.Answer told → told.event.reply ≡ reply.Certificate (Some one) → AnswersCertificate c
certifies c told one is found = (Some one, subst (λ (x : Content). HasReply x (reply.Certificate (Some one))) (sym is) found)

pub found_one : (c : Content) (told : AnswerView) (one : Certificate) → c ≡ kind.Answer told → told.event.reply ≡ reply.Certificate (Some one) → HasReply c (reply.Certificate None) → ⊥
found_one c told one is found none =
    let both : reply.Certificate (Some one) ≡ reply.Certificate None = sym found ∙ subst (λ (x : Content). HasReply x (reply.Certificate None)) is none in cc

-- the code of a call is that of handing in a checked text, which also is of the right kind
pub handed : (s k a : Handle) (code : ℤ) → k.held ≡ true → CanBeHandedIn k.value
    → IsFirstUnmet ((CLOSED, (s.held ≡ true) × (a.held ≡ true)) ∷ (OTHER_KIND, HoldsSession s.value × HoldsRoom a.value) ∷ []) call_codes code
    → IsFirstUnmet ((CLOSED, (s.held ≡ true) × (k.held ≡ true) × (a.held ≡ true)) ∷ (OTHER_KIND, HoldsSession s.value × CanBeHandedIn k.value × HoldsRoom a.value) ∷ []) call_codes code
handed s k a code checked_held can (inl closed) = inl (closed.0, λ all. closed.1 (all.0, all.2))
handed s k a code checked_held can (inr (held, inl other)) = inr ((held.0, checked_held, held.1), inl (other.0, λ all. other.1 (all.0, all.2)))
handed s k a code checked_held can (inr (held, inr (fit, rest))) = inr ((held.0, checked_held, held.1), inr ((fit.0, can, fit.1), rest))
