-- A text has one certificate and one vote.
use Rattle.nw_decode.proofs.Words.{◌≡◌, ℕ, ◌^◌, ◌<◌, List, [], ◌∷◌, ◌++◌, length, refl, sym, ap, ◌∙◌, w16, to_be_bytes, recursion_from_All, Signature, Seal, Certificate, Subject, Vote, round_bytes, subject_bytes, seal, certificate_subject, vote_subject, IsSubject, IsSeal, IsCertificate, IsVote, same_start, same16, same48}
use Rattle.nw_digest.specs.declared.digest.Digest.{Digest}
use Rattle.nw_codec.specs.declared.message.Message.TheVariants as messages
use Rattle.nw_codec.specs.Grammar.{message}
use Rattle.nw_decode.proofs.Items.{seal_kind, same_item, same_items}
use Rattle.nw_decode.proofs.WrittenVotes.{subject_laid_out, certificate_message_is, vote_message_is}

pub same_digest : (d e : Digest) → d.0 ≡ e.0 → d ≡ e
same_digest d e h =
    let make : List ℕ → Digest = λ bytes. record { 0 = bytes } in
    ap make h

pub same_signature : (s t : Signature) → s.0 ≡ t.0 → s ≡ t
same_signature s t e =
    let make : List ℕ → Signature = λ bytes. record { 0 = bytes } in
    ap make e

pub same_as_certificate : (c d : Certificate) → certificate_subject c ≡ certificate_subject d → c.votes ≡ d.votes → c ≡ d
same_as_certificate c d e0 e1 =
    let make : Subject → List Seal → Certificate = λ s vs. record { digest = s.digest; round = s.round; author = s.author; votes = vs } in
    ap (λ (s : Subject). make s c.votes) e0 ∙ ap (λ (vs : List Seal). make (certificate_subject d) vs) e1

pub same_as_vote : (v w : Vote) → vote_subject v ≡ vote_subject w → seal v ≡ seal w → v ≡ w
same_as_vote v w e0 e1 =
    let make : Subject → Seal → Vote = λ q s. record { digest = q.digest; round = q.round; author = q.author; signer = s.signer; signature = s.signature } in
    ap (λ (q : Subject). make q (seal v)) e0 ∙ ap (λ (s : Seal). make (vote_subject w) s) e1

-- ---- pieces

same_parts : (s t : Subject) → s.digest ≡ t.digest → s.round ≡ t.round → s.author ≡ t.author → s ≡ t
same_parts s t e0 e1 e2 = λ i. record { digest = e0 i; round = e1 i; author = e2 i }

pub same_subject : (s t : Subject) (x y : List ℕ) → IsSubject s → IsSubject t → subject_bytes s ++ x ≡ subject_bytes t ++ y → (s ≡ t) × (x ≡ y)
same_subject s t x y left right h =
    let cut = sym (subject_laid_out s.digest.0 (round_bytes s.round) (to_be_bytes w16 s.author) x) ∙ h ∙ subject_laid_out t.digest.0 (round_bytes t.round) (to_be_bytes w16 t.author) y in
    let first = same_start s.digest.0 t.digest.0 _ _ (left.digest_len ∙ sym right.digest_len) cut in
    let second = same_start (round_bytes s.round) (round_bytes t.round) _ _ refl first.1 in
    let third = same_start (to_be_bytes w16 s.author) (to_be_bytes w16 t.author) x y refl second.1 in
    (same_parts s t (same_digest s.digest t.digest first.0) (same48 s.round t.round left.low_round right.low_round second.0) (same16 s.author t.author left.low_author right.low_author third.0), third.1)

-- ---- messages

pub same_certificate : (c d : Certificate) (x y : List ℕ) → IsCertificate c → IsCertificate d → length c.votes < 2 ^ 16 → length d.votes < 2 ^ 16 → message (messages.Certificate c) ++ x ≡ message (messages.Certificate d) ++ y → (c ≡ d) × (x ≡ y)
same_certificate c d x y left right few-c few-d e =
    let cut = sym (certificate_message_is c x) ∙ e ∙ certificate_message_is d y in
    let tag = same_start (2 ∷ []) (2 ∷ []) _ _ refl cut in
    let subject = same_subject (certificate_subject c) (certificate_subject d) _ _ left.subject right.subject tag.1 in
    let count = same_start (to_be_bytes w16 (length c.votes)) (to_be_bytes w16 (length d.votes)) _ _ refl subject.1 in
    let votes = same_items seal_kind c.votes d.votes x y (same16 (length c.votes) (length d.votes) few-c few-d count.0) (recursion_from_All IsSeal c.votes left.votes) (recursion_from_All IsSeal d.votes right.votes) count.1 in
    (same_as_certificate c d subject.0 votes.0, votes.1)

pub same_vote : (v w : Vote) (x y : List ℕ) → IsVote v → IsVote w → message (messages.Vote v) ++ x ≡ message (messages.Vote w) ++ y → (v ≡ w) × (x ≡ y)
same_vote v w x y left right e =
    let cut = sym (vote_message_is v x) ∙ e ∙ vote_message_is w y in
    let tag = same_start (3 ∷ []) (3 ∷ []) _ _ refl cut in
    let subject = same_subject (vote_subject v) (vote_subject w) _ _ left.subject right.subject tag.1 in
    let sealed = same_item seal_kind (seal v) (seal w) x y left.sealed right.sealed subject.1 in
    (same_as_vote v w subject.0 sealed.0, sealed.1)
