-- The fields of a certificate within the limits pass their tests, and so do those of a vote.
use Rattle.nw_decode.proofs.Words.{◌≡◌, ℕ, ◌≤◌, List, [], ◌∷◌, ◌++◌, length, Some, None, refl, sym, ap, subst, append_assoc, arith, w16, to_be_bytes, flat_map, recursion_from_All, Certificate, Subject, Vote, round_bytes, subject_bytes, seal_bytes, seal, signers, CertificateFits, certificate_subject, vote_subject, IsSubject, IsSeal, IsCertificate, IsVote, again16}
use Rattle.nw_codec.specs.declared.message.Message.TheVariants as messages
use Rattle.nw_decode.specs.declared.error.DecodeError.TheVariants.{TooManyVotes}
use Rattle.nw_codec.specs.Grammar.{message}
use Rattle.nw_decode.specs.Faults.{Kind, OfCertificate, OfVote, AtTag, AtDigest, AtSubjectRound, AtSubjectAuthor, AtVoteCount, AtSigner, AtEnd, at_seals, stage_after_subject, Reaches}
use Rattle.nw_decode.proofs.Ascending.{ascends}
use Rattle.nw_decode.proofs.Items.{seal_kind, written_item, written_items}
use Rattle.nw_decode.proofs.Fronts.{onward, one_field}
use Rattle.nw_decode.proofs.Passing.{count_passes}

pub subject_laid_out : (d r a x : List ℕ) → ((d ++ r) ++ a) ++ x ≡ d ++ (r ++ (a ++ x))
subject_laid_out d r a x = simp append_assoc

pub written_subject : (kind : Kind) (s : Subject) (x : List ℕ) → IsSubject s → Reaches (AtDigest kind) (subject_bytes s ++ x) (stage_after_subject kind) x
written_subject kind s x typed =
    let from_author : List ℕ = to_be_bytes w16 s.author ++ x in
    let from_round : List ℕ = round_bytes s.round ++ from_author in
    let digest : Reaches (AtDigest kind) (s.digest.0 ++ from_round) (AtSubjectRound kind) from_round = one_field (AtDigest kind) (AtSubjectRound kind) s.digest.0 from_round (ap Some (sym typed.digest_len)) refl in
    let round : Reaches (AtSubjectRound kind) from_round (AtSubjectAuthor kind) from_author = one_field (AtSubjectRound kind) (AtSubjectAuthor kind) (round_bytes s.round) from_author refl refl in
    let author : Reaches (AtSubjectAuthor kind) from_author (stage_after_subject kind) x = one_field (AtSubjectAuthor kind) (stage_after_subject kind) (to_be_bytes w16 s.author) x refl refl in
    let round_on = onward (AtSubjectRound kind) (AtSubjectAuthor kind) (stage_after_subject kind) from_round from_author x round author in
    let all = onward (AtDigest kind) (AtSubjectRound kind) (stage_after_subject kind) (s.digest.0 ++ from_round) from_round x digest round_on in
    subst (λ (t : List ℕ). Reaches (AtDigest kind) t (stage_after_subject kind) x) (sym (subject_laid_out s.digest.0 (round_bytes s.round) (to_be_bytes w16 s.author) x)) all

-- ---- a certificate

certificate_laid_out : (s n vs x : List ℕ) → (((2 ∷ s) ++ n) ++ vs) ++ x ≡ (2 ∷ []) ++ (s ++ (n ++ (vs ++ x)))
certificate_laid_out s n vs x = simp append_assoc

pub certificate_message_is : (c : Certificate) (x : List ℕ)
    → message (messages.Certificate c) ++ x ≡ (2 ∷ []) ++ (subject_bytes (certificate_subject c) ++ (to_be_bytes w16 (length c.votes) ++ (flat_map seal_bytes c.votes ++ x)))
unfolding message
certificate_message_is c x = certificate_laid_out (subject_bytes (certificate_subject c)) (to_be_bytes w16 (length c.votes)) (flat_map seal_bytes c.votes) x

pub written_certificate : (c : Certificate) (x : List ℕ) → IsCertificate c → CertificateFits c → Reaches AtTag (message (messages.Certificate c) ++ x) AtEnd x
written_certificate c x typed fits =
    let n : ℕ = length c.votes in
    let from_votes : List ℕ = flat_map seal_bytes c.votes ++ x in
    let from_count : List ℕ = to_be_bytes w16 n ++ from_votes in
    let from_subject : List ℕ = subject_bytes (certificate_subject c) ++ from_count in
    let from_tag : List ℕ = (2 ∷ []) ++ from_subject in
    let few : n ≤ 100 = fits.few_votes in
    let tag : Reaches AtTag from_tag (AtDigest OfCertificate) from_subject = one_field AtTag (AtDigest OfCertificate) (2 ∷ []) from_subject refl refl in
    let subject : Reaches (AtDigest OfCertificate) from_subject AtVoteCount from_count = written_subject OfCertificate (certificate_subject c) from_count typed.subject in
    let count : Reaches AtVoteCount from_count (at_seals n None) from_votes = one_field AtVoteCount (at_seals n None) (to_be_bytes w16 n) from_votes refl (count_passes _ n 100 TooManyVotes (λ k. at_seals k None) (again16 n (omega (arith, few))) few) in
    let votes : Reaches (at_seals n None) from_votes AtEnd x = written_items seal_kind c.votes None x (recursion_from_All IsSeal c.votes typed.votes) (ascends (signers c.votes) fits.votes_in_order) in
    let count_on = onward AtVoteCount (at_seals n None) AtEnd from_count from_votes x count votes in
    let subject_on = onward (AtDigest OfCertificate) AtVoteCount AtEnd from_subject from_count x subject count_on in
    let all = onward AtTag (AtDigest OfCertificate) AtEnd from_tag from_subject x tag subject_on in
    subst (λ (t : List ℕ). Reaches AtTag t AtEnd x) (sym (certificate_message_is c x)) all

-- ---- a vote

vote_laid_out : (s v x : List ℕ) → ((3 ∷ s) ++ v) ++ x ≡ (3 ∷ []) ++ (s ++ (v ++ x))
vote_laid_out s v x = simp append_assoc

pub vote_message_is : (v : Vote) (x : List ℕ) → message (messages.Vote v) ++ x ≡ (3 ∷ []) ++ (subject_bytes (vote_subject v) ++ (seal_bytes (seal v) ++ x))
unfolding message
vote_message_is v x = vote_laid_out (subject_bytes (vote_subject v)) (seal_bytes (seal v)) x

pub written_vote : (v : Vote) (x : List ℕ) → IsVote v → Reaches AtTag (message (messages.Vote v) ++ x) AtEnd x
written_vote v x typed =
    let from_seal : List ℕ = seal_bytes (seal v) ++ x in
    let from_subject : List ℕ = subject_bytes (vote_subject v) ++ from_seal in
    let from_tag : List ℕ = (3 ∷ []) ++ from_subject in
    let tag : Reaches AtTag from_tag (AtDigest OfVote) from_subject = one_field AtTag (AtDigest OfVote) (3 ∷ []) from_subject refl refl in
    let subject : Reaches (AtDigest OfVote) from_subject (AtSigner 0 None) from_seal = written_subject OfVote (vote_subject v) from_seal typed.subject in
    let sealed : Reaches (AtSigner 0 None) from_seal AtEnd x = written_item seal_kind (seal v) 0 None x typed.sealed tt in
    let subject_on = onward (AtDigest OfVote) (AtSigner 0 None) AtEnd from_subject from_seal x subject sealed in
    let all = onward AtTag (AtDigest OfVote) AtEnd from_tag from_subject x tag subject_on in
    subst (λ (t : List ℕ). Reaches AtTag t AtEnd x) (sym (vote_message_is v x)) all
