-- If all fields of a text pass their tests, from a digest to the end, the text is that of a vote, or of a certificate within the limits.
use Rattle.nw_decode.proofs.Words.{◌≡◌, ℕ, ltb, List, [], ◌∷◌, ◌++◌, length, None, refl, sym, ap, ◌∙◌, w16, to_be_bytes, flat_map, ltb-false, All-from_recursion, Certificate, Subject, Vote, round_bytes, subject_bytes, seal_bytes, signers, CertificateFits, AreBytes, IsSeal, IsSubject, IsCertificate, IsVote, back16, below16, round_of, back48, below48, bytes_of}
use Rattle.nw_codec.specs.declared.message.Message.TheVariants as messages
use Rattle.nw_decode.specs.declared.error.DecodeError.TheVariants.{TooManyVotes}
use Rattle.nw_codec.specs.Grammar.{message}
use Rattle.nw_decode.specs.Faults.{Kind, OfCertificate, OfVote, AtDigest, AtSubjectRound, AtSubjectAuthor, AtVoteCount, AtEnd, at_seals, stage_after_subject, number16, Reaches}
use Rattle.nw_decode.proofs.Ascending.{increasing}
use Rattle.nw_decode.proofs.Fronts.{going_is, here, one_end}
use Rattle.nw_decode.proofs.WrittenVotes.{certificate_message_is, vote_message_is}
use Rattle.nw_decode.proofs.Items.{seal_kind, read_item, read_items}
use Rattle.nw_decode.proofs.Steps.{step, to, own_front, choice, two_pieces, with_rest, at_most}

-- ---- the subject

record SubjectRead (kind : Kind) (text rest : List ℕ) : Type 0 where
  subject : Subject
  more : List ℕ
  typed : IsSubject subject
  cut : text ≡ subject_bytes subject ++ more
  bytes : AreBytes more
  onwards : Reaches (stage_after_subject kind) more AtEnd rest

read_subject : (kind : Kind) (text rest : List ℕ) → AreBytes text → Reaches (AtDigest kind) text AtEnd rest → SubjectRead kind text rest
read_subject kind text rest bytes front =
    let at_digest = step (AtDigest kind) 32 text rest refl front in
    let digest-bytes = bytes_of at_digest.field at_digest.more text at_digest.cut bytes in
    let at_round = step (AtSubjectRound kind) 6 at_digest.more rest refl (to at_digest.next (AtSubjectRound kind) at_digest.more rest (sym (going_is (AtSubjectRound kind) at_digest.next at_digest.passes)) at_digest.onwards) in
    let round-bytes = bytes_of at_round.field at_round.more at_digest.more at_round.cut digest-bytes.1 in
    let at_author = step (AtSubjectAuthor kind) 2 at_round.more rest refl (to at_round.next (AtSubjectAuthor kind) at_round.more rest (sym (going_is (AtSubjectAuthor kind) at_round.next at_round.passes)) at_round.onwards) in
    let author-bytes = bytes_of at_author.field at_author.more at_round.more at_author.cut round-bytes.1 in
    let round : ℕ = round_of at_round.field in
    let author : ℕ = number16 at_author.field in
    let round-cut : at_digest.more ≡ round_bytes round ++ at_round.more = own_front at_digest.more at_round.field at_round.more (round_bytes round) at_round.cut (back48 at_round.field at_round.len round-bytes.0) in
    let author-cut : at_round.more ≡ to_be_bytes w16 author ++ at_author.more = own_front at_round.more at_author.field at_author.more (to_be_bytes w16 author) at_author.cut (back16 at_author.field at_author.len author-bytes.0) in
    record {
      subject = record { digest = record { 0 = at_digest.field }; round = round; author = author };
      more = at_author.more;
      typed = record { digest_len = at_digest.len; digest_bytes = digest-bytes.0; low_round = below48 at_round.field round-bytes.0; low_author = below16 at_author.field author-bytes.0 };
      cut = two_pieces text at_digest.field at_digest.more (round_bytes round) at_round.more (to_be_bytes w16 author) at_author.more at_digest.cut round-cut author-cut;
      bytes = author-bytes.1;
      onwards = to at_author.next (stage_after_subject kind) at_author.more rest (sym {b = at_author.next} (going_is (stage_after_subject kind) at_author.next at_author.passes)) at_author.onwards;
    }

ended : (text rest : List ℕ) → Reaches AtEnd text AtEnd rest → text ≡ rest
ended text rest front = one_end AtEnd text text rest (here AtEnd text) front

-- ---- a certificate

pub record CertificateRead (text rest : List ℕ) : Type 0 where
  pub found : Certificate
  pub typed : IsCertificate found
  pub fits : CertificateFits found
  pub cut : (2 ∷ []) ++ text ≡ message (messages.Certificate found) ++ rest

pub read_certificate : (text rest : List ℕ) → AreBytes text → Reaches (AtDigest OfCertificate) text AtEnd rest → CertificateRead text rest
read_certificate text rest bytes front =
    let subject = read_subject OfCertificate text rest bytes front in
    let number = step AtVoteCount 2 subject.more rest refl subject.onwards in
    let many : ℕ = number16 number.field in
    let test = choice (ltb 100 many) TooManyVotes (at_seals many None) number.next number.passes in
    let number-bytes = bytes_of number.field number.more subject.more number.cut subject.bytes in
    let listed = read_items seal_kind many None number.more rest number-bytes.1 (to number.next (at_seals many None) number.more rest (sym test.1) number.onwards) in
    let count : ℕ = length listed.items in
    let count-bytes : to_be_bytes w16 count ≡ number.field = ap (to_be_bytes w16) listed.count ∙ back16 number.field number.len number-bytes.0 in
    let tail : List ℕ = flat_map seal_bytes listed.items ++ rest in
    let seals : number.more ≡ flat_map seal_bytes listed.items ++ rest = with_rest number.more (flat_map seal_bytes listed.items) listed.more rest listed.cut (ended listed.more rest listed.onwards) in
    let counted : subject.more ≡ to_be_bytes w16 count ++ tail = with_rest subject.more (to_be_bytes w16 count) number.more tail (own_front subject.more number.field number.more (to_be_bytes w16 count) number.cut count-bytes) seals in
    let whole : text ≡ subject_bytes subject.subject ++ (to_be_bytes w16 count ++ tail) = with_rest text (subject_bytes subject.subject) subject.more (to_be_bytes w16 count ++ tail) subject.cut counted in
    let c : Certificate = record { digest = subject.subject.digest; round = subject.subject.round; author = subject.subject.author; votes = listed.items } in
    record {
      found = c;
      typed = record { subject = subject.typed; votes = All-from_recursion IsSeal listed.items listed.typed };
      fits = record { few_votes = at_most many count 100 listed.count (ltb-false _ _ test.0); votes_in_order = increasing None (signers listed.items) listed.order };
      cut = ap (λ (t : List ℕ). (2 ∷ []) ++ t) whole ∙ sym (certificate_message_is c rest);
    }

-- ---- a vote

pub record VoteRead (text rest : List ℕ) : Type 0 where
  pub found : Vote
  pub typed : IsVote found
  pub cut : (3 ∷ []) ++ text ≡ message (messages.Vote found) ++ rest

pub read_vote : (text rest : List ℕ) → AreBytes text → Reaches (AtDigest OfVote) text AtEnd rest → VoteRead text rest
read_vote text rest bytes front =
    let subject = read_subject OfVote text rest bytes front in
    let one = read_item seal_kind 0 None subject.more rest subject.bytes subject.onwards in
    let sealed : subject.more ≡ seal_bytes one.found ++ rest = with_rest subject.more (seal_bytes one.found) one.after rest one.cut (ended one.after rest one.onwards) in
    let whole : text ≡ subject_bytes subject.subject ++ (seal_bytes one.found ++ rest) = with_rest text (subject_bytes subject.subject) subject.more (seal_bytes one.found ++ rest) subject.cut sealed in
    let v : Vote = record { digest = subject.subject.digest; round = subject.subject.round; author = subject.subject.author; signer = one.found.signer; signature = one.found.signature } in
    record {
      found = v;
      typed = record { subject = subject.typed; sealed = one.typed };
      cut = ap (λ (t : List ℕ). (3 ∷ []) ++ t) whole ∙ sym (vote_message_is v rest);
    }
