use Rattle.nw_decode.proofs.Words.{None, are_bytes}
use Rattle.nw_decode.specs.Faults.{OfCertificate, AtDigest, AtVoteCount, AtSealSignature, AtEnd, at_seals}
use Rattle.nw_decode.proofs.Fronts.{onward, later}
use Rattle.nw_decode.proofs.Fields.{exit}
use Rattle.nw_decode.proofs.Items.{are_seals}
use Rattle.nw_decode.proofs.Parts.{short_subject, subject_leads, counts_votes, certificate_lies}
use Rattle.nw_decode.proofs.WholeVotes.{read_certificate}
use Rattle.nw_decode.proofs.decode.certificate.read_certificate.Goals as goal

pub returns-in_err-subject : goal.returns-in_err-subject
returns-in_err-subject c = exit _ _ _ _ c.from_residual.ensures.1 (short_subject OfCertificate _ _ c.in_err-subject.ensures.0 c.in_err-subject.ensures.1)

pub returns-in_err-count : goal.returns-in_err-count
returns-in_err-count c =
    let subject = subject_leads OfCertificate _ _ c.in_ok-subject.ensures.0 c.in_ok-subject.ensures.2 in
    let fault = c.in_err-count.ensures AtVoteCount _ counts_votes in
    exit _ _ _ _ c.from_residual-in_err-count.ensures.1 (later (AtDigest OfCertificate) AtVoteCount _ _ _ subject fault)

pub returns-in_err-seals : goal.returns-in_err-seals
returns-in_err-seals c =
    let subject = subject_leads OfCertificate _ _ c.in_ok-subject.ensures.0 c.in_ok-subject.ensures.2 in
    let count = c.in_ok-count.ensures AtVoteCount _ counts_votes in
    let fault = c.in_err-seals.ensures.leads at_seals AtSealSignature are_seals in
    exit _ _ _ _ c.from_residual-in_err-seals.ensures.1 (later (AtDigest OfCertificate) AtVoteCount _ _ _ subject (later AtVoteCount (at_seals c.in_ok-count.count None) _ _ _ count.2 fault))

pub returns-in_err-at_end : goal.returns-in_err-at_end
returns-in_err-at_end c =
    let subject = subject_leads OfCertificate _ _ c.in_ok-subject.ensures.0 c.in_ok-subject.ensures.2 in
    let count = c.in_ok-count.ensures AtVoteCount _ counts_votes in
    let seals = c.in_ok-seals.ensures.leads at_seals AtSealSignature are_seals in
    exit _ _ _ _ c.from_residual-in_err-at_end.ensures.1 (later (AtDigest OfCertificate) AtVoteCount _ _ _ subject (later AtVoteCount (at_seals c.in_ok-count.count None) _ _ _ count.2 (later (at_seals c.in_ok-count.count None) AtEnd _ _ _ seals c.in_err-at_end.ensures)))

pub returns : goal.returns
returns c =
    let each = are_bytes _ c.type_inv.text in
    let subject = subject_leads OfCertificate _ _ c.in_ok-subject.ensures.0 c.in_ok-subject.ensures.2 in
    let count = c.in_ok-count.ensures AtVoteCount _ counts_votes in
    let seals = c.in_ok-seals.ensures.leads at_seals AtSealSignature are_seals in
    let whole = onward (AtDigest OfCertificate) AtVoteCount AtEnd _ _ _ subject (onward AtVoteCount (at_seals c.in_ok-count.count None) AtEnd _ _ _ count.2 seals) in
    certificate_lies _ _ _ _ _ _ _ c.in_ok-subject.ensures.0 c.in_ok-subject.ensures.1 c.in_ok-subject.ensures.2 count.1 c.in_ok-seals.ensures.items (read_certificate _ _ each whole) c.in_ok-at_end.ensures
