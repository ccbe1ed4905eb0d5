use Rattle.nw_decode.proofs.Words.{None, refl}
use Rattle.nw_decode.specs.declared.error.DecodeError.TheVariants.{VoteOrder}
use Rattle.nw_decode.specs.Faults.{OfVote, AtDigest, AtSigner, AtSealSignature}
use Rattle.nw_decode.proofs.Fronts.{later}
use Rattle.nw_decode.proofs.Fields.{exit, short_as, member_leads}
use Rattle.nw_decode.proofs.Items.{are_seals}
use Rattle.nw_decode.proofs.Parts.{short_subject, subject_leads, seal_ends, vote_lies}
use Rattle.nw_decode.proofs.decode.certificate.decode_vote.Goals as goal

pub returns-in_err-subject : goal.returns-in_err-subject
returns-in_err-subject c = exit _ _ _ _ c.from_residual.ensures.1 (short_subject OfVote _ _ c.in_err-subject.ensures.0 c.in_err-subject.ensures.1)

pub returns-in_err-signer : goal.returns-in_err-signer
returns-in_err-signer c =
    let subject = subject_leads OfVote _ _ c.in_ok-subject.ensures.0 c.in_ok-subject.ensures.2 in
    exit _ _ _ _ c.from_residual-in_err-signer.ensures.1 (later (AtDigest OfVote) (AtSigner 0 None) _ _ _ subject (short_as (AtSigner 0 None) 2 _ _ refl c.in_err-signer.ensures.0 c.in_err-signer.ensures.1))

pub returns-in_err-signature : goal.returns-in_err-signature
returns-in_err-signature c =
    let next = AtSealSignature 0 c.in_ok-signer.signer in
    let subject = subject_leads OfVote _ _ c.in_ok-subject.ensures.0 c.in_ok-subject.ensures.2 in
    let signer = member_leads (AtSigner 0 None) None VoteOrder (AtSealSignature 0) _ _ _ (are_seals.members 0 None) c.in_ok-signer.ensures refl in
    exit _ _ _ _ c.from_residual-in_err-signature.ensures.1 (later (AtDigest OfVote) (AtSigner 0 None) _ _ _ subject (later (AtSigner 0 None) next _ _ _ signer (c.in_err-signature.ensures next (seal_ends c.in_ok-signer.signer))))

pub returns : goal.returns
returns c =
    let subject = c.subject_of-subject.result in
    let signer = c.in_ok-signer.signer in
    let last = c.in_ok-signature.ensures (AtSealSignature 0 signer) (seal_ends signer) in
    vote_lies _ _ _ _ (record { digest = subject.digest; round = subject.round; author = subject.author; signer = signer; signature = c.in_ok-signature.signature }) c.in_ok-subject.ensures.1 c.in_ok-subject.ensures.2 c.subject_of-subject.ensures.typed c.subject_of-subject.ensures.bytes c.in_ok-signer.ensures last
