use Rattle.nw_decode.proofs.Words.{◌∙◌, ◌++◌, [], ap, sym, certificate_subject}
use Rattle.nw_decode.proofs.OneVote.{same_as_certificate, same_subject}
use Rattle.nw_decode.proofs.Parts.{seals_long, seals_built}
use Rattle.nw_decode.proofs.decode.certificate.certificate_of.Goals as goal

pub seals_of-requires : goal.seals_of-requires
seals_of-requires c = seals_long _ _ _ c.requires.1

pub returns : goal.returns
returns c certificate parts =
    let read = c.subject_of-subject.result in
    let subject = same_subject read (certificate_subject certificate) [] [] c.subject_of-subject.ensures.typed parts.typed.subject (ap (λ t. t ++ []) (sym c.subject_of-subject.ensures.bytes ∙ parts.subject_is)) in
    let votes = seals_built certificate _ c.in_ok-votes.votes parts.typed parts.seals_are c.in_ok-votes.ensures.0 c.in_ok-votes.ensures.1 in
    same_as_certificate (record { digest = read.digest; round = read.round; author = read.author; votes = c.in_ok-votes.votes }) certificate subject.0 votes
