use Rattle.nw_prepared.proofs.committee.PreparedCommitteeVerifierEd25519.first_bad_signer.Goals as goal

pub returns : goal.returns
returns c = rw (c.text_of_vote-text.ensures, c.subject.ensures, c.as_slice.ensures) at c.first_bad.ensures
