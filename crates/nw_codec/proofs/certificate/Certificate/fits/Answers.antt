use Rattle.nw_codec.proofs.Words.{arith, ap, length}
use Rattle.nw_codec.proofs.certificate.Certificate.fits.Goals as goal

pub returns-then-votes-le-MAX_VOTES : goal.returns-then-votes-le-MAX_VOTES
returns-then-votes-le-MAX_VOTES c =
    let votes = c.as_slice-votes.ensures in
    let answer = rw votes at c.is_ascending.ensures in (
      λ yes. record { few_votes = omega (arith, ap length votes, c.if-votes-le-MAX_VOTES.true); votes_in_order = answer.0 yes },
      λ fits. answer.1 fits.votes_in_order,
    )
