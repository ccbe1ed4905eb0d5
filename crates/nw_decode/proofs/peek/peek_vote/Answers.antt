use Rattle.nw_decode.proofs.Words.{length, ap, arith, length-drop}
use Rattle.nw_decode.proofs.Peeked.{vote_begins}
use Rattle.nw_decode.proofs.peek.peek_vote.Goals as goal

pub number_of-signer-requires : goal.number_of-signer-requires
number_of-signer-requires c = omega (arith, c.if-text.false, ap length c.first.ensures.back, length-drop 40 c.args.text.now)

pub returns : goal.returns
returns c = vote_begins _ _ _ _ c.subject_of.result _ c.first.ensures.front c.first.ensures.back c.subject_of.ensures.typed c.subject_of.ensures.bytes c.number_of-signer.ensures
