use Rattle.nw_decode.proofs.Peeked.{certificate_begins}
use Rattle.nw_decode.proofs.peek.peek_certificate.Goals as goal

pub returns : goal.returns
returns c = certificate_begins _ _ _ _ c.first.ensures.front c.first.ensures.back c.subject_of.ensures.typed c.subject_of.ensures.bytes
