use Rattle.nw_decode.proofs.Peeked.{says_known}
use Rattle.nw_decode.proofs.peek.peek_message.Goals as goal

pub returns-clause-known : goal.returns-clause-known
returns-clause-known c = says_known _ c.peek_by_tag.result c.peek_by_tag.ensures
