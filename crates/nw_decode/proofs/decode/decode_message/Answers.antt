use Rattle.nw_decode.proofs.Answered.{says_found, says_fault, says_memory, says_spelled}
use Rattle.nw_decode.proofs.decode.decode_message.Goals as goal

pub returns-clause-found : goal.returns-clause-found
returns-clause-found c = says_found _ c.decode_by_tag.result c.decode_by_tag.ensures

pub returns-clause-fault : goal.returns-clause-fault
returns-clause-fault c = says_fault _ c.decode_by_tag.result c.decode_by_tag.ensures

pub returns-clause-memory : goal.returns-clause-memory
returns-clause-memory c = says_memory _ c.decode_by_tag.result c.decode_by_tag.ensures

pub returns-clause-succeeds : goal.returns-clause-succeeds
returns-clause-succeeds c = says_spelled _ c.decode_by_tag.result c.decode_by_tag.ensures
