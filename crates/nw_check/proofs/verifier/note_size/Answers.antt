use Rattle.std.proofs.Common.{rules}
use Rattle.nw_check.proofs.verifier.note_size.Goals as goal

pub returns : goal.returns
returns c = record { len = search rules; bytes = c.note_bytes.ensures }
