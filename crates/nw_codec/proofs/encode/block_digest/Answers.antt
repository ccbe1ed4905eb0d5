use Rattle.nw_codec.proofs.Words.{[]}
use Rattle.nw_codec.proofs.encode.block_digest.Goals as goal

pub returns : goal.returns
returns c = let written = c.in-Ok.ensures in c.finalize.ensures _ (written.text [] [] c.new-hasher.ensures)
