-- Digests that stand, and the names of their blocks.
use Rattle.std.specs.Prelude.{◌≡◌}
use Rattle.nw_digest.specs.declared.digest.Digest.{Digest}
use Rattle.nw_codec.specs.declared.block.Block.{Block}
use Rattle.nw_model.specs.declared.wanted.Wanted.{Wanted}
use Rattle.nw_model.specs.State.{State}
use Rattle.nw_model.specs.Paths.{IsStanding}

-- d stands: its block is held, and it is certified
abbrev pub Stands : State → Digest → Type 0
Stands s d = (b : Block) × IsStanding s d b

-- the parent w is met: its digest stands, with a block of w's round and author
abbrev pub IsMet : State → Wanted → Type 0
IsMet s w = (b : Block) × IsStanding s w.digest b × (b.author ≡ w.author) × (b.round ≡ w.round)

-- the name of the block b under d: its round, author and digest
abbrev pub name_of : Digest → Block → Wanted
name_of d b = record { round = b.round; author = b.author; digest = d }
