use Rattle.std.proofs.Common.{List, []}
use Rattle.nw_digest.specs.declared.digest.Digest.{Digest}
use Rattle.nw_codec.specs.declared.block.Block.{Block}
use Rattle.nw_digest.proofs.Maps.{digests_total, digests_apart, put_entries}
use Rattle.samples.specs.Sample.{name_of}
use Rattle.samples.proofs.Bases.{next_one}
use Rattle.samples.proofs.tries.newer.Goals as goal

pub returns : goal.returns
returns c =
    let new : List (Digest × Block) = c.put.new.self in
    let b : Block = c.in_ok-next.next in
    let is = put_entries digests_total digests_apart [] new (name_of (1, 0)) b (rw (c.name.ensures, c.new_in-trie.ensures) at c.in_ok-put.ensures.put) in
    rw (is) (next_one 3 b (rw (c.round.ensures) at c.in_ok-next.ensures.0) c.in_ok-next.ensures.1 (rw (← c.in_ok-next.ensures.2) at c.in_ok-references.ensures))
