use Rattle.std.proofs.Common.{List}
use Rattle.std.specs.FinMap.{from_entries}
use Rattle.nw_digest.specs.declared.digest.Digest.{Digest}
use Rattle.nw_codec.specs.declared.block.Block.{Block}
use Rattle.nw_digest.proofs.Maps.{digests_total, digests_apart, put_entries}
use Rattle.samples.specs.Sample.{name_of}
use Rattle.samples.proofs.Bases.{bases_none, bases_more}
use Rattle.samples.proofs.tries.older.Goals as goal

pub loop-author-init : goal.loop-author-init
loop-author-init c = rw (c.new_in-trie.ensures) bases_none

pub loop-author-preserved : goal.loop-author-preserved
loop-author-preserved c =
    let old : List (Digest × Block) = c.loop-author.trie in
    let new : List (Digest × Block) = c.put.new.self in
    let base : Block = c.in_ok-base.base in
    let is = put_entries digests_total digests_apart old new (name_of (0, c.loop-author.author)) base (rw (c.name.ensures) at c.in_ok-put.ensures.put) in
    rw (is) (bases_more c.loop-author.author (from_entries old) base c.loop-author.invariant c.in_ok-base.ensures.0 c.in_ok-base.ensures.1)
