use Rattle.std.proofs.Common.{◌≡◌, take}
use Rattle.nw_shared_list.proofs.chunks.with_last.Given as goal

abbrev pub invariant-loop-chunk : goal.invariant-loop-chunk
invariant-loop-chunk g l = l.all.items ≡ take l.chunk-index l.chunks
