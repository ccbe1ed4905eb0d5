use Rattle.std.proofs.Common.{◌+◌, ◌*◌, slice_index}
use Rattle.sha2.specs.Sha256.{padded_message}
use Rattle.nw_lanes.proofs.Filled.{IsFilled}
use Rattle.nw_lanes.proofs.padding.padded_block.Given as goal

abbrev pub invariant-bytes : goal.invariant-bytes
invariant-bytes l = IsFilled l.block l.j 64 (λ j. slice_index (padded_message l.message) (l.k * 64 + j))
