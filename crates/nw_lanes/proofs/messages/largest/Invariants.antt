use Rattle.std.proofs.Common.{ℕ, ◌<◌, ◌≤◌, slice_index}
use Rattle.nw_lanes.proofs.messages.largest.Given as goal

abbrev pub invariant-counts : goal.invariant-counts
invariant-counts l = (j : ℕ) → j < l.i → slice_index l.counts j ≤ l.most
