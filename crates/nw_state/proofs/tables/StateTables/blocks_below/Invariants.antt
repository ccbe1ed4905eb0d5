use Rattle.nw_state.proofs.Words.{◌≡◌, filter, length, map, deref_pair}
use Rattle.nw_state.specs.Collection.{counts_at}
use Rattle.nw_state.proofs.tables.StateTables.blocks_below.Given as goal

-- the digests counted so far
abbrev pub invariant-loop-place : goal.invariant-loop-place
invariant-loop-place l = l.count ≡ length (filter (λ e. counts_at l.self.state e.0.1 e.1) (map deref_pair l.yielded))
