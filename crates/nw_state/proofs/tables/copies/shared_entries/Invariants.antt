use Rattle.nw_state.proofs.Words.{◌≡◌, Some, take, lookup, is_at, from_entries, digest_cmp}
use Rattle.nw_state.proofs.Gathered.{Gathers}
use Rattle.nw_state.proofs.tables.copies.shared_entries.Given as goal

-- the map has the entries of the digests read so far
abbrev pub invariant-loop-digest : goal.invariant-loop-digest
invariant-loop-digest g l = Gathers {R = digest_cmp} (λ d v. d) (λ d v. lookup (is_at (digest_cmp d)) l.entries ≡ Some v) (take l.digest-index l.digests) (from_entries l.shared.entries)
