use Rattle.nw_state.proofs.Words.{take, from_entries}
use Rattle.nw_state.proofs.Copied.{GathersSlots, IsCertifiedAt}
use Rattle.nw_state.proofs.tables.StateTables.copy_certified.Given as goal

-- the map has the certified digests among those read so far
abbrev pub invariant-loop-digest : goal.invariant-loop-digest
invariant-loop-digest l = GathersSlots l.self.state (IsCertifiedAt l.self.state) (take l.digest-index l.digests) (from_entries l.certified.entries)
