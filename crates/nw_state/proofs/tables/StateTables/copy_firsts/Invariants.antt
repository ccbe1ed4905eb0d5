use Rattle.nw_state.proofs.Words.{take, from_entries}
use Rattle.nw_state.proofs.Copied.{GathersSlots, IsFirstAt}
use Rattle.nw_state.proofs.tables.StateTables.copy_firsts.Given as goal

-- the map has the first digests among those read so far
abbrev pub invariant-loop-digest : goal.invariant-loop-digest
invariant-loop-digest l = GathersSlots l.self.state (IsFirstAt l.self.state) (take l.digest-index l.digests) (from_entries l.firsts.entries)
