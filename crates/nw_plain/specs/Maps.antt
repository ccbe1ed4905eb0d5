-- The state of a store that is made of whole maps.
use Rattle.std.specs.FinMap.{from_entries}
use Rattle.nw_plain.specs.declared.plain.maps.Maps.{Maps}
use Rattle.nw_model.specs.State.{State}

-- the state with these maps and this garbage round
abbrev pub state_of : Maps → State
state_of m = record { blocks = from_entries m.blocks.entries; certificates = from_entries m.certificates.entries; firsts = from_entries m.firsts.entries; floor = m.floor }
