use Rattle.std.proofs.Common.{◌≡◌, map, take}
use Rattle.nw_c.specs.Look.{author_look_in}
use Rattle.nw_c.proofs.sessions.look.copy_all.Given as goal

-- the looks so far are copied
abbrev pub invariant-loop-index : goal.invariant-loop-index
invariant-loop-index l = map author_look_in (take l.index l.looks) ≡ take l.index l.found
