-- Why checks fail.
use Rattle.std.specs.Prelude.{ℕ, ◌<◌, ◌≤◌, Bool, false}
use Rattle.nw_intake.specs.declared.point.Point.{Point}
use Rattle.nw_intake.specs.declared.point.Point.TheVariants as point
use Rattle.nw_intake.specs.declared.fault.ShareFault.{ShareFault}
use Rattle.nw_intake.specs.declared.fault.ShareFault.TheVariants as share

-- the number of workers is in its range
abbrev pub IsWorkerCount : ℕ → Type 0
IsWorkerCount workers = (1 ≤ workers) × (workers ≤ 16)

-- the gate may refuse the start of one of the checks at places below the count
abbrev pub MayRefuseStart : (Point → Bool → Type 0) → ℕ → Type 0
MayRefuseStart says count = (place : ℕ) × (place < count) × says (point.CheckStart place) false

-- the check at this place may fail with this fault: `GateShut` only if the gate may refuse its start
abbrev pub IsCheckFault : (Point → Bool → Type 0) → ℕ → ShareFault → Type 0
IsCheckFault says place share.NoMemory = Unit {0}
IsCheckFault says place share.GateShut = says (point.CheckStart place) false

-- a worker may stop with this fault, among this many checks: `GateShut` only if the gate may refuse the start of one of them
abbrev pub IsShareFault : (Point → Bool → Type 0) → ℕ → ShareFault → Type 0
IsShareFault says count share.NoMemory = Unit {0}
IsShareFault says count share.GateShut = MayRefuseStart says count
