use Rattle.std.proofs.Common.{◌≤◌, vec_len}
use Rattle.std.specs.Io.KnownBytes.{Consumes}
use Rattle.nw_play.proofs.input.read_script.Given as goal

-- the script so far is within the limit, and is what the reader has given
abbrev pub invariant-loop : goal.invariant-loop
invariant-loop g l = (vec_len l.script ≤ 1048576) × Consumes (g.R.Read.remaining l.initial.reader) (g.R.Read.remaining l.reader) l.script.items
