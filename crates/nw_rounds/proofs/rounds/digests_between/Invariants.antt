use Rattle.nw_rounds.proofs.Words.{◌≡◌, map}
use Rattle.nw_rounds.proofs.rounds.digests_between.Given as goal

-- the list has the digests read so far
abbrev pub invariant-loop-place : goal.invariant-loop-place
invariant-loop-place g l = l.found.items ≡ map (λ e. e.1.now) l.yielded
