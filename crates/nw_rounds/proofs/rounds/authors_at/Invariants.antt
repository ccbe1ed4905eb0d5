use Rattle.nw_rounds.proofs.Words.{◌≡◌, map, dedup, eqb}
use Rattle.nw_rounds.proofs.rounds.authors_at.Given as goal

-- the list has the authors read so far, each run of one author once
abbrev pub invariant-loop-place : goal.invariant-loop-place
invariant-loop-place g l = l.found.items ≡ dedup eqb (map (λ e. e.0.now.0.1) l.yielded)
