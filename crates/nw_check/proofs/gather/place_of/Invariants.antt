use Rattle.nw_check.proofs.Words.{◌<◌, take, All, signers}
use Rattle.nw_check.proofs.gather.place_of.Given as goal

-- the signers so far are lower than this one
abbrev pub invariant-loop-place : goal.invariant-loop-place
invariant-loop-place l = All (λ n. n < l.signer) (take l.place (signers l.seals))
