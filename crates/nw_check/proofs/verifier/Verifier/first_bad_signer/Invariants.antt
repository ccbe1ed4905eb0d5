use Rattle.nw_check.proofs.Words.{take, All, IsSealOf}
use Rattle.nw_check.proofs.verifier.Verifier.first_bad_signer.Given as goal

-- the votes so far have good signatures
abbrev pub invariant-loop-seal : goal.invariant-loop-seal
invariant-loop-seal g l = All (IsSealOf g.S.Scheme.accepts (g.Self.Verifier.members l.self) l.certificate) (take l.seal-index l.certificate.votes)
