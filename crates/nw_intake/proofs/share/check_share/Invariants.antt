use Rattle.nw_intake.specs.Answers.{AnswersText}
use Rattle.nw_intake.proofs.Turns.{IsAnsweredSoFar}
use Rattle.nw_intake.proofs.share.check_share.Given as goal

abbrev pub invariant-loop-place : goal.invariant-loop-place
invariant-loop-place g l = IsAnsweredSoFar (AnswersText g.S.Scheme.accepts l.committee) l.worker l.workers l.texts l.place l.answers.items
