use Rattle.nw_store.proofs.Words.{arith, subst}
use Rattle.nw_store.proofs.Ordered.{NoneBelow, apart_or, none_next, none_at_all}
use Rattle.nw_store.proofs.settlement.first_stray.Goals as goal

pub loop-id-init : goal.loop-id-init
loop-id-init g c = λ id below stray. absurd (omega (arith, below))

pub returns-then-is_stray-clause-stray : goal.returns-then-is_stray-clause-stray
returns-then-is_stray-clause-stray g c = (
  c.is_stray.ensures.0 c.if-is_stray.true,
  λ other stray. apart_or c.loop-id.id other (λ lt. c.loop-id.invariant other lt stray),
)

pub loop-id-preserved : goal.loop-id-preserved
loop-id-preserved g c = none_next c.args.made c.args.sessions.now c.loop-id.id c.loop-id.invariant (λ stray. let yes = c.is_stray.ensures.1 stray in absurd cc)

pub returns-clause-none : goal.returns-clause-none
returns-clause-none g c =
    let all : NoneBelow c.args.made c.args.sessions.now 256 = subst (NoneBelow c.args.made c.args.sessions.now) (omega (arith, c.loop-id.auto, c.loop-id-test.false)) c.loop-id.invariant in
    none_at_all c.args.made 256 c.args.sessions.now c.requires.below all
