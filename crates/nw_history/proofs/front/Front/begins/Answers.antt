use Rattle.std.proofs.Common.{List, length, refl, subst, arith}
use Rattle.nw_model.specs.History.{AreReplies}
use Rattle.nw_model.specs.declared.event.Event.{Event}
use Rattle.nw_history.specs.Story.{bounds_of}
use Rattle.nw_history.proofs.Prefixes.{AlikeBelow, begun, alike, alike_next, no_longer}
use Rattle.nw_history.proofs.front.Front.begins.Goals as goal

pub returns-then-len : goal.returns-then-len
returns-then-len g c = (
  λ yes. absurd cc,
  λ p. let fits = no_longer c.args.self.now.events c.args.other.now.events p in absurd (omega (arith, fits, c.len.ensures.length, c.len-2.ensures.length, c.if-len.true)),
)

pub loop-index-init : goal.loop-index-init
loop-index-init g c = λ k below. absurd (omega arith)

pub returns-then-not-is_alike : goal.returns-then-not-is_alike
returns-then-not-is_alike g c = (
  λ yes. absurd cc,
  λ p.
      let below = c.loop-index-test.true in
      let here = alike c.args.self.now.events c.args.other.now.events c.loop-index.index p (omega (arith, below, c.len-index-end.ensures.length)) in
      let yes = c.is_alike.ensures.1 here in
      absurd cc,
)

pub loop-index-preserved : goal.loop-index-preserved
loop-index-preserved g c = alike_next c.args.self.now.events c.args.other.now.events c.loop-index.index c.loop-index.invariant (c.is_alike.ensures.0 c.if-not-is_alike.false)

pub returns : goal.returns
returns g c =
    let es : List Event = c.args.self.now.events in
    let fs : List Event = c.args.other.now.events in
    let was : AreReplies (bounds_of c.args.self.now.limits) c.args.self.now.base fs = rw (c.requires.limits, c.requires.base) c.len-2.ensures.legal.replies in
    let all : AlikeBelow es fs (length es) = subst (AlikeBelow es fs) (omega (arith, c.loop-index.auto.index-end, c.loop-index-test.false, c.len-index-end.ensures.length)) c.loop-index.invariant in
    (λ yes. begun (bounds_of c.args.self.now.limits) c.args.self.now.base es fs c.len.ensures.legal.replies was all, λ p. refl)
