use Rattle.nw_plain.proofs.Words.{subst, Wants}
use Rattle.nw_plain.specs.Added.{IsUnionWith}
use Rattle.nw_plain.proofs.Wanting.{SoFar, one_done, all_done}
use Rattle.nw_plain.proofs.plain.Plain.wanted.Goals as goal

pub loop-digest-preserved : goal.loop-digest-preserved
loop-digest-preserved c =
    one_done c.args.self.now.state c.next.new.self c.in-Some._digest.now c.in-Some.block.now c.loop-digest.wanted.keys c.add_wanted.new.wanted.keys
    (subst (λ left. SoFar c.args.self.now.state left c.loop-digest.wanted.keys) c.in-Some.ensures.steps c.loop-digest.invariant)
    (subst (λ b. IsUnionWith (Wants c.args.self.now.state b) c.loop-digest.wanted.keys c.add_wanted.new.wanted.keys) c.get.ensures c.in_ok-add_wanted.ensures.added)
    c.add_wanted.ensures.ordered

pub returns : goal.returns
returns c = all_done c.args.self.now.state c.loop-digest.wanted.keys (subst (λ left. SoFar c.args.self.now.state left c.loop-digest.wanted.keys) c.in-None.ensures.steps.0 c.loop-digest.invariant)
