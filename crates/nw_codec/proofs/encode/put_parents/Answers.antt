use Rattle.nw_codec.proofs.Words.{rules, arith, subst, All, common_steps, take_all, All-more}
use Rattle.nw_codec.specs.Typed.{IsRef}
use Rattle.nw_codec.proofs.encode.put_parents.Goals as goal

pub loop-parent-preserved : goal.loop-parent-preserved
loop-parent-preserved g c = record {
  text = grind (arith, common_steps);
  room = search rules;
  place = search rules;
  typed = All-more IsRef c.args.parents.now c.loop-parent.parent-index _ c.loop-parent-test.true c.loop-parent.invariant.typed
      (record { author = search rules; digest = search rules; digest_bytes = c.put-in-loop-parent.ensures.bytes });
}

pub returns-clause-typed : goal.returns-clause-typed
returns-clause-typed g c = subst (All IsRef) (take_all c.loop-parent.parent-index c.args.parents.now c.loop-parent-test.false) c.loop-parent.invariant.typed
