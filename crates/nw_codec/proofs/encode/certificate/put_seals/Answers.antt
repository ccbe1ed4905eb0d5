use Rattle.nw_codec.proofs.Words.{rules, arith, subst, All, common_steps, take_all, All-more}
use Rattle.nw_codec.specs.Typed.{IsSeal}
use Rattle.nw_codec.proofs.encode.certificate.put_seals.Goals as goal

pub loop-seal-preserved : goal.loop-seal-preserved
loop-seal-preserved g c = record {
  text = grind (arith, common_steps);
  room = search rules;
  place = search rules;
  typed = All-more IsSeal c.args.seals.now c.loop-seal.seal-index _ c.loop-seal-test.true c.loop-seal.invariant.typed
      (record { signer = search rules; signature = record { len = search rules; bytes = c.put-in-loop-seal.ensures.bytes } });
}

pub returns-clause-typed : goal.returns-clause-typed
returns-clause-typed g c = subst (All IsSeal) (take_all c.loop-seal.seal-index c.args.seals.now c.loop-seal-test.false) c.loop-seal.invariant.typed
