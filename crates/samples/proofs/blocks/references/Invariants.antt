use Rattle.samples.specs.Sample.{NameBases}
use Rattle.samples.proofs.blocks.references.Given as goal

abbrev pub invariant-loop-author : goal.invariant-loop-author
invariant-loop-author l = NameBases 3 l.refs.items
