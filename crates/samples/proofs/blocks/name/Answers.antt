use Rattle.std.proofs.Common.{refl}
use Rattle.samples.specs.Sample.{name_of}
use Rattle.samples.proofs.blocks.name.Goals as goal

pub returns : goal.returns
unfolding name_of
returns c = refl
