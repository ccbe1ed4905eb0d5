use Rattle.std.proofs.Common.{refl}
use Rattle.nw_lanes.proofs.compress.next_word.Goals as goal

pub returns : goal.returns
returns c = rw (c.small_sigma1.ensures, c.small_sigma0.ensures) (rw (c.requires.two, c.requires.seven, c.requires.fifteen, c.requires.sixteen) refl)
