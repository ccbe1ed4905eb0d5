use Rattle.nw_model.proofs.Words.{◌≡◌, take}
use Rattle.nw_model.proofs.reply.clone_all.Given as goal

abbrev pub invariant-loop-block : goal.invariant-loop-block
invariant-loop-block l = l.copy.items ≡ take l.block-index l.blocks
