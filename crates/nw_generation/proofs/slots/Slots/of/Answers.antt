use Rattle.nw_generation.proofs.Words.{◌≡◌, Some}
use Rattle.std.proofs.lemmas.List.Sorted.{All-permutation}
use Rattle.nw_generation.specs.declared.slots.SlottedBlock.{SlottedBlock}
use Rattle.nw_generation.specs.Entries.{under}
use Rattle.nw_generation.proofs.slots.Slots.of.Goals as goal

pub returns : goal.returns
returns c = All-permutation (λ (s : SlottedBlock). under c.args.entries.now s.digest ≡ Some s.block) c.in_ok-slots.slots.items c.sort_by.new.self.items c.sort_by.ensures.permutation c.in_ok-slots.ensures
