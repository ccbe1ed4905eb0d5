use Rattle.nw_generation.proofs.Words.{refl, ◌∙◌}
use Rattle.nw_generation.proofs.Merging.{joined_all, joined_more}
use Rattle.nw_generation.proofs.Searches.{none_ascend}
use Rattle.nw_generation.proofs.generations.joined_entries.Goals as goal

pub loop-generation-init : goal.loop-generation-init
loop-generation-init c = rw c.new-entries.ensures.items (none_ascend, λ d. refl)

pub loop-generation-preserved : goal.loop-generation-preserved
loop-generation-preserved c = (
  c.in_ok-entries.ensures.0,
  λ d. joined_more c.loop-generation.entries.items c.in_ok-entries.entries.items c.entries.result.now c.loop-generation.left.now c.in-Some.older.now c.in-Some.generation.now d c.in-Some.ensures.cases.0 c.entries.ensures.entries
      (rw c.deref.ensures.value at c.in_ok-entries.ensures.1) ∙ c.loop-generation.invariant.1 d,
)

pub returns-clause-union : goal.returns-clause-union
returns-clause-union c = joined_all c.loop-generation.entries.items c.loop-generation.left.now c.args.generations.now c.in_default.ensures.cases c.loop-generation.invariant.1
