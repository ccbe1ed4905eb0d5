use Rattle.nw_rounds.proofs.Sorted.{same_digests, ascends}
use Rattle.nw_dag.proofs.completions.Completions.sort.Goals as goal

pub returns-clause-same : goal.returns-clause-same
returns-clause-same c d = same_digests c.args.self.now.fresh.items c.sort_unstable.new.self.items c.dedup.new.self.items c.sort_unstable.ensures.permutation c.dedup.ensures.filtered d

pub returns-clause-ascending : goal.returns-clause-ascending
returns-clause-ascending c = ascends c.sort_unstable.new.self.items c.dedup.new.self.items c.sort_unstable.ensures.sorted c.dedup.ensures.filtered
