use Rattle.nw_causal.proofs.Levels.{under_digests, walk_of}
use Rattle.nw_causal.proofs.walks.walk_lent.Goals as goal

pub returns-clause-walk : goal.returns-clause-walk
returns-clause-walk c = rw c.reverse.ensures.items (walk_of c.args.view.now.frozen c.args.digest.now c.in_ok-found.found.items c.in_ok-found.ensures.found)

pub returns-clause-digests : goal.returns-clause-digests
returns-clause-digests c = rw c.reverse.ensures.items (under_digests c.args.view.now.frozen c.args.digest.now c.in_ok-found.found.items c.in_ok-found.ensures.found)
