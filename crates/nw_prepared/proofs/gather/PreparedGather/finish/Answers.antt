use Rattle.nw_prepared.proofs.gather.PreparedGather.finish.Goals as goal

pub returns-clause-few_votes : goal.returns-clause-few_votes
returns-clause-few_votes c = rw c.self.view_is at c.finish.ensures.few_votes

pub returns-clause-no_memory : goal.returns-clause-no_memory
returns-clause-no_memory c = rw c.self.view_is at c.finish.ensures.no_memory
