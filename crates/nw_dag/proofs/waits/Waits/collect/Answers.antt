use Rattle.nw_dag.proofs.Words.{State}
use Rattle.nw_dag.proofs.Collecting.{dropped_fits, count_kept, collected, grown_collected}
use Rattle.nw_dag.proofs.waits.Waits.collect.Goals as goal

pub drop_pending-requires : goal.drop_pending-requires
drop_pending-requires c = dropped_fits c.args.held.now.state c.args.self.now.missing.unmet c.args.self.now.missing.lacking c.args.self.now.completions.pending c.args.holders.now c.args.dropped c.requires

pub release_each-requires-clause-pending : goal.release_each-requires-clause-pending
release_each-requires-clause-pending c =
    count_kept c.args.held.now.state c.args.self.now.missing.unmet c.args.self.now.missing.lacking c.args.self.now.completions.pending c.args.holders.now c.args.dropped c.requires c.drop_pending.new.self.pending c.drop_pending.ensures.pending

pub release_each-requires-clause-once : goal.release_each-requires-clause-once
release_each-requires-clause-once c = c.requires.digests_up_to.once

pub cascade-requires : goal.cascade-requires
cascade-requires c =
    let s : State = c.args.held.now.state in
    let self = c.args.self.now in
    let new = c.release_each.new.self in
    record {
      due = collected s self.missing.unmet self.missing.lacking self.completions.pending c.args.holders.now c.args.dropped c.requires new.missing.unmet new.missing.lacking c.drop_pending.new.self.fresh.items new.completions.fresh.items c.drop_pending.new.self.pending new.completions.pending c.listed-first.result
          c.drop_pending.ensures.pending c.release_each.ensures.unmet c.release_each.ensures.lacking c.release_each.ensures.added c.release_each.ensures.most c.listed-first.ensures;
    }

pub returns-clause-grown : goal.returns-clause-grown
returns-clause-grown c =
    let s : State = c.args.held.now.state in
    let self = c.args.self.now in
    let mid = c.release_each.new.self in
    grown_collected s self.missing.lacking mid.missing.lacking c.cascade.new.self.missing.lacking c.args.holders.now self.completions.fresh.items mid.completions.fresh.items c.cascade.new.self.completions.fresh.items
    c.release_each.ensures.lacking (rw c.drop_pending.ensures.fresh at c.release_each.ensures.added) c.cascade.ensures.grown
