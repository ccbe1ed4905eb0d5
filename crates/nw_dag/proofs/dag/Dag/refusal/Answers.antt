use Rattle.nw_dag.proofs.Words.{rules, IsSome, get, State, which}
use Rattle.nw_dag.proofs.Complete.{complete_ready, ready_complete}
use Rattle.nw_dag.proofs.dag.Dag.refusal.Goals as goal

pub returns-then-not-lacks_nothing-clause-why : goal.returns-then-not-lacks_nothing-clause-why
returns-then-not-lacks_nothing-clause-why c =
    let s : State = c.self.inside.held.state in
    let lacks = c.lacks_nothing.ensures.something c.if-not-lacks_nothing.true in
    let held : IsSome (get s.blocks c.args.digest.now) = search rules in
    let certified : IsSome (get s.certificates c.args.digest.now) = search rules in
    rw (← c.self.view_is) (held, certified, λ whole. (complete_ready s c.self.inside.waits.missing.lacking c.self.invariant.at_rest.coming_to_rest.promoted c.args.digest.now whole).1 lacks.0 lacks.1)

pub returns-clause-why : goal.returns-clause-why
returns-clause-why c =
    let s : State = c.self.inside.held.state in
    let held : IsSome (get s.blocks c.args.digest.now) = search rules in
    let certified : IsSome (get s.certificates c.args.digest.now) = search rules in
    let (b, there) = which (get s.blocks c.args.digest.now) held in
    rw (← c.self.view_is) ((ready_complete s c.self.inside.waits.missing.lacking c.self.invariant.at_rest.coming_to_rest.promoted c.block.ensures.sound c.args.digest.now).0 ((b, (there, certified)), c.lacks_nothing.ensures.nothing.0 c.if-not-lacks_nothing.false))
