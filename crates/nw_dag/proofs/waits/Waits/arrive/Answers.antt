use Rattle.nw_dag.proofs.Words.{◌≡◌, IsSome, drop, refl, sym, subst, Pairs, State, Stands, not_there}
use Rattle.nw_dag.specs.Frozen.{Grows}
use Rattle.nw_dag.specs.AtRest.{IsCascading, IsAtRest}
use Rattle.nw_dag.specs.Lacking.{LacksNothing, IsReady}
use Rattle.nw_dag.proofs.Steps.{met_by_name, not_standing, not_ready, now_ready, pending_but, grown_none, grown_from}
use Rattle.nw_dag.proofs.Wanting.{refuted}
use Rattle.nw_dag.proofs.waits.Waits.arrive.Goals as goal

pub returns-in_default : goal.returns-in_default
returns-in_default c =
    let s : State = c.args.held.now.state in
    let self = c.args.self.now in
    let never : Stands s c.args.digest → ⊥ = λ stands. not_there c.standing.result c.in_default.is (c.standing.ensures.stands.1 stands) in
    record {
      at_rest = not_standing s c.args.digest self.missing.unmet self.missing.lacking self.completions.pending never c.requires;
      grown = grown_none s c.args.digest self.missing.lacking self.completions.fresh.items (λ ready. never ready.0);
    }

pub add-requires : goal.add-requires
add-requires c =
    let s : State = c.args.held.now.state in
    let self = c.args.self.now in
    pending_but s c.args.digest self.missing.unmet self.missing.lacking self.completions.pending c.requires (
      c.standing.ensures.stands.0 (subst IsSome (sym c.in-Some.is) refl),
      subst (λ (m : Pairs). LacksNothing m c.args.digest) c.meet.ensures.lacking (c.lacks_nothing.ensures.nothing.0 c.if-lacks_nothing.true),
    )

pub cascade-requires : goal.cascade-requires
cascade-requires c =
    let s : State = c.args.held.now.state in
    let self = c.args.self.now in
    let stands : Stands s c.args.digest = c.standing.ensures.stands.0 (subst IsSome (sym c.in-Some.is) refl) in
    record {
      due = subst (λ (m : Pairs). IsCascading s c.meet.new.self.unmet m (drop c.listed-first.result c.add.new.self.fresh.items) c.add.new.self.pending) (sym c.meet.ensures.lacking) (now_ready s c.args.digest self.missing.unmet c.meet.new.self.unmet self.missing.lacking self.completions.fresh.items c.add.new.self.fresh.items self.completions.pending c.add.new.self.pending c.listed-first.result
          (met_by_name s c.args.digest c.in-Some.name self.missing.unmet c.meet.new.self.unmet c.in-Some.ensures.name stands c.requires.standing c.meet.ensures.unmet)
          (stands, subst (λ (m : Pairs). LacksNothing m c.args.digest) c.meet.ensures.lacking (c.lacks_nothing.ensures.nothing.0 c.if-lacks_nothing.true))
          c.add.ensures.fresh c.add.ensures.pending c.listed-first.ensures c.requires);
    }

pub returns-then-lacks_nothing : goal.returns-then-lacks_nothing
returns-then-lacks_nothing c =
    let self = c.args.self.now in
    record {
      at_rest = c.cascade.ensures.at_rest;
      grown = grown_from c.args.held.now.state c.args.digest self.missing.lacking c.cascade.new.self.missing.lacking self.completions.fresh.items c.add.new.self.fresh.items c.cascade.new.self.completions.fresh.items c.add.ensures.fresh
          (subst (λ (m : Pairs). Grows c.args.held.now.state (IsReady c.args.held.now.state m) m c.cascade.new.self.missing.lacking c.add.new.self.fresh.items c.cascade.new.self.completions.fresh.items) c.meet.ensures.lacking c.cascade.ensures.grown);
    }

pub returns-else-lacks_nothing : goal.returns-else-lacks_nothing
returns-else-lacks_nothing c =
    let s : State = c.args.held.now.state in
    let self = c.args.self.now in
    let lacks = refuted c.lacks_nothing.result (LacksNothing c.meet.new.self.lacking c.args.digest) c.lacks_nothing.ensures.nothing c.if-lacks_nothing.false in
    let never : IsReady s self.missing.lacking c.args.digest → ⊥ = λ ready. lacks (subst (λ (m : Pairs). LacksNothing m c.args.digest) (sym c.meet.ensures.lacking) ready.1) in
    record {
      at_rest = subst (λ (m : Pairs). IsAtRest s c.meet.new.self.unmet m self.completions.pending) (sym c.meet.ensures.lacking) (not_ready s c.args.digest self.missing.unmet c.meet.new.self.unmet self.missing.lacking self.completions.pending never
          (met_by_name s c.args.digest c.in-Some.name self.missing.unmet c.meet.new.self.unmet c.in-Some.ensures.name (c.standing.ensures.stands.0 (subst IsSome (sym c.in-Some.is) refl)) c.requires.standing c.meet.ensures.unmet) c.requires);
      grown = subst (λ (m : Pairs). Grows s (λ d. IsReady s self.missing.lacking d × (d ≡ c.args.digest → ⊥)) self.missing.lacking m self.completions.fresh.items self.completions.fresh.items) (sym c.meet.ensures.lacking)
          (grown_none s c.args.digest self.missing.lacking self.completions.fresh.items never);
    }
