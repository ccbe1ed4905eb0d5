use Rattle.nw_dag.proofs.Words.{◌≡◌, Some, IsSome, subst, sym, get, which}
use Rattle.std.specs.Prelude.{IfSome}
use Rattle.nw_model.specs.Look.{AreMissed}
use Rattle.nw_dag.proofs.Missing.{count_missed}
use Rattle.nw_dag.proofs.dag.Dag.missed.Goals as goal

pub returns-in-Some : goal.returns-in-Some
returns-in-Some c =
    let s = c.self.inside.held.state in
    let d = c.in-Some.digest in
    let named : c.args.first ≡ Some d = c.in-Some.is in
    let here : IsSome (get c.args.self.now.state.blocks d) = subst (λ found. IfSome found (λ x. IsSome (get c.args.self.now.state.blocks x))) named c.requires in
    let there : IsSome (get s.blocks d) = subst (λ v. IsSome (get v.state.blocks d)) (sym c.self.view_is) here in
    let (b, held) = which (get s.blocks d) there in
    rw (← c.self.view_is) (subst (λ found. AreMissed s found c.unmet_count.result) (sym named) (count_missed s c.self.inside.waits.missing.unmet d b c.unmet_count.result c.self.invariant.at_rest.coming_to_rest.standing held c.unmet_count.ensures))
