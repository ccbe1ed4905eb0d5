use Rattle.nw_dag.proofs.Words.{Bool, false, ap, subst, sym, ◌∙◌, false≢true, is_held}
use Rattle.std.specs.Option.{option_map_or}
use Rattle.nw_model.specs.declared.look.Look.{Look}
use Rattle.nw_model.specs.Look.{AreMissed, IsLook}
use Rattle.nw_model.specs.Step.{BoundedState}
use Rattle.nw_model.proofs.Looks.{tells_satisfied}
use Rattle.nw_dag.proofs.Looks.{complete_none, complete_some}
use Rattle.nw_dag.proofs.Complete.{certified_complete}
use Rattle.nw_dag.proofs.dag.Dag.look.Goals.{in-None, in-Some+then-stands, in-Some+else-stands}
use Rattle.nw_dag.proofs.dag.Dag.look.Goals as goal

pub returns-clause-look : goal.returns-clause-look
returns-clause-look c =
    let s = c.self.inside.held.state in
    let certified = c.match-certified.certified in
    let complete = c.match-certified.stands.1 in
    let whole = certified_complete s c.self.inside.waits.missing.lacking c.self.invariant.at_rest.coming_to_rest.promoted c.certified-certified.ensures.sound (c.args.round, c.args.author) in
    rw (← c.self.view_is) (record {
      floor = c.floor.ensures;
      newest = c.newest.ensures;
      first = c.first-first.ensures.value;
      missing = subst (λ (v : BoundedState). AreMissed v.state c.first-first.result c.missed.result) (sym c.self.view_is) c.missed.ensures;
      certified = elim c.match-certified.branch [ in-None w ↦ w.certified-is ∙ c.certified-certified.ensures.value | in-Some+then-stands w ↦ w.certified-is ∙ w.in-Some.ensures.value | in-Some+else-stands w ↦ w.certified-is ∙ w.in-Some.ensures.value ];
      stands = elim c.match-certified.branch [
        | in-None w ↦ ap (λ (p : Bool × Bool). p.0) w.stands-is ∙ ap (λ found. option_map_or (is_held s) found false) (sym (w.certified-is ∙ w.in-None.is))
        | in-Some+then-stands w ↦ ap (λ (p : Bool × Bool). p.0) w.stands-is ∙ w.holds-stands.ensures ∙ ap (λ found. option_map_or (is_held s) found false) (sym w.certified-is)
        | in-Some+else-stands w ↦ ap (λ (p : Bool × Bool). p.0) w.stands-is ∙ w.holds-stands.ensures ∙ ap (λ found. option_map_or (is_held s) found false) (sym w.certified-is)
      ];
      complete = elim c.match-certified.branch [
        | in-None w ↦ complete_none s complete certified (ap (λ (p : Bool × Bool). p.1) w.stands-is) (w.certified-is ∙ w.in-None.is)
        | in-Some+then-stands w ↦
            let same = whole w.in-Some.digest (sym w.in-Some.ensures.value) in
            complete_some s complete w.lacks_nothing-complete.result certified w.in-Some.digest (ap (λ (p : Bool × Bool). p.1) w.stands-is) w.certified-is
            (λ true. same.0 (sym w.holds-stands.ensures ∙ w.if-stands.true, w.lacks_nothing-complete.ensures.nothing.0 true), λ is. w.lacks_nothing-complete.ensures.nothing.1 (same.1 is).1)
        | in-Some+else-stands w ↦
            let same = whole w.in-Some.digest (sym w.in-Some.ensures.value) in
            complete_some s complete w.holds-stands.result certified w.in-Some.digest (ap (λ (p : Bool × Bool). p.1) w.stands-is) w.certified-is
            (λ true. absurd (false≢true (sym w.if-stands.false ∙ true)), λ is. w.holds-stands.ensures ∙ (same.1 is).0)
      ];
    })

pub returns-clause-satisfied : goal.returns-clause-satisfied
returns-clause-satisfied c =
    let look : Look = record { floor = c.floor.result; newest = c.newest.result; first = c.first-first.result; missing = c.missed.result; certified = c.match-certified.certified; stands = c.match-certified.stands.0; complete = c.match-certified.stands.1 } in
    let is : IsLook c.args.self.now.state (c.args.round, c.args.author) look = returns-clause-look c in
    tells_satisfied c.args.self.now.state (rw (← c.self.view_is) c.certified-certified.ensures.sound) (c.args.round, c.args.author) look is
