use Rattle.nw_dag.proofs.Words.{◌∙◌, refl, sym, subst, arith, Stands}
use Rattle.nw_dag.specs.Lacking.{IsReady}
use Rattle.nw_dag.specs.Changes.{Promotes}
use Rattle.nw_dag.proofs.Steps.{count_of, stands_at, cascaded, grown_same, grown_more, none_due}
use Rattle.nw_dag.proofs.waits.Waits.cascade.Goals as goal

pub promote-requires-clause-pending : goal.promote-requires-clause-pending
promote-requires-clause-pending c = count_of c.args.held.now.state c.loop-place.self.missing.unmet c.loop-place.self.missing.lacking _ c.loop-place.self.completions.pending c.loop-place.invariant.coming_to_rest

pub promote-requires-clause-stands : goal.promote-requires-clause-stands
promote-requires-clause-stands c =
    subst (λ d. Stands c.args.held.now.state d) (sym c.in-Some.ensures.1)
    (stands_at c.args.held.now.state c.loop-place.self.missing.unmet c.loop-place.self.missing.lacking c.loop-place.self.completions.fresh.items c.loop-place.self.completions.pending c.loop-place.place c.in-Some.digest c.loop-place.invariant.coming_to_rest c.in-Some.ensures.0)

pub promote-requires-clause-unmet : goal.promote-requires-clause-unmet
promote-requires-clause-unmet c d w lacks met = ((c.loop-place.invariant.coming_to_rest.coming_to_rest.standing d w).0 lacks).1 met

pub loop-place-init : goal.loop-place-init
loop-place-init c = record { coming_to_rest = c.requires.due; grown = grown_same c.args.held.now.state c.args.self.now.missing.lacking c.args.self.now.completions.fresh.items; most = refl }

pub loop-place-preserved : goal.loop-place-preserved
loop-place-preserved c =
    let s = c.args.held.now.state in
    let was = c.loop-place.self in
    let new = c.promote.new.self in
    let inv = c.loop-place.invariant in
    record {
      coming_to_rest = cascaded s was.missing.unmet new.missing.unmet was.missing.lacking new.missing.lacking was.completions.fresh.items new.completions.fresh.items was.completions.pending new.completions.pending c.loop-place.place c.in-Some.digest inv.coming_to_rest c.in-Some.ensures.0 c.promote.ensures.unmet
          (subst (λ d. Promotes s d was.missing.lacking new.missing.lacking was.completions.fresh.items new.completions.fresh.items) c.in-Some.ensures.1 c.promote.ensures.promotes) c.promote.ensures.most;
      grown = grown_more s (IsReady s c.args.self.now.missing.lacking) c.args.self.now.missing.lacking was.missing.lacking new.missing.lacking c.args.self.now.completions.fresh.items was.completions.fresh.items new.completions.fresh.items c.in-Some.digest inv.grown c.promote.ensures.promotes;
      most = c.promote.ensures.most ∙ inv.most;
    }

pub returns-in-None : goal.returns-in-None
returns-in-None c = record {
  at_rest = none_due c.args.held.now.state c.loop-place.self.missing.unmet c.loop-place.self.missing.lacking c.loop-place.self.completions.fresh.items c.loop-place.self.completions.pending c.loop-place.place c.loop-place.invariant.coming_to_rest c.in-None.ensures;
  grown = c.loop-place.invariant.grown;
}

pub returns : goal.returns
returns c = record {
  at_rest = none_due c.args.held.now.state c.loop-place.self.missing.unmet c.loop-place.self.missing.lacking c.loop-place.self.completions.fresh.items c.loop-place.self.completions.pending c.loop-place.place c.loop-place.invariant.coming_to_rest
      (omega (arith, c.loop-place-test.false, c.most-place-end.ensures, c.loop-place.invariant.most));
  grown = c.loop-place.invariant.grown;
}
