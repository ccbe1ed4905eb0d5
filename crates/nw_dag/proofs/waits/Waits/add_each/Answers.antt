use Rattle.nw_dag.proofs.Words.{◌≡◌, ◌+◌, List, [], ◌∷◌, ◌++◌, get_or, take, sym, ◌∙◌, subst, take_more, Ref, Wanted, State, IsMet}
use Rattle.nw_dag.specs.Lacking.{IsReady, IsNamedAmong}
use Rattle.nw_dag.specs.Changes.{LacksAlso}
use Rattle.nw_dag.proofs.Wanting.{wants_more, same_through, ready_same, ready_back}
use Rattle.nw_dag.proofs.waits.Waits.add_each.Goals as goal

pub loop-reference-preserved : goal.loop-reference-preserved
loop-reference-preserved c =
    let s : State = c.args.held.now.state in
    let none : Ref = record { author = 0; digest = record { 0 = [] } } in
    let seen : List Ref = take c.loop-reference.reference-index c.args.references.now in
    let r : Ref = get_or c.args.references.now c.loop-reference.reference-index none in
    let more : take (c.loop-reference.reference-index + 1) c.args.references.now ≡ seen ++ r ∷ [] = take_more c.args.references.now c.loop-reference.reference-index none c.loop-reference-test.true in
    let met : Wanted → Type 0 = IsMet s in
    let whole : Wanted → Type 0 = λ w. IsMet s w × IsReady s c.args.self.now.missing.lacking w.digest in
    let whole_now : Wanted → Type 0 = λ w. IsMet s w × IsReady s c.loop-reference.self.missing.lacking w.digest in
    let v : Wanted = c.named_by.result in
    let inv = c.loop-reference.invariant in
    record {
      unmet = subst (λ xs. LacksAlso met (IsNamedAmong (c.args.round + 1) xs) c.args.holder c.args.self.now.missing.unmet c.add.new.self.missing.unmet) (sym more)
          (wants_more met met (c.args.round + 1) seen r v c.args.holder c.args.self.now.missing.unmet c.loop-reference.self.missing.unmet c.add.new.self.missing.unmet c.named_by.ensures (λ x. x) (λ x. x) inv.unmet c.in_ok-add.ensures.unmet);
      lacking = subst (λ xs. LacksAlso whole (IsNamedAmong (c.args.round + 1) xs) c.args.holder c.args.self.now.missing.lacking c.add.new.self.missing.lacking) (sym more)
          (wants_more whole whole_now (c.args.round + 1) seen r v c.args.holder c.args.self.now.missing.lacking c.loop-reference.self.missing.lacking c.add.new.self.missing.lacking c.named_by.ensures
          (λ (is, ready). (is, ready_back s c.args.holder v.digest c.args.self.now.missing.lacking c.loop-reference.self.missing.lacking inv.same_lacking c.requires.absent ready))
          (λ (is, ready). (is, ready_same s c.args.holder v.digest c.args.self.now.missing.lacking c.loop-reference.self.missing.lacking inv.same_lacking c.requires.absent ready))
          inv.lacking c.in_ok-add.ensures.lacking);
      split = c.in_ok-add.ensures.split;
      same_unmet = same_through c.args.holder c.args.self.now.missing.unmet c.loop-reference.self.missing.unmet c.add.new.self.missing.unmet inv.same_unmet c.add.ensures.same_unmet;
      same_lacking = same_through c.args.holder c.args.self.now.missing.lacking c.loop-reference.self.missing.lacking c.add.new.self.missing.lacking inv.same_lacking c.add.ensures.same_lacking;
      completions = c.add.ensures.completions ∙ inv.completions;
    }
